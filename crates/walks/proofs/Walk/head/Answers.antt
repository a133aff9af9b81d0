-- `walks::Walk::head` meets its contract. Assumes nothing.
use native.Mathlib.Omega.{arith}
use mathlib.Core.Path.{◌≡◌, sym, ◌∙◌}
use borrow.Author.Tests.{eq-eqb, ne_eqb}
use Rattle.records.proofs.Inside.{at-inside, at_slot, ver-inside}
use Rattle.walks.specs.Walk.{body_in, kind_of_way, head_step}
use Rattle.walks.proofs.Lying.{read-inside, index_value}
use Rattle.walks.proofs.Walk.head.Goals as goal

pub returns-in_default : goal.returns-in_default
unfolding head_step
returns-in_default c = simp (← c.kind_of.ensures, ← c.read.ensures, c.in_default.is)

pub read_u64-requires : goal.read_u64-requires
unfolding kind_of_way
read_u64-requires c = let g = read-inside c.args.s.now c.args.self.page (kind_of_way c.args.self.way) c.args.self.pos c.in-Some.r (rw c.kind_of.ensures at (sym c.read.ensures ∙ c.in-Some.is)) in
    let i = g.0 in
    let k = (at-inside c.args.s.now (body_in c.args.self.page (kind_of_way c.args.self.way)) c.args.self.pos c.in-Some.r i g.1).0 in
    let e : kind_of_way c.args.self.way ≡ 1 = rw (eq-eqb _ _ c.if-self-eq-INDEX.true) in
    omega (arith, k.val, index_value c.args.s.now (body_in c.args.self.page (kind_of_way c.args.self.way)) c.args.self.pos c.in-Some.r e g.1)

pub on-requires : goal.on-requires
on-requires c = let g = read-inside c.args.s.now c.args.self.page (kind_of_way c.args.self.way) c.args.self.pos c.in-Some.r (rw c.kind_of.ensures at (sym c.read.ensures ∙ c.in-Some.is)) in
    let i = g.0 in
    let h = at_slot c.args.s.now (body_in c.args.self.page (kind_of_way c.args.self.way)) c.args.self.pos c.in-Some.r g.1 in
    record {
      pos_bound = omega (arith, h, i.records, i.payload, i.arena, c.well_formed);
      heads_nonzero = c.requires;
    }

pub returns-then-self-eq-INDEX : goal.returns-then-self-eq-INDEX
unfolding head_step
returns-then-self-eq-INDEX c = simp (← c.kind_of.ensures, ← c.read.ensures, c.in-Some.is, eq-eqb _ _ c.if-self-eq-INDEX.true, c.read_u64.ensures, c.on.ensures)

pub returns-in_default-enter : goal.returns-in_default-enter
unfolding head_step
returns-in_default-enter c = simp (← c.kind_of.ensures, ← c.read.ensures, c.in-Some.is, ne_eqb _ _ c.if-self-eq-INDEX.false, ← c.enter.ensures, c.in_default-enter.is)

pub item_of-requires : goal.item_of-requires
unfolding kind_of_way
item_of-requires c = let g = read-inside c.args.s.now c.args.self.page (kind_of_way c.args.self.way) c.args.self.pos c.in-Some.r (rw c.kind_of.ensures at (sym c.read.ensures ∙ c.in-Some.is)) in
    let i = g.0 in
    let e : kind_of_way c.args.self.way ≡ 0 = rw (ne_eqb _ _ c.if-self-eq-INDEX.false) in
    ver-inside c.args.s.now (body_in c.args.self.page (kind_of_way c.args.self.way)) c.args.self.pos c.in-Some.r i (λ z. omega (arith, z, e)) g.1

pub on-requires-2 : goal.on-requires-2
on-requires-2 c = let g = read-inside c.args.s.now c.args.self.page (kind_of_way c.args.self.way) c.args.self.pos c.in-Some.r (rw c.kind_of.ensures at (sym c.read.ensures ∙ c.in-Some.is)) in
    let i = g.0 in
    let h = at_slot c.args.s.now (body_in c.args.self.page (kind_of_way c.args.self.way)) c.args.self.pos c.in-Some.r g.1 in
    record {
      pos_bound = omega (arith, h, i.records, i.payload, i.arena, c.well_formed);
      heads_nonzero = c.requires;
    }

pub returns : goal.returns
unfolding head_step
returns c = simp (← c.kind_of.ensures, ← c.read.ensures, c.in-Some.is, ne_eqb _ _ c.if-self-eq-INDEX.false, ← c.enter.ensures, c.in-Some-enter.is, c.item_of.ensures, c.on-2.ensures)
