-- `walks::OldPlace::here` meets its contract. Assumes nothing.
use native.Mathlib.Omega.{arith}
use mathlib.Core.Path.{sym, ◌∙◌}
use Rattle.records.proofs.Inside.{at_slot, ver-inside}
use Rattle.walks.specs.Walk.{body_in, next_in}
use Rattle.walks.proofs.Lying.{read-inside}
use Rattle.walks.proofs.OldPlace.here.Goals as goal

pub returns-in_err-r : goal.returns-in_err-r
unfolding next_in
returns-in_err-r c = c.from_residual.ensures ∙ simp (← c.read.ensures, c.in_err-r.was)

pub item_of-requires : goal.item_of-requires
item_of-requires c = let g = read-inside c.args.s.now c.args.self.page 2 c.args.self.slot c.in_ok-r.r (sym c.read.ensures ∙ c.in_ok-r.was) in
    ver-inside c.args.s.now (body_in c.args.self.page 2) c.args.self.slot c.in_ok-r.r g.0 (λ e. omega arith) g.1

pub after-requires : goal.after-requires
after-requires c = let g = read-inside c.args.s.now c.args.self.page 2 c.args.self.slot c.in_ok-r.r (sym c.read.ensures ∙ c.in_ok-r.was) in
    let h = at_slot c.args.s.now (body_in c.args.self.page 2) c.args.self.slot c.in_ok-r.r g.1 in
    let i = g.0 in
    record {
      slot_bound = omega (arith, h, i.records, i.payload, i.arena, c.well_formed);
      left_nonzero = c.requires;
    }

pub returns : goal.returns
unfolding next_in
returns c = simp (← c.read.ensures, c.in_ok-r.was, c.item_of.ensures, c.after.ensures)
