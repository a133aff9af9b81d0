-- `sst::page_in` meets its contract. Assumes nothing.
use Rattle.sst.specs.declared.Floor.{Floor}
use Rattle.std.proofs.Common.{Ok}
use native.Mathlib.Omega.{arith}
use mathlib.Core.Path.{sym, ap, ◌∙◌}
use Rattle.frames.specs.Layout.{page_id}
use Rattle.records.proofs.Inside.{rec_no_key, rec-short, rec-page}
use Rattle.sst.specs.Search.{page_rec, page_in}
use Rattle.sst.proofs.Opens.{key-at-inside}
use Rattle.sst.proofs.page_in.Goals as goal

pub returns-in_default : goal.returns-in_default
unfolding page_in
returns-in_default c = sym (ap (page_rec c.args.s.now c.args.i c.args.reads) (rec_no_key c.args.s.now c.args.b c.args.i (sym c.key_at.ensures ∙ c.in_default.is)))

pub overflow_add-q : goal.overflow_add-q
overflow_add-q c = let k = key-at-inside c.args.s.now c.args.b c.args.i c.in-Some.k.ver_at c.in-Some.k.rest_at c.in-Some.k.rest_len c.requires.inside (sym c.key_at.ensures ∙ c.in-Some.is) in
    omega (arith, k.rest, c.requires.inside.payload, c.requires.inside.arena, c.well_formed)

pub overflow_add-q-2 : goal.overflow_add-q-2
overflow_add-q-2 c = let k = key-at-inside c.args.s.now c.args.b c.args.i c.in-Some.k.ver_at c.in-Some.k.rest_at c.in-Some.k.rest_len c.requires.inside (sym c.key_at.ensures ∙ c.in-Some.is) in
    omega (arith, k.rest, c.requires.inside.payload, c.requires.inside.arena, c.well_formed)

pub returns-then-b-q : goal.returns-then-b-q
unfolding page_in
returns-then-b-q c = sym (ap (page_rec c.args.s.now c.args.i c.args.reads) (rec-short c.args.s.now c.args.b c.args.i c.in-Some.k.ver_at c.in-Some.k.rest_at c.in-Some.k.rest_len (sym c.key_at.ensures ∙ c.in-Some.is) c.requires.kind_value c.if-b-q.true))

pub read_u64-requires : goal.read_u64-requires
read_u64-requires c = omega (arith, c.if-b-q.false, c.requires.inside.payload, c.requires.inside.arena)

pub returns : goal.returns
unfolding page_in
returns c = ap (λ x. Ok (Floor.Is c.args.i (page_id x) c.args.reads)) c.read_u64.ensures
    ∙ sym (ap (page_rec c.args.s.now c.args.i c.args.reads) (rec-page c.args.s.now c.args.b c.args.i c.in-Some.k.ver_at c.in-Some.k.rest_at c.in-Some.k.rest_len (sym c.key_at.ensures ∙ c.in-Some.is) c.requires.kind_value c.if-b-q.false))
