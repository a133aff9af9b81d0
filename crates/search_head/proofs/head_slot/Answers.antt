-- `search_head::head_slot` meets its contract. Assumes nothing.
use native.Mathlib.Omega.{arith}
use mathlib.Core.Path.{sym, ◌∙◌}
use Rattle.records.proofs.Inside.{skip_twelve}
use Rattle.sst.proofs.Opens.{key-at-inside}
use Rattle.search_head.specs.Head.{head_slot}
use Rattle.search_head.proofs.head_slot.Goals as goal

pub returns-in_default : goal.returns-in_default
unfolding head_slot
returns-in_default c = simp (← c.key_at.ensures, c.in_default.is)

pub ver_at-requires : goal.ver_at-requires
ver_at-requires c = let k = key-at-inside c.args.s.now c.args.b c.args.i c.in-Some.k.ver_at c.in-Some.k.rest_at c.in-Some.k.rest_len c.requires.inside (sym c.key_at.ensures ∙ c.in-Some.is) in
    omega (arith, k.ver, k.rest, skip_twelve c.args.b.kind (λ e. omega (arith, c.requires.kind_value)), c.requires.inside.payload, c.requires.inside.arena)

pub overflow_add-result : goal.overflow_add-result
overflow_add-result c = let k = key-at-inside c.args.s.now c.args.b c.args.i c.in-Some.k.ver_at c.in-Some.k.rest_at c.in-Some.k.rest_len c.requires.inside (sym c.key_at.ensures ∙ c.in-Some.is) in
    omega (arith, k.rest, c.requires.inside.payload, c.requires.inside.arena, c.well_formed)

pub returns : goal.returns
unfolding head_slot
returns c = simp (← c.key_at.ensures, c.in-Some.is, c.ver_at.ensures)
