-- `sst::any_head` meets its contract. Assumes nothing.
use native.Mathlib.Omega.{arith}
use Prim.Native.Nat.{◌-◌}
use mathlib.Core.Path.{◌≡◌, sym, ◌∙◌}
use Rattle.records.proofs.Inside.{ver-inside}
use Rattle.sst.specs.Search.{head_in}
use Rattle.sst.proofs.any_head.Goals as goal

pub returns-in_default : goal.returns-in_default
unfolding head_in
returns-in_default c = simp (← c.rec_at.ensures, c.in_default.is)

pub ver_at-requires : goal.ver_at-requires
ver_at-requires c = let k : c.args.b.kind ≡ 1 → ⊥ = λ e. omega (arith, c.requires.kind_value) in
    ver-inside c.args.s.now c.args.b c.args.i c.in-Some.r c.requires.inside k (sym c.rec_at.ensures ∙ c.in-Some.is)

pub returns : goal.returns
unfolding head_in
returns c = simp (← c.rec_at.ensures, c.in-Some.is, c.ver_at.ensures)
