-- `merge::apart` meets its contract. Assumes nothing.
use mathlib.Core.Path.{sym, ◌∙◌}
use Prim.Native.Nat.{ℕ}
use native.Mathlib.Omega.{arith}
use Rattle.merge.proofs.Merging.{never_bad, is_held, answered}
use Rattle.merge.proofs.apart.Goals as goal

pub returns-in_default : goal.returns-in_default
returns-in_default c = absurd (never_bad _ _ _ c.requires.sound c.requires.sound_2 (sym c.gather.ensures ∙ c.in_default.is))

pub apart-requires : goal.apart-requires
apart-requires c = is_held _ _ _ c.requires.sound c.requires.sound_2 _ _ (sym c.gather.ensures ∙ c.in-Some.is) _ c.requires.none_value

pub returns : goal.returns
returns c = answered _ _ _ c.requires.sound c.requires.sound_2 _ _ (sym c.gather.ensures ∙ c.in-Some.is) _ c.requires.none_value (λ (i : ℕ). omega (arith, c.type_inv.footing i)) c.requires.left_value _ c.apart.ensures
