-- The history's part of a lookup, case by case: none is left, a bad one, one that is newer, the one that is handed back.
-- Assumes nothing.
use Prim.Native.Nat.{ℕ, zero, suc}
use mathlib.Core.Path.{◌≡◌, refl, sym, ap, ◌∙◌}
use mathlib.Core.Bool.{true, false}
use mathlib.Core.List.{List}
use native.Mathlib.Omega.{arith}
use Rattle.order.specs.declared.Ver.{Ver}
use Rattle.order.specs.Version.{newer_than}
use Rattle.frames.specs.declared.Refusal.{Refusal}
use Rattle.walks.specs.declared.OldPlace.{OldPlace}
use Rattle.walks.specs.Walk.{read_at}
use Rattle.walks.specs.Aged.{aged_at}
use Rattle.walks.proofs.Ages.{aged_none, aged-left}
use Rattle.asof.specs.AsOf.{handed_of, old_by, old_as_of}
use Rattle.std.proofs.Common.{Some, None, Result, Ok, Err}
use Rattle.asof.specs.declared.AsOf.{AsOf}
use Rattle.walks.specs.declared.Aged.{Aged}

module _ (s : List ℕ) (v : Ver) (slot reads : ℕ) (p : OldPlace) where
  abbrev pub whole : Result AsOf Refusal
  whole = old_as_of s v slot reads p.left p

  pub old-end : aged_at s p ≡ Some Aged.End → whole ≡ Ok (AsOf.Nothing reads)
  unfolding old_as_of
  old-end e = go p.left
    where
      go : (k : ℕ) → old_as_of s v slot reads k p ≡ Ok (AsOf.Nothing reads)
      go zero = refl
      go (suc k) = rw e

  on : (k : ℕ) → p.left ≡ suc k → whole ≡ old_by s v slot reads (old_as_of s v slot reads k) (aged_at s p)
  unfolding old_as_of
  on k e = ap (λ (n : ℕ). old_as_of s v slot reads n p) e

  pub old_bad : aged_at s p ≡ None → whole ≡ Err Refusal.BadFrame
  old_bad e = by p.left refl
    where
      by : (n : ℕ) → p.left ≡ n → whole ≡ Err Refusal.BadFrame
      by zero q = absurd (let y : (Some Aged.End) ≡ None = sym (aged_none s p q) ∙ e in let z : ◌≡◌ {A = ℕ} 0 1 = cc in omega arith)
      by (suc n) q = on n q ∙ rw e refl

  module _ (ver : Ver) (i : ℕ) (rest : OldPlace) (e : aged_at s p ≡ Some (Aged.Is ver i rest)) where
    pub old_newer : newer_than ver v ≡ true → whole ≡ old_as_of s v slot reads rest.left rest
    old_newer n = on rest.left (aged-left s p rest ver i e) ∙ rw (e, n) refl

    pub old-found : newer_than ver v ≡ false → whole ≡ handed_of slot ver reads (read_at s rest.page 2 i)
    old-found n = on rest.left (aged-left s p rest ver i e) ∙ rw (e, n) refl
