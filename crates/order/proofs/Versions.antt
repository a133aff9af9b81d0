-- Newer is a strict total order of versions.
-- Assumes nothing.
use mathlib.Core.Path.{◌≡◌, refl, sym, ap, ◌∙◌}
use mathlib.Core.Bool.{Bool, true, false}
use mathlib.Core.Logic.{◌⊎◌, ⊎_elim, inl, inr}
use Prim.Native.Nat.{ℕ, ◌≤◌, ◌<◌}
use native.Mathlib.Omega.{arith}
use borrow.Author.Tests.{lt-ltb, le-ltb, eq-eqb, ne_eqb}
use Rattle.order.specs.declared.Ver.{Ver}
use Rattle.order.specs.Version.{ver_of, newer_than}
use Rattle.order.proofs.Laws.{case_order}

-- a is newer than b, as numbers
pub record Newer (a b : Ver) : Type 0 where
  pub by : (b.txid < a.txid) ⊎ ((a.txid ≡ b.txid) × (b.cmd < a.cmd))

pub newer_by_txid : (a b : Ver) → b.txid < a.txid → newer_than a b ≡ true
unfolding newer_than
newer_by_txid a b h = simp (lt-ltb _ _ h)

pub newer_by_cmd : (a b : Ver) → a.txid ≡ b.txid → b.cmd < a.cmd → newer_than a b ≡ true
unfolding newer_than
newer_by_cmd a b e h = simp (le-ltb b.txid a.txid (omega arith), eq-eqb a.txid b.txid e, lt-ltb _ _ h)

pub not_by_txid : (a b : Ver) → a.txid < b.txid → newer_than a b ≡ false
unfolding newer_than
not_by_txid a b h = simp (le-ltb b.txid a.txid (omega arith), ne_eqb a.txid b.txid (λ e. omega arith))

pub not_by_cmd : (a b : Ver) → a.txid ≡ b.txid → a.cmd ≤ b.cmd → newer_than a b ≡ false
unfolding newer_than
not_by_cmd a b e h = simp (le-ltb b.txid a.txid (omega arith), eq-eqb a.txid b.txid e, le-ltb b.cmd a.cmd h)

never {ℓ} : {X : Type ℓ} {b : Bool} → b ≡ true → b ≡ false → X
never p q = absurd (let z : ◌≡◌ {A = ℕ} 0 1 = cc in omega arith)

-- what the test says
pub newer_says : (a b : Ver) → newer_than a b ≡ true → Newer a b
newer_says a b e =
    case_order a.txid b.txid (λ h. never e (not_by_txid a b h))
    (λ h.
    case_order a.cmd b.cmd (λ k. never e (not_by_cmd a b h (omega arith))) (λ k. never e (not_by_cmd a b h (omega arith)))
    (λ k. record { by = inr (h, k) }))
    (λ h. record { by = inl h })

pub newer_shown : (a b : Ver) → Newer a b → newer_than a b ≡ true
newer_shown a b w = ⊎_elim (λ h. newer_by_txid a b h) (λ h. newer_by_cmd a b h.0 h.1) w.by

-- none is newer than itself
pub newer_self : (a : Ver) → newer_than a a ≡ false
newer_self a = not_by_cmd a a refl (omega arith)

pub newer_trans : (a b c : Ver) → newer_than a b ≡ true → newer_than b c ≡ true → newer_than a c ≡ true
newer_trans a b c p q =
    ⊎_elim (λ h. ⊎_elim (λ k. newer_by_txid a c (omega arith)) (λ k. newer_by_txid a c (omega (arith, k.0))) (newer_says b c q).by)
    (λ h. ⊎_elim (λ k. newer_by_txid a c (omega (arith, h.0))) (λ k. newer_by_cmd a c (h.0 ∙ k.0) (omega (arith, h.1, k.1))) (newer_says b c q).by)
    (newer_says a b p).by

-- of two, one is newer, or they are the same
pub newer_total : (a b : Ver) → (newer_than a b ≡ true) ⊎ ((a ≡ b) ⊎ (newer_than b a ≡ true))
newer_total a b =
    case_order a.txid b.txid (λ h. inr (inr (newer_by_txid b a h)))
    (λ h.
    case_order a.cmd b.cmd (λ k. inr (inr (newer_by_cmd b a (sym h) k))) (λ k. inr (inl (same a b h k))) (λ k. inl (newer_by_cmd a b h k)))
    (λ h. inl (newer_by_txid a b h))
  where
    same : (a b : Ver) → a.txid ≡ b.txid → a.cmd ≡ b.cmd → a ≡ b
    same a b h k = ap (λ (t : ℕ). ver_of t a.cmd) h ∙ ap (λ (d : ℕ). ver_of b.txid d) k
