-- Any source whose step falls: the entries from a cursor on, one step at a time, whatever the count that bounds them.
-- Assumes nothing.
use mathlib.Core.Path.{◌≡◌, refl, ap}
use mathlib.Core.List.{List, [], ◌∷◌}
use mathlib.Core.Bool.{true, false}
use Prim.Native.Nat.{ℕ, zero, suc, ◌<◌}
use native.Mathlib.Omega.{arith}
use Rattle.build_sources.specs.declared.Cursor.{Cursor}
use Rattle.build_sources.specs.declared.EntryAt.{EntryAt}
use Rattle.build_sources.specs.declared.EntryRead.{EntryRead}
use Rattle.build_sources.specs.declared.EntryRead.TheVariants.{Got, End, Bad}
use Rattle.build_sources.specs.Source.{Entry, after, list_f, well_f}

pub after_same {ℓ} : {X : Type ℓ} (st : EntryRead) (go go' : EntryAt → Cursor → X) (e b : X)
    → ((i : EntryAt) (d : Cursor) → st ≡ Got i d → go i d ≡ go' i d) → after st go e b ≡ after st go' e b
unfolding after
after_same (Got i d) go go' e b h = h i d refl
after_same End go go' e b h = refl
after_same Bad go go' e b h = refl

module _ (nx : Cursor → EntryRead) (en : EntryAt → Entry) (left : Cursor → ℕ) (falls : (c : Cursor) (i : EntryAt) (d : Cursor) → nx c ≡ Got i d → left d < left c) where
  pub list_same : (f g : ℕ) (c : Cursor) → left c < f → left c < g → list_f nx en f c ≡ list_f nx en g c
  unfolding list_f
  list_same zero g c h k = absurd (omega arith)
  list_same (suc f) zero c h k = absurd (omega arith)
  list_same (suc f) (suc g) c h k =
      after_same (nx c) _ _ [] []
      λ i d e. let l = falls c i d e in ap (λ (r : List Entry). en i ∷ r) (list_same f g d (omega arith) (omega arith))

  pub well-same : (f g : ℕ) (c : Cursor) → left c < f → left c < g → well_f nx f c ≡ well_f nx g c
  unfolding well_f
  well-same zero g c h k = absurd (omega arith)
  well-same (suc f) zero c h k = absurd (omega arith)
  well-same (suc f) (suc g) c h k =
      after_same (nx c) _ _ true false
      λ i d e. let l = falls c i d e in well-same f g d (omega arith) (omega arith)

  pub list_step : (c : Cursor) → list_f nx en (suc (left c)) c ≡ after (nx c) (λ i d. en i ∷ list_f nx en (suc (left d)) d) [] []
  unfolding list_f
  list_step c =
      after_same (nx c) _ _ [] []
      λ i d e. let l = falls c i d e in ap (λ (r : List Entry). en i ∷ r) (list_same (left c) (suc (left d)) d (omega arith) (omega arith))

  pub well_step : (c : Cursor) → well_f nx (suc (left c)) c ≡ after (nx c) (λ i d. well_f nx (suc (left d)) d) true false
  unfolding well_f
  well_step c =
      after_same (nx c) _ _ true false
      λ i d e. let l = falls c i d e in well-same (left c) (suc (left d)) d (omega arith) (omega arith)
