-- Picking the first: of a key's records it is the first that is no newer.
-- Assumes nothing.
use Prim.Native.Nat.{ℕ}
use mathlib.Core.Path.{◌≡◌, refl, ap}
use mathlib.Core.Bool.{Bool, true, false, ◌&&◌, cond}
use mathlib.Core.List.{List, [], ◌∷◌}
use Rattle.order.specs.declared.Ver.{Ver}
use Rattle.build_sources.specs.Source.{Entry}
use Rattle.walks.specs.Listed.{Entry as Listed}
use Rattle.law_list.specs.Asked.{records_of, having, same, key_is}
use Rattle.law_asof.specs.Asked.{first, no_newer, wanted}

pub first-here : {A : Type 0} (p : A → Bool) (x : A) (xs : List A) → p x ≡ true → first p (x ∷ xs) ≡ x ∷ []
unfolding first
first-here p x xs e = rw e refl

pub first_next : {A : Type 0} (p : A → Bool) (x : A) (xs : List A) → p x ≡ false → first p (x ∷ xs) ≡ first p xs
unfolding first
first_next p x xs e = rw e refl

-- the first that is wanted of the list is the first that is no newer of the key's records
pub first-having : (probe : List ℕ) (v : Ver) (es : List Entry) → first (wanted probe v) (records_of es) ≡ first (no_newer v) (records_of (having key_is (same probe) es))
unfolding first records_of having
first-having probe v [] = refl
first-having probe v (e ∷ es) = go (same probe e.key) (first-having probe v es)
  where
    r : Listed
    r = record { key = e.key; ver = e.ver; value = e.val }

    go : (t : Bool) → first (wanted probe v) (records_of es) ≡ first (no_newer v) (records_of (having key_is (same probe) es))
        → cond (t && no_newer v r) (r ∷ []) (first (wanted probe v) (records_of es))
        ≡ first (no_newer v) (records_of (cond t (e ∷ having key_is (same probe) es) (having key_is (same probe) es)))
    go true ih = ap (λ (l : List Listed). cond (no_newer v r) (r ∷ []) l) ih
    go false ih = ih
