-- Entries of neighbours, one list behind the other: boundaries that meet keep their keys apart, so the marks of each list stand in both.
-- Assumes nothing.
use Prim.Native.Nat.{ℕ}
use mathlib.Core.Path.{◌≡◌, refl, sym, ap, ◌∙◌}
use mathlib.Core.Bool.{true}
use mathlib.Core.List.{List, [], ◌∷◌, ◌++◌, map}
use Rattle.order.specs.Order.{is_equal}
use Rattle.order.specs.Bounds.{below_hi, in_bounds, all_in_bounds, bounded, meet}
use Rattle.order.proofs.Bounds.{both_first, both_second, apart_keys, bounded-append}
use Rattle.build_sources.specs.Source.{Entry}
use Rattle.build_sources.specs.Marks.{MarkedFrom, Marked}
use Rattle.build_sources.specs.Judged.{enclosed}

abbrev keys : List Entry → List (List ℕ)
keys es = map (λ (e : Entry). e.key) es

keys-append : (es fs : List Entry) → keys (es ++ fs) ≡ keys es ++ keys fs
keys-append [] fs = refl
keys-append (e ∷ es) fs = ap (λ (ks : List (List ℕ)). e.key ∷ ks) (keys-append es fs)

module _ (lo hi mid top : List ℕ) (m : meet hi mid ≡ true) where
  pub enclosed-append : (es fs : List Entry) → enclosed lo hi es ≡ true → enclosed mid top fs ≡ true → enclosed lo top (es ++ fs) ≡ true
  enclosed-append es fs e f = ap (bounded lo top) (keys-append es fs) ∙ bounded-append lo hi mid top m (keys es) (keys fs) e f

  from-append : (a : Entry) (es fs : List Entry) → MarkedFrom a es → Marked fs → all_in_bounds lo hi (keys (a ∷ es)) ≡ true → all_in_bounds mid top (keys fs) ≡ true → MarkedFrom a (es ++ fs)
  unfolding MarkedFrom Marked all_in_bounds
  from-append a [] [] h k e f = tt
  from-append a [] (b ∷ fs) h k e f =
      let less = apart_keys lo hi mid top a.key b.key m (both_first (in_bounds lo hi a.key) _ e) (both_first (in_bounds mid top b.key) _ f) in
      (k.0 ∙ sym (ap is_equal less), k.1)
  from-append a (b ∷ es) fs h k e f = (h.0, from-append b es fs h.1 k (both_second (in_bounds lo hi a.key) _ e) f)

  pub marked_append : (es fs : List Entry) → Marked es → Marked fs → enclosed lo hi es ≡ true → enclosed mid top fs ≡ true → Marked (es ++ fs)
  unfolding Marked bounded
  marked_append [] fs h k e f = k
  marked_append (a ∷ es) fs h k e f = (h.0, from-append a es fs h.1 k (both_second (below_hi lo hi) _ e) (both_second (below_hi mid top) _ f))
