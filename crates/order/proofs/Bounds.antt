-- Keys between boundaries: of keys that rise the first and the last decide; a key between begins with what the boundaries have in common; and
-- where boundaries meet, every key of the left is below every key of the right.
-- Assumes nothing.
use mathlib.Core.Path.{◌≡◌, refl, sym, ap, ◌∙◌}
use mathlib.Core.List.{List, [], ◌∷◌, ◌++◌}
use mathlib.Core.Bool.{Bool, true, false, not, ◌&&◌}
use Prim.Native.Nat.{ℕ, zero, suc, ◌<◌}
use native.Mathlib.Omega.{arith}
use lib.ListN.{length, get_or, drop}
use Rattle.std.specs.declared.cmp.Ordering.{Ordering}
use Rattle.std.specs.declared.cmp.Ordering.TheVariants.{Less, Equal, Greater}
use Rattle.order.specs.Order.{cmp_bytes, is_equal, is_less, starts_with}
use Rattle.order.specs.Bounds.{below_by, below_hi, in_bounds, all_in_bounds, bounded, meet, spanned}
use Rattle.order.proofs.Laws.{less_greater, greater_equal, cmp_same, cmp_greater, cmp_less, cmp_eq, cmp_trans, cmp_front, cmp_beside, starts_split}

no {ℓ} : {X : Type ℓ} → true ≡ false → X
no e = absurd (let z : ◌≡◌ {A = ℕ} 0 1 = cc in omega arith)

-- ---- the tests, by the length of hi

pub below_none : (o : Ordering) (hi : List ℕ) → length hi ≡ 0 → true ≡ below_by o hi
below_none o [] e = refl
below_none o (h ∷ hi) e = absurd (omega arith)

pub below-some : (o : Ordering) (hi : List ℕ) → (length hi ≡ 0 → ⊥) → is_less o ≡ below_by o hi
below-some o [] e = absurd (e refl)
below-some o (h ∷ hi) e = refl

pub meet_none : (hi lo : List ℕ) → length hi ≡ 0 → false ≡ meet hi lo
unfolding meet
meet_none [] lo e = refl
meet_none (h ∷ hi) lo e = absurd (omega arith)

pub meet-some : (hi lo : List ℕ) → (length hi ≡ 0 → ⊥) → is_equal (cmp_bytes hi lo) ≡ meet hi lo
unfolding meet
meet-some [] lo e = absurd (e refl)
meet-some (h ∷ hi) lo e = refl

-- a string in two parts against one that begins with the first
pub joined_starts : (p r x : List ℕ) → starts_with p x ≡ true → cmp_bytes r (drop (length p) x) ≡ cmp_bytes (p ++ r) x
joined_starts p r x e = sym (ap (cmp_bytes (p ++ r)) (starts_split p x e) ∙ cmp_front p r (drop (length p) x))

-- ---- at or below

-- x is at or below y
abbrev pub AtMost : List ℕ → List ℕ → Type 0
AtMost x y = cmp_bytes x y ≡ Greater → ⊥

pub most_less : (x y z : List ℕ) → AtMost x y → cmp_bytes y z ≡ Less → cmp_bytes x z ≡ Less
most_less x y z h e = go (cmp_bytes x y) refl
  where
    go : (o : Ordering) → cmp_bytes x y ≡ o → cmp_bytes x z ≡ Less
    go Less q = cmp_trans x y z q e
    go Equal q = ap (λ (v : List ℕ). cmp_bytes v z) (cmp_eq x y q) ∙ e
    go Greater q = absurd (h q)

pub less_most : (x y z : List ℕ) → cmp_bytes x y ≡ Less → AtMost y z → cmp_bytes x z ≡ Less
less_most x y z e h = go (cmp_bytes y z) refl
  where
    go : (o : Ordering) → cmp_bytes y z ≡ o → cmp_bytes x z ≡ Less
    go Less q = cmp_trans x y z e q
    go Equal q = ap (cmp_bytes x) (sym (cmp_eq y z q)) ∙ e
    go Greater q = absurd (h q)

most_trans : (x y z : List ℕ) → AtMost x y → AtMost y z → AtMost x z
most_trans x y z h k q = go (cmp_bytes x y) refl
  where
    go : (o : Ordering) → cmp_bytes x y ≡ o → ⊥
    go Less e = less_greater (sym (less_most x y z e k) ∙ q)
    go Equal e = k (ap (λ (v : List ℕ). cmp_bytes v z) (sym (cmp_eq x y e)) ∙ q)
    go Greater e = h e

is-less : (o : Ordering) → is_less o ≡ true → o ≡ Less
is-less Less e = refl
is-less Equal e = no (sym e)
is-less Greater e = no (sym e)

-- not below lo: lo is at or below the key
pub from_most : (lo k : List ℕ) → not (is_less (cmp_bytes k lo)) ≡ true → AtMost lo k
from_most lo k e q = no (sym e ∙ ap (λ (o : Ordering). not (is_less o)) (cmp_greater lo k q))

pub most_from : (lo k : List ℕ) → AtMost lo k → not (is_less (cmp_bytes k lo)) ≡ true
most_from lo k h = go (cmp_bytes k lo) refl
  where
    go : (o : Ordering) → cmp_bytes k lo ≡ o → not (is_less o) ≡ true
    go Less q = absurd (h (cmp_less k lo q))
    go Equal q = refl
    go Greater q = refl

-- below some hi is less
pub below_less : (x : List ℕ) (h : ℕ) (hi : List ℕ) → below_hi x (h ∷ hi) ≡ true → cmp_bytes x (h ∷ hi) ≡ Less
unfolding below_hi
below_less x h hi e = is-less (cmp_bytes x (h ∷ hi)) e

-- what is at or below a key that is below hi is below hi
pub most_below : (x y hi : List ℕ) → AtMost x y → below_hi y hi ≡ true → below_hi x hi ≡ true
unfolding below_hi
most_below x y [] h e = refl
most_below x y (c ∷ hi) h e = ap is_less (most_less x y (c ∷ hi) h (below_less y c hi e))

-- what is at or above a key that is not below lo is not below lo
pub from_on : (lo x y : List ℕ) → not (is_less (cmp_bytes x lo)) ≡ true → AtMost x y → not (is_less (cmp_bytes y lo)) ≡ true
from_on lo x y e h = most_from lo y (λ q. no (sym e ∙ ap (λ (o : Ordering). not (is_less o)) (most_less x y lo h (cmp_greater lo y q))))

-- ---- keys that rise: the first and the last decide

-- each key is at or below the next, from k on
unfoldable pub Ascends : List ℕ → List (List ℕ) → Type 0
Ascends k [] = Unit {0}
Ascends k (j ∷ ks) = AtMost k j × Ascends j ks

unfoldable pub last_of : List ℕ → List (List ℕ) → List ℕ
last_of k [] = k
last_of k (j ∷ ks) = last_of j ks

pub both : (x y : Bool) → x ≡ true → y ≡ true → x && y ≡ true
both x y e f = rw (e, f) refl

pub both_first : (x y : Bool) → x && y ≡ true → x ≡ true
both_first true y e = refl
both_first false y e = e

pub both_second : (x y : Bool) → x && y ≡ true → y ≡ true
both_second true y e = e
both_second false y e = no (sym e)

not_second : (x y : Bool) → y ≡ false → x && y ≡ false
not_second true y e = e
not_second false y e = refl

module _ (lo hi : List ℕ) where
  last_most : (k : List ℕ) (ks : List (List ℕ)) → Ascends k ks → AtMost k (last_of k ks)
  unfolding Ascends last_of
  last_most k [] a q = greater_equal (sym q ∙ cmp_same k)
  last_most k (j ∷ ks) a q = most_trans k j (last_of j ks) a.0 (last_most j ks a.1) q

  all_in : (k : List ℕ) (ks : List (List ℕ)) → Ascends k ks → not (is_less (cmp_bytes k lo)) ≡ true → below_hi (last_of k ks) hi ≡ true → all_in_bounds lo hi (k ∷ ks) ≡ true
  unfolding all_in_bounds Ascends last_of
  all_in k [] a f b = rw (f, b) refl
  all_in k (j ∷ ks) a f b =
      both (in_bounds lo hi k) (all_in_bounds lo hi (j ∷ ks)) (both (not (is_less (cmp_bytes k lo))) (below_hi k hi) f (most_below k (last_of j ks) hi (last_most k (j ∷ ks) a) b))
      (all_in j ks a.1 (from_on lo k j f a.0) b)

  all_out : (k : List ℕ) (ks : List (List ℕ)) → below_hi (last_of k ks) hi ≡ false → all_in_bounds lo hi (k ∷ ks) ≡ false
  unfolding all_in_bounds last_of
  all_out k [] b = rw b (out (not (is_less (cmp_bytes k lo))))
    where
      out : (x : Bool) → (x && false) && true ≡ false
      out true = refl
      out false = refl
  all_out k (j ∷ ks) b = not_second (in_bounds lo hi k) (all_in_bounds lo hi (j ∷ ks)) (all_out j ks b)

  all-before : (k : List ℕ) (ks : List (List ℕ)) → not (is_less (cmp_bytes k lo)) ≡ false → all_in_bounds lo hi (k ∷ ks) ≡ false
  unfolding all_in_bounds
  all-before k ks f = rw f refl

  pub ends_decide : (k : List ℕ) (ks : List (List ℕ)) → Ascends k ks → spanned lo hi k (last_of k ks) ≡ bounded lo hi (k ∷ ks)
  unfolding bounded
  ends_decide k ks a = go (not (is_less (cmp_bytes k lo))) (below_hi (last_of k ks) hi) refl refl
    where
      go : (x y : Bool) → not (is_less (cmp_bytes k lo)) ≡ x → below_hi (last_of k ks) hi ≡ y → spanned lo hi k (last_of k ks) ≡ below_hi lo hi && all_in_bounds lo hi (k ∷ ks)
      go true true f b =
          rw (f, b)
          (sym
          (both (below_hi lo hi) (all_in_bounds lo hi (k ∷ ks)) (most_below lo k hi (from_most lo k f) (most_below k (last_of k ks) hi (last_most k ks a) b)) (all_in k ks a f b)))
      go true false f b = rw (f, b) (sym (not_second (below_hi lo hi) (all_in_bounds lo hi (k ∷ ks)) (all_out k ks b)))
      go false y f b = rw f (sym (not_second (below_hi lo hi) (all_in_bounds lo hi (k ∷ ks)) (all-before k ks f)))

  pub no_keys : below_hi lo hi ≡ bounded lo hi []
  unfolding bounded all_in_bounds
  no_keys = go (below_hi lo hi)
    where
      go : (x : Bool) → x ≡ x && true
      go true = refl
      go false = refl

-- each of them lies between
all-at : (lo hi : List ℕ) (ks : List (List ℕ)) → all_in_bounds lo hi ks ≡ true → (i : ℕ) → i < length ks → in_bounds lo hi (get_or ks i []) ≡ true
unfolding all_in_bounds
all-at lo hi [] e i h = absurd (omega arith)
all-at lo hi (k ∷ ks) e zero h = both_first (in_bounds lo hi k) (all_in_bounds lo hi ks) e
all-at lo hi (k ∷ ks) e (suc i) h = all-at lo hi ks (both_second (in_bounds lo hi k) (all_in_bounds lo hi ks) e) i (omega arith)

pub bounded_at : (lo hi : List ℕ) (ks : List (List ℕ)) → bounded lo hi ks ≡ true → (i : ℕ) → i < length ks → in_bounds lo hi (get_or ks i []) ≡ true
unfolding bounded
bounded_at lo hi ks e i h = all-at lo hi ks (both_second (below_hi lo hi) (all_in_bounds lo hi ks) e) i h

-- ---- a key between begins with what the boundaries have in common

pub between-starts : (p lo hi k : List ℕ) → starts_with p lo ≡ true → starts_with p hi ≡ true → not (is_less (cmp_bytes k lo)) ≡ true → cmp_bytes k hi ≡ Less → starts_with p k ≡ true
between-starts p lo hi k sl sh f e = go (starts_with p k) refl
  where
    go : (b : Bool) → starts_with p k ≡ b → b ≡ true
    go true q = refl
    go false q =
        let l : cmp_bytes lo k ≡ cmp_bytes p k = ap (λ (v : List ℕ). cmp_bytes v k) (starts_split p lo sl) ∙ cmp_beside p (drop (length p) lo) k q in
        let h : cmp_bytes hi k ≡ cmp_bytes p k = ap (λ (v : List ℕ). cmp_bytes v k) (starts_split p hi sh) ∙ cmp_beside p (drop (length p) hi) k q in
        absurd (from_most lo k f (l ∙ sym h ∙ cmp_less k hi e))

-- ---- boundaries that meet

pub meet-same : (hi lo : List ℕ) → meet hi lo ≡ true → hi ≡ lo
unfolding meet
meet-same [] lo e = no (sym e)
meet-same (h ∷ hi) lo e = cmp_eq (h ∷ hi) lo (is_equal_lem (cmp_bytes (h ∷ hi) lo) e)
  where
    is_equal_lem : (o : Ordering) → is_equal o ≡ true → o ≡ Equal
    is_equal_lem Less e = no (sym e)
    is_equal_lem Equal e = refl
    is_equal_lem Greater e = no (sym e)

-- where hi is some boundary, below it is less
pub below-met : (x hi lo : List ℕ) → meet hi lo ≡ true → below_hi x hi ≡ true → cmp_bytes x lo ≡ Less
unfolding meet
below-met x [] lo m e = no (sym m)
below-met x (h ∷ hi) lo m e = ap (cmp_bytes x) (sym (meet-same (h ∷ hi) lo m)) ∙ below_less x h hi e

-- each key of the left is below each key of the right
pub apart_keys : (lo hi mid top k j : List ℕ) → meet hi mid ≡ true → in_bounds lo hi k ≡ true → in_bounds mid top j ≡ true → cmp_bytes k j ≡ Less
apart_keys lo hi mid top k j m e f =
    less_most k mid j (below-met k hi mid m (both_second (not (is_less (cmp_bytes k lo))) (below_hi k hi) e)) (from_most mid j (both_first (not (is_less (cmp_bytes j mid))) (below_hi j top) f))

-- each key of the left and each of the right lies between the outer boundaries
module _ (lo hi mid top : List ℕ) (m : meet hi mid ≡ true) where
  left_in : (k : List ℕ) → below_hi mid top ≡ true → in_bounds lo hi k ≡ true → in_bounds lo top k ≡ true
  left_in k h e =
      let f = not (is_less (cmp_bytes k lo)) in
      let less = below-met k hi mid m (both_second f (below_hi k hi) e) in
      both f (below_hi k top) (both_first f (below_hi k hi) e) (most_below k mid top (λ q. less_greater (sym less ∙ q)) h)

  right_in : (j : List ℕ) → below_hi lo hi ≡ true → in_bounds mid top j ≡ true → in_bounds lo top j ≡ true
  right_in j h e =
      let f = not (is_less (cmp_bytes j mid)) in
      let less = less_most lo mid j (below-met lo hi mid m h) (from_most mid j (both_first f (below_hi j top) e)) in
      both (not (is_less (cmp_bytes j lo))) (below_hi j top) (most_from lo j (λ q. less_greater (sym less ∙ q))) (both_second f (below_hi j top) e)

  lefts_in : (ks js : List (List ℕ)) → below_hi mid top ≡ true → all_in_bounds lo hi ks ≡ true → all_in_bounds lo top js ≡ true → all_in_bounds lo top (ks ++ js) ≡ true
  unfolding all_in_bounds
  lefts_in [] js h e f = f
  lefts_in (k ∷ ks) js h e f =
      both (in_bounds lo top k) (all_in_bounds lo top (ks ++ js)) (left_in k h (both_first (in_bounds lo hi k) (all_in_bounds lo hi ks) e))
      (lefts_in ks js h (both_second (in_bounds lo hi k) (all_in_bounds lo hi ks) e) f)

  rights_in : (js : List (List ℕ)) → below_hi lo hi ≡ true → all_in_bounds mid top js ≡ true → all_in_bounds lo top js ≡ true
  unfolding all_in_bounds
  rights_in [] h e = refl
  rights_in (j ∷ js) h e =
      both (in_bounds lo top j) (all_in_bounds lo top js) (right_in j h (both_first (in_bounds mid top j) (all_in_bounds mid top js) e))
      (rights_in js h (both_second (in_bounds mid top j) (all_in_bounds mid top js) e))

  -- what two pages that meet hold lies between the left's lo and the right's hi
  pub bounded-append : (ks js : List (List ℕ)) → bounded lo hi ks ≡ true → bounded mid top js ≡ true → bounded lo top (ks ++ js) ≡ true
  unfolding bounded
  bounded-append ks js e f =
      let l = both_first (below_hi lo hi) (all_in_bounds lo hi ks) e in
      let r = both_first (below_hi mid top) (all_in_bounds mid top js) f in
      let less = below-met lo hi mid m l in
      both (below_hi lo top) (all_in_bounds lo top (ks ++ js)) (most_below lo mid top (λ q. less_greater (sym less ∙ q)) r)
      (lefts_in ks js r (both_second (below_hi lo hi) (all_in_bounds lo hi ks) e) (rights_in js l (both_second (below_hi mid top) (all_in_bounds mid top js) f)))
