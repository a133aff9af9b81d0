-- Neighbouring pages whose boundaries meet (order 4): they hold no key in common, and at most one of them answers a search with a row; the boundary
-- between them decides which.
-- Assumes nothing.
use Prim.Native.Nat.{ℕ, zero, suc, ◌<◌}
use mathlib.Core.Path.{◌≡◌, refl, sym, ap, ◌∙◌}
use mathlib.Core.Bool.{true, not}
use mathlib.Core.List.{List, [], ◌∷◌, map}
use native.Mathlib.Omega.{arith}
use lib.ListN.{length, get_or}
use Rattle.order.specs.Order.{cmp_bytes, is_less}
use Rattle.order.specs.Bounds.{below_hi, in_bounds, meet}
use Rattle.order.proofs.Laws.{less_equal, cmp_same, cmp_less}
use Rattle.order.proofs.Bounds.{both_first, both_second, from_most, below-met, bounded_at, apart_keys}
use Rattle.frames.specs.declared.Addr.{Addr}
use Rattle.pages.specs.Meaning.{Head, Child, Rows, leaf, index, Page, says, keys_of, meaning}
use Rattle.pages.proofs.Given.{sound_given}
use Rattle.sst.specs.Search.{search_at}
use Rattle.sst.specs.Says.{no_head, no_child, row_count, row_key, FoundSays}
use Rattle.sst.proofs.Answers.{search_says}
use Rattle.std.proofs.Common.{Result, Ok, Err}
use Rattle.frames.specs.declared.Refusal.{Refusal}
use Rattle.sst.specs.declared.Found.{Found}
use Rattle.std.specs.declared.cmp.Ordering.{Ordering}

-- ---- the key of a row lies between the page's boundaries

get_d_map : {A : Type 0} (key : A → List ℕ) (d : A) (xs : List A) (i : ℕ) → key d ≡ [] → get_or (map key xs) i [] ≡ key (get_or xs i d)
get_d_map key d [] i e = sym e
get_d_map key d (x ∷ xs) zero e = refl
get_d_map key d (x ∷ xs) (suc i) e = get_d_map key d xs i e

length_map : {A : Type 0} (key : A → List ℕ) (xs : List A) → length (map key xs) ≡ length xs
length_map key [] = refl
length_map key (x ∷ xs) = ap suc (length_map key xs)

key-at : (rows : Rows) (i : ℕ) → get_or (keys_of rows) i [] ≡ row_key rows i
key-at (leaf hs) i = get_d_map (λ (h : Head). h.key) no_head hs i refl
key-at (index cs) i = get_d_map (λ (c : Child). c.key) no_child cs i refl

keys-many : (rows : Rows) → length (keys_of rows) ≡ row_count rows
keys-many (leaf hs) = length_map (λ (h : Head). h.key) hs
keys-many (index cs) = length_map (λ (c : Child). c.key) cs

pub row_in : (s : List ℕ) (a : Addr) (p : Page) → meaning s a ≡ says p → (i : ℕ) → i < row_count p.rows → in_bounds p.lo p.hi (row_key p.rows i) ≡ true
row_in s a p m i h =
    ap (in_bounds p.lo p.hi) (sym (key-at p.rows i))
    ∙ bounded_at p.lo p.hi (keys_of p.rows) (sound_given s a p m).bounded i (omega (arith, keys-many p.rows))

-- ---- a search outside the boundaries finds nothing

module _ (s : List ℕ) (a : Addr) (p : Page) (m : meaning s a ≡ says p) (hs : List Head) (e : p.rows ≡ leaf hs) (probe : List ℕ) where
  found_in_lem : (i : ℕ) → i < length hs → (get_or hs i no_head).key ≡ probe → in_bounds p.lo p.hi probe ≡ true
  found_in_lem i h q =
      let k = row_in s a p m i (omega (arith, ap row_count e)) in
      ap (in_bounds p.lo p.hi) (sym (ap (λ (r : Rows). row_key r i) e ∙ q)) ∙ k

  pub none_outside : (in_bounds p.lo p.hi probe ≡ true → ⊥) → (n : ℕ) × (search_at s a probe ≡ Ok (Found.Nothing n))
  none_outside out = go (search_at s a probe) refl (search_says s a p m probe hs e)
    where
      go : (r : Result Found Refusal) → search_at s a probe ≡ r → FoundSays s hs probe r → (n : ℕ) × (search_at s a probe ≡ Ok (Found.Nothing n))
      go (Ok (Found.Is i v h x n)) q w = absurd (out (found_in_lem i w.inside w.key))
      go (Ok (Found.Nothing n)) q w = (n, q)
      go (Err r) q w = absurd w

-- ---- neighbours, each in its own arena

module _ (s t : List ℕ) (left right : Addr) (p q : Page) (m : meaning s left ≡ says p) (n : meaning t right ≡ says q) (met : meet p.hi q.lo ≡ true) where
  -- no key stands in both
  pub no_shared-key : (i j : ℕ) → i < row_count p.rows → j < row_count q.rows → row_key p.rows i ≡ row_key q.rows j → ⊥
  no_shared-key i j h k e =
      let less = apart_keys p.lo p.hi q.lo q.hi (row_key p.rows i) (row_key q.rows j) met (row_in s left p m i h) (row_in t right q n j k) in
      less_equal (sym less ∙ ap (λ (x : List ℕ). cmp_bytes x (row_key q.rows j)) e ∙ cmp_same (row_key q.rows j))

  -- below the boundary between them the right page has no row for a probe, from it on the left page has none
  pub left_alone : (ks : List Head) → q.rows ≡ leaf ks → (probe : List ℕ) → cmp_bytes probe q.lo ≡ Ordering.Less → (x : ℕ) × (search_at t right probe ≡ Ok (Found.Nothing x))
  left_alone ks e probe less =
      none_outside t right q n ks e probe
      (λ k. from_most q.lo probe (both_first (not (is_less (cmp_bytes probe q.lo))) (below_hi probe q.hi) k) (cmp_less probe q.lo less))

  pub right_alone : (hs : List Head) → p.rows ≡ leaf hs → (probe : List ℕ) → (cmp_bytes probe q.lo ≡ Ordering.Less → ⊥) → (x : ℕ) × (search_at s left probe ≡ Ok (Found.Nothing x))
  right_alone hs e probe more =
      none_outside s left p m hs e probe
      (λ k. more (below-met probe p.hi q.lo met (both_second (not (is_less (cmp_bytes probe p.lo))) (below_hi probe p.hi) k)))
