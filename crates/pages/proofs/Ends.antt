-- The keys of a sound page rise, so its first and its last key decide whether it is bounded.
-- Assumes nothing.
use Prim.Native.Nat.{ℕ, zero, suc, ◌+◌, ◌*◌, ◌-◌, ◌<◌}
use mathlib.Core.Path.{◌≡◌, refl, sym, ap, ap₂, ◌∙◌, subst}
use mathlib.Core.Bool.{Bool, true, false, not, cond, ◌&&◌}
use mathlib.Core.List.{List, ◌∷◌, ◌++◌, map}
use native.Mathlib.Omega.{arith}
use lib.Dec.{eqb}
use Rattle.spans.specs.Span.{part_or}
use Rattle.order.specs.Order.{cmp_bytes, is_less}
use Rattle.order.specs.Bounds.{below_by, below_hi, bounded, spanned}
use Rattle.order.proofs.Laws.{less_greater}
use Rattle.order.proofs.Bounds.{Ascends, last_of, ends_decide, no_keys}
use Rattle.frames.specs.declared.Body.{Body}
use Rattle.frames.specs.Layout.{base_len, Inside}
use Rattle.records.specs.declared.Rec.{Rec}
use Rattle.records.specs.Parts.{prefix_in}
use Rattle.records.specs.Records.{rec_at}
use Rattle.records.proofs.Inside.{lo-part, hi-part, prefix-part, rest_part}
use Rattle.pages.specs.Sound.{slots_ok}
use Rattle.pages.specs.Meaning.{Head, Child, leaf, index, prefix_of, key_of, head_of, child_of, rows_of, rows_from, heads_from, children_from, page_says, keys_of, page_bounded}
use Rattle.pages.proofs.Given.{every_slot, keys_rise}
use Rattle.pages.proofs.Rows.{rows_more}
use Rattle.std.proofs.Common.{Option, Some, None}
use Rattle.std.specs.declared.cmp.Ordering.{Ordering}

-- the keys of a page's rows are its slots' keys
rows_map : {A B : Type 0} (g : A → B) (f : Rec → A) (s : List ℕ) (b : Body) (k i : ℕ) → map g (rows_from f s b k i) ≡ rows_from (λ r. g (f r)) s b k i
unfolding rows_from
rows_map g f s b zero i = refl
rows_map {A = A} {B = B} g f s b (suc k) i = go (rec_at s b i) (rows_map g f s b k (i + 1))
  where
    go : (r : Option Rec) → map g (rows_from f s b k (i + 1)) ≡ rows_from (λ (x : Rec). g (f x)) s b k (i + 1) → map g (rows_of f (rows_from f s b k (i + 1)) r) ≡ rows_of (λ (x : Rec). g (f x)) (rows_from (λ (x : Rec). g (f x)) s b k (i + 1)) r
    go (Some r) h = ap (λ (l : List B). g (f r) ∷ l) h
    go None h = h

module _ (s : List ℕ) (b : Body) where
  abbrev keys : ℕ → ℕ → List (List ℕ)
  keys k i = rows_from (key_of s b) s b k i

  head_keys : (k i : ℕ) → map (λ (h : Head). h.key) (heads_from s b k i) ≡ keys k i
  unfolding head_of
  head_keys k i = rows_map (λ (h : Head). h.key) (head_of s b) s b k i

  child-keys : (k i : ℕ) → map (λ (c : Child). c.key) (children_from s b k i) ≡ keys k i
  unfolding child_of
  child-keys k i = rows_map (λ (c : Child). c.key) (child_of s b) s b k i

  says_keys : keys_of (page_says s b).rows ≡ keys b.elems 0
  unfolding page_says
  says_keys = go (eqb b.kind 1)
    where
      go : (t : Bool) → keys_of (cond t (index (children_from s b b.elems 0)) (leaf (heads_from s b b.elems 0))) ≡ rows_from (key_of s b) s b b.elems 0
      go true = child-keys b.elems 0
      go false = head_keys b.elems 0

  module _ (e : slots_ok s b ≡ true) (n : b.kind ≡ 2 → ⊥) where
    ascend : (k i : ℕ) (r : Rec) → rec_at s b i ≡ Some r → i + k < b.elems → Ascends (key_of s b r) (keys k (i + 1))
    unfolding Ascends rows_from
    ascend zero i r q h = tt
    ascend (suc k) i r q h =
        let g = every_slot s b e (i + 1) (omega arith) in
        subst (Ascends (key_of s b r)) (sym (rows_more (key_of s b) s b k (i + 1) g.0 g.1))
        (λ z. less_greater (sym (keys_rise s b e n i (omega arith) r g.0 q g.1) ∙ z), ascend k (i + 1) g.0 g.1 (omega arith))

    last-key : (k i : ℕ) (r r' : Rec) → rec_at s b i ≡ Some r → rec_at s b (i + k) ≡ Some r' → i + k < b.elems → last_of (key_of s b r) (keys k (i + 1)) ≡ key_of s b r'
    unfolding last_of rows_from
    last-key zero i r r' q q' h =
        let z : Some r ≡ Some r' = sym q ∙ ap (rec_at s b) (let u : i ≡ i + 0 = omega arith in u) ∙ q' in
        ap (key_of s b) (let y : r ≡ r' = cc in y)
    last-key (suc k) i r r' q q' h =
        let g = every_slot s b e (i + 1) (omega arith) in
        ap (last_of (key_of s b r)) (rows_more (key_of s b) s b k (i + 1) g.0 g.1)
        ∙ last-key k (i + 1) g.0 r' g.1 (ap (rec_at s b) (let u : i + 1 + k ≡ i + suc k = omega arith in u) ∙ q') (omega arith)

    -- the first and the last decide
    by_ends : (m : ℕ) (x y : Rec) → b.elems ≡ suc m → rec_at s b 0 ≡ Some x → rec_at s b m ≡ Some y → spanned (page_says s b).lo (page_says s b).hi (key_of s b x) (key_of s b y) ≡ page_bounded (page_says s b)
    by_ends m x y z p q =
        ap (λ (k : List ℕ). spanned (page_says s b).lo (page_says s b).hi (key_of s b x) k) (sym (last-key m 0 x y p (ap (rec_at s b) (let u : 0 + m ≡ m = omega arith in u) ∙ q) (omega arith)))
        ∙ ends_decide (page_says s b).lo (page_says s b).hi (key_of s b x) (keys m 1) (ascend m 0 x p (omega arith))
        ∙ ap (bounded (page_says s b).lo (page_says s b).hi) (sym (says_keys ∙ ap (λ (k : ℕ). keys k 0) z ∙ rows_more (key_of s b) s b m 0 x p))

  by_none : b.elems ≡ 0 → below_hi (page_says s b).lo (page_says s b).hi ≡ page_bounded (page_says s b)
  unfolding rows_from
  by_none z =
      no_keys (page_says s b).lo (page_says s b).hi
      ∙ ap (bounded (page_says s b).lo (page_says s b).hi) (sym (says_keys ∙ ap (λ (k : ℕ). keys k 0) z))

-- ---- what the check measures

module _ (s : List ℕ) (b : Body) (i : Inside s b) where
  lo-is : (lo : List ℕ) → lo ≡ part_or s (b.at + base_len + 4 * b.elems) b.lo_len → lo ≡ (page_says s b).lo
  unfolding page_says
  lo-is lo e = e ∙ lo-part s b i

  hi-is : (hi : List ℕ) → hi ≡ part_or s (b.at + base_len + 4 * b.elems + b.lo_len) b.hi_len → hi ≡ (page_says s b).hi
  unfolding page_says
  hi-is hi e = e ∙ hi-part s b i

  key-is : (p u : List ℕ) (j : ℕ) (r : Rec) → rec_at s b j ≡ Some r → p ≡ part_or s (b.at + base_len + 4 * b.elems) b.prefix_len → u ≡ part_or s r.rest_at r.rest_len → p ++ u ≡ key_of s b r
  unfolding prefix_of prefix_in
  key-is p u j r q e f = ap₂ ◌++◌ (e ∙ prefix-part s b i) (f ∙ rest_part s b i j r q)

  module _ (lo hi : List ℕ) (el : lo ≡ part_or s (b.at + base_len + 4 * b.elems) b.lo_len) (eh : hi ≡ part_or s (b.at + base_len + 4 * b.elems + b.lo_len) b.hi_len) where
    pub bounds_none : b.elems ≡ 0 → (c : Ordering) (r : Bool) → c ≡ cmp_bytes lo hi → r ≡ below_by c hi → r ≡ page_bounded (page_says s b)
    unfolding below_hi
    bounds_none z c r e f =
        f ∙ ap (λ (o : Ordering). below_by o hi) e ∙ ap₂ below_hi (lo-is lo el) (hi-is hi eh) ∙ by_none s b z

    module _ (k : slots_ok s b ≡ true) (n : b.kind ≡ 2 → ⊥) (m : b.elems ≡ 0 → ⊥) (x y : Rec) (ex : rec_at s b 0 ≡ Some x) (ey : rec_at s b (b.elems - 1) ≡ Some y) where
      pub bounds-some : (p u v : List ℕ) → p ≡ part_or s (b.at + base_len + 4 * b.elems) b.prefix_len → u ≡ part_or s x.rest_at x.rest_len → v ≡ part_or s y.rest_at y.rest_len
          → (c d : Ordering) (l r : Bool) → c ≡ cmp_bytes (p ++ u) lo → d ≡ cmp_bytes (p ++ v) hi → l ≡ is_less c → r ≡ below_by d hi → not l && r ≡ page_bounded (page_says s b)
      unfolding below_hi
      bounds-some p u v ep eu ev c d l r ec ed el' er =
          ap₂ (λ (f g : Bool). not f && g) (el' ∙ ap is_less (ec ∙ ap₂ cmp_bytes (key-is p u 0 x ex ep eu) (lo-is lo el)))
          (er ∙ ap (λ (o : Ordering). below_by o hi) ed ∙ ap₂ below_hi (key-is p v (b.elems - 1) y ey ep ev) (hi-is hi eh))
          ∙ by_ends s b k n (b.elems - 1) x y (omega arith) ex ey

-- every slot of a sound page can be read
pub no_bad : (s : List ℕ) (b : Body) (j : ℕ) {A : Type 0} → slots_ok s b ≡ true → j < b.elems → rec_at s b j ≡ None → A
no_bad s b j k h e =
    let g = every_slot s b k j h in
    let x : None ≡ Some g.0 = sym e ∙ g.1 in
    absurd (let z : ◌≡◌ {A = ℕ} 0 1 = cc in omega arith)
