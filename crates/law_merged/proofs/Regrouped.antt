-- However the records were spread over lists and the merges grouped: trees that hold the same records between the same boundaries make
-- pages that say the same. So do trees with the same inputs in order.
-- Assumes nothing.
use Prim.Native.Nat.{ℕ}
use mathlib.Core.Path.{◌≡◌, refl, sym, ap, ap₂, ◌∙◌}
use mathlib.Core.List.{List, [], ◌∷◌, ◌++◌, append-nil, append_assoc}
use Rattle.frames.specs.declared.Addr.{Addr}
use Rattle.pages.specs.Meaning.{says, meaning}
use Rattle.build_image.specs.Image.{Borders}
use Rattle.base.specs.Calls.{listed, new_answer, new_arena, new_index_answer, new_index_arena, bounds_from}
use Rattle.law_leaf.specs.Grouped.{leaf_page}
use Rattle.law_index.specs.Children.{children_of, index_page}
use Rattle.law_list.specs.Asked.{records_of}
use Rattle.law_merged.specs.Trees.{Input, Tree, built, joined, Made}
use Rattle.law_merged.specs.Joined.{all_of, inputs_of, entries_in, leftmost, rightmost, bounds_of}
use Rattle.law_merged.proofs.Trees.{same_leaf, same_index, leaf_made, leaf_marked, index_made}

-- ---- the same records, wherever and whenever the two pages were made: merged or built at once

module _ (t u : Tree) (bounds : bounds_of t ≡ bounds_of u) (s s' : List ℕ) (mark mark' : ℕ) (p p' : Addr) where
  pub same-leaves : records_of (entries_in 0 t) ≡ records_of (entries_in 0 u) → Made new_answer new_arena t s mark p → Made new_answer new_arena u s' mark' p' → meaning s p ≡ meaning s' p'
  same-leaves h x y =
      leaf_made t s mark p x
      ∙ ap (λ (b : Borders). says (leaf_page b (entries_in 0 t))) bounds
      ∙ ap says
      (same_leaf (bounds_of u) (entries_in 0 t) (entries_in 0 u) h (leaf_marked t s mark p x) (leaf_marked u s' mark' p' y))
      ∙ sym (leaf_made u s' mark' p' y)

  pub same_branches : children_of (entries_in 1 t) ≡ children_of (entries_in 1 u) → Made new_index_answer new_index_arena t s mark p → Made new_index_answer new_index_arena u s' mark' p' → meaning s p ≡ meaning s' p'
  same_branches h x y =
      index_made t s mark p x
      ∙ ap (λ (b : Borders). says (index_page b (entries_in 1 t))) bounds
      ∙ ap says (same_index (bounds_of u) (entries_in 1 t) (entries_in 1 u) h)
      ∙ sym (index_made u s' mark' p' y)

-- ---- everything asked of a tree is a function of its inputs in order

flat : {A : Type 0} → (Input → List A) → List Input → List A
flat f [] = []
flat f (i ∷ is) = f i ++ flat f is

flat_append : {A : Type 0} (f : Input → List A) (is js : List Input) → flat f (is ++ js) ≡ flat f is ++ flat f js
unfolding flat
flat_append f [] js = refl
flat_append f (i ∷ is) js = ap (λ l. f i ++ l) (flat_append f is js) ∙ sym (append_assoc (f i) (flat f is) (flat f js))

all_flat : {A : Type 0} (f : Input → List A) (t : Tree) → all_of f t ≡ flat f (inputs_of t)
unfolding flat all_of
all_flat f (built i) = sym (append-nil (f i))
all_flat f (joined t u) = ap₂ (λ x y. x ++ y) (all_flat f t) (all_flat f u) ∙ sym (flat_append f (inputs_of t) (inputs_of u))

first_or : Input → List Input → Input
first_or d [] = d
first_or d (i ∷ is) = i

last_or : Input → List Input → Input
last_or d [] = d
last_or d (i ∷ is) = last_or i is

left-first : (d : Input) (t : Tree) (is : List Input) → first_or d (inputs_of t ++ is) ≡ leftmost t
unfolding first_or all_of leftmost
left-first d (built i) is = refl
left-first d (joined t u) is = ap (first_or d) (append_assoc (inputs_of t) (inputs_of u) is) ∙ left-first d t (inputs_of u ++ is)

last_one : (d i : Input) (is : List Input) → last_or d (is ++ (i ∷ [])) ≡ i
unfolding last_or
last_one d i [] = refl
last_one d i (j ∷ is) = last_one j i is

right-last : (d : Input) (t : Tree) (is : List Input) → last_or d (is ++ inputs_of t) ≡ rightmost t
unfolding all_of rightmost
right-last d (built i) is = last_one d i is
right-last d (joined t u) is = ap (last_or d) (sym (append_assoc is (inputs_of t) (inputs_of u))) ∙ right-last d u (is ++ inputs_of t)

module _ (t u : Tree) (same : inputs_of t ≡ inputs_of u) where
  none : Input
  none = record { list = []; lo = []; hi = []; sibling = 0 }

  same_entries : (source : ℕ) → entries_in source t ≡ entries_in source u
  same_entries source =
      all_flat (λ i. listed i.list [] source) t ∙ ap (flat (λ (i : Input). listed i.list [] source)) same ∙ sym (all_flat (λ i. listed i.list [] source) u)

  same_left : leftmost t ≡ leftmost u
  same_left = sym (left-first none t []) ∙ ap (λ (is : List Input). first_or none (is ++ [])) same ∙ left-first none u []

  same-right : rightmost t ≡ rightmost u
  same-right = sym (right-last none t []) ∙ ap (last_or none) same ∙ right-last none u []

  same-bounds : bounds_of t ≡ bounds_of u
  same-bounds = ap₂ (λ (i j : Input). bounds_from i.lo j.hi j.sibling) same_left same-right

  -- THE LAWS
  module _ (s s' : List ℕ) (mark mark' : ℕ) (p p' : Addr) where
    pub regrouped_leaves : Made new_answer new_arena t s mark p → Made new_answer new_arena u s' mark' p' → meaning s p ≡ meaning s' p'
    regrouped_leaves = same-leaves t u same-bounds s s' mark mark' p p' (ap records_of (same_entries 0))

    pub regrouped_branches : Made new_index_answer new_index_arena t s mark p → Made new_index_answer new_index_arena u s' mark' p' → meaning s p ≡ meaning s' p'
    regrouped_branches = same_branches t u same-bounds s s' mark mark' p p' (ap children_of (same_entries 1))
