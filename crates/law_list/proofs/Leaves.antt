-- What a leaf page answers that says a list's groups, over that list: its walks both ways, its ranges, its searches.
-- Assumes nothing.
use Prim.Native.Nat.{ℕ, ◌+◌, ◌-◌, ◌<◌}
use mathlib.Core.Path.{◌≡◌, refl, sym, ap, ◌∙◌, subst}
use mathlib.Core.Bool.{true, false}
use mathlib.Core.List.{List, [], ◌∷◌, reverse, append-nil}
use native.Mathlib.Omega.{arith}
use lib.IntN.{pos}
use lib.ListN.{length, take, drop, get_or}
use lib.Seq.{take-length}
use Rattle.order.specs.declared.Ver.{Ver}
use Rattle.order.specs.Order.{cmp_bytes, is_equal}
use Rattle.order.proofs.Laws.{case_order, cmp_same, cmp_eq, cmp_less}
use Rattle.frames.specs.declared.Addr.{Addr}
use Rattle.values.specs.declared.HistRef.{HistRef}
use Rattle.pages.specs.declared.Place.{Place}
use Rattle.pages.specs.Boundaries.{part_in}
use Rattle.pages.specs.Meaning.{Head, leaf, says, olds_from, meaning}
use Rattle.build_sources.specs.Source.{Entry, heads}
use Rattle.build_sources.specs.Marks.{Each, Marked, Wide}
use Rattle.build_image.specs.Image.{Borders}
use Rattle.sst.specs.Search.{lower_at, search_at}
use Rattle.sst.specs.Says.{no_head, FoundSays, IsHead}
use Rattle.sst.proofs.Answers.{lower_says, search_says, rows_sorted}
use Rattle.walks.specs.Walk.{forward_at, backward_at}
use Rattle.walks.specs.Listed.{Entry as Listed, older_entries, entries_of, Lists}
use Rattle.walks.proofs.Says.{forward_lists, backward_lists}
use Rattle.law_leaf.specs.Grouped.{grouped, leaf_page}
use Rattle.law_leaf.proofs.Groups.{grouped-many, keyed}
use Rattle.law_list.specs.Asked.{records_of, having, between, same, key_is, largest, pos_of, SearchSays}
use Rattle.law_list.proofs.Having.{having_none, having-one, having_range}
use Rattle.law_list.proofs.Flat.{flat_having, flat_grouped, grouped-having}
use Rattle.law_list.proofs.Bounds.{heads-plain, Cuts, bound-cuts, heads_cut}
use Rattle.std.proofs.Common.{Result, Ok, Err}
use Rattle.frames.specs.declared.Refusal.{Refusal}
use Rattle.sst.specs.declared.Found.{Found}
use Rattle.std.specs.declared.cmp.Ordering.{Ordering}

records_nil : (es : List Entry) → records_of es ≡ [] → es ≡ []
unfolding records_of
records_nil [] h = refl
records_nil (e ∷ es) h = absurd (let z : ◌≡◌ {A = ℕ} 0 1 = cc in omega arith)

unequal : (k probe : List ℕ) → (k ≡ probe → ⊥) → same probe k ≡ false
unequal k probe n = go (cmp_bytes k probe) refl
  where
    go : (o : Ordering) → cmp_bytes k probe ≡ o → is_equal o ≡ false
    go Ordering.Less e = refl
    go Ordering.Equal e = absurd (n (cmp_eq k probe e))
    go Ordering.Greater e = refl

module _ (s : List ℕ) (a : Addr) (b : Borders) (es : List Entry) (means : meaning s a ≡ says (leaf_page b es)) (marks : Marked es) where
  abbrev hs : List Head
  hs = grouped es

  abbrev pre : List ℕ
  pre = take b.prefix b.lo

  rows_are : (leaf_page b es).rows ≡ leaf hs
  unfolding leaf_page
  rows_are = refl

  pre_is : (leaf_page b es).prefix ≡ pre
  unfolding leaf_page
  pre_is = refl

  -- ---- the whole list

  pub lists-all : Lists s pre (forward_at s a 0 (length (heads es))) (records_of es)
  unfolding leaf_page
  lists-all =
      let z : length hs - 0 ≡ length hs = omega arith in
      let e : entries_of (take (length hs - 0) (drop 0 hs)) ≡ records_of es = ap (λ (n : ℕ). entries_of (take n hs)) z ∙ ap entries_of (take-length hs) ∙ flat_grouped es marks in
      subst (λ (n : ℕ). Lists s pre (forward_at s a 0 n) (records_of es)) (grouped-many es)
      (subst (λ (l : List Listed). Lists s pre (forward_at s a 0 (length hs)) l) e (forward_lists s a (leaf_page b es) means hs refl 0 (length hs) (omega arith)))

  -- walked backward whole: the groups, the last key first, each newest first
  pub lists-all_back : 0 < length (heads es) → Lists s pre (backward_at s a (pos (length (heads es) - 1)) (pos 0)) (entries_of (reverse (grouped es)))
  unfolding leaf_page
  lists-all_back l =
      let n = grouped-many es in
      let z : length (heads es) - 1 - 0 + 1 ≡ length hs = omega (arith, n) in
      subst (λ (x : List Head). Lists s pre (backward_at s a (pos (length (heads es) - 1)) (pos 0)) (entries_of (reverse x)))
      (ap (λ (k : ℕ). take k hs) z ∙ take-length hs)
      (backward_lists s a (leaf_page b es) means hs refl (length (heads es) - 1) 0 (omega arith) (omega (arith, n)))

  -- ---- a range between any two lower bounds

  module _ (sized : Each Wide es) (lo hi : List ℕ) where
    abbrev i : ℕ
    i = pos_of (lower_at s a lo largest)

    abbrev j : ℕ
    j = pos_of (lower_at s a hi largest)

    cuts : (probe : List ℕ) → Cuts (leaf hs) largest probe (pos_of (lower_at s a probe largest))
    unfolding leaf_page
    cuts probe = bound-cuts (leaf hs) probe largest (heads-plain es sized) (lower_at s a probe largest) (lower_says s a (leaf_page b es) means probe largest)

    range : having keyed (between lo hi) hs ≡ take (j - i) (drop i hs)
    range = having_range keyed lo hi hs i j (heads_cut hs largest lo i (cuts lo)) (heads_cut hs largest hi j (cuts hi))

    -- walked forward: exactly the list's records from lo on and below hi, in the list's order
    pub lists_range : Lists s pre (forward_at s a i j) (records_of (having key_is (between lo hi) es))
    unfolding leaf_page
    lists_range =
        subst (λ (l : List Listed). Lists s pre (forward_at s a i j) l) (ap entries_of (sym range) ∙ flat_having (between lo hi) es marks)
        (forward_lists s a (leaf_page b es) means hs refl i j (cuts hi).inside)

    -- walked backward: their groups, the last key first, each group newest first
    pub lists_back : i < j → Lists s pre (backward_at s a (pos (j - 1)) (pos i)) (entries_of (reverse (grouped (having key_is (between lo hi) es))))
    unfolding leaf_page
    lists_back l =
        let z : j - 1 - i + 1 ≡ j - i = omega arith in
        subst (λ (x : List Head). Lists s pre (backward_at s a (pos (j - 1)) (pos i)) (entries_of (reverse x)))
        (ap (λ (n : ℕ). take n (drop i hs)) z ∙ sym range ∙ sym (grouped-having (between lo hi) es marks))
        (backward_lists s a (leaf_page b es) means hs refl (j - 1) i (omega arith) (omega (arith, (cuts hi).inside)))

  -- ---- a search

  module _ (probe : List ℕ) where
    sorted : (m n : ℕ) → m < n → n < length hs → cmp_bytes (get_or hs m no_head).key (get_or hs n no_head).key ≡ Ordering.Less
    unfolding leaf_page
    sorted m n l h = rows_sorted s a (leaf_page b es) means m n l h

    -- where row i has the key, no other has
    apart : (i : ℕ) → i < length hs → (get_or hs i no_head).key ≡ probe → (j : ℕ) → j < length hs → (j ≡ i → ⊥) → same probe (get_or hs j no_head).key ≡ false
    apart i l e j h n =
        case_order j i
        (λ u. ap is_equal (rw e at (sorted j i u l)))
        (λ u. absurd (n u))
        (λ u. ap is_equal (cmp_less probe (get_or hs j no_head).key (rw e at (sorted i j u h))))

    found : (i : ℕ) (v : Ver) (h : HistRef) (x : Place) → IsHead s hs probe i v h x
        → records_of (having key_is (same probe) es) ≡ (record { key = probe; ver = v; value = part_in s x }) ∷ older_entries probe (olds_from s h.count h.page h.slot)
    unfolding entries_of
    found i v h x f =
        let hit : same probe (get_or hs i no_head).key ≡ true = rw f.key (ap is_equal (cmp_same probe)) in
        let one : having keyed (same probe) hs ≡ get_or hs i no_head ∷ [] = having-one keyed (same probe) no_head hs i f.inside hit (apart i f.inside f.key) in
        sym (flat_having (same probe) es marks) ∙ ap entries_of one ∙ rw (append-nil, f.key, ← f.ver, ← f.value, ← f.olds) refl

    missing : ((i : ℕ) → i < length hs → (get_or hs i no_head).key ≡ probe → ⊥) → having key_is (same probe) es ≡ []
    unfolding entries_of
    missing f =
        records_nil (having key_is (same probe) es)
        (sym (flat_having (same probe) es marks) ∙ ap entries_of (having_none keyed (same probe) no_head hs (λ i l. unequal (get_or hs i no_head).key probe (f i l))))

    pub search_list : SearchSays s es probe (search_at s a probe)
    unfolding leaf_page
    search_list = go (search_at s a probe) (search_says s a (leaf_page b es) means probe hs refl)
      where
        go : (r : Result Found Refusal) → FoundSays s hs probe r → SearchSays s es probe r
        go (Ok (Found.Is i v h x n)) f = found i v h x f
        go (Ok (Found.Nothing n)) f = missing f
        go (Err r) f = f
