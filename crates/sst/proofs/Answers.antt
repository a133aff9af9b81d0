-- The three searches on a page with a meaning: for any probe they answer what the meaning's rows say, and none is refused.
-- Assumes nothing.
use Prim.Native.Nat.{ℕ, zero, suc, ◌-◌, ◌≤◌, ◌<◌}
use mathlib.Core.Path.{◌≡◌, refl, sym, ap, ◌∙◌, subst}
use mathlib.Core.Bool.{Bool, true, false, cond}
use mathlib.Core.List.{List}
use native.Mathlib.Omega.{arith}
use borrow.Author.Tests.{eq-eqb, ne_eqb, eqb-true, eqb-false, ltb-true, ltb-false}
use lib.ListN.{length, get_or}
use lib.Dec.{eqb, ltb}
use Rattle.numbers.specs.Number.{le_at}
use Rattle.order.specs.declared.Ver.{Ver}
use Rattle.order.specs.Order.{cmp_bytes}
use Rattle.order.proofs.Laws.{cmp_eq, cmp_same, less_equal}
use Rattle.frames.specs.declared.Addr.{Addr}
use Rattle.frames.specs.declared.Body.{Body}
use Rattle.frames.specs.declared.Refusal.{Refusal}
use Rattle.frames.specs.Layout.{page_id, open_at, Inside}
use Rattle.frames.proofs.Frames.{open_inside}
use Rattle.records.specs.declared.Rec.{Rec}
use Rattle.values.specs.Keys.{ver_in}
use Rattle.records.specs.Records.{rec_at}
use Rattle.records.proofs.Inside.{val-part}
use Rattle.pages.specs.Sound.{slots_ok}
use Rattle.pages.specs.Meaning.{Head, Child, Rows, leaf, index, Page, says, head_of, child_of, heads_from, children_from, meaning}
use Rattle.pages.specs.Boundaries.{place}
use Rattle.pages.proofs.Given.{Sound, sound_given, every_slot}
use Rattle.sst.specs.declared.Want.{Want}
use Rattle.sst.specs.Halve.{asked, lowered}
use Rattle.sst.specs.Search.{Searchable, right_kind, ready_at, probed, outcome_of, outcome_at, bound, bound_in, lower_of, lower_at, indexes, page_in, floor_in, floor_of, floor_at, leaves, head_in, found_in, search_of, search_at}
use Rattle.sst.specs.Says.{no_head, no_child, row_count, row_key, row_newer, FirstNotLess, BoundSays, FloorSays, IsHead, FoundSays, MeetsAt}
use Rattle.sst.proofs.Halving.{three, Finds}
use Rattle.sst.proofs.Rising.{Sorted, asked_equal, asked_greater, lowered-less, lowered_greater, lowered_equal, against, sorted_rises, lower_rises}
use Rattle.sst.proofs.Opens.{open_empty, open_ready}
use Rattle.sst.proofs.PageKeys.{rows_by, rows_said, count_of, head_at_lem, child-at, keys_sorted, probed_finds, open_kind}
use Rattle.std.proofs.Common.{Option, Some, None, Result, Ok, Err}
use Rattle.sst.specs.declared.Bound.{Bound}
use Rattle.sst.specs.declared.Floor.{Floor}
use Rattle.sst.specs.declared.Found.{Found}
use Rattle.sst.specs.declared.Halved.{Halved}
use Rattle.sst.specs.declared.Outcome.{Outcome}
use Rattle.std.specs.declared.cmp.Ordering.{Ordering}

-- ---- a page that was opened, of a kind that the search takes: empty, or the probe stands among its keys

module _ (s : List ℕ) (a : Addr) (probe : List ℕ) (w : Want) (b : Body) (o : open_at s a ≡ Some b) (k : right_kind b.kind w ≡ true) (P : Option Outcome → Type 0)
    (none : b.elems ≡ 0 → P (Some Outcome.Empty))
    (some : (b.elems ≡ 0 → ⊥) → P (Some (Outcome.Stands b (probed s b probe w))))
  where
    pub by_outcome : P (outcome_at s a probe w)
    unfolding outcome_at
    by_outcome = go (eqb b.elems 0) refl
      where
        go : (t : Bool) → eqb b.elems 0 ≡ t → P (outcome_of s probe w (ready_at s a w))
        go true q = let z = eqb-true b.elems 0 q in subst (λ (r : Searchable). P (outcome_of s probe w r)) (sym (open_empty s a w b o k z)) (none z)
        go false q = let n = eqb-false b.elems 0 q in subst (λ (r : Searchable). P (outcome_of s probe w r)) (sym (open_ready s a w b o k n)) (some n)

-- ---- what the meaning says of the page

module _ (s : List ℕ) (a : Addr) (p : Page) (g : Sound s a p) where
  rows_are : rows_by (eqb g.body.kind 1) s g.body ≡ p.rows
  rows_are = rows_said s g.body p g.said

  inside : Inside s g.body
  inside = (open_inside s a g.body g.opened).0

  pub page-count : row_count p.rows ≡ g.body.elems
  page-count = sym (ap row_count rows_are) ∙ count_of s g.body g.slots (eqb g.body.kind 1)

  -- a page with heads is a leaf, one with children an index page
  leaf_is : (hs : List Head) → p.rows ≡ leaf hs → (g.body.kind ≡ 0) × (heads_from s g.body g.body.elems 0 ≡ hs)
  leaf_is hs e = go (eqb g.body.kind 1) refl (rows_are ∙ e)
    where
      go : (t : Bool) → eqb g.body.kind 1 ≡ t → rows_by t s g.body ≡ leaf hs → (g.body.kind ≡ 0) × (heads_from s g.body g.body.elems 0 ≡ hs)
      go true k q = absurd (let z : ◌≡◌ {A = ℕ} 0 1 = cc in omega arith)
      go false k q = let x : heads_from s g.body g.body.elems 0 ≡ hs = cc in (open_kind s a g.body g.opened (eqb-false g.body.kind 1 k) g.kind, x)

  index_is : (cs : List Child) → p.rows ≡ index cs → (g.body.kind ≡ 1) × (children_from s g.body g.body.elems 0 ≡ cs)
  index_is cs e = go (eqb g.body.kind 1) refl (rows_are ∙ e)
    where
      go : (t : Bool) → eqb g.body.kind 1 ≡ t → rows_by t s g.body ≡ index cs → (g.body.kind ≡ 1) × (children_from s g.body g.body.elems 0 ≡ cs)
      go true k q = let x : children_from s g.body g.body.elems 0 ≡ cs = cc in (eqb-true g.body.kind 1 k, x)
      go false k q = absurd (let z : ◌≡◌ {A = ℕ} 0 1 = cc in omega arith)

-- the kinds that the searches take
leaf_right : (k : ℕ) → k ≡ 0 → right_kind k leaves ≡ true
unfolding right_kind
leaf_right k e = rw e

index_right : (k : ℕ) → k ≡ 1 → right_kind k indexes ≡ true
unfolding right_kind
index_right k e = rw e

leaf_bound : (k : ℕ) (v : Ver) → k ≡ 0 → right_kind k (bound v) ≡ true
unfolding right_kind
leaf_bound k v e = rw e

index_bound : (k : ℕ) (v : Ver) → k ≡ 1 → right_kind k (bound v) ≡ true
unfolding right_kind
index_bound k v e = rw e

-- ---- lower bound

bound-end : (rows : Rows) (probe : List ℕ) (v : Ver) (n : ℕ) → row_count rows ≡ n → (x : Option Halved) → Finds (λ (j : ℕ). lowered (row_newer rows v j) (against (row_key rows) probe j)) n x → BoundSays rows probe v (bound_in n x)
bound-end rows probe v n c (Some (Halved.At i r)) w = absurd (lowered_equal (row_newer rows v i) (against (row_key rows) probe i) w.1)
bound-end rows probe v n c (Some (Halved.End q r)) w = go (ltb q n) refl
  where
    first : FirstNotLess rows probe v q
    first =
        record {
          before = λ i l. lowered-less (row_newer rows v i) (cmp_bytes (row_key rows i) probe) (w.1 i l);
          behind = λ i l m. lowered_greater (row_newer rows v i) (cmp_bytes (row_key rows i) probe) (w.2 i l (omega arith));
        }

    go : (t : Bool) → ltb q n ≡ t → BoundSays rows probe v (cond t (Ok (Bound.At q r)) (Ok (Bound.PastEnd q r)))
    go true e = (omega (arith, ltb-true q n e), first)
    go false e = (omega (arith, ltb-false q n e, w.0), first)
bound-end rows probe v n c None w = absurd w

module _ (s : List ℕ) (a : Addr) (p : Page) (m : meaning s a ≡ says p) (probe : List ℕ) where
  -- "lower bound gives the first position not less, past the end otherwise"
  pub lower_says : (v : Ver) → BoundSays p.rows probe v (lower_at s a probe v)
  unfolding lower_at
  lower_says v =
      by_outcome s a probe (bound v) b g.opened (right (eqb b.kind 1) refl) (λ (x : Option Outcome). BoundSays p.rows probe v (lower_of x))
      (λ z. let c = page-count s a p g in (omega arith, record { before = λ i l. absurd (omega arith); behind = λ i l k. absurd (omega arith) }))
      (λ n. bound-end p.rows probe v b.elems (page-count s a p g) (probed s b probe (bound v)) finds)
    where
      g : Sound s a p
      g = sound_given s a p m

      b : Body
      b = g.body

      right : (t : Bool) → eqb b.kind 1 ≡ t → right_kind b.kind (bound v) ≡ true
      right true k = index_bound b.kind v (eqb-true b.kind 1 k)
      right false k = leaf_bound b.kind v (open_kind s a b g.opened (eqb-false b.kind 1 k) g.kind)

      finds : Finds (λ (j : ℕ). lowered (row_newer p.rows v j) (against (row_key p.rows) probe j)) b.elems (probed s b probe (bound v))
      finds =
          let t = eqb b.kind 1 in
          let u = lower_rises (against (row_key (rows_by t s b)) probe) (row_newer (rows_by t s b) v) b.elems (sorted_rises (row_key (rows_by t s b)) b.elems probe (keys_sorted s b g.slots g.kind t)) in
          subst (λ (rs : Rows). Finds (λ (j : ℕ). lowered (row_newer rs v j) (against (row_key rs) probe j)) b.elems (probed s b probe (bound v))) (rows_are s a p g)
          (probed_finds s b (inside s a p g) g.slots probe t refl (bound v) u)

-- ---- floor

pos_of_lem : (x : ℕ) → (x ≡ 0 → ⊥) → 0 < x
pos_of_lem zero z = absurd (z refl)
pos_of_lem (suc x) z = omega arith

-- the rows of an index page, by their slots
module _ (s : List ℕ) (b : Body) (i : Inside s b) (e : slots_ok s b ≡ true) (n : b.kind ≡ 2 → ⊥) (probe : List ℕ) where
  abbrev kids : List Child
  kids = children_from s b b.elems 0

  page-is : (j reads : ℕ) (r : Rec) → rec_at s b j ≡ Some r → page_in s b j reads ≡ Ok (Floor.Is j (page_id (le_at 8 s r.val_at)) reads)
  unfolding page_in
  page-is j reads r q = rw q

  leads : (j : ℕ) → j < b.elems → (r : Rec) → rec_at s b j ≡ Some r → page_id (le_at 8 s r.val_at) ≡ (get_or kids j no_child).page
  unfolding child_of
  leads j l r q = sym (ap (λ (c : Child). c.page) (child-at s b e j l r q))

  floor_at_lem : (j reads : ℕ) → j < b.elems
      → ((k : ℕ) → j < k → k < b.elems → against (row_key (index kids)) probe k ≡ Some Ordering.Greater)
      → ((j ≡ 0 → ⊥) → against (row_key (index kids)) probe j ≡ Some Ordering.Greater → ⊥)
      → FloorSays kids probe (page_in s b j reads)
  floor_at_lem j reads l over under =
      let g = every_slot s b e j l in
      let c : length kids ≡ b.elems = count_of s b e true in
      subst (FloorSays kids probe) (sym (page-is j reads g.0 g.1))
      (record {
        inside = omega arith;
        above = λ k h m. asked_greater (cmp_bytes (get_or kids k no_child).key probe) (over k h (omega arith));
        not_above = λ z h. under z (ap asked h);
        leads = leads j l g.0 g.1;
      })

  floor_end : (b.elems ≡ 0 → ⊥) → (x : Option Halved) → Finds (against (row_key (index kids)) probe) b.elems x → FloorSays kids probe (floor_in s b x)
  floor_end some (Some (Halved.At j r)) w =
      let u = sorted_rises (row_key (index kids)) b.elems probe (keys_sorted s b e n true) in
      floor_at_lem j r w.0 (λ k h m. u.equal_above j k h m w.1) (λ z h. let y : ◌≡◌ {A = ℕ} 0 1 = cc w.1 in omega arith)
  floor_end some (Some (Halved.End q r)) w =
      let c : 0 < b.elems = pos_of_lem b.elems some in
      floor_at_lem (q - 1) r (omega (arith, w.0)) (λ k h m. w.2 k (omega arith) m)
      (λ z h. let d : 0 < q - 1 = pos_of_lem (q - 1) z in let f = w.1 (q - 1) (omega arith) in let y : ◌≡◌ {A = ℕ} 0 1 = cc in omega arith)
  floor_end some None w = absurd w

module _ (s : List ℕ) (a : Addr) (p : Page) (m : meaning s a ≡ says p) (probe : List ℕ) where
  -- "Floor gives the greatest key not above, slot 0 below the first"
  pub floor_says : (cs : List Child) → p.rows ≡ index cs → FloorSays cs probe (floor_at s a probe)
  unfolding floor_at
  floor_says cs e =
      by_outcome s a probe indexes b g.opened (index_right b.kind k.0) (λ (x : Option Outcome). FloorSays cs probe (floor_of s x))
      (λ z. sym (ap row_count e) ∙ page-count s a p g ∙ z)
      (λ n.
      subst (λ (c : List Child). FloorSays c probe (floor_in s b (probed s b probe indexes))) k.1
      (floor_end s b (inside s a p g) g.slots g.kind probe n (probed s b probe indexes)
      (probed_finds s b (inside s a p g) g.slots probe true (eq-eqb b.kind 1 k.0) indexes
      (sorted_rises (row_key (rows_by true s b)) b.elems probe (keys_sorted s b g.slots g.kind true)))))
    where
      g : Sound s a p
      g = sound_given s a p m

      b : Body
      b = g.body

      k : (b.kind ≡ 1) × (children_from s b b.elems 0 ≡ cs)
      k = index_is s a p g cs e

-- ---- search

module _ (s : List ℕ) (b : Body) (i : Inside s b) (e : slots_ok s b ≡ true) (probe : List ℕ) where
  abbrev heads : List Head
  heads = heads_from s b b.elems 0

  head_is_lem : (j reads : ℕ) (r : Rec) → rec_at s b j ≡ Some r → head_in s b j reads ≡ Ok (Found.Is j (ver_in s r.ver_at) r.hist (place r.val_at r.val_len) reads)
  unfolding head_in
  head_is_lem j reads r q = rw q

  is_head : (j : ℕ) → j < b.elems → against (row_key (leaf heads)) probe j ≡ Some Ordering.Equal → (r : Rec) → rec_at s b j ≡ Some r → IsHead s heads probe j (ver_in s r.ver_at) r.hist (place r.val_at r.val_len)
  unfolding head_of
  is_head j l q r d =
      let h = head_at_lem s b e j l r d in
      let c : length heads ≡ b.elems = count_of s b e false in
      record {
        inside = omega arith;
        key = cmp_eq (get_or heads j no_head).key probe (asked_equal (cmp_bytes (get_or heads j no_head).key probe) q);
        ver = sym (ap (λ (x : Head). x.ver) h);
        value = val-part s b i j r d ∙ sym (ap (λ (x : Head). x.value) h);
        olds = sym (ap (λ (x : Head). x.olds) h);
      }

  none_met : (q : ℕ) → ((j : ℕ) → j < q → against (row_key (leaf heads)) probe j ≡ Some Ordering.Less) → ((j : ℕ) → q ≤ j → j < b.elems → against (row_key (leaf heads)) probe j ≡ Some Ordering.Greater) → (j : ℕ) → j < length heads → (get_or heads j no_head).key ≡ probe → ⊥
  none_met q under over j l k =
      let c : length heads ≡ b.elems = count_of s b e false in
      let f : against (row_key (leaf heads)) probe j ≡ (Some Ordering.Equal) = ap asked (subst (λ (y : List ℕ). cmp_bytes y probe ≡ Ordering.Equal) (sym k) (cmp_same probe)) in
      three j q
      (λ h. let d = under j h in let z : ◌≡◌ {A = ℕ} 0 1 = cc in omega arith)
      (λ h. let d = over j (omega arith) (omega arith) in let z : ◌≡◌ {A = ℕ} 0 1 = cc in omega arith)
      (λ h. let d = over j (omega arith) (omega arith) in let z : ◌≡◌ {A = ℕ} 0 1 = cc in omega arith)

  found-end : (x : Option Halved) → Finds (against (row_key (leaf heads)) probe) b.elems x → FoundSays s heads probe (found_in s b x)
  found-end (Some (Halved.At j n)) w =
      let g = every_slot s b e j w.0 in
      subst (FoundSays s heads probe) (sym (head_is_lem j n g.0 g.1)) (is_head j w.0 w.1 g.0 g.1)
  found-end (Some (Halved.End q n)) w = none_met q w.1 w.2
  found-end None w = absurd w

module _ (s : List ℕ) (a : Addr) (p : Page) (m : meaning s a ≡ says p) (probe : List ℕ) where
  -- search finds the key's head, or none where no head has the key
  pub search_says : (hs : List Head) → p.rows ≡ leaf hs → FoundSays s hs probe (search_at s a probe)
  unfolding search_at
  search_says hs e =
      by_outcome s a probe leaves b g.opened (leaf_right b.kind k.0) (λ (x : Option Outcome). FoundSays s hs probe (search_of s x))
      (λ z j l q. let c : length hs ≡ b.elems = sym (ap row_count e) ∙ page-count s a p g in omega arith)
      (λ n.
      subst (λ (h : List Head). FoundSays s h probe (found_in s b (probed s b probe leaves))) k.1
      (found-end s b (inside s a p g) g.slots probe (probed s b probe leaves)
      (probed_finds s b (inside s a p g) g.slots probe false (ne_eqb b.kind 1 (λ z. omega (arith, k.0))) leaves
      (sorted_rises (row_key (rows_by false s b)) b.elems probe (keys_sorted s b g.slots g.kind false)))))
    where
      g : Sound s a p
      g = sound_given s a p m

      b : Body
      b = g.body

      k : (b.kind ≡ 0) × (heads_from s b b.elems 0 ≡ hs)
      k = leaf_is s a p g hs e

-- ---- the key's own head

-- the meaning's keys rise strictly, so a key has one head
pub rows_sorted : (s : List ℕ) (a : Addr) (p : Page) → meaning s a ≡ says p → Sorted (row_key p.rows) (row_count p.rows)
rows_sorted s a p m i j l h =
    let g = sound_given s a p m in
    let t = eqb g.body.kind 1 in
    let c = page-count s a p g in
    subst (λ (rs : Rows). cmp_bytes (row_key rs i) (row_key rs j) ≡ Ordering.Less) (rows_are s a p g) (keys_sorted s g.body g.slots g.kind t i j l (omega arith))

-- a key of the page is found at its own position, whatever the halving meets first
module _ (s : List ℕ) (a : Addr) (p : Page) (m : meaning s a ≡ says p) (hs : List Head) (e : p.rows ≡ leaf hs) where
  pub search_meets : (i : ℕ) → i < length hs → MeetsAt i (search_at s a (get_or hs i no_head).key)
  search_meets i l = go (search_at s a (get_or hs i no_head).key) (search_says s a p m (get_or hs i no_head).key hs e)
    where
      keys : Sorted (row_key (leaf hs)) (length hs)
      keys = subst (λ (rs : Rows). Sorted (row_key rs) (row_count rs)) e (rows_sorted s a p m)

      apart : (j k : ℕ) → j < k → k < length hs → (get_or hs j no_head).key ≡ (get_or hs k no_head).key → ⊥
      apart j k h u q =
          less_equal (sym (keys j k h u) ∙ subst (λ (y : List ℕ). cmp_bytes y (get_or hs k no_head).key ≡ Ordering.Equal) (sym q) (cmp_same (get_or hs k no_head).key))

      go : (x : Result Found Refusal) → FoundSays s hs (get_or hs i no_head).key x → MeetsAt i x
      go (Ok (Found.Is j v h x n)) w =
          three j i (λ u. absurd (apart j i u l w.key)) (λ u. u) (λ u. absurd (apart i j u w.inside (sym w.key)))
      go (Ok (Found.Nothing n)) w = w i l refl
      go (Err r) w = w

-- ---- no refusal, whatever the probe

module _ (s : List ℕ) (a : Addr) (p : Page) (m : meaning s a ≡ says p) (probe : List ℕ) (r : Refusal) where
  pub lower_answers : (v : Ver) → lower_at s a probe v ≡ Err r → ⊥
  lower_answers v q = subst (BoundSays p.rows probe v) q (lower_says s a p m probe v)

  pub floor_answers : (cs : List Child) → p.rows ≡ index cs → floor_at s a probe ≡ Err r → ⊥
  floor_answers cs e q = subst (FloorSays cs probe) q (floor_says s a p m probe cs e)

  pub search_answers : (hs : List Head) → p.rows ≡ leaf hs → search_at s a probe ≡ Err r → ⊥
  search_answers hs e q = subst (FoundSays s hs probe) q (search_says s a p m probe hs e)
