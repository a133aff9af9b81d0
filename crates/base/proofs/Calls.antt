-- The public calls, one law a return: 1, 2, 3 in front of what the builder judges.
-- Assumes nothing.
use mathlib.Core.Path.{◌≡◌, refl, sym, ap, ap₂, ◌∙◌}
use mathlib.Core.List.{List}
use mathlib.Core.Bool.{Bool, true, false, cond, ◌&&◌}
use Prim.Native.Nat.{ℕ, ◌-◌, ◌≤◌}
use native.Mathlib.Omega.{arith}
use borrow.Author.Tests.{leb-true}
use lib.Dec.{leb, eqb}
use lib.ListN.{length, take, get_or}
use Rattle.spans.specs.Span.{put}
use Rattle.spans.proofs.Tests.{ask}
use Rattle.numbers.specs.Number.{be_at}
use Rattle.frames.specs.declared.Refusal.{Refusal}
use Rattle.frames.specs.declared.Refusal.TheVariants.{BadLimit, BadArena, BadList}
use Rattle.frames.specs.Layout.{addr}
use Rattle.frames.proofs.Frames.{and_l, and_r}
use Rattle.build_sources.specs.declared.Cursor.{Cursor}
use Rattle.build_sources.specs.Lists.{begun_of, first_of}
use Rattle.build_sources.specs.Source.{Entry, well_formed}
use Rattle.build_image.specs.declared.Call.{Call}
use Rattle.build_image.specs.Prefix.{common}
use Rattle.build_image.specs.Image.{leaf_image, index_image, Borders}
use Rattle.build_bounds.specs.declared.Boundary.{Boundary}
use Rattle.build_bounds.specs.declared.Boundaries.{Boundaries}
use Rattle.build_bounds.specs.Boundaries.{boundary_bytes, boundary_of, bounds_of}
use Rattle.build_bounds.proofs.Laws.{boundary_whole, boundary_within}
use Rattle.build_history.specs.Runs.{Sane}
use Rattle.build_totals.specs.Totals.{leaf_at}
use Rattle.build_image.specs.Call.{limit_ok, budget_ok, limits_ok, next_ok}
use Rattle.build_image.proofs.Asked.{limit_true, budget_true, next_true}
use Rattle.build_image.specs.Table.{Row, judged}
use Rattle.build_table.specs.Table.{bounds_ok, leaf_limits, is_open, list_ok, of_list}
use Rattle.build_table.specs.Leaf.{leaf_end, leaf_answer, leaf_arena, leaf_rows}
use Rattle.build_table.specs.Index.{Held, index_end, index_answer, index_arena, index_rows}
use Rattle.build_table.proofs.Listing.{of_by}
use Rattle.frames.specs.declared.PageId.{PageId}
use Rattle.frames.specs.Limits.{max_key}
use Rattle.base.specs.Calls.{bounds_from, listed, list_rows, new_index_answer, new_index_arena, new_answer, new_arena}
use Rattle.std.proofs.Common.{Option, Some, None, Result, Ok, Err}
use Rattle.frames.specs.declared.Addr.{Addr}

-- ---- the first three rows

module _ {X : Type 0} (limits : Bool) (a : List ℕ) (next : ℕ) (l : List ℕ) (source : ℕ) (rows : List Row) (stop : Refusal → X) (go : X) where
  one : limits ≡ false → stop BadLimit ≡ judged (list_rows limits a next l source rows) stop go
  one h = rw h refl

  two : limits ≡ true → next_ok (length a) next ≡ false → stop BadArena ≡ judged (list_rows limits a next l source rows) stop go
  two h k = by_two limits (next_ok (length a) next) (stop BadLimit) (stop BadArena) _ h k
    where
      by_two : (x y : Bool) (p q r : X) → x ≡ true → y ≡ false → q ≡ cond x (cond y r q) p
      by_two x y p q r h k = rw (h, k) refl

  three : limits ≡ true → next_ok (length a) next ≡ true → list_ok l (take next a) source ≡ false → stop BadList ≡ judged (list_rows limits a next l source rows) stop go
  three h k j = by_three limits (next_ok (length a) next) (list_ok l (take next a) source) (stop BadLimit) (stop BadArena) (stop BadList) _ h k j
    where
      by_three : (x y z : Bool) (p q r s : X) → x ≡ true → y ≡ true → z ≡ false → r ≡ cond x (cond y (cond z s r) q) p
      by_three x y z p q r s h k j = rw (h, k, j) refl

  on : limits ≡ true → next_ok (length a) next ≡ true → list_ok l (take next a) source ≡ true → judged rows stop go ≡ judged (list_rows limits a next l source rows) stop go
  on h k j = by_on limits (next_ok (length a) next) (list_ok l (take next a) source) (stop BadLimit) (stop BadArena) (stop BadList) _ h k j
    where
      by_on : (x y z : Bool) (p q r s : X) → x ≡ true → y ≡ true → z ≡ true → s ≡ cond x (cond y (cond z s r) q) p
      by_on x y z p q r s h k j = rw (h, k, j) refl

-- a list that opens does so in front of its first entry
no_from : (c : Cursor) → None ≡ Some c → ⊥
no_from c e = absurd (let z : ◌≡◌ {A = ℕ} 0 1 = cc in omega arith)

from_first : (l : List ℕ) (source : ℕ) (c : Cursor) → begun_of l source ≡ Some c → c ≡ first_of source
unfolding begun_of
from_first l source c e =
    let a₁ = ask (leb 5 (length l)) _ None (Some c) (no_from c) e in
    let a₂ = ask (eqb (get_or l 0 0) 1) _ None (Some c) (no_from c) a₁.1 in
    let a₃ = ask (eqb (be_at 4 l 1) (length l - 5)) (Some (first_of source)) None (Some c) (no_from c) a₂.1 in
    let z = a₃.1 in
    cc

module _ (l w : List ℕ) (source : ℕ) (b : Option Cursor) (e : b ≡ begun_of l source) where
  pub list_bad : b ≡ None → list_ok l w source ≡ false
  list_bad q = ap (λ (x : Option Cursor). is_open x && well_formed l w (first_of source)) (sym e ∙ q)

  module _ (c : Cursor) (q : b ≡ Some c) where
    pub at_first : c ≡ first_of source
    at_first = from_first l source c (sym e ∙ q)

    pub list-opens : list_ok l w source ≡ well_formed l w (first_of source)
    list-opens = ap (λ (x : Option Cursor). is_open x && well_formed l w (first_of source)) (sym e ∙ q)

-- ---- boundaries that are whole slices

pub next-footing : (len next : ℕ) (t : Bool) → t ≡ next_ok len next → t ≡ true → next ≤ len
next-footing len next t e h = (next_true len next (sym e ∙ h)).2

module _ (lo hi w : List ℕ) (x y : Boundary) (p : ℕ) (sibling : PageId) (ex : x ≡ boundary_of lo) (ey : y ≡ boundary_of hi) (ep : p ≡ common lo hi) where
  abbrev boundaries_of_lem : Boundaries
  boundaries_of_lem = record { lo = x; hi = y; prefix = p; sibling = sibling }

  pub held : (t : Bool) → t ≡ bounds_ok lo hi → t ≡ true → Held lo hi w boundaries_of_lem
  held t e h =
      let z = sym e ∙ h in
      let j : length lo ≤ max_key = leb-true (length lo) max_key (and_l (leb (length lo) max_key) (leb (length hi) max_key) z) in
      let k : length hi ≤ max_key = leb-true (length hi) max_key (and_r (leb (length lo) max_key) (leb (length hi) max_key) z) in
      rw (ex, ey)
      (record {
        inside = record { footing = boundary_within lo w; high = boundary_within hi w };
        front = ep ∙ sym (ap₂ common (boundary_whole lo w) (boundary_whole hi w));
        footing = j;
        high = k;
      })

  pub bounds_are : bounds_of lo hi w boundaries_of_lem ≡ bounds_from lo hi sibling.0
  bounds_are =
      ap₂ (λ (u v : List ℕ). record { lo = u; hi = v; prefix = p; sibling = sibling.0 }) (ap (boundary_bytes lo w) ex ∙ boundary_whole lo w) (ap (boundary_bytes hi w) ey ∙ boundary_whole hi w)
      ∙ ap (λ (k : ℕ). record { lo = lo; hi = hi; prefix = k; sibling = sibling.0 }) ep

-- ---- a call on a list: its limits, the entries' rows, the page's address, the end and the image

module _ (limits : Bool) (a : List ℕ) (next : ℕ) (l : List ℕ) (source : ℕ) (rows : List Row) (at end : ℕ) (image : List ℕ) where
  abbrev Both : Result (Addr × ℕ) Refusal → List ℕ → Type 0
  Both r a₁ = (r ≡ judged (list_rows limits a next l source rows) Err (Ok (addr at, end))) × (a₁ ≡ judged (list_rows limits a next l source rows) (λ (k : Refusal). a) (put a next image))

  pub call-one : (t : Bool) → t ≡ limits → t ≡ false → Both (Err BadLimit) a
  call-one t e h = (
    one limits a next l source rows Err (Ok (addr at, end)) (sym e ∙ h),
    one limits a next l source rows (λ (k : Refusal). a) (put a next image) (sym e ∙ h),
  )

  module _ (t₁ : Bool) (e₁ : t₁ ≡ limits) (h₁ : t₁ ≡ true) where
    pub call_two : (t : Bool) → t ≡ next_ok (length a) next → t ≡ false → Both (Err BadArena) a
    call_two t e h = (
      two limits a next l source rows Err (Ok (addr at, end)) (sym e₁ ∙ h₁) (sym e ∙ h),
      two limits a next l source rows (λ (k : Refusal). a) (put a next image) (sym e₁ ∙ h₁) (sym e ∙ h),
    )

    module _ (t₂ : Bool) (e₂ : t₂ ≡ next_ok (length a) next) (h₂ : t₂ ≡ true) where
      pub call_three : list_ok l (take next a) source ≡ false → Both (Err BadList) a
      call_three h = (
        three limits a next l source rows Err (Ok (addr at, end)) (sym e₁ ∙ h₁) (sym e₂ ∙ h₂) h,
        three limits a next l source rows (λ (k : Refusal). a) (put a next image) (sym e₁ ∙ h₁) (sym e₂ ∙ h₂) h,
      )

      call-on : list_ok l (take next a) source ≡ true → (r : Result (Addr × ℕ) Refusal) (a₁ : List ℕ) → r ≡ judged rows Err (Ok (addr at, end)) → a₁ ≡ judged rows (λ (k : Refusal). a) (put a next image) → Both r a₁
      call-on h r a₁ er ea = (
        er ∙ on limits a next l source rows Err (Ok (addr at, end)) (sym e₁ ∙ h₁) (sym e₂ ∙ h₂) h,
        ea ∙ on limits a next l source rows (λ (k : Refusal). a) (put a next image) (sym e₁ ∙ h₁) (sym e₂ ∙ h₂) h,
      )

      -- 3 by the builder, which finds whether the list ends well
      pub call-list : (t : Bool) → list_ok l (take next a) source ≡ t → (r : Result (Addr × ℕ) Refusal) (a₁ : List ℕ) → r ≡ cond t (judged rows Err (Ok (addr at, end))) (Err BadList)
          → a₁ ≡ cond t (judged rows (λ (k : Refusal). a) (put a next image)) a → Both r a₁
      call-list true h r a₁ er ea = call-on h r a₁ er ea
      call-list false h r a₁ er ea = let z = call_three h in (er ∙ z.0, ea ∙ z.1)

-- ---- new_intl

module _ (a : List ℕ) (next : ℕ) (l : List ℕ) (m : Call) (b : Borders) where
  abbrev es : List Entry
  es = listed l (take next a) 1

  abbrev limits : Bool
  limits = bounds_ok b.lo b.hi

  abbrev rows : List Row
  rows = index_rows (length a) next m b es

  pub index_one : (t : Bool) → t ≡ bounds_ok b.lo b.hi → t ≡ false → (Err BadLimit ≡ new_index_answer a next l m b) × (a ≡ new_index_arena a next l m b)
  unfolding new_index_answer new_index_arena
  index_one t e h = call-one limits a next l 1 rows next (index_end next m b es) (index_image m b es) t e h

  module _ (t₁ : Bool) (e₁ : t₁ ≡ bounds_ok b.lo b.hi) (h₁ : t₁ ≡ true) where
    pub index_two : (t : Bool) → t ≡ next_ok (length a) next → t ≡ false → (Err BadArena ≡ new_index_answer a next l m b) × (a ≡ new_index_arena a next l m b)
    unfolding new_index_answer new_index_arena
    index_two t e h = call_two limits a next l 1 rows next (index_end next m b es) (index_image m b es) t₁ e₁ h₁ t e h

    module _ (t₂ : Bool) (e₂ : t₂ ≡ next_ok (length a) next) (h₂ : t₂ ≡ true) where
      pub index_three : list_ok l (take next a) 1 ≡ false → (Err BadList ≡ new_index_answer a next l m b) × (a ≡ new_index_arena a next l m b)
      unfolding new_index_answer new_index_arena
      index_three h = call_three limits a next l 1 rows next (index_end next m b es) (index_image m b es) t₁ e₁ h₁ t₂ e₂ h₂ h

      pub index_list : list_ok l (take next a) 1 ≡ well_formed l (take next a) (first_of 1) → (r : Result (Addr × ℕ) Refusal) (a₁ : List ℕ) (m' : Call) (b' : Borders) → m' ≡ m → b' ≡ b
          → r ≡ of_list l (take next a) 1 (Err BadList) (index_answer a next m' b') → a₁ ≡ of_list l (take next a) 1 a (index_arena a next m' b') → (r ≡ new_index_answer a next l m b) × (a₁ ≡ new_index_arena a next l m b)
      unfolding new_index_answer new_index_arena index_answer index_arena
      index_list h r a₁ m' b' em eb er ea =
          call-list limits a next l 1 rows next (index_end next m b es) (index_image m b es) t₁ e₁ h₁ t₂ e₂ h₂ (well_formed l (take next a) (first_of 1)) h r a₁
          (er
          ∙ ap₂ (λ (x : Call) (y : Borders). of_list l (take next a) 1 (Err BadList) (index_answer a next x y)) em eb
          ∙ of_by l (take next a) 1 (Err BadList) (index_answer a next m b) (well_formed l (take next a) (first_of 1)) refl)
          (ea
          ∙ ap₂ (λ (x : Call) (y : Borders). of_list l (take next a) 1 a (index_arena a next x y)) em eb
          ∙ of_by l (take next a) 1 a (index_arena a next m b) (well_formed l (take next a) (first_of 1)) refl)

-- ---- new_leaf

pub limits_sane : (m : Call) → limits_ok m.limit m.budget ≡ true → Sane m
limits_sane m e =
    record {
      limit = (limit_true m.limit (and_l (limit_ok m.limit) (budget_ok m.budget) e)).1;
      budget = (budget_true m.budget (and_r (limit_ok m.limit) (budget_ok m.budget) e)).1;
    }

module _ (limit budget : ℕ) (lo hi : List ℕ) (t : Bool) (e : t ≡ leaf_limits limit budget lo hi) (h : t ≡ true) where
  pub bounds_ok_lem : true ≡ bounds_ok lo hi
  bounds_ok_lem = sym (and_r (limits_ok limit budget) (bounds_ok lo hi) (sym e ∙ h))

  pub sane : (group txid lsn : ℕ) → Sane (record { limit = limit; budget = budget; group = group; txid = txid; lsn = lsn })
  sane group txid lsn =
      limits_sane (record { limit = limit; budget = budget; group = group; txid = txid; lsn = lsn }) (and_l (limits_ok limit budget) (bounds_ok lo hi) (sym e ∙ h))

module _ (a : List ℕ) (next : ℕ) (l : List ℕ) (m : Call) (b : Borders) where
  abbrev les : List Entry
  les = listed l (take next a) 0

  abbrev lims : Bool
  lims = leaf_limits m.limit m.budget b.lo b.hi

  abbrev lrows : List Row
  lrows = leaf_rows (length a) next m b les

  pub new_one : (t : Bool) → t ≡ leaf_limits m.limit m.budget b.lo b.hi → t ≡ false → (Err BadLimit ≡ new_answer a next l m b) × (a ≡ new_arena a next l m b)
  unfolding new_answer new_arena
  new_one t e h = call-one lims a next l 0 lrows (leaf_at m next les) (leaf_end next m b les) (leaf_image m b next les) t e h

  module _ (t₁ : Bool) (e₁ : t₁ ≡ leaf_limits m.limit m.budget b.lo b.hi) (h₁ : t₁ ≡ true) where
    pub new_two : (t : Bool) → t ≡ next_ok (length a) next → t ≡ false → (Err BadArena ≡ new_answer a next l m b) × (a ≡ new_arena a next l m b)
    unfolding new_answer new_arena
    new_two t e h = call_two lims a next l 0 lrows (leaf_at m next les) (leaf_end next m b les) (leaf_image m b next les) t₁ e₁ h₁ t e h

    module _ (t₂ : Bool) (e₂ : t₂ ≡ next_ok (length a) next) (h₂ : t₂ ≡ true) where
      pub new_three : list_ok l (take next a) 0 ≡ false → (Err BadList ≡ new_answer a next l m b) × (a ≡ new_arena a next l m b)
      unfolding new_answer new_arena
      new_three h = call_three lims a next l 0 lrows (leaf_at m next les) (leaf_end next m b les) (leaf_image m b next les) t₁ e₁ h₁ t₂ e₂ h₂ h

      pub new_list : list_ok l (take next a) 0 ≡ well_formed l (take next a) (first_of 0) → (r : Result (Addr × ℕ) Refusal) (a₁ : List ℕ) (m' : Call) (b' : Borders) → m' ≡ m → b' ≡ b
          → r ≡ of_list l (take next a) 0 (Err BadList) (leaf_answer a next m' b') → a₁ ≡ of_list l (take next a) 0 a (leaf_arena a next m' b') → (r ≡ new_answer a next l m b) × (a₁ ≡ new_arena a next l m b)
      unfolding new_answer new_arena leaf_answer leaf_arena
      new_list h r a₁ m' b' em eb er ea =
          call-list lims a next l 0 lrows (leaf_at m next les) (leaf_end next m b les) (leaf_image m b next les) t₁ e₁ h₁ t₂ e₂ h₂ (well_formed l (take next a) (first_of 0)) h r a₁
          (er
          ∙ ap₂ (λ (x : Call) (y : Borders). of_list l (take next a) 0 (Err BadList) (leaf_answer a next x y)) em eb
          ∙ of_by l (take next a) 0 (Err BadList) (leaf_answer a next m b) (well_formed l (take next a) (first_of 0)) refl)
          (ea
          ∙ ap₂ (λ (x : Call) (y : Borders). of_list l (take next a) 0 a (leaf_arena a next x y)) em eb
          ∙ of_by l (take next a) 0 a (leaf_arena a next m b) (well_formed l (take next a) (first_of 0)) refl)
