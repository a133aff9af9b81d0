-- What is merged, in the words of what the two pages say: lo of the left, hi and sibling of the right, every record of the left, then of the
-- right, in order; and where the pages meet, it is marked, rises, and lies between the new boundaries.
-- Assumes nothing.
use Prim.Native.Nat.{ℕ, ◌^◌, ◌<◌}
use mathlib.Core.Path.{◌≡◌, refl, sym, ap, ap₂, ◌∙◌}
use mathlib.Core.Bool.{true, ◌&&◌}
use mathlib.Core.List.{List, ◌++◌, map}
use native.Mathlib.Omega.{arith}
use borrow.Author.Tests.{ne_eqb}
use lib.ListN.{take}
use Rattle.numbers.specs.Number.{Bytes}
use Rattle.order.specs.Bounds.{meet}
use Rattle.frames.specs.declared.Addr.{Addr}
use Rattle.pages.specs.Boundaries.{bounds_of, bounds_at}
use Rattle.pages.specs.Meaning.{Head, Child, Rows, leaf, index, Page, says, page_says, meaning}
use Rattle.pages.proofs.Given.{sound_given}
use Rattle.pages.proofs.Says.{lo_says, hi_says}
use Rattle.walks.specs.Listed as listed
use Rattle.walks.specs.Listed.{entries_of}
use Rattle.build_sources.specs.Source.{Entry}
use Rattle.build_sources.specs.Judged.{rising, prefixed, enclosed}
use Rattle.build_image.specs.Image.{Borders}
use Rattle.build_image.proofs.Prefix.{enclosed-prefixed}
use Rattle.law_rows.specs.Rows.{page_entries}
use Rattle.law_rows.specs.Pairs.{bare, child, Carried, NoPage, NoVersion, Reads}
use Rattle.law_rows.proofs.Entries.{map_append}
use Rattle.law_rows.proofs.Carried.{each_append}
use Rattle.law_rows.proofs.Neighbours.{marked_append}
use Rattle.law_rows.proofs.Climbing.{InOrder, leaves-meet, indexes-meet, leaf_inside, index_inside}
use Rattle.law_rows.proofs.Pages.{leaf_list, index_list, leaf_reads, index_reads}
use Rattle.law_two_pages.proofs.On.{sibling-wide}
use Rattle.merge.specs.Merge.{kind_by, bounds_between, sibling_of, bounds_in, meet_in, merged, Merged}

-- ---- boundaries

module _ (w : List ℕ) (left right : Addr) (p q : Page) (m : meaning w left ≡ says p) (n : meaning w right ≡ says q) where
  sibling_said : sibling_of (bounds_at w right) ≡ q.sibling.0
  unfolding bounds_at bounds_of page_says
  sibling_said = let g = sound_given w right q n in rw (g.opened, ne_eqb g.body.kind 2 g.kind) (ap (λ (z : Page). z.sibling.0) g.said)

  pub bounds_said : bounds_in w left right ≡ bounds_between p q
  unfolding bounds_in bounds_between
  bounds_said = rw (lo_says w left p m, hi_says w right q n, sibling_said)

  pub sibling-fits : Bytes w → (bounds_in w left right).sibling < 256 ^ 8
  unfolding bounds_in page_says
  sibling-fits y =
      let g = sound_given w right q n in
      omega (arith, sibling_said, ap (λ (z : Page). z.sibling.0) g.said, sibling-wide w y right g.body g.opened)

  pub meet_said : meet_in w left right ≡ meet p.hi q.lo
  meet_said = ap₂ meet (hi_says w left p m) (lo_says w right q n)

  -- ---- entries

  pub leaves-list : (hs ks : List Head) → p.rows ≡ leaf hs → q.rows ≡ leaf ks → map bare (merged w left right) ≡ entries_of hs ++ entries_of ks
  unfolding merged
  leaves-list hs ks e f = map_append bare (page_entries w left) (page_entries w right) ∙ ap₂ (λ (x y : List listed.Entry). x ++ y) (leaf_list w left p m hs e) (leaf_list w right q n ks f)

  pub indexes-list : (cs ds : List Child) → p.rows ≡ index cs → q.rows ≡ index ds → map child (merged w left right) ≡ cs ++ ds
  unfolding merged
  indexes-list cs ds e f = map_append child (page_entries w left) (page_entries w right) ∙ ap₂ (λ (x y : List Child). x ++ y) (index_list w left p m cs e) (index_list w right q n ds f)

  abbrev es : List Entry
  es = merged w left right

  -- what two pages hold, one behind the other
  both : {A : Type 0} (tell : Entry → A) (P : Entry → Type 0) (xs ys zs : List A) → map tell es ≡ zs → Reads tell P w (page_entries w left) xs → Reads tell P w (page_entries w right) ys
      → enclosed p.lo p.hi (page_entries w left) ≡ true → enclosed q.lo q.hi (page_entries w right) ≡ true → Merged tell P w (meet_in w left right) es zs
  unfolding merged
  both tell P xs ys zs l r s i j =
      record {
        list = l;
        kind = each_append P (page_entries w left) (page_entries w right) r.kind s.kind;
        marks = λ met. marked_append p.lo p.hi q.lo q.hi (sym meet_said ∙ met) (page_entries w left) (page_entries w right) r.marks s.marks i j;
        short = each_append _ (page_entries w left) (page_entries w right) r.short s.short;
        carried = each_append (Carried w) (page_entries w left) (page_entries w right) r.carried s.carried;
      }

  pub leaves_said : Bytes w → (hs ks : List Head) → p.rows ≡ leaf hs → q.rows ≡ leaf ks → Merged bare NoPage w (meet_in w left right) es (entries_of hs ++ entries_of ks)
  leaves_said y hs ks e f =
      both bare NoPage (entries_of hs) (entries_of ks) (entries_of hs ++ entries_of ks) (leaves-list hs ks e f) (leaf_reads w y left p m hs e) (leaf_reads w y right q n ks f)
      (leaf_inside w left p m (page_entries w left) hs e (leaf_list w left p m hs e)) (leaf_inside w right q n (page_entries w right) ks f (leaf_list w right q n ks f))

  pub indexes_said : Bytes w → (cs ds : List Child) → p.rows ≡ index cs → q.rows ≡ index ds → Merged child NoVersion w (meet_in w left right) es (cs ++ ds)
  indexes_said y cs ds e f =
      both child NoVersion cs ds (cs ++ ds) (indexes-list cs ds e f) (index_reads w y left p m cs e) (index_reads w y right q n ds f)
      (index_inside w left p m (page_entries w left) cs e (index_list w left p m cs e)) (index_inside w right q n (page_entries w right) ds f (index_list w right q n ds f))

  -- ---- where the pages meet: 6, 7 and 10 hold

  module _ (same : kind_by p.rows ≡ kind_by q.rows) (met : meet p.hi q.lo ≡ true) where
    in_order_lem : InOrder p.lo q.hi es
    in_order_lem = by p.rows q.rows refl refl
      where
        by : (x y : Rows) → p.rows ≡ x → q.rows ≡ y → InOrder p.lo q.hi es
        by (leaf hs) (leaf ks) e f = leaves-meet w left right p q m n met es hs ks e f (leaves-list hs ks e f)
        by (index cs) (index ds) e f = indexes-meet w left right p q m n met es cs ds e f (indexes-list cs ds e f)
        by (leaf hs) (index ds) e f = absurd (let z = sym (ap kind_by e) ∙ same ∙ ap kind_by f in let y : ◌≡◌ {A = ℕ} 0 1 = cc in omega arith)
        by (index cs) (leaf ks) e f = absurd (let z = sym (ap kind_by e) ∙ same ∙ ap kind_by f in let y : ◌≡◌ {A = ℕ} 0 1 = cc in omega arith)

    abbrev b : Borders
    b = bounds_in w left right

    pub meeting_6 : rising es ≡ true
    meeting_6 = in_order_lem.rises

    pub meeting_inside : enclosed b.lo b.hi es ≡ true
    unfolding bounds_between
    meeting_inside = ap (λ (z : Borders). enclosed z.lo z.hi es) bounds_said ∙ in_order_lem.inside

    pub meeting_7 : prefixed (take b.prefix b.lo) es ≡ true
    unfolding bounds_between
    meeting_7 = ap (λ (z : Borders). prefixed (take z.prefix z.lo) es) bounds_said ∙ enclosed-prefixed p.lo q.hi es in_order_lem.inside

    pub meeting_10 : meet_in w left right && enclosed b.lo b.hi es ≡ true
    meeting_10 = let x : meet_in w left right ≡ true = meet_said ∙ met in rw (x, meeting_inside) refl
