-- A merge of two sound pages that answered a page: what that page says, in every arena that keeps the bytes below the new next free address.
-- Assumes nothing.
use Rattle.frames.specs.declared.Refusal.{Refusal}
use Prim.Native.Nat.{ℕ, ◌+◌, ◌≤◌}
use mathlib.Core.Path.{◌≡◌, refl, sym, ap, ◌∙◌}
use mathlib.Core.Bool.{Bool, true}
use mathlib.Core.List.{List, ◌∷◌, ◌++◌}
use native.Mathlib.Omega.{arith}
use borrow.Author.Tests.{leb-true}
use lib.ListN.{length, take}
use Rattle.spans.specs.Span.{part, put}
use Rattle.numbers.specs.Number.{Bytes}
use Rattle.numbers.proofs.Numbers.{bytes-part}
use Rattle.frames.specs.declared.Addr.{Addr}
use Rattle.frames.specs.declared.Refusal.TheVariants.{BadLimit, BadArena}
use Rattle.frames.specs.Layout.{addr}
use Rattle.frames.proofs.Frames.{and_l, and_r}
use Rattle.pages.specs.Meaning.{Head, Child, Page, leaf, index, says, meaning}
use Rattle.build_sources.specs.Source.{Entry, olds}
use Rattle.build_sources.specs.Marks.{Each, Short}
use Rattle.build_sources.specs.Judged.{enclosed}
use Rattle.walks.specs.Listed.{entries_of}
use Rattle.build_image.specs.declared.Call.{Call}
use Rattle.build_image.specs.Image.{Borders, cuts_of, history_end, leaf_image, index_image}
use Rattle.build_totals.specs.Totals.{leaf_at}
use Rattle.build_image.specs.Call.{limit_ok, budget_ok, next_ok, limits_ok}
use Rattle.build_image.specs.Table.{Row, row, judged}
use Rattle.build_table.specs.Index.{index_end}
use Rattle.build_table.specs.Leaf.{leaf_end}
use Rattle.build_image.proofs.Tables.{All}
use Rattle.law_rows.specs.Pairs.{bare, child, Carried, NoPage, NoVersion}
use Rattle.merge.specs.declared.Kinds.{Kinds}
use Rattle.merge.specs.Merge.{bounds_between, bounds_in, meet_in, merged, Merged}
use Rattle.merge.specs.Answer.{kinds_in, kind_rows, answer_by, arena_by, merge_answer, merge_arena}
use Rattle.merge.proofs.Gathering.{lo-short, hi-short, prefix-short}
use Rattle.merge.proofs.Said.{sibling-fits, bounds_said, leaves_said, indexes_said}
use Rattle.law_history.specs.Fit.{Fits, BoundsFit}
use Rattle.law_leaf.specs.Grouped.{leaf_page, LeafFit}
use Rattle.law_index.specs.Children.{index_page, Leads, IndexFit}
use Rattle.law_calls.proofs.Stored.{leaf_stored, index_stored}
use Rattle.law_calls.proofs.Listing.{each_both}
use Rattle.law_calls.proofs.Fitting.{call_fits, address, address_below, leaf_fit, index_fit}
use Rattle.law_calls.proofs.Accepted.{all_hold, answered_says, answered_others}
use Rattle.law_merged.specs.Trees.{Typed, Later}
use Rattle.std.proofs.Common.{Ok, Err, Result}

module _ (a : List ℕ) (next : ℕ) (m : Call) (left right : Addr) (typed : Typed a m) (p : Addr) (end : ℕ) (answers : merge_answer a next m left right ≡ Ok (p, end)) where
  -- what a merge reads
  abbrev w : List ℕ
  w = take next a

  abbrev b : Borders
  b = bounds_in w left right

  abbrev es : List Entry
  es = merged w left right

  abbrev met : Bool
  met = meet_in w left right

  abbrev after : List ℕ
  after = merge_arena a next m left right

  bytes : Bytes w
  unfolding part
  bytes = bytes-part a 0 next typed.bytes

  -- the table, the kinds of the pages known
  abbrev rows : Kinds → List Row
  rows k = row (limits_ok m.limit m.budget) BadLimit ∷ row (next_ok (length a) next) BadArena ∷ kind_rows (length a) next m met b es k

  answers_by : (k : Kinds) → kinds_in w left right ≡ k → answer_by (rows k) next m b es k ≡ Ok (p, end)
  unfolding merge_answer
  answers_by k q = ap (λ (s : Kinds). answer_by (rows s) next m b es s) (sym q) ∙ answers

  arena_by_lem : (k : Kinds) → kinds_in w left right ≡ k → after ≡ arena_by (rows k) a next m b es k
  unfolding merge_arena
  arena_by_lem k q = ap (λ (s : Kinds). arena_by (rows s) a next m b es s) q

  module _ (x y : Page) (f : meaning w left ≡ says x) (g : meaning w right ≡ says y) where
    bounds : BoundsFit b
    bounds = record { lo = lo-short w left right x y f g; hi = hi-short w left right x y f g; prefix = prefix-short w left right x y f g; sibling = sibling-fits w left right x y f g bytes }

    -- ---- two leaves

    module _ (hs ks : List Head) (d : x.rows ≡ leaf hs) (e : y.rows ≡ leaf ks) where
      are_leaves : kinds_in w left right ≡ Kinds.Leaves
      are_leaves = rw (f, g, d, e) refl

      abbrev at : ℕ
      at = history_end m.limit next (cuts_of m es) (olds es)

      abbrev image : List ℕ
      image = leaf_image m b next es

      leaf_built_lem : judged {X = Result (Addr × ℕ) Refusal} (rows Kinds.Leaves) Err (Ok (addr at, next + length image)) ≡ Ok (p, end)
      unfolding leaf_end leaf_at
      leaf_built_lem = answers_by Kinds.Leaves are_leaves

      leaf_is : after ≡ judged (rows Kinds.Leaves) (λ r. a) (put a next image)
      leaf_is = arena_by_lem Kinds.Leaves are_leaves

      leaf_holds : All (rows Kinds.Leaves)
      leaf_holds = all_hold (rows Kinds.Leaves) at (next + length image) p end leaf_built_lem

      leaf_room_lem : next + length image ≤ length a
      unfolding leaf_end
      leaf_room_lem = leb-true (next + length image) (length a) leaf_holds.1.1.1.1.1.1.1.1.0

      -- what is merged says exactly the records of the left, then of the right
      pub leaves_are : Merged bare NoPage w met es (entries_of hs ++ entries_of ks)
      leaves_are = leaves_said w left right x y f g bytes hs ks d e

      leaf_met : met ≡ true
      leaf_met = and_l met (enclosed b.lo b.hi es) leaf_holds.1.1.1.1.1.1.0

      leaf_each : Each (Fits w) es
      leaf_each = each_both Short (Carried w) (Fits w) (λ z s c. record { short = s; wide = c.wide; keeps = c.keeps }) es leaves_are.short leaves_are.carried

      limits : limits_ok m.limit m.budget ≡ true → (limit_ok m.limit ≡ true) × (budget_ok m.budget ≡ true)
      limits h = (and_l (limit_ok m.limit) (budget_ok m.budget) h, and_r (limit_ok m.limit) (budget_ok m.budget) h)

      leaf_fits : LeafFit w m b next es
      leaf_fits =
          let h = leaf_holds in
          let k = limits h.0 in
          leaf_fit w m b next es met (leaf_end next m b es) (length a) (address_below a next typed.word h.1.0) bounds (call_fits m typed.numbers k.0 k.1) leaf_each (leaves_are.marks leaf_met) h.1.1.1.1

      module _ (s : List ℕ) (mark : ℕ) (later : Later end after s mark) where
        long : end ≤ length s
        long = omega (arith, later.above, later.inside)

        pub leaves-merged : meaning s p ≡ says (leaf_page (bounds_between x y) es)
        leaves-merged =
            answered_says (rows Kinds.Leaves) a next at image p end leaf_built_lem leaf_room_lem after leaf_is s long later.same (leaf_page b es) (leaf_stored a m b next es leaf_fits typed.word leaf_room_lem)
            ∙ ap (λ (z : Borders). says (leaf_page z es)) (bounds_said w left right x y f g)

        -- every page that said something below the old mark still says it
        pub leaves_others : (q : Addr) (r : Page) → meaning w q ≡ says r → meaning s q ≡ says r
        leaves_others = answered_others (rows Kinds.Leaves) a next at image p end leaf_built_lem leaf_room_lem after leaf_is s long later.same

    -- ---- two index pages

    module _ (cs ds : List Child) (d : x.rows ≡ index cs) (e : y.rows ≡ index ds) where
      are_indexes_lem : kinds_in w left right ≡ Kinds.Indexes
      are_indexes_lem = rw (f, g, d, e) refl

      abbrev page : List ℕ
      page = index_image m b es

      index_built_lem : judged {X = Result (Addr × ℕ) Refusal} (rows Kinds.Indexes) Err (Ok (addr next, next + length page)) ≡ Ok (p, end)
      unfolding index_end
      index_built_lem = answers_by Kinds.Indexes are_indexes_lem

      index_is : after ≡ judged (rows Kinds.Indexes) (λ r. a) (put a next page)
      index_is = arena_by_lem Kinds.Indexes are_indexes_lem

      index_holds : All (rows Kinds.Indexes)
      index_holds = all_hold (rows Kinds.Indexes) next (next + length page) p end index_built_lem

      index_room : next + length page ≤ length a
      unfolding index_end
      index_room = leb-true (next + length page) (length a) index_holds.1.1.1.1.1.1.1.1.0

      pub indexes_are : Merged child NoVersion w met es (cs ++ ds)
      indexes_are = indexes_said w left right x y f g bytes cs ds d e

      abbrev Plain : Entry → Type 0
      Plain z = Short z × Carried w z

      index_each : Each Leads es
      index_each =
          each_both Plain NoVersion Leads (λ z c v. record { short = c.0; wide = c.1.wide; plain = v }) es
          (each_both Short (Carried w) Plain (λ z s c. (s, c)) es indexes_are.short indexes_are.carried) indexes_are.kind

      index_fits : IndexFit a m b next es
      index_fits =
          let h = index_holds in
          index_fit a m b next es met (index_end next m b es) (length a) (address a (length a) next typed.word h.1.0) bounds typed.numbers index_each h.1.1.1.1

      module _ (s : List ℕ) (mark : ℕ) (later : Later end after s mark) where
        reach : end ≤ length s
        reach = omega (arith, later.above, later.inside)

        pub indexes-merged : meaning s p ≡ says (index_page (bounds_between x y) es)
        indexes-merged =
            answered_says (rows Kinds.Indexes) a next next page p end index_built_lem index_room after index_is s reach later.same (index_page b es) (index_stored a m b next es index_fits index_room)
            ∙ ap (λ (z : Borders). says (index_page z es)) (bounds_said w left right x y f g)

        pub indexes_others : (q : Addr) (r : Page) → meaning w q ≡ says r → meaning s q ≡ says r
        indexes_others = answered_others (rows Kinds.Indexes) a next next page p end index_built_lem index_room after index_is s reach later.same
