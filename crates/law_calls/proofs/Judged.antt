-- A leaf build from a record list by document 01's table: where it answers a page, all rows held, and that page says the list.
-- Assumes nothing.
use Rattle.frames.specs.declared.Refusal.{Refusal}
use Prim.Native.Nat.{ℕ, ◌+◌, ◌-◌, ◌^◌, ◌≤◌, ◌<◌}
use mathlib.Core.Path.{◌≡◌, refl}
use mathlib.Core.Bool.{Bool, true}
use mathlib.Core.List.{List, reverse}
use native.Mathlib.Omega.{arith}
use borrow.Author.Tests.{leb-true}
use lib.IntN.{pos}
use lib.ListN.{length, take}
use Rattle.spans.specs.Span.{put}
use Rattle.numbers.specs.Number.{Bytes}
use Rattle.frames.specs.declared.Addr.{Addr}
use Rattle.frames.specs.Layout.{addr}
use Rattle.pages.specs.Meaning.{Page, says, meaning}
use Rattle.build_sources.specs.Lists.{first_of}
use Rattle.build_sources.specs.Source.{Entry, olds, heads}
use Rattle.build_sources.specs.Marks.{Each, Wide}
use Rattle.build_sources.proofs.Marked.{list-wide, marked}
use Rattle.build_image.specs.declared.Call.{Call}
use Rattle.build_image.specs.Prefix.{common}
use Rattle.build_image.specs.Image.{Borders, cuts_of, history_end, leaf_size, leaf_room, leaf_image}
use Rattle.build_image.specs.Call.{limit_ok, budget_ok}
use Rattle.build_image.specs.Table.{Row, judged}
use Rattle.build_table.specs.Table.{bounds_ok, entry_rows}
use Rattle.build_image.proofs.Tables.{All}
use Rattle.base.specs.Calls.{bounds_from, listed, list_rows}
use Rattle.sst.specs.Search.{lower_at, search_at}
use Rattle.walks.specs.Walk.{forward_at, backward_at}
use Rattle.walks.specs.Listed.{entries_of, Lists}
use Rattle.law_history.specs.Fit.{Numbers}
use Rattle.law_leaf.specs.Grouped.{grouped, leaf_page, LeafFit}
use Rattle.law_list.specs.Asked.{records_of, having, between, key_is, largest, pos_of, SearchSays}
use Rattle.law_list.proofs.Leaves.{lists-all, lists-all_back, lists_range, lists_back, search_list}
use Rattle.law_calls.proofs.Stored.{leaf_stored}
use Rattle.law_calls.proofs.Listing.{record_each}
use Rattle.law_calls.proofs.Fitting.{bounds_fit, call_fits, address_below, leaf_fit}
use Rattle.law_calls.proofs.Accepted.{all_hold, after-long, answered_says, answered_others}
use Rattle.std.proofs.Common.{Ok, Err, Result}

-- what row 1 asks of a leaf build
pub record Limits (m : Call) (lo hi : List ℕ) : Type 0 where
  pub limit : limit_ok m.limit ≡ true
  pub budget : budget_ok m.budget ≡ true
  pub boundaries : bounds_ok lo hi ≡ true

module _ (a : List ℕ) (next : ℕ) (l : List ℕ) (m : Call) (lo hi : List ℕ) (sibling : ℕ) (bytes : Bytes l) (word : length a < 256 ^ 8) (numbers : Numbers m) (id : sibling < 256 ^ 8)
    (ok : Bool) (limits : ok ≡ true → Limits m lo hi) where
  abbrev b : Borders
  b = bounds_from lo hi sibling

  abbrev es : List Entry
  es = listed l (take next a) 0

  abbrev image : List ℕ
  image = leaf_image m b next es

  abbrev rows : List Row
  rows = list_rows ok a next l 0 (entry_rows true b es (leaf_size m b es + leaf_room m es) (next + length image) (length a))

  abbrev at : ℕ
  at = history_end m.limit next (cuts_of m es) (olds es)

  module _ (p : Addr) (end : ℕ) (built : judged {X = Result (Addr × ℕ) Refusal} rows Err (Ok (addr at, next + length image)) ≡ Ok (p, end))
      (after : List ℕ) (is : after ≡ judged rows (λ r. a) (put a next image)) where
    holds : All rows
    holds = all_hold rows at (next + length image) p end built

    room : next + length image ≤ length a
    room = leb-true (next + length image) (length a) holds.1.1.1.1.1.1.1.0

    fit : LeafFit (take next a) m b next es
    fit =
        let h = holds in
        let k = limits h.0 in
        leaf_fit (take next a) m b next es true (next + length image) (length a) (address_below a next word h.1.0) (bounds_fit lo hi sibling id k.boundaries)
        (call_fits m numbers k.limit k.budget) (record_each l (take next a) bytes (take next a)) (marked l (take next a) (first_of 0) refl) h.1.1.1

    -- the arena afterwards is one of those that follow
    pub leaf_long : end ≤ length after
    leaf_long = after-long rows a next at image p end built room after is

    -- ---- on every arena that keeps the bytes below the new next free address

    module _ (s : List ℕ) (long : end ≤ length s) (same : take end s ≡ take end after) where
      abbrev pre : List ℕ
      pre = take (common lo hi) lo

      wide : Each Wide es
      wide = list-wide l (take next a) (first_of 0) (λ k. omega arith) bytes

      -- the page says the list
      pub leaf_says : meaning s p ≡ says (leaf_page b es)
      leaf_says = answered_says rows a next at image p end built room after is s long same (leaf_page b es) (leaf_stored a m b next es fit word room)

      -- every page that said something below the old mark still says it
      pub leaf_others : (q : Addr) (r : Page) → meaning (take next a) q ≡ says r → meaning s q ≡ says r
      leaf_others = answered_others rows a next at image p end built room after is s long same

      -- walked whole, it lists the list
      pub leaf_lists : Lists s pre (forward_at s p 0 (length (heads es))) (records_of es)
      leaf_lists = lists-all s p b es leaf_says fit.marks

      -- backward, the last key first, each key newest first
      pub leaf_all_back : 0 < length (heads es) → Lists s pre (backward_at s p (pos (length (heads es) - 1)) (pos 0)) (entries_of (reverse (grouped es)))
      leaf_all_back l = lists-all_back s p b es leaf_says fit.marks l

      -- between any two lower bounds, the list's records of that range, either way
      pub leaf_range : (x y : List ℕ)
          → Lists s pre (forward_at s p (pos_of (lower_at s p x largest)) (pos_of (lower_at s p y largest))) (records_of (having key_is (between x y) es))
      leaf_range x y = lists_range s p b es leaf_says fit.marks wide x y

      pub leaf_back : (x y : List ℕ) → pos_of (lower_at s p x largest) < pos_of (lower_at s p y largest)
          → Lists s pre (backward_at s p (pos (pos_of (lower_at s p y largest) - 1)) (pos (pos_of (lower_at s p x largest)))) (entries_of (reverse (grouped (having key_is (between x y) es))))
      leaf_back x y h = lists_back s p b es leaf_says fit.marks wide x y h

      -- a search finds the key's first record in the list with all its older versions, or the list has none
      pub leaf_search : (probe : List ℕ) → SearchSays s es probe (search_at s p probe)
      leaf_search probe = search_list s p b es leaf_says fit.marks probe
