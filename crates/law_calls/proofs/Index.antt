-- new_intl: where it answers a page, that page says the list, in every arena that keeps the bytes below the new next free address; and
-- its walk, its ranges and its floor are those of the list.
-- Assumes nothing.
use Prim.Native.Nat.{ℕ, ◌+◌, ◌^◌, ◌≤◌, ◌<◌}
use mathlib.Core.Path.{◌≡◌, refl}
use mathlib.Core.Bool.{true}
use mathlib.Core.List.{List}
use borrow.Author.Tests.{leb-true}
use lib.ListN.{length, take}
use Rattle.spans.specs.Span.{put}
use Rattle.numbers.specs.Number.{Bytes}
use Rattle.order.specs.declared.Ver.{Ver}
use Rattle.frames.specs.declared.Addr.{Addr}
use Rattle.frames.specs.Layout.{addr}
use Rattle.pages.specs.Meaning.{Page, says, meaning, check_of}
use Rattle.pages.proofs.Says.{says_checked}
use Rattle.build_sources.specs.Source.{Entry}
use Rattle.build_image.specs.declared.Call.{Call}
use Rattle.build_image.specs.Prefix.{common}
use Rattle.build_image.specs.Image.{Borders, index_image}
use Rattle.build_table.specs.Index.{index_end}
use Rattle.build_image.specs.Table.{judged}
use Rattle.build_image.proofs.Tables.{All}
use Rattle.base.specs.Calls.{bounds_from, listed, new_index_rows, new_index_answer, new_index_arena}
use Rattle.sst.specs.Search.{lower_at, floor_at}
use Rattle.sst.specs.Says.{FloorSays}
use Rattle.walks.specs.Walk.{forward_at}
use Rattle.walks.specs.Listed.{Leads}
use Rattle.law_history.specs.Fit.{Numbers}
use Rattle.law_index.specs.Children.{children_of, index_page, IndexFit}
use Rattle.law_list.specs.Asked.{having, between, key_is, pos_of}
use Rattle.law_list.proofs.Branches.{leads-all, leads_range, floor_list}
use Rattle.law_calls.proofs.Stored.{index_stored}
use Rattle.law_calls.proofs.Listing.{index_each}
use Rattle.law_calls.proofs.Fitting.{bounds_fit, address, index_fit}
use Rattle.law_calls.proofs.Accepted.{all_hold, after-long, answered_says, answered_others}
use Rattle.std.proofs.Common.{Ok, Err, Result}
use Rattle.frames.specs.declared.Refusal.{Refusal}

-- what the types of the call's arguments say: bytes, and numbers of their widths
module _ (a : List ℕ) (next : ℕ) (l : List ℕ) (m : Call) (lo hi : List ℕ) (sibling : ℕ) (bytes : Bytes l) (word : length a < 256 ^ 8) (numbers : Numbers m) (id : sibling < 256 ^ 8) where
  abbrev b : Borders
  b = bounds_from lo hi sibling

  abbrev es : List Entry
  es = listed l (take next a) 1

  abbrev after : List ℕ
  after = new_index_arena a next l m b

  module _ (p : Addr) (end : ℕ) (built : new_index_answer a next l m b ≡ Ok (p, end)) where
    built' : judged {X = Result (Addr × ℕ) Refusal} (new_index_rows a next l m b) Err (Ok (addr next, next + length (index_image m b es))) ≡ Ok (p, end)
    unfolding new_index_answer index_end
    built' = built

    holds : All (new_index_rows a next l m b)
    unfolding index_end
    holds = all_hold (new_index_rows a next l m b) next (next + length (index_image m b es)) p end built'

    room : next + length (index_image m b es) ≤ length a
    unfolding index_end
    room = leb-true (next + length (index_image m b es)) (length a) holds.1.1.1.1.1.1.1.0

    fit : IndexFit a m b next es
    unfolding index_end
    fit =
        let h = holds in
        index_fit a m b next es true (index_end next m b es) (length a) (address a (length a) next word h.1.0) (bounds_fit lo hi sibling id h.0) numbers (index_each l (take next a) bytes) h.1.1.1

    is : after ≡ judged (new_index_rows a next l m b) (λ r. a) (put a next (index_image m b es))
    unfolding new_index_arena
    is = refl

    -- the arena afterwards is one of those that follow
    pub index_long : end ≤ length after
    unfolding index_end
    index_long = after-long (new_index_rows a next l m b) a next next (index_image m b es) p end built' room after is

    -- ---- on every arena that keeps those bytes

    module _ (s : List ℕ) (long : end ≤ length s) (same : take end s ≡ take end after) where
      -- the page says the list
      pub index_says : meaning s p ≡ says (index_page b es)
      unfolding index_end
      index_says = answered_says (new_index_rows a next l m b) a next next (index_image m b es) p end built' room after is s long same (index_page b es) (index_stored a m b next es fit room)

      -- the check says sound
      pub index_sound : check_of (meaning s p) ≡ Ok tt
      index_sound = says_checked (meaning s p) (index_page b es) index_says

      -- every page that said something below the old mark still says it
      pub index_others : (q : Addr) (r : Page) → meaning (take next a) q ≡ says r → meaning s q ≡ says r
      unfolding index_end
      index_others = answered_others (new_index_rows a next l m b) a next next (index_image m b es) p end built' room after is s long same

      abbrev pre : List ℕ
      pre = take (common lo hi) lo

      -- walked whole; between any two lower bounds; floor
      pub index_lists : Leads s pre (forward_at s p 0 (length es)) (children_of es)
      index_lists = leads-all s p b es index_says

      pub index_range : (v : Ver) (x y : List ℕ)
          → Leads s pre (forward_at s p (pos_of (lower_at s p x v)) (pos_of (lower_at s p y v))) (children_of (having key_is (between x y) es))
      index_range v x y = leads_range s p b es index_says v x y

      pub index_floor : (probe : List ℕ) → FloorSays (children_of es) probe (floor_at s p probe)
      index_floor probe = floor_list s p b es index_says probe
