-- new_leaf: where it answers a page, that page says the list, in every arena that keeps the bytes below the new next free address; and
-- its walks, its ranges and its searches are those of the list.
-- Assumes nothing.
use Prim.Native.Nat.{ℕ, ◌-◌, ◌^◌, ◌≤◌, ◌<◌}
use mathlib.Core.Path.{◌≡◌, refl}
use mathlib.Core.Bool.{Bool, true, ◌&&◌}
use mathlib.Core.List.{List, reverse}
use lib.IntN.{pos}
use lib.ListN.{length, take}
use Rattle.numbers.specs.Number.{Bytes}
use Rattle.frames.specs.declared.Addr.{Addr}
use Rattle.frames.proofs.Frames.{and_l, and_r}
use Rattle.pages.specs.Meaning.{Page, says, meaning, check_of}
use Rattle.pages.proofs.Says.{says_checked}
use Rattle.build_sources.specs.Source.{Entry, heads}
use Rattle.build_image.specs.declared.Call.{Call}
use Rattle.build_image.specs.Prefix.{common}
use Rattle.build_image.specs.Image.{Borders}
use Rattle.build_totals.specs.Totals.{leaf_at}
use Rattle.build_image.specs.Call.{limit_ok, budget_ok}
use Rattle.build_table.specs.Table.{bounds_ok, leaf_limits}
use Rattle.build_table.specs.Leaf.{leaf_end}
use Rattle.base.specs.Calls.{bounds_from, listed, new_answer, new_arena}
use Rattle.sst.specs.Search.{lower_at, search_at}
use Rattle.walks.specs.Walk.{forward_at, backward_at}
use Rattle.walks.specs.Listed.{entries_of, Lists}
use Rattle.law_history.specs.Fit.{Numbers}
use Rattle.law_leaf.specs.Grouped.{grouped, leaf_page}
use Rattle.law_list.specs.Asked.{records_of, having, between, key_is, largest, pos_of, SearchSays}
use Rattle.law_calls.proofs.Judged.{Limits, leaf_long, leaf_says, leaf_others, leaf_lists, leaf_all_back, leaf_range, leaf_back, leaf_search}
use Rattle.std.proofs.Common.{Ok}
use Rattle.frames.specs.declared.Refusal.{Refusal}

limits : (m : Call) (lo hi : List ℕ) → leaf_limits m.limit m.budget lo hi ≡ true → Limits m lo hi
limits m lo hi e =
    let f = and_l (limit_ok m.limit && budget_ok m.budget) (bounds_ok lo hi) e in
    record { limit = and_l (limit_ok m.limit) (budget_ok m.budget) f; budget = and_r (limit_ok m.limit) (budget_ok m.budget) f; boundaries = and_r (limit_ok m.limit && budget_ok m.budget) (bounds_ok lo hi) e }

-- the arena afterwards is one of those that the laws below speak of
pub new_long : (a : List ℕ) (next : ℕ) (l : List ℕ) (m : Call) (lo hi : List ℕ) (sibling : ℕ) → Bytes l → length a < 256 ^ 8 → Numbers m → sibling < 256 ^ 8
    → (p : Addr) (end : ℕ) → new_answer a next l m (bounds_from lo hi sibling) ≡ Ok (p, end) → end ≤ length (new_arena a next l m (bounds_from lo hi sibling))
unfolding new_answer new_arena leaf_end leaf_at
new_long a next l m lo hi sibling bytes word numbers id p end built =
    leaf_long a next l m lo hi sibling bytes word numbers id (leaf_limits m.limit m.budget lo hi) (limits m lo hi) p end built (new_arena a next l m (bounds_from lo hi sibling)) refl

-- what the types of the call's arguments say: bytes, and numbers of their widths
module _ (a : List ℕ) (next : ℕ) (l : List ℕ) (m : Call) (lo hi : List ℕ) (sibling : ℕ) (bytes : Bytes l) (word : length a < 256 ^ 8) (numbers : Numbers m) (id : sibling < 256 ^ 8)
    (p : Addr) (end : ℕ) (built : new_answer a next l m (bounds_from lo hi sibling) ≡ Ok (p, end))
    (s : List ℕ) (long : end ≤ length s) (same : take end s ≡ take end (new_arena a next l m (bounds_from lo hi sibling))) where
  abbrev b : Borders
  b = bounds_from lo hi sibling

  abbrev es : List Entry
  es = listed l (take next a) 0

  abbrev pre : List ℕ
  pre = take (common lo hi) lo

  abbrev ok : Bool
  ok = leaf_limits m.limit m.budget lo hi

  -- the page says the list
  pub new_says : meaning s p ≡ says (leaf_page b es)
  unfolding new_answer new_arena leaf_end leaf_at
  new_says = leaf_says a next l m lo hi sibling bytes word numbers id ok (limits m lo hi) p end built (new_arena a next l m b) refl s long same

  -- the check says sound
  pub new_sound : check_of (meaning s p) ≡ Ok tt
  new_sound = says_checked (meaning s p) (leaf_page b es) new_says

  -- every page that said something below the old mark still says it
  pub new_others : (q : Addr) (r : Page) → meaning (take next a) q ≡ says r → meaning s q ≡ says r
  unfolding new_answer new_arena leaf_end leaf_at
  new_others = leaf_others a next l m lo hi sibling bytes word numbers id ok (limits m lo hi) p end built (new_arena a next l m b) refl s long same

  -- walked whole, it lists the list
  pub new_lists : Lists s pre (forward_at s p 0 (length (heads es))) (records_of es)
  unfolding new_answer new_arena leaf_end leaf_at
  new_lists = leaf_lists a next l m lo hi sibling bytes word numbers id ok (limits m lo hi) p end built (new_arena a next l m b) refl s long same

  -- backward, the last key first, each key newest first
  pub new_all_back : 0 < length (heads es) → Lists s pre (backward_at s p (pos (length (heads es) - 1)) (pos 0)) (entries_of (reverse (grouped es)))
  unfolding new_answer new_arena leaf_end leaf_at
  new_all_back = leaf_all_back a next l m lo hi sibling bytes word numbers id ok (limits m lo hi) p end built (new_arena a next l m b) refl s long same

  -- between any two lower bounds, the list's records of that range, either way
  pub new_range : (x y : List ℕ)
      → Lists s pre (forward_at s p (pos_of (lower_at s p x largest)) (pos_of (lower_at s p y largest))) (records_of (having key_is (between x y) es))
  unfolding new_answer new_arena leaf_end leaf_at
  new_range = leaf_range a next l m lo hi sibling bytes word numbers id ok (limits m lo hi) p end built (new_arena a next l m b) refl s long same

  pub new_back : (x y : List ℕ) → pos_of (lower_at s p x largest) < pos_of (lower_at s p y largest)
      → Lists s pre (backward_at s p (pos (pos_of (lower_at s p y largest) - 1)) (pos (pos_of (lower_at s p x largest)))) (entries_of (reverse (grouped (having key_is (between x y) es))))
  unfolding new_answer new_arena leaf_end leaf_at
  new_back = leaf_back a next l m lo hi sibling bytes word numbers id ok (limits m lo hi) p end built (new_arena a next l m b) refl s long same

  -- a search finds the key's first record in the list with all its older versions, or the list has none
  pub new_search : (probe : List ℕ) → SearchSays s es probe (search_at s p probe)
  unfolding new_answer new_arena leaf_end leaf_at
  new_search = leaf_search a next l m lo hi sibling bytes word numbers id ok (limits m lo hi) p end built (new_arena a next l m b) refl s long same
