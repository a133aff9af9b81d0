-- Demand 3 after merges, over the input lists: what a page answers that came to be by builds and merges. Its walks both ways, its ranges,
-- its searches; an index page's walk, ranges, floor.
-- Assumes nothing.
use Prim.Native.Nat.{ℕ, ◌-◌, ◌<◌}
use mathlib.Core.Path.{◌≡◌}
use mathlib.Core.List.{List, reverse}
use lib.IntN.{pos}
use lib.ListN.{length, take}
use Rattle.order.specs.declared.Ver.{Ver}
use Rattle.frames.specs.declared.Addr.{Addr}
use Rattle.pages.specs.Meaning.{says, meaning, check_of}
use Rattle.pages.proofs.Says.{says_checked}
use Rattle.build_sources.specs.Source.{Entry, heads}
use Rattle.build_sources.specs.Marks.{Each, Marked, Wide}
use Rattle.build_image.specs.Image.{Borders}
use Rattle.base.specs.Calls.{new_answer, new_arena, new_index_answer, new_index_arena}
use Rattle.sst.specs.Search.{lower_at, search_at, floor_at}
use Rattle.sst.specs.Says.{FloorSays}
use Rattle.walks.specs.Walk.{forward_at, backward_at}
use Rattle.walks.specs.Listed.{entries_of, Lists, Leads}
use Rattle.law_leaf.specs.Grouped.{grouped}
use Rattle.law_index.specs.Children.{children_of}
use Rattle.law_list.specs.Asked.{records_of, having, between, key_is, largest, pos_of, SearchSays}
use Rattle.law_list.proofs.Leaves.{lists-all, lists-all_back, lists_range, lists_back, search_list}
use Rattle.law_list.proofs.Branches.{leads-all, leads_range, floor_list}
use Rattle.law_merged.specs.Trees.{Tree, Made}
use Rattle.law_merged.specs.Joined.{entries_in, bounds_of, leaf_of, index_of}
use Rattle.law_merged.proofs.Trees.{leaf_made, leaf_marked, leaf_wide, index_made}
use Rattle.std.proofs.Common.{Ok}
use Rattle.frames.specs.declared.Refusal.{Refusal}

-- ---- leaves

module _ (t : Tree) (s : List ℕ) (mark : ℕ) (p : Addr) (made : Made new_answer new_arena t s mark p) where
  abbrev b : Borders
  b = bounds_of t

  -- the lists one behind the other
  abbrev es : List Entry
  es = entries_in 0 t

  abbrev pre : List ℕ
  pre = take b.prefix b.lo

  pub merged_says : meaning s p ≡ says (leaf_of t)
  merged_says = leaf_made t s mark p made

  -- the check says sound
  pub merged_sound : check_of (meaning s p) ≡ Ok tt
  merged_sound = says_checked (meaning s p) (leaf_of t) merged_says

  marks : Marked es
  marks = leaf_marked t s mark p made

  wide : Each Wide es
  wide = leaf_wide t s mark p made

  -- walked whole, it lists the records of every list, left to right, each once
  pub merged-lists : Lists s pre (forward_at s p 0 (length (heads es))) (records_of es)
  merged-lists = lists-all s p b es merged_says marks

  -- backward, the last key first, each key newest first
  pub merged-all_back : 0 < length (heads es) → Lists s pre (backward_at s p (pos (length (heads es) - 1)) (pos 0)) (entries_of (reverse (grouped es)))
  merged-all_back h = lists-all_back s p b es merged_says marks h

  -- between any two lower bounds, the records of that range, either way
  pub merged_range : (x y : List ℕ)
      → Lists s pre (forward_at s p (pos_of (lower_at s p x largest)) (pos_of (lower_at s p y largest))) (records_of (having key_is (between x y) es))
  merged_range x y = lists_range s p b es merged_says marks wide x y

  pub merged_back : (x y : List ℕ) → pos_of (lower_at s p x largest) < pos_of (lower_at s p y largest)
      → Lists s pre (backward_at s p (pos (pos_of (lower_at s p y largest) - 1)) (pos (pos_of (lower_at s p x largest)))) (entries_of (reverse (grouped (having key_is (between x y) es))))
  merged_back x y h = lists_back s p b es merged_says marks wide x y h

  -- a search finds the key's first record with all its older versions, from whatever list, or no list has one
  pub merged_search : (probe : List ℕ) → SearchSays s es probe (search_at s p probe)
  merged_search probe = search_list s p b es merged_says marks probe

-- ---- index pages

module _ (t : Tree) (s : List ℕ) (mark : ℕ) (p : Addr) (made : Made new_index_answer new_index_arena t s mark p) where
  abbrev c : Borders
  c = bounds_of t

  abbrev front : List ℕ
  front = take c.prefix c.lo

  pub branches_says : meaning s p ≡ says (index_of t)
  branches_says = index_made t s mark p made

  pub branches_sound : check_of (meaning s p) ≡ Ok tt
  branches_sound = says_checked (meaning s p) (index_of t) branches_says

  pub branches_lists : Leads s front (forward_at s p 0 (length (entries_in 1 t))) (children_of (entries_in 1 t))
  branches_lists = leads-all s p c (entries_in 1 t) branches_says

  pub branches_range : (v : Ver) (x y : List ℕ)
      → Leads s front (forward_at s p (pos_of (lower_at s p x v)) (pos_of (lower_at s p y v))) (children_of (having key_is (between x y) (entries_in 1 t)))
  branches_range v x y = leads_range s p c (entries_in 1 t) branches_says v x y

  pub branches_floor : (probe : List ℕ) → FloorSays (children_of (entries_in 1 t)) probe (floor_at s p probe)
  branches_floor probe = floor_list s p c (entries_in 1 t) branches_says probe
