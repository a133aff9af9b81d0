-- After merges, over the input lists one behind the other: what a leaf page answers as of a version that came to be by builds and merges.
-- Assumes nothing.
use Prim.Native.Nat.{ℕ}
use mathlib.Core.Path.{◌≡◌}
use mathlib.Core.List.{List}
use Rattle.order.specs.declared.Ver.{Ver}
use Rattle.frames.specs.declared.Addr.{Addr}
use Rattle.frames.specs.declared.Refusal.{Refusal}
use Rattle.build_sources.specs.Source.{Entry}
use Rattle.build_image.specs.Image.{Borders}
use Rattle.base.specs.Calls.{new_answer, new_arena}
use Rattle.sst.specs.Search.{search_at}
use Rattle.asof.specs.AsOf.{as_of_at}
use Rattle.law_list.specs.Asked.{records_of, largest}
use Rattle.law_merged.specs.Trees.{Tree, Made}
use Rattle.law_merged.specs.Joined.{entries_in, bounds_of}
use Rattle.law_merged.proofs.Trees.{leaf_made, leaf_marked, leaf_wide}
use Rattle.law_asof.specs.Asked.{AsOfSays}
use Rattle.law_asof.proofs.Searched.{as_found}
use Rattle.law_asof.proofs.Leaves.{as_of_list, as_of_answers, as_of_largest}
use Rattle.std.proofs.Common.{Err}

module _ (t : Tree) (s : List ℕ) (mark : ℕ) (p : Addr) (made : Made new_answer new_arena t s mark p) (probe : List ℕ) where
  abbrev b : Borders
  b = bounds_of t

  -- the lists one behind the other
  abbrev es : List Entry
  es = entries_in 0 t

  -- from whatever list the record came
  pub merged_as_of : (v : Ver) → AsOfSays s (records_of es) probe v (as_of_at s p probe v)
  merged_as_of = as_of_list s p b es (leaf_made t s mark p made) (leaf_marked t s mark p made) probe

  pub merged_as_of_answers : (v : Ver) (r : Refusal) → as_of_at s p probe v ≡ Err r → ⊥
  merged_as_of_answers = as_of_answers s p b es (leaf_made t s mark p made) (leaf_marked t s mark p made) probe

  pub merged_as_of_largest : as_of_at s p probe largest ≡ as_found (search_at s p probe)
  merged_as_of_largest = as_of_largest s p b es (leaf_made t s mark p made) (leaf_marked t s mark p made) probe (leaf_wide t s mark p made)
