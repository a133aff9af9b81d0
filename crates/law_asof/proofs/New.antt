-- new_leaf: where it answers a page, that page answers as of a version what picking from the list gives, in every arena that keeps the
-- bytes below the new next free address.
-- Assumes nothing.
use Prim.Native.Nat.{ℕ, ◌^◌, ◌≤◌, ◌<◌}
use mathlib.Core.Path.{◌≡◌, refl}
use mathlib.Core.List.{List}
use native.Mathlib.Omega.{arith}
use lib.ListN.{length, take}
use Rattle.numbers.specs.Number.{Bytes}
use Rattle.order.specs.declared.Ver.{Ver}
use Rattle.frames.specs.declared.Addr.{Addr}
use Rattle.frames.specs.declared.Refusal.{Refusal}
use Rattle.pages.specs.Meaning.{says, meaning}
use Rattle.build_sources.specs.Lists.{first_of}
use Rattle.build_sources.specs.Source.{Entry}
use Rattle.build_sources.specs.Marks.{Marked}
use Rattle.build_sources.proofs.Marked.{list-wide, marked}
use Rattle.build_image.specs.declared.Call.{Call}
use Rattle.build_image.specs.Image.{Borders}
use Rattle.base.specs.Calls.{bounds_from, listed, new_answer, new_arena}
use Rattle.sst.specs.Search.{search_at}
use Rattle.asof.specs.AsOf.{as_of_at}
use Rattle.law_history.specs.Fit.{Numbers}
use Rattle.law_leaf.specs.Grouped.{leaf_page}
use Rattle.law_list.specs.Asked.{records_of, largest}
use Rattle.law_calls.proofs.New.{new_says}
use Rattle.law_asof.specs.Asked.{AsOfSays}
use Rattle.law_asof.proofs.Searched.{as_found}
use Rattle.law_asof.proofs.Leaves.{as_of_list, as_of_answers, as_of_largest}
use Rattle.std.proofs.Common.{Ok, Err}

-- what the types of the call's arguments say: bytes, and numbers of their widths
module _ (a : List ℕ) (next : ℕ) (l : List ℕ) (m : Call) (lo hi : List ℕ) (sibling : ℕ) (bytes : Bytes l) (word : length a < 256 ^ 8) (numbers : Numbers m) (id : sibling < 256 ^ 8)
    (p : Addr) (end : ℕ) (built : new_answer a next l m (bounds_from lo hi sibling) ≡ Ok (p, end))
    (s : List ℕ) (long : end ≤ length s) (same : take end s ≡ take end (new_arena a next l m (bounds_from lo hi sibling))) (probe : List ℕ) where
  abbrev b : Borders
  b = bounds_from lo hi sibling

  abbrev es : List Entry
  es = listed l (take next a) 0

  means : meaning s p ≡ says (leaf_page b es)
  means = new_says a next l m lo hi sibling bytes word numbers id p end built s long same

  marks : Marked es
  marks = marked l (take next a) (first_of 0) refl

  pub new_as_of : (v : Ver) → AsOfSays s (records_of es) probe v (as_of_at s p probe v)
  new_as_of = as_of_list s p b es means marks probe

  pub new_as_of_answers : (v : Ver) (r : Refusal) → as_of_at s p probe v ≡ Err r → ⊥
  new_as_of_answers = as_of_answers s p b es means marks probe

  pub new_as_of_largest : as_of_at s p probe largest ≡ as_found (search_at s p probe)
  new_as_of_largest = as_of_largest s p b es means marks probe (list-wide l (take next a) (first_of 0) (λ k. omega arith) bytes)
