-- How a page comes to be: built from a list, or merged from two pages that came to be so, each call at any time after the calls before.
-- Assumes nothing.
use Rattle.std.specs.Prelude.{ℕ, ◌^◌, ◌≤◌, ◌<◌, ◌≡◌, List, length, take, Result, Ok}
use Rattle.numbers.specs.Number.{Bytes}
use Rattle.frames.specs.declared.Addr.{Addr}
use Rattle.build_image.specs.declared.Call.{Call}
use Rattle.build_image.specs.Image.{Borders}
use Rattle.base.specs.Calls.{bounds_from}
use Rattle.merge.specs.Answer.{merge_answer, merge_arena}
use Rattle.law_history.specs.Fit.{Numbers}
use Rattle.frames.specs.declared.Refusal.{Refusal}

-- what a build is handed: a list, boundaries, a sibling's page id
pub record Input : Type 0 where
  pub list : List ℕ
  pub lo : List ℕ
  pub hi : List ℕ
  pub sibling : ℕ

pub data Tree : Type 0 where
  built : Input → Tree
  joined : Tree → Tree → Tree

-- ---- the calls

-- what the types of a call's arguments say: bytes, and numbers of their widths
pub record Typed (a : List ℕ) (m : Call) : Type 0 where
  pub bytes : Bytes a
  pub word : length a < 256 ^ 8
  pub numbers : Numbers m

-- s is an arena at any later time: its next free address, mark, is at or above the one that the call left, and the bytes below that
-- one are those that the call left
pub record Later (end : ℕ) (after s : List ℕ) (mark : ℕ) : Type 0 where
  pub above : end ≤ mark
  pub inside : mark ≤ length s
  pub same : take end s ≡ take end after

-- a build's answer and arena, by arena, next free address, list, call and boundaries
abbrev pub Answer : Type 0
Answer = List ℕ → ℕ → List ℕ → Call → Borders → Result (Addr × ℕ) Refusal

abbrev pub Arena : Type 0
Arena = List ℕ → ℕ → List ℕ → Call → Borders → List ℕ

abbrev pub boundaries_of : Input → Borders
boundaries_of i = bounds_from i.lo i.hi i.sibling

-- p was answered by a build from i, and s, mark are later
pub record BuiltBy (answer : Answer) (arena : Arena) (i : Input) (s : List ℕ) (mark : ℕ) (p : Addr) : Type 0 where
  pub was : List ℕ
  pub next : ℕ
  pub call : Call
  pub end : ℕ
  pub typed : Typed was call
  pub bytes : Bytes i.list
  pub id : i.sibling < 256 ^ 8
  pub answers : answer was next i.list call (boundaries_of i) ≡ Ok (p, end)
  pub later : Later end (arena was next i.list call (boundaries_of i)) s mark

-- p was answered by a merge of two pages that came to be in the arena that it was lent, and s, mark are later
pub record JoinedBy (Left Right : List ℕ → ℕ → Addr → Type 0) (s : List ℕ) (mark : ℕ) (p : Addr) : Type 0 where
  pub was : List ℕ
  pub next : ℕ
  pub call : Call
  pub end : ℕ
  pub typed : Typed was call
  pub left : Addr
  pub right : Addr
  pub lefts : Left was next left
  pub rights : Right was next right
  pub answers : merge_answer was next call left right ≡ Ok (p, end)
  pub later : Later end (merge_arena was next call left right) s mark

-- the page at p of the arena s, whose next free address is mark, came to be as the tree tells
unfoldable pub Made : Answer → Arena → Tree → List ℕ → ℕ → Addr → Type 0
Made answer arena (built i) s mark p = BuiltBy answer arena i s mark p
Made answer arena (joined t u) s mark p = JoinedBy (Made answer arena t) (Made answer arena u) s mark p
