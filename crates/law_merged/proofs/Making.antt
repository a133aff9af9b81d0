-- The laws about trees speak of every call: one that answers a page makes a tree of it in the arena that it leaves, and every call, refused
-- or not, keeps what lies below its next free address, so that trees made before stay made.
-- Assumes nothing.
use Prim.Native.Nat.{ℕ, ◌^◌, ◌≤◌, ◌<◌}
use mathlib.Core.Path.{◌≡◌, refl}
use mathlib.Core.Bool.{Bool, true, false, cond}
use mathlib.Core.List.{List, [], ◌∷◌}
use native.Mathlib.Omega.{arith}
use borrow.Author.Tests.{leb-true}
use lib.ListN.{length, take}
use Rattle.spans.specs.Span.{put}
use Rattle.spans.proofs.Put.{length-put, take_put}
use Rattle.numbers.specs.Number.{Bytes}
use Rattle.frames.specs.declared.Addr.{Addr}
use Rattle.frames.specs.declared.Refusal.{Refusal}
use Rattle.frames.specs.Layout.{addr}
use Rattle.build_image.specs.declared.Call.{Call}
use Rattle.build_image.specs.Image.{Borders, leaf_image, index_image}
use Rattle.build_image.specs.Table.{Row, judged}
use Rattle.base.specs.Calls.{listed, new_rows, new_answer, new_arena, new_index_rows, new_index_answer, new_index_arena}
use Rattle.merge.specs.Merge.{bounds_in, merged}
use Rattle.merge.specs.Answer.{kinds_in, end_by, place_by, image_by, merge_rows, merge_answer, merge_arena}
use Rattle.law_calls.proofs.New.{new_long}
use Rattle.law_calls.proofs.Index.{index_long}
use Rattle.law_calls.proofs.Accepted.{all_hold, end_is}
use Rattle.law_merged.specs.Trees.{Input, Tree, built, joined, Typed, Answer, Arena, boundaries_of, Made}
use Rattle.law_merged.proofs.Trees.{made_later}
use Rattle.std.proofs.Common.{Ok, Err, Result}

-- ---- what every call keeps

-- an arena of the same length with the same bytes below next
pub record Kept (a : List ℕ) (next : ℕ) (after : List ℕ) : Type 0 where
  pub long : length after ≡ length a
  pub same : (mark : ℕ) → mark ≤ next → take mark after ≡ take mark a

kept_by : (b : Bool) (a : List ℕ) (next : ℕ) (x : List ℕ) → Kept a next x → Kept a next (cond b x a)
kept_by true a next x h = h
kept_by false a next x h = record { long = refl; same = λ mark l. refl }

kept : (rows : List Row) (a : List ℕ) (next : ℕ) (image : List ℕ) → Kept a next (judged rows (λ (r : Refusal). a) (put a next image))
kept [] a next image = record { long = length-put a next image; same = λ mark l. take_put mark a next image l }
kept (r ∷ rs) a next image = kept_by r.holds a next (judged rs (λ (k : Refusal). a) (put a next image)) (kept rs a next image)

pub new_keeps : (a : List ℕ) (next : ℕ) (l : List ℕ) (m : Call) (b : Borders) → Kept a next (new_arena a next l m b)
unfolding new_arena
new_keeps a next l m b = kept (new_rows a next l m b) a next (leaf_image m b next (listed l (take next a) 0))

pub index_keeps : (a : List ℕ) (next : ℕ) (l : List ℕ) (m : Call) (b : Borders) → Kept a next (new_index_arena a next l m b)
unfolding new_index_arena
index_keeps a next l m b = kept (new_index_rows a next l m b) a next (index_image m b (listed l (take next a) 1))

pub merge_keeps : (a : List ℕ) (next : ℕ) (m : Call) (left right : Addr) → Kept a next (merge_arena a next m left right)
unfolding merge_arena
merge_keeps a next m left right =
    kept (merge_rows a next m left right) a next (image_by next m (bounds_in (take next a) left right) (merged (take next a) left right) (kinds_in (take next a) left right))

-- so a page that came to be below next has come to be afterwards too, with any next free address from there on
pub stays_made : (answer : Answer) (arena : Arena) (t : Tree) (a after : List ℕ) (next mark : ℕ) (p : Addr) → Kept a next after → next ≤ mark → mark ≤ length after → Made answer arena t a next p → Made answer arena t after mark p
stays_made answer arena t a after next mark p k l h x = made_later answer arena t a after next mark p l h (k.same next (omega arith)) x

-- ---- what a call makes that answers a page

module _ (a : List ℕ) (next : ℕ) (m : Call) (i : Input) (typed : Typed a m) (bytes : Bytes i.list) (id : i.sibling < 256 ^ 8) (p : Addr) (end : ℕ) where
  makes : (answer : Answer) (arena : Arena) → answer a next i.list m (boundaries_of i) ≡ Ok (p, end) → end ≤ length (arena a next i.list m (boundaries_of i))
      → Made answer arena (built i) (arena a next i.list m (boundaries_of i)) end p
  unfolding Made
  makes answer arena h l =
      record { was = a; next = next; call = m; end = end; typed = typed; bytes = bytes; id = id; answers = h; later = record { above = omega arith; inside = l; same = refl } }

  pub new_makes : new_answer a next i.list m (boundaries_of i) ≡ Ok (p, end) → Made new_answer new_arena (built i) (new_arena a next i.list m (boundaries_of i)) end p
  new_makes h = makes new_answer new_arena h (new_long a next i.list m i.lo i.hi i.sibling bytes typed.word typed.numbers id p end h)

  pub index_makes : new_index_answer a next i.list m (boundaries_of i) ≡ Ok (p, end) → Made new_index_answer new_index_arena (built i) (new_index_arena a next i.list m (boundaries_of i)) end p
  index_makes h = makes new_index_answer new_index_arena h (index_long a next i.list m i.lo i.hi i.sibling bytes typed.word typed.numbers id p end h)

module _ (a : List ℕ) (next : ℕ) (m : Call) (left right : Addr) (p : Addr) (end : ℕ) (h : merge_answer a next m left right ≡ Ok (p, end)) where
  abbrev to : ℕ
  to = end_by next m (bounds_in (take next a) left right) (merged (take next a) left right) (kinds_in (take next a) left right)

  abbrev at : ℕ
  at = place_by next m (merged (take next a) left right) (kinds_in (take next a) left right)

  answers : judged {X = Result (Addr × ℕ) Refusal} (merge_rows a next m left right) Err (Ok (addr at, to)) ≡ Ok (p, end)
  unfolding merge_answer
  answers = h

  merge_long : end ≤ length (merge_arena a next m left right)
  merge_long =
      let rows = merge_rows a next m left right in
      omega (arith, end_is rows at to p end answers, leb-true to (length a) (all_hold rows at to p end answers).1.1.1.1.1.1.1.1.0, (merge_keeps a next m left right).long)

  pub merge_makes : (answer : Answer) (arena : Arena) (t u : Tree) → Typed a m → Made answer arena t a next left → Made answer arena u a next right
      → Made answer arena (joined t u) (merge_arena a next m left right) end p
  unfolding Made
  merge_makes answer arena t u typed x y =
      record {
        was = a;
        next = next;
        call = m;
        end = end;
        typed = typed;
        left = left;
        right = right;
        lefts = x;
        rights = y;
        answers = h;
        later = record { above = omega arith; inside = merge_long; same = refl };
      }
