-- Every page that came to be by builds and merges says what was handed in: the records of all lists, left to right, between the boundaries
-- of the first and the last.
-- Assumes nothing.
use Prim.Native.Nat.{ℕ, ◌≤◌}
use mathlib.Core.Path.{◌≡◌, refl, sym, ap, ap₂, ◌∙◌}
use mathlib.Core.Bool.{true}
use mathlib.Core.List.{List, [], ◌++◌}
use native.Mathlib.Omega.{arith}
use lib.ListN.{length, take}
use lib.Seq.{take-take, length-take-le}
use Rattle.order.specs.Bounds.{meet}
use Rattle.frames.specs.declared.Addr.{Addr}
use Rattle.frames.specs.Layout.{page_id}
use Rattle.frames.proofs.Frames.{and_l}
use Rattle.pages.specs.Meaning.{Head, Child, Page, leaf, index, says, meaning}
use Rattle.pages.proofs.Says.{lo_says, hi_says}
use Rattle.build_sources.specs.Lists.{first_of}
use Rattle.build_sources.specs.Source.{Entry}
use Rattle.build_sources.specs.Marks.{Each, Marked, Wide}
use Rattle.build_sources.specs.Judged.{enclosed}
use Rattle.build_sources.proofs.Marked.{list-wide, marked}
use Rattle.walks.specs.Listed.{Entry as Listed}
use Rattle.build_image.specs.declared.Call.{Call}
use Rattle.build_image.specs.Image.{Borders}
use Rattle.build_image.specs.Call.{built_number}
use Rattle.base.specs.Calls.{listed, new_answer, new_arena, new_index_answer, new_index_arena}
use Rattle.base.proofs.Refusing.{new_accepted}
use Rattle.merge.specs.Merge.{bounds_between, bounds_in, meet_in, merged}
use Rattle.merge.specs.Answer.{merge_answer, merge_arena}
use Rattle.merge.proofs.Refusing.{merge_accepted}
use Rattle.merge.proofs.Said.{meet_said}
use Rattle.law_leaf.specs.Grouped.{grouped, leaf_page}
use Rattle.law_index.specs.Children.{children_of, index_page}
use Rattle.law_list.specs.Asked.{records_of}
use Rattle.law_list.proofs.Flat.{flat_grouped}
use Rattle.law_calls.proofs.New.{new_says}
use Rattle.law_calls.proofs.Index.{index_says}
use Rattle.law_merged.specs.Trees.{Input, Tree, built, joined, Typed, Later, Answer, Arena, boundaries_of, BuiltBy, Made}
use Rattle.law_merged.specs.Joined.{all_of, entries_in, leftmost, rightmost, bounds_of, leaf_of, index_of}
use Rattle.law_leaf.proofs.Hinted.{each_append}
use Rattle.law_merged.proofs.Lists.{list_anywhere, bare-records, child_children, records-append, children_append, same_groups}
use Rattle.law_rows.proofs.Neighbours.{enclosed-append, marked_append}
use Rattle.law_merged.proofs.Pages.{leaves_are, leaves-merged, indexes_are, indexes-merged}
use Rattle.std.proofs.Common.{Ok}

-- ---- later still

later-on : (end : ℕ) (after s s' : List ℕ) (mark mark' : ℕ) → mark ≤ mark' → mark' ≤ length s' → take mark s' ≡ take mark s → Later end after s mark → Later end after s' mark'
later-on end after s s' mark mark' h k e l =
    record {
      above = omega (arith, l.above);
      inside = k;
      same = sym (take-take end mark s' l.above) ∙ ap (take end) e ∙ take-take end mark s l.above ∙ l.same;
    }

module _ (answer : Answer) (arena : Arena) where
  -- what came to be stays so, whatever is stored at or above the mark
  pub made_later : (t : Tree) (s s' : List ℕ) (mark mark' : ℕ) (p : Addr) → mark ≤ mark' → mark' ≤ length s' → take mark s' ≡ take mark s → Made answer arena t s mark p → Made answer arena t s' mark' p
  unfolding Made
  made_later (built i) s s' mark mark' p h k e x =
      record {
        was = x.was;
        next = x.next;
        call = x.call;
        end = x.end;
        typed = x.typed;
        bytes = x.bytes;
        id = x.id;
        answers = x.answers;
        later = later-on x.end (arena x.was x.next i.list x.call (boundaries_of i)) s s' mark mark' h k e x.later;
      }
  made_later (joined t u) s s' mark mark' p h k e x =
      record {
        was = x.was;
        next = x.next;
        call = x.call;
        end = x.end;
        typed = x.typed;
        left = x.left;
        right = x.right;
        lefts = x.lefts;
        rights = x.rights;
        answers = x.answers;
        later = later-on x.end (merge_arena x.was x.next x.call x.left x.right) s s' mark mark' h k e x.later;
      }

  made_inside : (t : Tree) (s : List ℕ) (mark : ℕ) (p : Addr) → Made answer arena t s mark p → mark ≤ length s
  unfolding Made
  made_inside (built i) s mark p x = x.later.inside
  made_inside (joined t u) s mark p x = x.later.inside

  -- so also below the mark alone
  below : (t : Tree) (s : List ℕ) (mark : ℕ) (p : Addr) → Made answer arena t s mark p → Made answer arena t (take mark s) mark p
  below t s mark p x =
      let l : length (take mark s) ≡ mark = length-take-le mark s (made_inside t s mark p x) in
      made_later t s (take mark s) mark mark p (omega arith) (omega (arith, l)) (take-take mark mark s (omega arith)) x

  -- what holds of a build's page, and goes from two pages to their merged one, holds of every tree's
  module _ (Holds : Tree → List ℕ → Addr → Type 0) (first : (i : Input) (s : List ℕ) (mark : ℕ) (p : Addr) → BuiltBy answer arena i s mark p → Holds (built i) s p)
      (then : (t u : Tree) (a : List ℕ) (next : ℕ) (m : Call) (left right : Addr) → Typed a m → (p : Addr) (end : ℕ) → merge_answer a next m left right ≡ Ok (p, end)
      → Holds t (take next a) left → Holds u (take next a) right → (s : List ℕ) (mark : ℕ) → Later end (merge_arena a next m left right) s mark
      → Holds (joined t u) s p) where
    by_tree : (t : Tree) (s : List ℕ) (mark : ℕ) (p : Addr) → Made answer arena t s mark p → Holds t s p
    unfolding Made
    by_tree (built i) s mark p x = first i s mark p x
    by_tree (joined t u) s mark p x =
        then t u x.was x.next x.call x.left x.right x.typed p x.end x.answers
        (by_tree t (take x.next x.was) x.next x.left (below t x.was x.next x.left x.lefts))
        (by_tree u (take x.next x.was) x.next x.right (below u x.was x.next x.right x.rights))
        s mark x.later

-- a merge that answered had pages that meet
met_by : (a : List ℕ) (next : ℕ) (m : Call) (left right p : Addr) (end : ℕ) → merge_answer a next m left right ≡ Ok (p, end)
    → (x y : Page) → meaning (take next a) left ≡ says x → meaning (take next a) right ≡ says y → meet x.hi y.lo ≡ true
met_by a next m left right p end answers x y f g =
    let w = take next a in
    let h = (merge_accepted a next m left right).0 (ap built_number answers) in
    ap₂ meet (sym (hi_says w left x f)) (sym (lo_says w right y g)) ∙ and_l (meet_in w left right) (enclosed (bounds_in w left right).lo (bounds_in w left right).hi (merged w left right)) h.1.1.1.1.1.1.0

-- ---- leaves

-- a page says a list's records: marks right, any two such lists are one
pub same_leaf : (b : Borders) (es fs : List Entry) → records_of es ≡ records_of fs → Marked es → Marked fs → leaf_page b es ≡ leaf_page b fs
unfolding leaf_page
same_leaf b es fs h m n =
    ap (λ (hs : List Head). record { lo = b.lo; hi = b.hi; prefix = take b.prefix b.lo; sibling = page_id b.sibling; rows = leaf hs }) (same_groups es fs h m n)

-- what a tree's leaf says, and what is known of the lists that it came from: their marks are right as one list, and its boundaries enclose them
record Stands (t : Tree) (s : List ℕ) (p : Addr) : Type 0 where
  said : meaning s p ≡ says (leaf_of t)
  marks : Marked (entries_in 0 t)
  inside : enclosed (bounds_of t).lo (bounds_of t).hi (entries_in 0 t) ≡ true

leaf_first : (i : Input) (s : List ℕ) (mark : ℕ) (p : Addr) → BuiltBy new_answer new_arena i s mark p → Stands (built i) s p
unfolding all_of leftmost rightmost
leaf_first i s mark p x =
    let l = i.list in
    let w = take x.next x.was in
    let long : x.end ≤ length s = omega (arith, x.later.above, x.later.inside) in
    let same : listed l w 0 ≡ listed l [] 0 = list_anywhere l w [] (first_of 0) (λ k. omega arith) in
    record {
      said =
          new_says x.was x.next l x.call i.lo i.hi i.sibling x.bytes x.typed.word x.typed.numbers x.id p x.end x.answers s long x.later.same
          ∙ ap (λ (es : List Entry). says (leaf_page (bounds_of (built i)) es)) same;
      marks = marked l [] (first_of 0) refl;
      inside = ap (enclosed i.lo i.hi) (sym same) ∙ ((new_accepted x.was x.next l x.call (boundaries_of i)).0 (ap built_number x.answers)).1.1.1.1.1.0;
    }

leaf_then : (t u : Tree) (a : List ℕ) (next : ℕ) (m : Call) (left right : Addr) → Typed a m → (p : Addr) (end : ℕ) → merge_answer a next m left right ≡ Ok (p, end)
    → Stands t (take next a) left → Stands u (take next a) right → (s : List ℕ) (mark : ℕ) → Later end (merge_arena a next m left right) s mark → Stands (joined t u) s p
unfolding leaf_page bounds_between all_of leftmost rightmost
leaf_then t u a next m left right typed p end answers f g s mark later =
    let es = merged (take next a) left right in
    let hs = grouped (entries_in 0 t) in
    let ks = grouped (entries_in 0 u) in
    let d = leaves_are a next m left right typed p end answers (leaf_of t) (leaf_of u) f.said g.said hs ks refl refl in
    let met = met_by a next m left right p end answers (leaf_of t) (leaf_of u) f.said g.said in
    let marks = marked_append (leftmost t).lo (rightmost t).hi (leftmost u).lo (rightmost u).hi met (entries_in 0 t) (entries_in 0 u) f.marks g.marks f.inside g.inside in
    let h : records_of es ≡ records_of (entries_in 0 (joined t u)) =
    sym (bare-records es) ∙ d.list ∙ ap₂ (λ (x y : List Listed). x ++ y) (flat_grouped (entries_in 0 t) f.marks) (flat_grouped (entries_in 0 u) g.marks) ∙ sym (records-append (entries_in 0 t) (entries_in 0 u)) in
    record {
      said =
          leaves-merged a next m left right typed p end answers (leaf_of t) (leaf_of u) f.said g.said hs ks refl refl s mark later
          ∙ ap says (same_leaf (bounds_of (joined t u)) es (entries_in 0 (joined t u)) h (d.marks (meet_said (take next a) left right (leaf_of t) (leaf_of u) f.said g.said ∙ met)) marks);
      marks = marks;
      inside = enclosed-append (leftmost t).lo (rightmost t).hi (leftmost u).lo (rightmost u).hi met (entries_in 0 t) (entries_in 0 u) f.inside g.inside;
    }

leaf_stands : (t : Tree) (s : List ℕ) (mark : ℕ) (p : Addr) → Made new_answer new_arena t s mark p → Stands t s p
leaf_stands = by_tree new_answer new_arena Stands leaf_first leaf_then

-- THE LAW for leaves
pub leaf_made : (t : Tree) (s : List ℕ) (mark : ℕ) (p : Addr) → Made new_answer new_arena t s mark p → meaning s p ≡ says (leaf_of t)
leaf_made t s mark p x = (leaf_stands t s mark p x).said

-- "The first version of each key is its head", in the lists one behind the other
pub leaf_marked : (t : Tree) (s : List ℕ) (mark : ℕ) (p : Addr) → Made new_answer new_arena t s mark p → Marked (entries_in 0 t)
leaf_marked t s mark p x = (leaf_stands t s mark p x).marks

-- its numbers have their widths
pub leaf_wide : (t : Tree) (s : List ℕ) (mark : ℕ) (p : Addr) → Made new_answer new_arena t s mark p → Each Wide (entries_in 0 t)
unfolding Made all_of
leaf_wide (built i) s mark p x = list-wide i.list [] (first_of 0) (λ k. omega arith) x.bytes
leaf_wide (joined t u) s mark p x =
    each_append Wide (entries_in 0 t) (entries_in 0 u) (leaf_wide t x.was x.next x.left x.lefts) (leaf_wide u x.was x.next x.right x.rights)

-- ---- index pages

pub same_index : (b : Borders) (es fs : List Entry) → children_of es ≡ children_of fs → index_page b es ≡ index_page b fs
unfolding index_page
same_index b es fs h =
    ap (λ (cs : List Child). record { lo = b.lo; hi = b.hi; prefix = take b.prefix b.lo; sibling = page_id b.sibling; rows = index cs }) h

index_first : (i : Input) (s : List ℕ) (mark : ℕ) (p : Addr) → BuiltBy new_index_answer new_index_arena i s mark p → meaning s p ≡ says (index_of (built i))
unfolding all_of leftmost rightmost
index_first i s mark p x =
    let l = i.list in
    let w = take x.next x.was in
    let long : x.end ≤ length s = omega (arith, x.later.above, x.later.inside) in
    index_says x.was x.next l x.call i.lo i.hi i.sibling x.bytes x.typed.word x.typed.numbers x.id p x.end x.answers s long x.later.same
    ∙ ap (λ (es : List Entry). says (index_page (bounds_of (built i)) es)) (list_anywhere l w [] (first_of 1) (λ k. omega arith))

index_then : (t u : Tree) (a : List ℕ) (next : ℕ) (m : Call) (left right : Addr) → Typed a m → (p : Addr) (end : ℕ) → merge_answer a next m left right ≡ Ok (p, end)
    → meaning (take next a) left ≡ says (index_of t) → meaning (take next a) right ≡ says (index_of u) → (s : List ℕ) (mark : ℕ) → Later end (merge_arena a next m left right) s mark
    → meaning s p ≡ says (index_of (joined t u))
unfolding index_page bounds_between all_of leftmost rightmost
index_then t u a next m left right typed p end answers f g s mark later =
    let es = merged (take next a) left right in
    let cs = children_of (entries_in 1 t) in
    let ds = children_of (entries_in 1 u) in
    let d = indexes_are a next m left right typed p end answers (index_of t) (index_of u) f g cs ds refl refl in
    let h : children_of es ≡ children_of (entries_in 1 (joined t u)) = sym (child_children es) ∙ d.list ∙ sym (children_append (entries_in 1 t) (entries_in 1 u)) in
    indexes-merged a next m left right typed p end answers (index_of t) (index_of u) f g cs ds refl refl s mark later
    ∙ ap says (same_index (bounds_of (joined t u)) es (entries_in 1 (joined t u)) h)

-- THE LAW for index pages
pub index_made : (t : Tree) (s : List ℕ) (mark : ℕ) (p : Addr) → Made new_index_answer new_index_arena t s mark p → meaning s p ≡ says (index_of t)
index_made = by_tree new_index_answer new_index_arena (λ (t : Tree) (s : List ℕ) (p : Addr). meaning s p ≡ says (index_of t)) index_first index_then
