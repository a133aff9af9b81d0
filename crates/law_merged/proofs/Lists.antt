-- Lists of entries: a list's entries lie in the list alone; lists of neighbours are marked as one; entries with the same records and right marks
-- make the same groups.
-- Assumes nothing.
use Prim.Native.Nat.{ℕ, zero, suc}
use mathlib.Core.Path.{◌≡◌, refl, sym, ap, ap₂, ◌∙◌}
use mathlib.Core.Bool.{Bool, true, false, cond}
use mathlib.Core.List.{List, [], ◌∷◌, ◌++◌, map}
use native.Mathlib.Omega.{arith}
use borrow.Author.Tests.{ne_eqb}
use lib.ListN.{get_or, drop}
use Rattle.order.specs.Order.{cmp_bytes, is_equal}
use Rattle.order.specs.Version.{ver_of}
use Rattle.pages.specs.Meaning.{Child}
use Rattle.build_sources.specs.declared.Cursor.{Cursor}
use Rattle.build_sources.specs.declared.EntryAt.{EntryAt}
use Rattle.build_sources.specs.declared.EntryRead.{EntryRead}
use Rattle.build_sources.specs.Source.{Entry, after, list_f, next_of, left_of, entry_of, entries}
use Rattle.build_sources.specs.Marks.{MarkedFrom, Marked}
use Rattle.build_sources.proofs.Walk.{after_same}
use Rattle.build_sources.proofs.Marked.{step_tells}
use Rattle.walks.specs.Listed.{Entry as Listed}
use Rattle.law_rows.specs.Pairs.{bare, child}
use Rattle.law_history.specs.Olders.{olders_of}
use Rattle.law_leaf.specs.Grouped.{run_of, head_is, grouped}
use Rattle.law_index.specs.Children.{child_is, children_of}
use Rattle.law_list.specs.Asked.{records_of}

-- ---- whatever lies in the arena

module _ (l w w' : List ℕ) where
  entry_anywhere : (i : EntryAt) → i.footing ≡ false → entry_of l w i ≡ entry_of l w' i
  unfolding entry_of
  entry_anywhere i e = rw e refl

  step_anywhere : (c : Cursor) → (c.source ≡ 2 → ⊥) → next_of l w c ≡ next_of l w' c
  unfolding next_of
  step_anywhere c n = rw (ne_eqb c.source 2 n) refl

  from_anywhere : (f : ℕ) (c : Cursor) → (c.source ≡ 2 → ⊥) → list_f (next_of l w) (entry_of l w) f c ≡ list_f (next_of l w') (entry_of l w') f c
  unfolding list_f
  from_anywhere zero c n = refl
  from_anywhere (suc f) c n =
      ap (λ (st : EntryRead). after st (λ (i : EntryAt) (d : Cursor). entry_of l w i ∷ list_f (next_of l w) (entry_of l w) f d) [] []) (step_anywhere c n)
      ∙ after_same (next_of l w' c) _ _ [] []
      (λ i d e.
      let t = step_tells l w' c i d e in
      ap₂ (λ (x : Entry) (xs : List Entry). x ∷ xs) (entry_anywhere i (t.footing ∙ ne_eqb c.source 2 n)) (from_anywhere f d (λ k. n (sym t.source ∙ k))))

  pub list_anywhere : (c : Cursor) → (c.source ≡ 2 → ⊥) → entries l w c ≡ entries l w' c
  unfolding entries left_of
  list_anywhere c n = from_anywhere (suc (left_of l w c)) c n

-- ---- records and children, one list behind the other

pub bare-records : (es : List Entry) → map bare es ≡ records_of es
unfolding bare records_of
bare-records [] = refl
bare-records (e ∷ es) = ap (λ (l : List Listed). (record { key = e.key; ver = e.ver; value = e.val }) ∷ l) (bare-records es)

pub child_children : (es : List Entry) → map child es ≡ children_of es
unfolding child children_of
child_children [] = refl
child_children (e ∷ es) = ap (λ (l : List Child). child e ∷ l) (child_children es)

pub records-append : (es fs : List Entry) → records_of (es ++ fs) ≡ records_of es ++ records_of fs
unfolding records_of
records-append [] fs = refl
records-append (e ∷ es) fs = ap (λ (l : List Listed). (record { key = e.key; ver = e.ver; value = e.val }) ∷ l) (records-append es fs)

pub children_append : (es fs : List Entry) → children_of (es ++ fs) ≡ children_of es ++ children_of fs
unfolding children_of
children_append [] fs = refl
children_append (e ∷ es) fs = ap (λ (l : List Child). child_is e ∷ l) (children_append es fs)

-- ---- the groups depend on the records alone

abbrev none : Listed
none = record { key = []; ver = ver_of 0 0; value = [] }

-- the first records are one
record Alike (e f : Entry) : Type 0 where
  key : e.key ≡ f.key
  ver : e.ver ≡ f.ver
  val : e.val ≡ f.val

module _ (e f : Entry) (es fs : List Entry) (h : records_of (e ∷ es) ≡ records_of (f ∷ fs)) where
  first_alike : Alike e f
  unfolding records_of
  first_alike =
      record { key = ap (λ (l : List Listed). (get_or l 0 none).key) h; ver = ap (λ (l : List Listed). (get_or l 0 none).ver) h; val = ap (λ (l : List Listed). (get_or l 0 none).value) h }

  rest-alike : records_of es ≡ records_of fs
  unfolding records_of
  rest-alike = ap (λ (l : List Listed). drop 1 l) h

none_one : (f : Entry) (fs : List Entry) → records_of [] ≡ records_of (f ∷ fs) → ⊥
unfolding records_of
none_one f fs h = let z : ◌≡◌ {A = ℕ} 0 1 = cc in omega arith

module _ (e f : Entry) (es fs : List Entry) (h : Alike e f) (run : olders_of (run_of es) ≡ olders_of (run_of fs)) where
  run_by : (t u : Bool) → t ≡ u → olders_of (cond t (e ∷ run_of es) []) ≡ olders_of (cond u (f ∷ run_of fs) [])
  unfolding olders_of
  run_by t true q = rw (q, h.ver, h.val, run) refl
  run_by t false q = rw q refl

  group_by : (t u : Bool) → t ≡ u → grouped es ≡ grouped fs → cond t (grouped es) (head_is e es ∷ grouped es) ≡ cond u (grouped fs) (head_is f fs ∷ grouped fs)
  group_by t true q g = rw q g
  group_by t false q g = rw (q, h.key, h.ver, h.val, run, g) refl

from-same : (es fs : List Entry) (a b : Entry) → records_of es ≡ records_of fs → MarkedFrom a es → MarkedFrom b fs → a.key ≡ b.key → (olders_of (run_of es) ≡ olders_of (run_of fs)) × (grouped es ≡ grouped fs)
unfolding run_of grouped MarkedFrom
from-same [] [] a b h m n k = (refl, refl)
from-same [] (f ∷ fs) a b h m n k = absurd (none_one f fs h)
from-same (e ∷ es) [] a b h m n k = absurd (none_one e es (sym h))
from-same (e ∷ es) (f ∷ fs) a b h m n k =
    let x = first_alike e f es fs h in
    let old : e.old ≡ f.old = m.0 ∙ ap₂ (λ (u v : List ℕ). is_equal (cmp_bytes u v)) k x.key ∙ sym n.0 in
    let r = from-same es fs e f (rest-alike e f es fs h) m.1 n.1 x.key in
    (run_by e f es fs x r.0 e.old f.old old, group_by e f es fs x r.0 e.old f.old old r.1)

pub same_groups : (es fs : List Entry) → records_of es ≡ records_of fs → Marked es → Marked fs → grouped es ≡ grouped fs
unfolding grouped Marked
same_groups [] [] h m n = refl
same_groups [] (f ∷ fs) h m n = absurd (none_one f fs h)
same_groups (e ∷ es) [] h m n = absurd (none_one e es (sym h))
same_groups (e ∷ es) (f ∷ fs) h m n =
    let x = first_alike e f es fs h in
    let r = from-same es fs e f (rest-alike e f es fs h) m.1 n.1 x.key in
    group_by e f es fs x r.0 e.old f.old (m.0 ∙ sym n.0) r.1
