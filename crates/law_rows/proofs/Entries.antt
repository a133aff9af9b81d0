-- What a page holds, as entries, says what the page says, in order.
-- Assumes nothing.
use Prim.Native.Nat.{ℕ, zero, suc, ◌+◌}
use mathlib.Core.Path.{◌≡◌, refl, ap, ap₂, ◌∙◌}
use mathlib.Core.List.{List, [], ◌∷◌, ◌++◌, map}
use Rattle.spans.specs.Span.{part}
use Rattle.frames.specs.declared.Addr.{Addr}
use Rattle.frames.specs.declared.Body.{Body}
use Rattle.values.specs.Keys.{ver_in}
use Rattle.records.specs.declared.Rec.{Rec}
use Rattle.records.specs.Records.{rec_at}
use Rattle.pages.specs.Sound.{old_at}
use Rattle.pages.specs.Meaning.{Older, Head, Child, olds_of, olds_from, key_of, head_of, child_of, rows_of, rows_from, heads_from, children_from}
use Rattle.walks.specs.Listed as listed
use Rattle.walks.specs.Listed.{older_entries, entries_of}
use Rattle.build_sources.specs.Source.{Entry}
use Rattle.law_rows.specs.Rows as rows
use Rattle.law_rows.specs.Rows.{old_entry, old_entries, head_entry, head_entries, child_entry, slot_of, slot_entries, leaf_entries, index_entries}
use Rattle.law_rows.specs.Pairs.{bare, child}
use Rattle.std.proofs.Common.{Option, Some, None}
use Rattle.pages.specs.declared.OldVersion.{OldVersion}

pub map_append : {A B : Type 0} (f : A → B) (xs ys : List A) → map f (xs ++ ys) ≡ map f xs ++ map f ys
map_append f [] ys = refl
map_append {B = B} f (x ∷ xs) ys = ap (λ (l : List B). f x ∷ l) (map_append f xs ys)

-- ---- old versions

one_told : (w key : List ℕ) (r : Rec) (es : List Entry) (os : List Older) → map bare es ≡ older_entries key os
    → map bare (old_entry w key r ∷ es) ≡ older_entries key ((record { ver = ver_in w r.ver_at; value = part w r.val_at r.val_len }) ∷ os)
unfolding bare old_entry older_entries
one_told w key r es os e = ap (λ (l : List listed.Entry). (record { key = key; ver = ver_in w r.ver_at; value = part w r.val_at r.val_len }) ∷ l) e

none_told : (key : List ℕ) → map bare [] ≡ older_entries key []
unfolding older_entries
none_told key = refl

olds-told : (w key : List ℕ) (k : ℕ) (a : Addr) (i : ℕ) → map bare (old_entries w key k a i) ≡ older_entries key (olds_from w k a i)
unfolding old_entries olds_from
olds-told w key zero a i = none_told key
olds-told w key (suc k) a i = go (old_at w a i) (λ p q. olds-told w key k p (q + 1))
  where
    go : (o : Option OldVersion) → ((p : Addr) (q : ℕ) → map bare (old_entries w key k p (q + 1)) ≡ older_entries key (olds_from w k p (q + 1)))
        → map bare (rows.olds_of w key (old_entries w key k) o) ≡ older_entries key (olds_of w (olds_from w k) o)
    go (Some o) h = one_told w key o.rec (old_entries w key k o.page (o.slot + 1)) (olds_from w k o.page (o.slot + 1)) (h o.page o.slot)
    go None h = none_told key

-- ---- a leaf

head_told_lem : (w : List ℕ) (b : Body) (r : Rec) (es : List Entry) (hs : List Head) → map bare es ≡ entries_of hs → map bare (head_entries w b r ++ es) ≡ entries_of (head_of w b r ∷ hs)
unfolding bare head_entry head_entries head_of entries_of
head_told_lem w b r es hs e =
    let key = key_of w b r in
    let os = old_entries w key r.hist.count r.hist.page r.hist.slot in
    ap (λ (l : List listed.Entry). (record { key = key; ver = ver_in w r.ver_at; value = part w r.val_at r.val_len }) ∷ l)
    (map_append bare os es ∙ ap₂ (λ (x y : List listed.Entry). x ++ y) (olds-told w key r.hist.count r.hist.page r.hist.slot) e)

heads_none : map bare [] ≡ entries_of []
unfolding entries_of
heads_none = refl

pub leaf_told : (w : List ℕ) (b : Body) (k i : ℕ) → map bare (leaf_entries w b k i) ≡ entries_of (heads_from w b k i)
unfolding slot_entries rows_from
leaf_told w b zero i = heads_none
leaf_told w b (suc k) i = go (rec_at w b i) (leaf_told w b k (i + 1))
  where
    go : (o : Option Rec) → map bare (leaf_entries w b k (i + 1)) ≡ entries_of (heads_from w b k (i + 1))
        → map bare (slot_of (head_entries w b) (leaf_entries w b k (i + 1)) o) ≡ entries_of (rows_of (head_of w b) (heads_from w b k (i + 1)) o)
    go (Some r) h = head_told_lem w b r (leaf_entries w b k (i + 1)) (heads_from w b k (i + 1)) h
    go None h = h

-- ---- an index page

child-told : (w : List ℕ) (b : Body) (r : Rec) → child (child_entry w b r) ≡ child_of w b r
unfolding child child_entry child_of
child-told w b r = refl

pub index_told : (w : List ℕ) (b : Body) (k i : ℕ) → map child (index_entries w b k i) ≡ children_from w b k i
unfolding slot_entries rows_from
index_told w b zero i = refl
index_told w b (suc k) i = go (rec_at w b i) (index_told w b k (i + 1))
  where
    go : (o : Option Rec) → map child (index_entries w b k (i + 1)) ≡ children_from w b k (i + 1)
        → map child (slot_of (λ r. child_entry w b r ∷ []) (index_entries w b k (i + 1)) o) ≡ rows_of (child_of w b) (children_from w b k (i + 1)) o
    go (Some r) h = ap₂ (λ (x : Child) (l : List Child). x ∷ l) (child-told w b r) h
    go None h = h
