-- The steps of a merge, one law a return: the kinds of its pages, and the builder's answer on what was gathered.
-- Assumes nothing.
use Prim.Native.Nat.{ℕ}
use mathlib.Core.Path.{◌≡◌, refl, sym, ap, subst, ◌∙◌}
use mathlib.Core.Bool.{Bool, true, false, cond}
use mathlib.Core.List.{List, [], ◌++◌, map}
use native.Mathlib.Omega.{arith}
use borrow.Author.Tests.{eq-eqb, ne_eqb}
use lib.Dec.{eqb}
use lib.ListN.{take}
use Rattle.numbers.specs.Number.{Bytes}
use Rattle.frames.specs.declared.Addr.{Addr}
use Rattle.frames.specs.declared.Body.{Body}
use Rattle.frames.specs.declared.Refusal.{Refusal}
use Rattle.frames.specs.Layout.{open_at}
use Rattle.pages.specs.Meaning.{Rows, leaf, index, Page, Said, nothing, says, heads_from, children_from, page_says, meaning, check_of}
use Rattle.pages.proofs.Given as goal
use Rattle.pages.proofs.Given.{sound_given}
use Rattle.pages.specs.declared.Bounds.{Bounds}
use Rattle.pages.specs.Boundaries.{part_in, bounds_at}
use Rattle.build_sources.specs.declared.Cursor.{Cursor}
use Rattle.build_sources.specs.Lists.{first_of}
use Rattle.build_sources.specs.Pages.{page_first}
use Rattle.build_sources.specs.Source.{Entry, entries}
use Rattle.build_image.specs.Prefix.{common}
use Rattle.build_image.specs.Image.{Borders}
use Rattle.build_bounds.specs.declared.Boundaries.{Boundaries}
use Rattle.build_bounds.specs.Boundaries.{bounds_of}
use Rattle.build_table.specs.Index.{Held}
use Rattle.build_table.specs.Table.{apart_of}
use Rattle.build_sources.specs.Marks.{Each}
use Rattle.walks.specs.Listed.{entries_of}
use Rattle.law_two_pages.specs.Pairs.{Reads}
use Rattle.law_two_pages.proofs.Pages.{two_leaves, two_indexes}
use Rattle.law_rows.specs.Pairs.{bare, child, NoPage, NoVersion}
use Rattle.law_rows.proofs.Alike.{Alike, rising-alike, prefixed-alike, leaves_alike, indexes-alike}
use Rattle.merge.specs.Merge.{kind_by, said_kind, Sound, bounds_in, merged, boundary_in, gathered}
use Rattle.merge.specs.Answer.{apart_in}
use Rattle.merge.proofs.Said.{leaves-list, indexes-list, indexes_said}
use Rattle.merge.proofs.Gathering.{Ready, gathers, gathered_ready}
use Rattle.std.proofs.Common.{Some, None, Ok, Err}
use Rattle.merge.specs.declared.Kind.{Kind}

-- ---- kinds

module _ (s : List ℕ) (a : Addr) where
  pub kind_bad : (r : Refusal) → check_of (meaning s a) ≡ Err r → None ≡ said_kind (meaning s a)
  kind_bad r e = go (meaning s a) e
    where
      go : (m : Said) → check_of m ≡ Err r → None ≡ said_kind m
      go nothing e = refl
      go (says p) e = absurd (let z : ◌≡◌ {A = ℕ} 0 1 = cc in omega arith)

  rows-kind : (b : Body) (t : Bool) → kind_by (cond t (index (children_from s b b.elems 0)) (leaf (heads_from s b b.elems 0))) ≡ cond t (Some Kind.Index) (Some Kind.Leaf)
  rows-kind b true = refl
  rows-kind b false = refl

  says_kind : (p : Page) (g : goal.Sound s a p) → kind_by p.rows ≡ cond (eqb g.body.kind 1) (Some Kind.Index) (Some Kind.Leaf)
  unfolding page_says
  says_kind p g = ap (λ (q : Page). kind_by q.rows) (sym g.said) ∙ rows-kind g.body (eqb g.body.kind 1)

  module _ (e : check_of (meaning s a) ≡ Ok tt) where
    said : (p : Page) × (meaning s a ≡ says p)
    said = go (meaning s a) refl e
      where
        go : (m : Said) → meaning s a ≡ m → check_of m ≡ Ok tt → (p : Page) × (meaning s a ≡ says p)
        go nothing q e = absurd (let z : ◌≡◌ {A = ℕ} 0 1 = cc in omega arith)
        go (says p) q e = (p, q)

    kind_by_lem : (b : Body) → open_at s a ≡ Some b → said_kind (meaning s a) ≡ cond (eqb b.kind 1) (Some Kind.Index) (Some Kind.Leaf)
    kind_by_lem b o =
        let g = sound_given s a said.0 said.1 in
        let x : Some g.body ≡ Some b = sym g.opened ∙ o in
        let y : g.body ≡ b = cc in
        ap said_kind said.1 ∙ says_kind said.0 g ∙ ap (λ (z : Body). cond (eqb z.kind 1) (Some Kind.Index) (Some Kind.Leaf)) y

    pub kind_index : (b : Body) → open_at s a ≡ Some b → b.kind ≡ 1 → (Some Kind.Index) ≡ said_kind (meaning s a)
    kind_index b o k = sym (kind_by_lem b o ∙ rw (eq-eqb b.kind 1 k))

    pub kind_leaf : (b : Body) → open_at s a ≡ Some b → (b.kind ≡ 1 → ⊥) → (Some Kind.Leaf) ≡ said_kind (meaning s a)
    kind_leaf b o k = sym (kind_by_lem b o ∙ rw (ne_eqb b.kind 1 k))

    pub kind-opens : open_at s a ≡ None → ⊥
    kind-opens o =
        let g = sound_given s a said.0 said.1 in
        let x : None ≡ Some g.body = sym o ∙ g.opened in
        let z : ◌≡◌ {A = ℕ} 0 1 = cc in
        omega arith

-- ---- what is gathered

pub gathers_by : (w : List ℕ) (left right : Addr) (c : Cursor) (p q : Bounds) → page_first w (first_of 2) left right ≡ Some c → bounds_at w left ≡ Ok p → bounds_at w right ≡ Ok q
    → (x y : List ℕ) (n : ℕ) → x ≡ part_in w p.lo → y ≡ part_in w q.hi → n ≡ common x y → Some (c, record { lo = boundary_in p.lo; hi = boundary_in q.hi; prefix = n; sibling = q.sibling }) ≡ gathered w left right
unfolding gathered
gathers_by w left right c p q e f g x y n i j k =
    let z : n ≡ common (part_in w p.lo) (part_in w q.hi) = k ∙ ap (λ (v : List ℕ). common v y) i ∙ ap (λ (v : List ℕ). common (part_in w p.lo) v) j in
    rw (e, f, g) (ap (λ (m : ℕ). Some (c, record { lo = boundary_in p.lo; hi = boundary_in q.hi; prefix = m; sibling = q.sibling })) z)

-- ---- why pages that do not meet are refused

apart_alike : (pre : List ℕ) (es fs : List Entry) → Alike es fs → apart_of pre es ≡ apart_of pre fs
apart_alike pre es fs h = rw (rising-alike es fs h.keys h.vers, prefixed-alike pre es fs h.keys) refl

-- a cursor over the two pages has the keys and the versions of what is merged
module _ (w : List ℕ) (y : Bytes w) (left right : Addr) (p q : Page) (m : meaning w left ≡ says p) (n : meaning w right ≡ says q) (c : Cursor) (e : page_first w (first_of 2) left right ≡ Some c) where
  same-cursor : {A : Type 0} (tell : Entry → A) (P : Entry → Type 0) (xs : List A) (r : Reads tell P [] w (page_first w (first_of 2) left right) xs) → r.cursor ≡ c
  same-cursor tell P xs r = let z : Some r.cursor ≡ Some c = sym r.begun ∙ e in cc

  cursor-alike : (x z : Rows) → p.rows ≡ x → q.rows ≡ z → kind_by x ≡ kind_by z → Alike (entries [] w c) (merged w left right)
  cursor-alike (leaf hs) (leaf ks) f g k =
      let r = two_leaves [] w y left right p q m n hs ks f g in
      let l : map bare (entries [] w c) ≡ entries_of hs ++ entries_of ks = ap (λ (d : Cursor). map bare (entries [] w d)) (sym (same-cursor bare NoPage (entries_of hs ++ entries_of ks) r)) ∙ r.list in
      leaves_alike (entries [] w c) (merged w left right) (l ∙ sym (leaves-list w left right p q m n hs ks f g))
  cursor-alike (index cs) (index ds) f g k =
      let r = two_indexes [] w y left right p q m n cs ds f g in
      let s = same-cursor child NoVersion (cs ++ ds) r in
      let l : map child (entries [] w c) ≡ cs ++ ds = ap (λ (d : Cursor). map child (entries [] w d)) (sym s) ∙ r.list in
      indexes-alike (entries [] w c) (merged w left right) (l ∙ sym (indexes-list w left right p q m n cs ds f g)) (subst (λ (d : Cursor). Each NoVersion (entries [] w d)) s r.kind)
      (indexes_said w left right p q m n y cs ds f g).kind
  cursor-alike (leaf hs) (index ds) f g k = absurd (let z : ◌≡◌ {A = ℕ} 0 1 = cc in omega arith)
  cursor-alike (index cs) (leaf ks) f g k = absurd (let z : ◌≡◌ {A = ℕ} 0 1 = cc in omega arith)

module _ (w : List ℕ) (left right : Addr) (p : Sound w left) (q : Sound w right) where
  pub never_bad : gathered w left right ≡ None → ⊥
  never_bad e = gathers w left right p.0 q.0 p.1 q.1 e

  module _ (c : Cursor) (e : Boundaries) (f : gathered w left right ≡ Some (c, e)) (l : List ℕ) (z : l ≡ []) where
    pub ready : Ready w left right c e
    ready = gathered_ready w left right p.0 q.0 p.1 q.1 c e f

    pub is_held : Held l l w e
    is_held = rw z ready.held

    same_kind : said_kind (meaning w left) ≡ said_kind (meaning w right) → kind_by p.0.rows ≡ kind_by q.0.rows
    same_kind k = sym (ap said_kind p.1) ∙ k ∙ ap said_kind q.1

    pub answered : Bytes w → said_kind (meaning w left) ≡ said_kind (meaning w right) → (x : Refusal) → x ≡ apart_in (bounds_of l l w e) (entries l w c) → x ≡ apart_in (bounds_in w left right) (merged w left right)
    answered y k x h =
        let b = bounds_in w left right in
        h
        ∙ ap (λ (k : List ℕ). apart_in (bounds_of k k w e) (entries k w c)) z
        ∙ ap (λ (x : Borders). apart_in x (entries [] w c)) ready.bounds
        ∙ apart_alike (take b.prefix b.lo) (entries [] w c) (merged w left right)
        (cursor-alike w y left right p.0 q.0 p.1 q.1 c ready.cursor p.0.rows q.0.rows refl refl (same_kind k))
