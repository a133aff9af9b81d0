-- Two sound pages of one kind that meet: what the builder is told of them, and that what it answers is what the definition names.
-- Assumes nothing.
use Prim.Native.Nat.{ℕ, ◌-◌}
use mathlib.Core.Path.{◌≡◌, refl, sym, ap, ap₂, subst, ◌∙◌}
use mathlib.Core.Bool.{true}
use mathlib.Core.List.{List, [], ◌++◌}
use native.Mathlib.Omega.{arith}
use Rattle.frames.specs.declared.Addr.{Addr}
use Rattle.frames.specs.declared.Body.{Body}
use Rattle.frames.specs.Layout.{open_at}
use Rattle.pages.specs.Meaning.{Rows, leaf, index, meaning}
use Rattle.pages.proofs.Given as goal
use Rattle.pages.proofs.Given.{sound_given}
use Rattle.walks.proofs.Says.{is_leaf, is_index_lem}
use Rattle.build_sources.specs.declared.Cursor.{Cursor}
use Rattle.build_sources.specs.Source.{Entry}
use Rattle.build_sources.specs.Judged.{rising, enclosed}
use Rattle.build_image.specs.Image.{Borders}
use Rattle.build_bounds.specs.declared.Boundaries.{Boundaries}
use Rattle.build_bounds.specs.Boundaries.{boundary_bytes, bounds_of}
use Rattle.law_rows.specs.Rows.{body_entries, leaf_entries, index_entries, page_entries}
use Rattle.build_rows.specs.Judged.{Judged}
use Rattle.build_rows.proofs.Rows.{sound_judged, sound_entries, leaf_all, index_all}
use Rattle.build_table.specs.Index.{Held}
use Rattle.build_table.specs.Pages.{in_leaves, Leaves}
use Rattle.merge.specs.Merge.{kind_by, said_kind, Sound, bounds_in, meet_in, merged, gathered}
use Rattle.merge.proofs.Said.{meet_said, meeting_6, meeting_inside}
use Rattle.merge.proofs.Gathering.{Ready}
use Rattle.merge.proofs.Merging.{ready}
use Rattle.std.proofs.Common.{Some, None}
use Rattle.merge.specs.declared.Kind.{Kind}

-- a sound page of a kind that was opened is judged, and its entries are those of its body
record Opens (w : List ℕ) (a : Addr) (b : Body) (kind : ℕ) : Type 0 where
  judged : Judged w b kind
  holds : page_entries w a ≡ body_entries w b

module _ (w : List ℕ) (a : Addr) (b : Body) (o : open_at w a ≡ Some b) (p : Sound w a) where
  g : goal.Sound w a p.0
  g = sound_given w a p.0 p.1

  same_body : (x : Body) → open_at w a ≡ Some x → x ≡ b
  same_body x e = let z : Some x ≡ Some b = sym e ∙ o in cc

  opens : (k : ℕ) → (x : goal.Sound w a p.0) → x.body.kind ≡ k → Opens w a b k
  opens k x e =
      let s = same_body x.body x.opened in
      record {
        judged = subst (λ (y : Body). Judged w y k) s (sound_judged w a p.0 x k e);
        holds = sound_entries w a p.0 x ∙ ap (body_entries w) s;
      }

  leaf_opens : said_kind (meaning w a) ≡ Some Kind.Leaf → Opens w a b 0
  leaf_opens k = by p.0.rows refl (sym (ap said_kind p.1) ∙ k)
    where
      by : (r : Rows) → p.0.rows ≡ r → kind_by p.0.rows ≡ Some Kind.Leaf → Opens w a b 0
      by (leaf hs) e z = let l = is_leaf w a p.0 p.1 hs e in opens 0 l.sound l.kind
      by (index cs) e z = absurd (let y = sym (ap kind_by e) ∙ z in let x : ◌≡◌ {A = ℕ} 0 1 = cc in omega arith)

  index_opens : said_kind (meaning w a) ≡ Some Kind.Index → Opens w a b 1
  index_opens k = by p.0.rows refl (sym (ap said_kind p.1) ∙ k)
    where
      by : (r : Rows) → p.0.rows ≡ r → kind_by p.0.rows ≡ Some Kind.Index → Opens w a b 1
      by (leaf hs) e z = absurd (let y = sym (ap kind_by e) ∙ z in let x : ◌≡◌ {A = ℕ} 0 1 = cc in omega arith)
      by (index cs) e z = let l = is_index_lem w a p.0 p.1 cs e in opens 1 l.sound l.kind

  pub never_shut : open_at w a ≡ None → ⊥
  never_shut e = let z : None ≡ Some b = sym e ∙ o in let y : ◌≡◌ {A = ℕ} 0 1 = cc in omega arith

pub opens_always : (w : List ℕ) (a : Addr) → Sound w a → open_at w a ≡ None → ⊥
opens_always w a p e =
    let g = sound_given w a p.0 p.1 in
    let z : None ≡ Some g.body = sym e ∙ g.opened in
    let y : ◌≡◌ {A = ℕ} 0 1 = cc in
    omega arith

module _ (w : List ℕ) (left right : Addr) (p : Sound w left) (q : Sound w right) (c : Cursor) (e : Boundaries) (f : gathered w left right ≡ Some (c, e)) (l : List ℕ) (z : l ≡ [])
    (met : meet_in w left right ≡ true) (b : Body) (ob : open_at w left ≡ Some b) (d : Body) (od : open_at w right ≡ Some d) where
  r : Ready w left right c e
  r = ready w left right p q c e f l z

  held : Held l l w e
  held = rw z r.held

  bounds_are : bounds_of l l w e ≡ bounds_in w left right
  bounds_are = ap (λ (k : List ℕ). bounds_of k k w e) z ∙ r.bounds

  module _ (same : kind_by p.0.rows ≡ kind_by q.0.rows) (es : List Entry) (is : merged w left right ≡ es) where
    rises : rising es ≡ true
    rises = ap rising (sym is) ∙ meeting_6 w left right p.0 q.0 p.1 q.1 same (sym (meet_said w left right p.0 q.0 p.1 q.1) ∙ met)

    inside : enclosed (boundary_bytes l w e.lo) (boundary_bytes l w e.hi) es ≡ true
    inside =
        ap (λ (x : Borders). enclosed x.lo x.hi es) bounds_are ∙ ap (enclosed (bounds_in w left right).lo (bounds_in w left right).hi) (sym is)
        ∙ meeting_inside w left right p.0 q.0 p.1 q.1 same (sym (meet_said w left right p.0 q.0 p.1 q.1) ∙ met)

    pub told : {X : Type 0} (F : Borders → List Entry → X) (x : X) → x ≡ F (bounds_of l l w e) es → x ≡ F (bounds_in w left right) (merged w left right)
    told F x h = h ∙ ap₂ F bounds_are (sym is)

  -- ---- leaves

  module _ (kl : said_kind (meaning w left) ≡ Some Kind.Leaf) (kr : said_kind (meaning w right) ≡ Some Kind.Leaf) where
    leaves-same : kind_by p.0.rows ≡ kind_by q.0.rows
    leaves-same = sym (ap said_kind p.1) ∙ kl ∙ sym kr ∙ ap said_kind q.1

    leaves_are : merged w left right ≡ in_leaves w b 0 b.elems d d.elems
    unfolding merged
    leaves_are =
        let x = leaf_opens w left b ob p kl in
        let y = leaf_opens w right d od q kr in
        let n : d.elems - 0 ≡ d.elems = omega arith in
        ap₂ (λ (s t : List Entry). s ++ t) (x.holds ∙ leaf_all w b x.judged.is) (y.holds ∙ leaf_all w d y.judged.is ∙ ap (λ (k : ℕ). leaf_entries w d k 0) n)

    pub leaves_ready : Leaves l w b 0 b.elems d d.elems e (in_leaves w b 0 b.elems d d.elems)
    leaves_ready =
        record {
          left = (leaf_opens w left b ob p kl).judged;
          right = (leaf_opens w right d od q kr).judged;
          end_in = omega arith;
          n_in = omega arith;
          held = held;
          rises = rises leaves-same (in_leaves w b 0 b.elems d d.elems) leaves_are;
          inside = inside leaves-same (in_leaves w b 0 b.elems d d.elems) leaves_are;
        }

    pub leaves-told : {X : Type 0} (F : Borders → List Entry → X) (x : X) → x ≡ F (bounds_of l l w e) (in_leaves w b 0 b.elems d d.elems) → x ≡ F (bounds_in w left right) (merged w left right)
    leaves-told F x h = told leaves-same (in_leaves w b 0 b.elems d d.elems) leaves_are F x h

  -- ---- index pages

  module _ (kl : said_kind (meaning w left) ≡ Some Kind.Index) (kr : said_kind (meaning w right) ≡ Some Kind.Index) where
    abbrev children : List Entry
    children = index_entries w b (b.elems - 0) 0 ++ index_entries w d d.elems 0

    indexes-same : kind_by p.0.rows ≡ kind_by q.0.rows
    indexes-same = sym (ap said_kind p.1) ∙ kl ∙ sym kr ∙ ap said_kind q.1

    indexes_are : merged w left right ≡ index_entries w b (b.elems - 0) 0 ++ index_entries w d d.elems 0
    unfolding merged
    indexes_are =
        let x = index_opens w left b ob p kl in
        let y = index_opens w right d od q kr in
        let n : d.elems - 0 ≡ d.elems = omega arith in
        ap₂ (λ (s t : List Entry). s ++ t) (x.holds ∙ index_all w b x.judged.is) (y.holds ∙ index_all w d y.judged.is ∙ ap (λ (k : ℕ). index_entries w d k 0) n)

    pub indexes-judged : Judged w b 1 × Judged w d 1
    indexes-judged = ((index_opens w left b ob p kl).judged, (index_opens w right d od q kr).judged)

    pub indexes-held : Held l l w e
    indexes-held = held

    pub indexes_rise : rising (index_entries w b (b.elems - 0) 0 ++ index_entries w d d.elems 0) ≡ true
    indexes_rise = rises indexes-same children indexes_are

    pub indexes-inside : enclosed (boundary_bytes l w e.lo) (boundary_bytes l w e.hi) (index_entries w b (b.elems - 0) 0 ++ index_entries w d d.elems 0) ≡ true
    indexes-inside = inside indexes-same children indexes_are

    pub indexes-told : {X : Type 0} (F : Borders → List Entry → X) (x : X) → x ≡ F (bounds_of l l w e) (index_entries w b (b.elems - 0) 0 ++ index_entries w d d.elems 0) → x ≡ F (bounds_in w left right) (merged w left right)
    indexes-told F x h = told indexes-same children indexes_are F x h
