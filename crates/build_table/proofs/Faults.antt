-- Why a list is refused: what is found by the passes is what the table says of a list that its sweep, or its ends, did not pass.
-- Assumes nothing.
use Prim.Native.Nat.{ℕ, ◌<◌}
use mathlib.Core.Path.{◌≡◌, refl, sym, ap, ◌∙◌}
use mathlib.Core.Bool.{Bool, true, false}
use mathlib.Core.List.{List, []}
use native.Mathlib.Omega.{arith}
use borrow.Author.Tests.{leb-false}
use lib.Dec.{leb}
use lib.ListN.{length, take}
use Rattle.frames.specs.declared.Refusal.{Refusal}
use Rattle.frames.specs.declared.Refusal.TheVariants.{BadList, OutOfOrder, TooBig}
use Rattle.frames.specs.Limits.{max_entries}
use Rattle.build_sources.specs.declared.Cursor.{Cursor}
use Rattle.build_sources.specs.Lists.{first_of}
use Rattle.build_sources.specs.Source.{Entry, entries, well_formed}
use Rattle.build_sources.specs.Judged.{rising, enclosed}
use Rattle.build_sources.proofs.Alone.{list_alone, well_alone}
use Rattle.build_image.specs.declared.Call.{Call}
use Rattle.build_image.specs.Image.{Borders}
use Rattle.build_bounds.specs.declared.Boundaries.{Boundaries}
use Rattle.build_bounds.specs.Boundaries.{bounds_of}
use Rattle.build_sweep.specs.Swept.{listed, plain, SweptBy, IndexSweptBy}
use Rattle.build_table.specs.Index.{Held, index_verdict}
use Rattle.build_table.specs.Leaf.{leaf_verdict}
use Rattle.build_table.specs.Table.{of_list, outside_of, refusal_of}
use Rattle.build_table.proofs.Judging.{index_six, index_outside, index_many}
use Rattle.build_table.proofs.Leafing.{leaf_six, leaf_outside, leaf_many}
use Rattle.build_table.proofs.Listing.{of_by, not_two, one_two}
use Rattle.std.proofs.Common.{Option, None, Err}
use Rattle.build_sweep.specs.declared.Pages.{Pages}
use Rattle.build_sweep.specs.declared.Tally.{Tally}

-- ---- the passes' answer, one law a return

module _ (l w : List ℕ) (c : Cursor) (b : Borders) where
  abbrev es : List Entry
  es = entries l w c

  pub why_bad : (t : Bool) → t ≡ well_formed l w c → t ≡ false → BadList ≡ refusal_of l w c b
  unfolding refusal_of
  why_bad t e q = rw (sym e ∙ q) refl

  module _ (t : Bool) (e : t ≡ well_formed l w c) (q : t ≡ true) where
    pub why_falls : rising es ≡ false → OutOfOrder ≡ refusal_of l w c b
    unfolding refusal_of
    why_falls k = rw (sym e ∙ q, k) refl

    module _ (k : rising es ≡ true) (i : Bool) (j : i ≡ enclosed b.lo b.hi es) where
      pub why_many : i ≡ true → TooBig ≡ refusal_of l w c b
      unfolding refusal_of
      why_many h = rw (sym e ∙ q, k, sym j ∙ h) refl

      pub why_outside : i ≡ false → (r : Refusal) → r ≡ outside_of (take b.prefix b.lo) es → r ≡ refusal_of l w c b
      unfolding refusal_of
      why_outside h r f = f ∙ rw (sym e ∙ q, k, sym j ∙ h) refl

-- ---- what the table says

-- something is wrong with a list: it does not end well, rise or keep to a page's count, or the boundaries do not enclose it
abbrev pub Wrong : List ℕ → List ℕ → ℕ → Borders → Type 0
Wrong l w source b =
    well_formed l w (first_of source) ≡ true → rising (entries l w (first_of source)) ≡ true → enclosed b.lo b.hi (entries l w (first_of source)) ≡ true → max_entries < length (entries l w (first_of source))

module _ {X : Type 0} (no' : Refusal → X) (l w : List ℕ) (source : ℕ) (b : Borders) (verdict : List Entry → X) (wrong : Wrong l w source b)
    (six : rising (entries l w (first_of source)) ≡ false → no' OutOfOrder ≡ verdict (entries l w (first_of source)))
    (out : rising (entries l w (first_of source)) ≡ true → enclosed b.lo b.hi (entries l w (first_of source)) ≡ false → no' (outside_of (take b.prefix b.lo) (entries l w (first_of source))) ≡ verdict (entries l w (first_of source)))
    (many : rising (entries l w (first_of source)) ≡ true → enclosed b.lo b.hi (entries l w (first_of source)) ≡ true → max_entries < length (entries l w (first_of source)) → no' TooBig ≡ verdict (entries l w (first_of source))) where
  abbrev all : List Entry
  all = entries l w (first_of source)

  is_refused : no' (refusal_of l w (first_of source) b) ≡ of_list l w source (no' BadList) verdict
  is_refused = go (well_formed l w (first_of source)) refl (rising all) refl (enclosed b.lo b.hi all) refl
    where
      go : (t : Bool) → well_formed l w (first_of source) ≡ t → (u : Bool) → rising all ≡ u → (v : Bool) → enclosed b.lo b.hi all ≡ v → no' (refusal_of l w (first_of source) b) ≡ of_list l w source (no' BadList) verdict
      go false p u q v r = ap no' (sym (why_bad l w (first_of source) b false (sym p) refl)) ∙ sym (of_by l w source (no' BadList) verdict false p)
      go true p false q v r = ap no' (sym (why_falls l w (first_of source) b true (sym p) refl q)) ∙ six q ∙ sym (of_by l w source (no' BadList) verdict true p)
      go true p true q true r = ap no' (sym (why_many l w (first_of source) b true (sym p) refl q true (sym r) refl)) ∙ many q r (wrong p q r) ∙ sym (of_by l w source (no' BadList) verdict true p)
      go true p true q false r =
          ap no' (sym (why_outside l w (first_of source) b true (sym p) refl q false (sym r) refl (outside_of (take b.prefix b.lo) all) refl)) ∙ out q r ∙ sym (of_by l w source (no' BadList) verdict true p)

-- ---- what a sweep did not accept, and what the ends did not

not_plain : (l w : List ℕ) (source : ℕ) (b : Borders) → (source ≡ 2 → ⊥) → plain l source ≡ false → Wrong l w source b
unfolding plain
not_plain l w source b ns e p q r =
    let a : entries l w (first_of source) ≡ listed l source = list_alone l w (first_of source) ns in
    let p' : well_formed l [] (first_of source) ≡ true = sym (well_alone l w (first_of source) ns) ∙ p in
    let q' : rising (listed l source) ≡ true = ap rising (sym a) ∙ q in
    let f : leb (length (listed l source)) max_entries ≡ false = rw (p', q') at e in
    omega (arith, leb-false (length (listed l source)) max_entries f, ap length a)

not_inside : (l w : List ℕ) (source : ℕ) (b : Borders) → enclosed b.lo b.hi (entries l w (first_of source)) ≡ false → Wrong l w source b
not_inside l w source b e p q r = absurd (let z : true ≡ false = sym r ∙ e in let y : ◌≡◌ {A = ℕ} 0 1 = cc in omega arith)

module _ (l w : List ℕ) (len next : ℕ) (lo hi : List ℕ) (e : Boundaries) (h : Held lo hi w e) (c : Cursor) (v : Refusal) (ev : v ≡ refusal_of l w c (bounds_of lo hi w e)) where
  abbrev bs : Borders
  bs = bounds_of lo hi w e

  -- a record list
  module _ (m : Call) (ec : c ≡ first_of 0) where
    leaf_by : Wrong l w 0 bs → Err v ≡ of_list l w 0 (Err BadList) (leaf_verdict len next m bs)
    leaf_by x =
        ap Err (ev ∙ ap (λ (d : Cursor). refusal_of l w d bs) ec)
        ∙ is_refused Err l w 0 bs (leaf_verdict len next m bs) x (leaf_six m lo hi w e h len next (entries l w (first_of 0))) (leaf_outside m lo hi w e h len next (entries l w (first_of 0)))
        (λ q r. leaf_many m lo hi w e h len next (entries l w (first_of 0)) q r (length (entries l w (first_of 0))) refl)

    pub leaf_not : (p at limit budget : ℕ) (r : Option (Tally × Pages × ℕ × ℕ)) → SweptBy l p at limit budget r → r ≡ None → Err v ≡ of_list l w 0 (Err BadList) (leaf_verdict len next m bs)
    leaf_not p at limit budget r k z = leaf_by (not_plain l w 0 bs not_two (rw z at k))

    pub leaf_apart : enclosed bs.lo bs.hi (entries l w (first_of 0)) ≡ false → Err v ≡ of_list l w 0 (Err BadList) (leaf_verdict len next m bs)
    leaf_apart i = leaf_by (not_inside l w 0 bs i)

  -- an index list
  module _ (ec : c ≡ first_of 1) where
    index_by : Wrong l w 1 bs → Err v ≡ of_list l w 1 (Err BadList) (index_verdict len next bs e)
    index_by x =
        ap Err (ev ∙ ap (λ (d : Cursor). refusal_of l w d bs) ec)
        ∙ is_refused Err l w 1 bs (index_verdict len next bs e) x (index_six len next lo hi w e h (entries l w (first_of 1))) (index_outside len next lo hi w e h (entries l w (first_of 1)))
        (λ q r. index_many len next lo hi w e h (entries l w (first_of 1)) q r (length (entries l w (first_of 1))) refl)

    pub index_not : (p : ℕ) (r : Option (ℕ × ℕ × ℕ × ℕ)) → IndexSweptBy l p r → r ≡ None → Err v ≡ of_list l w 1 (Err BadList) (index_verdict len next bs e)
    index_not p r k z = index_by (not_plain l w 1 bs one_two (rw z at k))

    pub index_apart : enclosed bs.lo bs.hi (entries l w (first_of 1)) ≡ false → Err v ≡ of_list l w 1 (Err BadList) (index_verdict len next bs e)
    index_apart i = index_by (not_inside l w 1 bs i)
