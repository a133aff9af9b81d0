-- Lists: what one sweep accepted is what the table says; and what a verdict on a list says of answer and arena.
-- Assumes nothing.
use mathlib.Core.Path.{◌≡◌, refl, sym, ap, ap₂, subst, ◌∙◌}
use mathlib.Core.List.{List, []}
use mathlib.Core.Bool.{Bool, true, false, cond}
use Prim.Native.Nat.{ℕ, ◌+◌, ◌≤◌, ◌<◌}
use native.Mathlib.Omega.{arith}
use lib.ListN.{length, take}
use Rattle.spans.specs.Span.{put}
use Rattle.frames.specs.declared.Refusal.{Refusal}
use Rattle.frames.specs.declared.Refusal.TheVariants.{BadList}
use Rattle.frames.specs.Layout.{addr, frame_len}
use Rattle.frames.specs.Limits.{max_entries}
use Rattle.build_sources.specs.declared.Cursor.{Cursor}
use Rattle.build_sources.specs.Lists.{first_of}
use Rattle.build_sources.specs.Source.{Entry, entries, well_formed, only}
use Rattle.build_sources.specs.Judged.{rising, enclosed}
use Rattle.build_sources.proofs.Alone.{list_alone, well_alone}
use Rattle.build_image.specs.declared.Call.{Call}
use Rattle.build_image.specs.Image.{Borders, index_sums, index_image, leaf_image}
use Rattle.build_bounds.specs.declared.Boundary.{Boundary}
use Rattle.build_bounds.specs.declared.Boundaries.{Boundaries}
use Rattle.build_bounds.specs.Boundaries.{boundary_bytes, boundary_of, bounds_of}
use Rattle.build_bounds.proofs.Laws.{boundary_whole}
use Rattle.build_sweep.specs.declared.Tally.{Tally}
use Rattle.build_sweep.specs.declared.Pages.{Pages}
use Rattle.build_sweep.specs.Tally.{nothing, tally_of}
use Rattle.build_sweep.specs.Pages.{pages_of}
use Rattle.build_sweep.specs.Swept.{listed, Ended, Accepted, SweptBy, IndexAccepted, IndexSweptBy, spans_ends}
use Rattle.build_sweep.proofs.Ending.{First, first_record, first_index, ends-long, ends_enclose}
use Rattle.build_heads.specs.Steps.{Long}
use Rattle.build_leaf.specs.Leaf.{Small}
use Rattle.build_index.specs.Parts.{Ready}
use Rattle.build_totals.specs.declared.Totals.{Totals}
use Rattle.build_totals.specs.Totals.{totals_of}
use Rattle.build_table.specs.Table.{of_list}
use Rattle.build_table.specs.Index.{Held, index_verdict, index_weighed, index_answer, index_arena}
use Rattle.build_table.specs.Leaf.{leaf_verdict, weighed, leaf_answer, leaf_arena}
use Rattle.build_table.proofs.Judging.{index_weighed_lem, index_refused, index_ready, index_built_lem}
use Rattle.build_table.proofs.Leafing.{leaf_weighed, leaf_refused, leaf_totals, leaf_few, leaf_small, leaf_long, leaf_room_lem, leaf_built_lem}
use Rattle.std.proofs.Common.{Option, Some, Result, Ok, Err}
use Rattle.frames.specs.declared.Addr.{Addr}

-- ---- 3, or what the entries come to

pub of_by : {X : Type 0} (l w : List ℕ) (source : ℕ) (bad : X) (go : List Entry → X) (t : Bool) → well_formed l w (first_of source) ≡ t → of_list l w source bad go ≡ cond t (go (entries l w (first_of source))) bad
unfolding of_list
of_by l w source bad go t q = rw q refl

module _ {X : Type 0} (l w : List ℕ) (source : ℕ) (bad : X) (go : List Entry → X) (c : Cursor) (ec : c ≡ first_of source) where
  pub of_bad : (t : Bool) → t ≡ well_formed l w c → t ≡ false → bad ≡ of_list l w source bad go
  of_bad t e q = sym (of_by l w source bad go false (sym (ap (well_formed l w) ec) ∙ sym e ∙ q))

  pub of_well : (t : Bool) → t ≡ well_formed l w c → t ≡ true → (v : X) → v ≡ go (entries l w c) → v ≡ of_list l w source bad go
  of_well t e q v ev = ev ∙ ap (λ (x : Cursor). go (entries l w x)) ec ∙ sym (of_by l w source bad go true (sym (ap (well_formed l w) ec) ∙ sym e ∙ q))

-- a verdict on a list, of which `no'` tells refusals
module _ {Y : Type 0} (no' : Refusal → Y) (one : (r q : Refusal) → no' r ≡ no' q → r ≡ q) (a l : List ℕ) (next source : ℕ) (verdict : List Entry → Y) (answer : List Entry → Result (Addr × ℕ) Refusal) (arena : List Entry → List ℕ)
    (v : Y) (ev : v ≡ of_list l (take next a) source (no' BadList) verdict) where
  abbrev es : List Entry
  es = entries l (take next a) (first_of source)

  abbrev Both : Result (Addr × ℕ) Refusal → List ℕ → Type 0
  Both r a₁ = (r ≡ of_list l (take next a) source (Err BadList) answer) × (a₁ ≡ of_list l (take next a) source a arena)

  pub list_refused : ((r : Refusal) → v ≡ verdict es → v ≡ no' r → (Err r ≡ answer es) × (a ≡ arena es)) → (r : Refusal) → v ≡ no' r → Both (Err r) a
  list_refused lift r q = go (well_formed l (take next a) (first_of source)) refl
    where
      go : (t : Bool) → well_formed l (take next a) (first_of source) ≡ t → Both (Err r) a
      go true u =
          let k = lift r (ev ∙ of_by l (take next a) source (no' BadList) verdict true u) q in
          (k.0 ∙ sym (of_by l (take next a) source (Err BadList) answer true u), k.1 ∙ sym (of_by l (take next a) source a arena true u))
      go false u =
          let z = one r BadList (sym q ∙ ev ∙ of_by l (take next a) source (no' BadList) verdict false u) in
          (ap Err z ∙ sym (of_by l (take next a) source (Err BadList) answer false u), sym (of_by l (take next a) source a arena false u))

  -- one that is no refusal
  module _ (fits : v ≡ no' BadList → ⊥) (c : Cursor) (ec : c ≡ first_of source) where
    well_by : (t : Bool) → well_formed l (take next a) (first_of source) ≡ t → t ≡ true
    well_by true u = refl
    well_by false u = absurd (fits (ev ∙ of_by l (take next a) source (no' BadList) verdict false u))

    pub list-well : well_formed l (take next a) (first_of source) ≡ true
    list-well = well_by (well_formed l (take next a) (first_of source)) refl

    pub list_verdict : v ≡ verdict (entries l (take next a) c)
    list_verdict = ev ∙ of_by l (take next a) source (no' BadList) verdict true list-well ∙ ap (λ (x : Cursor). verdict (entries l (take next a) x)) (sym ec)

    pub list_built : (r : Result (Addr × ℕ) Refusal) (a₁ : List ℕ) → (r ≡ answer (entries l (take next a) c)) × (a₁ ≡ arena (entries l (take next a) c))
        → (r ≡ of_list l (take next a) source (Err BadList) answer) × (a₁ ≡ of_list l (take next a) source a arena)
    list_built r a₁ k = (
      k.0 ∙ ap (λ (x : Cursor). answer (entries l (take next a) x)) ec ∙ sym (of_by l (take next a) source (Err BadList) answer true list-well),
      k.1 ∙ ap (λ (x : Cursor). arena (entries l (take next a) x)) ec ∙ sym (of_by l (take next a) source a arena true list-well),
    )

-- ---- what a sweep accepted

pub accepted : (l : List ℕ) (p at limit budget : ℕ) (r : Option (Tally × Pages × ℕ × ℕ)) (t : Tally) (g : Pages) (kat klen : ℕ) → SweptBy l p at limit budget r → r ≡ Some (t, g, kat, klen) → Accepted l p at limit budget t g kat klen
accepted l p at limit budget r t g kat klen h e = rw e at h

pub index_accepted : (l : List ℕ) (p : ℕ) (r : Option (ℕ × ℕ × ℕ × ℕ)) (n s kat klen : ℕ) → IndexSweptBy l p r → r ≡ Some (n, s, kat, klen) → IndexAccepted l p n s kat klen
index_accepted l p r n s kat klen h e = rw e at h

-- what its ends need of a list that has entries
pub record_ends : (l : List ℕ) (n kat klen : ℕ) → Ended l 0 n kat klen → (n ≡ 0 → ⊥) → 7 ≤ length l
record_ends l n kat klen h nz = ends-long l 0 n kat klen h (first_record l) nz

pub index_ends : (l : List ℕ) (n kat klen : ℕ) → Ended l 1 n kat klen → (n ≡ 0 → ⊥) → 7 ≤ length l
index_ends l n kat klen h nz = ends-long l 1 n kat klen h (first_index l) nz

-- a list whose boundaries are whole slices
module _ (l w : List ℕ) (source : ℕ) (ns : source ≡ 2 → ⊥) (lo hi : List ℕ) (e : Boundaries) (el : e.lo ≡ boundary_of lo) (eh : e.hi ≡ boundary_of hi) (n kat klen : ℕ) (h : Ended l source n kat klen)
    (first : 0 < length (listed l source) → First l source) where
  alone : listed l source ≡ entries l w (first_of source)
  alone = sym (list_alone l w (first_of source) ns)

  well_in : true ≡ well_formed l w (first_of source)
  well_in = sym (well_alone l w (first_of source) ns ∙ h.well)

  rises_in : rising (entries l w (first_of source)) ≡ true
  rises_in = ap rising (sym alone) ∙ h.rises

  ends_are : enclosed (boundary_bytes lo w e.lo) (boundary_bytes hi w e.hi) (entries l w (first_of source)) ≡ spans_ends l n kat klen lo hi
  ends_are =
      ap₂ (λ (x y : List ℕ). enclosed x y (entries l w (first_of source))) (ap (boundary_bytes lo w) el ∙ boundary_whole lo w) (ap (boundary_bytes hi w) eh ∙ boundary_whole hi w)
      ∙ ap (enclosed lo hi) (sym alone)
      ∙ sym (ends_enclose l source n kat klen h first lo hi)

  inside : spans_ends l n kat klen lo hi ≡ true → enclosed (boundary_bytes lo w e.lo) (boundary_bytes hi w e.hi) (entries l w (first_of source)) ≡ true
  inside q = ends_are ∙ q

  -- what the ends do not pass, the boundaries do not enclose
  pub not_enclosed : (b : Bool) → b ≡ spans_ends l n kat klen lo hi → b ≡ false → enclosed (boundary_bytes lo w e.lo) (boundary_bytes hi w e.hi) (entries l w (first_of source)) ≡ false
  not_enclosed b eb q = ends_are ∙ sym eb ∙ q

pub not_two : ◌≡◌ {A = ℕ} 0 2 → ⊥
not_two e = absurd (omega arith)

pub one_two : ◌≡◌ {A = ℕ} 1 2 → ⊥
one_two e = absurd (omega arith)

module _ (l w : List ℕ) (len next : ℕ) (lo hi : List ℕ) (e : Boundaries) (h : Held lo hi w e) (el : e.lo ≡ boundary_of lo) (eh : e.hi ≡ boundary_of hi) where
  pub list-weighed : (m : Call) (t : Tally) (g : Pages) (kat klen : ℕ) → Accepted l e.prefix next m.limit m.budget t g kat klen → (b : Bool) → b ≡ spans_ends l (t.heads + t.olds) kat klen lo hi → b ≡ true
      → (v : Result Totals Refusal) → v ≡ weighed len (length lo) (length hi) t g → v ≡ of_list l w 0 (Err BadList) (leaf_verdict len next m (bounds_of lo hi w e))
  list-weighed m t g kat klen s b eb q v ev =
      let a = alone l w 0 not_two lo hi e el eh (t.heads + t.olds) kat klen s.ended (first_record l) in
      of_well l w 0 (Err BadList) (leaf_verdict len next m (bounds_of lo hi w e)) (first_of 0) refl true (well_in l w 0 not_two lo hi e el eh (t.heads + t.olds) kat klen s.ended (first_record l)) refl v
      (ev
      ∙ ap₂ (λ (x y : ℕ). weighed len x y t g) (ap (λ (x : Boundary). x.len) (sym el)) (ap (λ (x : Boundary). x.len) (sym eh))
      ∙ leaf_weighed m lo hi w e h len next (entries l w (first_of 0)) (rises_in l w 0 not_two lo hi e el eh (t.heads + t.olds) kat klen s.ended (first_record l))
      (inside l w 0 not_two lo hi e el eh (t.heads + t.olds) kat klen s.ended (first_record l) (sym eb ∙ q)) (t.heads + t.olds) (s.ended.count ∙ ap length a) s.ended.few
      t (s.tally ∙ ap (tally_of m.limit e.prefix nothing) a) g (s.pages ∙ ap (λ (x : List Entry). pages_of m.limit m.budget 0 next (only true x)) a))

  pub index_list-weighed : (n s kat klen : ℕ) → IndexAccepted l e.prefix n s kat klen → (b : Bool) → b ≡ spans_ends l n kat klen lo hi → b ≡ true
      → (v : Result (ℕ × ℕ) Refusal) → v ≡ index_weighed len next (length lo) (length hi) n s → v ≡ of_list l w 1 (Err BadList) (index_verdict len next (bounds_of lo hi w e) e)
  index_list-weighed n s kat klen z b eb q v ev =
      let a = alone l w 1 one_two lo hi e el eh n kat klen z.ended (first_index l) in
      of_well l w 1 (Err BadList) (index_verdict len next (bounds_of lo hi w e) e) (first_of 1) refl true (well_in l w 1 one_two lo hi e el eh n kat klen z.ended (first_index l)) refl v
      (ev
      ∙ ap₂ (λ (x y : ℕ). index_weighed len next x y n s) (ap (λ (x : Boundary). x.len) (sym el)) (ap (λ (x : Boundary). x.len) (sym eh))
      ∙ index_weighed_lem len next lo hi w e h (entries l w (first_of 1)) (rises_in l w 1 one_two lo hi e el eh n kat klen z.ended (first_index l))
      (inside l w 1 one_two lo hi e el eh n kat klen z.ended (first_index l) (sym eb ∙ q)) n (z.ended.count ∙ ap length a) z.ended.few s (z.sums ∙ ap (index_sums e.prefix) a))

-- ---- what is built

one_leaf : (r q : Refusal) → ◌≡◌ {A = Result Totals Refusal} (Err r) (Err q) → r ≡ q
one_leaf r q e = cc

one_index : (r q : Refusal) → ◌≡◌ {A = Result (ℕ × ℕ) Refusal} (Err r) (Err q) → r ≡ q
one_index r q e = cc

module _ (a l : List ℕ) (next : ℕ) (m : Call) (lo hi : List ℕ) (e : Boundaries) where
  abbrev bs : Borders
  bs = bounds_of lo hi (take next a) e

  abbrev Leaves : Result (Addr × ℕ) Refusal → List ℕ → Type 0
  Leaves r a₁ = (r ≡ of_list l (take next a) 0 (Err BadList) (leaf_answer a next m bs)) × (a₁ ≡ of_list l (take next a) 0 a (leaf_arena a next m bs))

  abbrev Indexes : Result (Addr × ℕ) Refusal → List ℕ → Type 0
  Indexes r a₁ = (r ≡ of_list l (take next a) 1 (Err BadList) (index_answer a next m bs)) × (a₁ ≡ of_list l (take next a) 1 a (index_arena a next m bs))

  module _ (h : Held lo hi (take next a) e) (v : Result Totals Refusal) (ev : v ≡ of_list l (take next a) 0 (Err BadList) (leaf_verdict (length a) next m bs)) where
    pub leaf_list_refused : (r : Refusal) → v ≡ Err r → Leaves (Err r) a
    leaf_list_refused =
        list_refused Err one_leaf a l next 0 (leaf_verdict (length a) next m bs) (leaf_answer a next m bs) (leaf_arena a next m bs) v ev
        (λ r q k. leaf_refused a next m lo hi e h (entries l (take next a) (first_of 0)) v q r k)

    -- what fits, in the words of the writer of lists
    module _ (t : Totals) (q : v ≡ Ok t) where
      fits : v ≡ Err BadList → ⊥
      fits z = absurd (let y : ◌≡◌ {A = ℕ} 0 1 = cc in omega arith)

      at_hand : v ≡ leaf_verdict (length a) next m bs (entries l (take next a) (first_of 0))
      at_hand = list_verdict Err one_leaf a l next 0 (leaf_verdict (length a) next m bs) (leaf_answer a next m bs) (leaf_arena a next m bs) v ev fits (first_of 0) refl

      alone_in : entries l (take next a) (first_of 0) ≡ listed l 0
      alone_in = list_alone l (take next a) (first_of 0) not_two

      pub fit_well : well_formed l [] (first_of 0) ≡ true
      fit_well =
          sym (well_alone l (take next a) (first_of 0) not_two)
          ∙ list-well Err one_leaf a l next 0 (leaf_verdict (length a) next m bs) (leaf_answer a next m bs) (leaf_arena a next m bs) v ev fits (first_of 0) refl

      pub fit_small : Small t e
      fit_small = leaf_small a next m lo hi e h (entries l (take next a) (first_of 0)) v at_hand t q

      pub fit_long : Long e.prefix (listed l 0)
      fit_long = subst (λ (es : List Entry). Long e.prefix es) alone_in (leaf_long a next m lo hi e h (entries l (take next a) (first_of 0)) v at_hand t q)

      pub fit_few : length (listed l 0) ≤ max_entries
      fit_few = subst (λ (es : List Entry). length es ≤ max_entries) alone_in (leaf_few a next m lo hi e h (entries l (take next a) (first_of 0)) v at_hand t q)

      pub fit_totals : t ≡ totals_of m (bounds_of lo hi (take next a) e) next (listed l 0)
      fit_totals = leaf_totals a next m lo hi e h (entries l (take next a) (first_of 0)) v at_hand t q ∙ ap (totals_of m bs next) alone_in

      pub fit_room : t.end ≤ length a
      fit_room = leaf_room_lem a next m lo hi e h (entries l (take next a) (first_of 0)) v at_hand t q

      pub fit_built : (a₁ : List ℕ) (x : ℕ) → x ≡ t.leaf → a₁ ≡ put a next (leaf_image m (bounds_of lo hi (take next a) e) next (listed l 0)) → Leaves (Ok (addr x, t.end)) a₁
      fit_built a₁ x ex p =
          list_built Err one_leaf a l next 0 (leaf_verdict (length a) next m bs) (leaf_answer a next m bs) (leaf_arena a next m bs) v ev fits (first_of 0) refl (Ok (addr x, t.end)) a₁
          (leaf_built_lem a next m lo hi e h (entries l (take next a) (first_of 0)) v at_hand t q a₁ x ex (p ∙ ap (λ (es : List Entry). put a next (leaf_image m bs next es)) (sym alone_in)))

  module _ (le : next ≤ length a) (h : Held lo hi (take next a) e) (v : Result (ℕ × ℕ) Refusal) (ev : v ≡ of_list l (take next a) 1 (Err BadList) (index_verdict (length a) next bs e)) where
    pub index_list_refused : (r : Refusal) → v ≡ Err r → Indexes (Err r) a
    index_list_refused =
        list_refused Err one_index a l next 1 (index_verdict (length a) next bs e) (index_answer a next m bs) (index_arena a next m bs) v ev
        (λ r q k. index_refused a next m lo hi e (entries l (take next a) (first_of 1)) le h v q r k)

    -- what fits, in the words of the writer of index lists
    module _ (n s : ℕ) (q : v ≡ Ok (n, s)) where
      index_fits : v ≡ Err BadList → ⊥
      index_fits z = absurd (let y : ◌≡◌ {A = ℕ} 0 1 = cc in omega arith)

      index_at_hand : v ≡ index_verdict (length a) next bs e (entries l (take next a) (first_of 1))
      index_at_hand = list_verdict Err one_index a l next 1 (index_verdict (length a) next bs e) (index_answer a next m bs) (index_arena a next m bs) v ev index_fits (first_of 1) refl

      index_alone_in : entries l (take next a) (first_of 1) ≡ listed l 1
      index_alone_in = list_alone l (take next a) (first_of 1) one_two

      pub index_fit_well : well_formed l [] (first_of 1) ≡ true
      index_fit_well =
          sym (well_alone l (take next a) (first_of 1) one_two)
          ∙ list-well Err one_index a l next 1 (index_verdict (length a) next bs e) (index_answer a next m bs) (index_arena a next m bs) v ev index_fits (first_of 1) refl

      pub index_fit_ready : Ready a next next lo hi e (listed l 1) n s
      index_fit_ready = subst (λ (es : List Entry). Ready a next next lo hi e es n s) index_alone_in (index_ready a next m lo hi e (entries l (take next a) (first_of 1)) le h v index_at_hand n s q)

      pub index_fit_built : (a₁ : List ℕ) (x : ℕ) → a₁ ≡ put a next (index_image m (bounds_of lo hi (take next a) e) (listed l 1)) → x ≡ frame_len s → Indexes (Ok (addr next, next + x)) a₁
      index_fit_built a₁ x p ex =
          list_built Err one_index a l next 1 (index_verdict (length a) next bs e) (index_answer a next m bs) (index_arena a next m bs) v ev index_fits (first_of 1) refl (Ok (addr next, next + x)) a₁
          (index_built_lem a next m lo hi e (entries l (take next a) (first_of 1)) le h v index_at_hand n s q a₁ x (p ∙ ap (λ (es : List Entry). put a next (index_image m bs es)) (sym index_alone_in)) ex)
