-- What a page that is ready for a search tells.
-- Assumes nothing.
use Prim.Native.Nat.{ℕ, ◌+◌, ◌*◌, ◌≤◌}
use mathlib.Core.Path.{◌≡◌, refl, sym, ap, ◌∙◌}
use mathlib.Core.Bool.{Bool, true, false, cond, ◌||◌}
use mathlib.Core.List.{List}
use native.Mathlib.Omega.{arith}
use borrow.Author.Tests.{eq-eqb, ne_eqb, eqb-true, eqb-false}
use lib.ListN.{length}
use lib.Dec.{eqb}
use Rattle.spans.proofs.Part.{length_part}
use Rattle.spans.proofs.Tests.{ask, dont}
use Rattle.order.specs.declared.Ver.{Ver}
use Rattle.order.proofs.Laws.{starts-length, starts_none}
use Rattle.frames.specs.declared.Addr.{Addr}
use Rattle.frames.specs.declared.Body.{Body}
use Rattle.frames.specs.Layout.{base_len, open_at, Inside}
use Rattle.frames.proofs.Frames.{open_inside}
use Rattle.records.specs.Records.{slot_at, key_slot, key_at_slot}
use Rattle.records.specs.Parts.{prefix_in}
use Rattle.records.proofs.Inside.{KeyInside, key-inside, prefix-part}
use Rattle.sst.specs.declared.Want.{Want}
use Rattle.sst.specs.Search.{Searchable, ready, empty, bad, right_kind, ready_of, ready_at, fits_prefix, halved, elsewhere, probed, outcome_of, outcome_at, end_of, ended_in, indexes, leaves}
use Rattle.std.proofs.Common.{Option, Some, None}
use Rattle.sst.specs.declared.Ended.{Ended}
use Rattle.sst.specs.declared.Halved.{Halved}
use Rattle.sst.specs.declared.Outcome.{Outcome}
use Rattle.values.specs.Keys.{key_parts}

-- ---- laws that belong to lower crates

-- the key of a slot lies in the page (`records`)
pub key-at-inside : (s : List ℕ) (b : Body) (i v r n : ℕ) → Inside s b → key_at_slot s b i ≡ Some (key_parts v r n) → KeyInside b v r n
unfolding key_at_slot
key-at-inside s b i v r n z e = go (slot_at s b i) e
  where
    go : (w : Option ℕ) → key_slot s b w ≡ Some (key_parts v r n) → KeyInside b v r n
    go (Some p) q = key-inside s b p v r n z q
    go None q = absurd (let z : ◌≡◌ {A = ℕ} 0 1 = cc in omega arith)

-- the prefix has its length (`records`)
pub prefix-length : (s : List ℕ) (b : Body) → Inside s b → length (prefix_in s b) ≡ b.prefix_len
prefix-length s b i =
    ap length (prefix-part s b i)
    ∙ length_part s (b.at + base_len + 4 * b.elems) b.prefix_len (omega (arith, i.slots, i.records, i.payload, i.arena, i.prefix))

-- ---- a page that is ready

-- it was opened, it is of a kind that the search takes, and has keys
pub record IsReady (s : List ℕ) (a : Addr) (w : Want) (b : Body) : Type 0 where
  pub opened : open_at s a ≡ Some b
  pub inside : Inside s b
  pub right : right_kind b.kind w ≡ true
  pub some : b.elems ≡ 0 → ⊥

pub fits-long : (s : List ℕ) (b : Body) (probe : List ℕ) → Inside s b → fits_prefix s b probe ≡ true → b.prefix_len ≤ length probe
unfolding fits_prefix
fits-long s b probe i e = omega (arith, starts-length (prefix_in s b) probe e, prefix-length s b i)

-- every probe begins with no prefix
pub fits_none : (s : List ℕ) (b : Body) (probe : List ℕ) → Inside s b → b.prefix_len ≡ 0 → fits_prefix s b probe ≡ true
unfolding fits_prefix
fits_none s b probe i e = starts_none (prefix_in s b) probe (prefix-length s b i ∙ e)

pub ready_inside : (s : List ℕ) (a : Addr) (w : Want) (b : Body) → ready_at s a w ≡ ready b → IsReady s a w b
unfolding ready_at
ready_inside s a w b e = go (open_at s a) refl e
  where
    go : (o : Option Body) → open_at s a ≡ o → ready_of w o ≡ ready b → IsReady s a w b
    go (Some d) q e' =
        let a1 = ask (right_kind d.kind w) _ bad (ready b) (λ n. let z : ◌≡◌ {A = ℕ} 0 1 = cc in omega arith) e' in
        let a2 = dont (eqb d.elems 0) empty (ready d) (ready b) (λ n. let z : ◌≡◌ {A = ℕ} 0 1 = cc in omega arith) a1.1 in
        let x : d ≡ b = cc in
        rw (← x) (record { opened = q; inside = (open_inside s a d q).0; right = a1.0; some = eqb-false d.elems 0 a2.0 })
    go None q e' = absurd (let z : ◌≡◌ {A = ℕ} 0 1 = cc in omega arith)

-- opening a page for a search, by what its headers say
module _ (s : List ℕ) (a : Addr) (w : Want) (b : Body) (o : open_at s a ≡ Some b) (k : right_kind b.kind w ≡ true) where
  pub open_empty : b.elems ≡ 0 → ready_at s a w ≡ empty
  unfolding ready_at
  open_empty e = rw (o, k, eq-eqb _ _ e)

  pub open_ready : (b.elems ≡ 0 → ⊥) → ready_at s a w ≡ ready b
  unfolding ready_at
  open_ready e = rw (o, k, ne_eqb _ _ e)

-- the search of an opened page, by what its header and its prefix say
module _ (s : List ℕ) (probe : List ℕ) (w : Want) (b : Body) where
  pub ends_wrong : right_kind b.kind w ≡ false → ended_in s b probe w ≡ None
  unfolding ended_in
  ends_wrong k = rw k

  module _ (k : right_kind b.kind w ≡ true) where
    pub ends_empty : b.elems ≡ 0 → ended_in s b probe w ≡ Some Ended.Empty
    unfolding ended_in
    ends_empty e = rw (k, eq-eqb _ _ e)

    pub ends_halves : (b.elems ≡ 0 → ⊥) → fits_prefix s b probe ≡ true → ended_in s b probe w ≡ Some (Ended.Stands (halved s b probe w))
    unfolding ended_in probed
    ends_halves e f = rw (k, ne_eqb _ _ e, f)

    pub ends-elsewhere : (b.elems ≡ 0 → ⊥) → fits_prefix s b probe ≡ false → ended_in s b probe w ≡ Some (Ended.Stands (elsewhere s b probe))
    unfolding ended_in probed
    ends-elsewhere e f = rw (k, ne_eqb _ _ e, f)

-- for a search that looks for no version: its version was made of two zeros
abbrev pub wants : Bool → Bool → Ver → Want
wants leaf index v = record { leaf = leaf; index = index; lower = false; ver = v }

pub end_of_lem : (s : List ℕ) (b : Body) (probe : List ℕ) (w x : Want) (r e : Option Ended) → x ≡ w → r ≡ ended_in s b probe x → r ≡ e → ended_in s b probe w ≡ e
end_of_lem s b probe w x r e y h k = ap (ended_in s b probe) (sym y) ∙ sym h ∙ k

-- what it says of the page at an address
abbrev pub back_of : Body → Option Ended → Option Outcome
back_of b (Some (Ended.Stands h)) = Some (Outcome.Stands b h)
back_of b (Some Ended.Empty) = Some Outcome.Empty
back_of b None = None

pub outcome_ended : (s : List ℕ) (a : Addr) (probe : List ℕ) (w : Want) (b : Body) (e : Option Ended) → open_at s a ≡ Some b → ended_in s b probe w ≡ e → outcome_at s a probe w ≡ back_of b e
unfolding outcome_at ready_at ended_in
outcome_ended s a probe w b e o h =
    ap (λ (q : Option Body). outcome_of s probe w (ready_of w q)) o
    ∙ go (right_kind b.kind w) (eqb b.elems 0)
    ∙ ap (back_of b) h
  where
    page : Bool → Bool → Option Outcome
    page k m = outcome_of s probe w (cond k (cond m empty (ready b)) bad)

    go : (k m : Bool) → page k m ≡ back_of b (end_of (page k m))
    go false m = refl
    go true true = refl
    go true false = refl

pub outcome_bad : (s : List ℕ) (a : Addr) (probe : List ℕ) (w : Want) → open_at s a ≡ None → outcome_at s a probe w ≡ None
unfolding outcome_at ready_at
outcome_bad s a probe w o = ap (λ (q : Option Body). outcome_of s probe w (ready_of w q)) o

-- ---- a page that the probe stands in

pub outcome_ready : (s : List ℕ) (a : Addr) (probe : List ℕ) (w : Want) (b : Body) (h : Option Halved) → outcome_at s a probe w ≡ Some (Outcome.Stands b h) → IsReady s a w b × (probed s b probe w ≡ h)
unfolding outcome_at
outcome_ready s a probe w b h e = go (ready_at s a w) refl e
  where
    go : (r : Searchable) → ready_at s a w ≡ r → outcome_of s probe w r ≡ Some (Outcome.Stands b h) → IsReady s a w b × (probed s b probe w ≡ h)
    go (ready d) q e' =
        let x : d ≡ b = cc in
        let y : probed s d probe w ≡ h = cc in
        rw (← x) (ready_inside s a w d q, y)
    go empty q e' = absurd (let z : ◌≡◌ {A = ℕ} 0 1 = cc in omega arith)
    go bad q e' = absurd (let z : ◌≡◌ {A = ℕ} 0 1 = cc in omega arith)

-- the kind that floor takes, and the kind that search takes
pub index_kind : (k : ℕ) → right_kind k indexes ≡ true → k ≡ 1
unfolding right_kind
index_kind k e = eqb-true k 1 e

pub leaf_kind : (k : ℕ) → right_kind k leaves ≡ true → k ≡ 0
unfolding right_kind
leaf_kind k e = go (eqb k 0) refl e
  where
    go : (t : Bool) → eqb k 0 ≡ t → (t || false) ≡ true → k ≡ 0
    go true q e' = eqb-true k 0 q
    go false q e' = absurd (let z : ◌≡◌ {A = ℕ} 0 1 = cc in omega arith)
