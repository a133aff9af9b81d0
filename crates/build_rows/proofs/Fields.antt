-- The fields of a record that was read: where its key ends, its flag, its history, its value stand, in the arena itself.
-- Assumes nothing.
use Prim.Native.Nat.{ℕ, zero, suc, ◌+◌, ◌-◌, ◌%◌, ◌≤◌, ◌<◌}
use mathlib.Core.Path.{◌≡◌, refl, sym, ap, ◌∙◌, subst}
use mathlib.Core.Bool.{Bool, true, false, cond, ◌||◌}
use mathlib.Core.List.{List}
use native.Mathlib.Omega.{arith}
use borrow.Author.Tests.{ltb-true, leb-true, eq-eqb, ne_eqb}
use lib.ListN.{length, get_or, take}
use lib.Seq.{get_or-take}
use lib.Dec.{leb, ltb, eqb}
use Rattle.spans.proofs.Part.{part-take}
use Rattle.spans.proofs.Tests.{ask, dont}
use Rattle.numbers.specs.Number.{of_le, le_at}
use Rattle.lengths.proofs.Laws.{read_one}
use Rattle.frames.specs.declared.Addr.{Addr}
use Rattle.frames.specs.declared.Body.{Body}
use Rattle.frames.specs.Layout as layout
use Rattle.frames.specs.Layout.{box_len, box_remote, addr, null_addr, Inside, box_at, remote_at}
use Rattle.frames.specs.Limits.{max_key, max_value}
use Rattle.frames.proofs.Frames.{remote-inside}
use Rattle.values.specs.declared.HistRef.{HistRef}
use Rattle.values.specs.Keys.{skip_of, key_of, key_at, key_parts}
use Rattle.values.specs.Vals.{addr_of, hist_of, no_hist, ref_at, front_at, val_of, val_at, front_places}
use Rattle.records.specs.declared.Rec.{Rec}
use Rattle.records.specs.Records as records
use Rattle.records.specs.Records.{place_of, slot_at, key_whole, key_in, remote_of, val_in, rec_of, rec_val, rec_key, rec_in, rec_slot, rec_at, val_parts}
use Rattle.records.proofs.Inside.{ends, rec_no, val_no, at-inside, rec-inside, rec-val, from_of}
use Rattle.records.proofs.Places.{key_no}
use Rattle.build_rows.specs.Fields.{hist_at, behind_of, HistFits, bytes_at, BytesFit}
use Rattle.std.proofs.Common.{Option, Some, None}
use Rattle.frames.specs.declared.BoxHeader.{BoxHeader}
use Rattle.records.specs.declared.ValParts.{ValParts}
use Rattle.values.specs.declared.Front.{Front}
use Rattle.values.specs.declared.KeyParts.{KeyParts}
use Rattle.values.specs.declared.Val.{Val}

-- ---- a page's bytes are the arena's

module _ (w : List ℕ) (e : ℕ) where
  number-front : (k i : ℕ) → i + k ≤ e → le_at k (take e w) i ≡ le_at k w i
  unfolding le_at
  number-front k i l = ap of_le (part-take i w k e l)

-- ---- what stands behind a flag

-- the flag's two halves: 1 and 3 have history, 2 and 3 are remote
abbrev pub has_of : ℕ → Bool
has_of f = eqb (f % 2) 1

abbrev pub far_of : ℕ → Bool
far_of f = ltb 1 f

-- a flag that was read, with the history that it tells of
record FrontHere (t : List ℕ) (q : ℕ) (head : Bool) (h : HistRef) (far : Bool) (at : ℕ) : Type 0 where
  inside : q < length t
  few : get_or t q 0 ≤ 3
  remote : far ≡ far_of (get_or t q 0)
  next : at ≡ behind_of (has_of (get_or t q 0)) (q + 1)
  hist : h ≡ hist_at t (has_of (get_or t q 0)) (q + 1)
  fits : HistFits t (has_of (get_or t q 0)) (q + 1)
  plain : head ≡ false → has_of (get_or t q 0) ≡ false

front_no : (h : HistRef) (far : Bool) (at : ℕ) → None ≡ Some (front_places h far at) → ⊥
front_no h far at e = let z : ◌≡◌ {A = ℕ} 0 1 = cc in omega arith

yes_no : true ≡ false → ⊥
yes_no e = let z : ◌≡◌ {A = ℕ} 0 1 = cc in omega arith

record RefHere (t : List ℕ) (at : ℕ) (remote : Bool) (h : HistRef) (far : Bool) (after : ℕ) : Type 0 where
  fits : at + 14 ≤ length t
  hist : hist_of (le_at 8 t at) (le_at 2 t (at + 8)) (le_at 4 t (at + 10)) ≡ h
  same : remote ≡ far
  next : at + 14 ≡ after

ref-here : (t : List ℕ) (at : ℕ) (remote : Bool) (h : HistRef) (far : Bool) (next : ℕ) → ref_at t at remote ≡ Some (front_places h far next) → RefHere t at remote h far next
unfolding ref_at
ref-here t at remote h far next e =
    let y = Some (front_places h far next) in
    let a1 = ask (leb (at + 14) (length t)) _ None y (front_no h far next) e in
    let a2 = dont (eqb (le_at 4 t (at + 10)) 0) None _ y (front_no h far next) a1.1 in
    let x1 : hist_of (le_at 8 t at) (le_at 2 t (at + 8)) (le_at 4 t (at + 10)) ≡ h = grind arith in
    let x2 : remote ≡ far = grind arith in
    let x3 : at + 14 ≡ next = grind arith in
    record { fits = leb-true (at + 14) (length t) a1.0; hist = x1; same = x2; next = x3 }

front-here : (t : List ℕ) (q : ℕ) (head : Bool) (h : HistRef) (far : Bool) (at : ℕ) → front_at t q head ≡ Some (front_places h far at) → FrontHere t q head h far at
unfolding front_at hist_at behind_of
front-here t q head h far at e =
    let y = Some (front_places h far at) in
    let a1 = ask (ltb q (length t)) _ None y (front_no h far at) e in
    let a2 = ask (leb (get_or t q 0) 3) _ None y (front_no h far at) a1.1 in
    go (get_or t q 0) refl (ltb-true q (length t) a1.0) (leb-true (get_or t q 0) 3 a2.0) a2.1
  where
    -- none
    none : (f : ℕ) → get_or t q 0 ≡ f → q < length t → f ≤ 3 → has_of f ≡ false → far_of f ≡ eqb f 2
        → Some (front_places no_hist (eqb f 2) (q + 1)) ≡ Some (front_places h far at) → FrontHere t q head h far at
    none f u l k m n e' =
        let x1 : no_hist ≡ h = grind arith in
        let x2 : eqb f 2 ≡ far = grind arith in
        let x3 : q + 1 ≡ at = grind arith in
        let m' : has_of (get_or t q 0) ≡ false = ap has_of u ∙ m in
        record {
          inside = l;
          few = omega arith;
          remote = sym x2 ∙ sym n ∙ ap far_of (sym u);
          next = rw m' (sym x3);
          hist = rw m' (sym x1);
          fits = λ z. absurd (yes_no (sym z ∙ m'));
          plain = λ z. m';
        }

    some : (f : ℕ) → get_or t q 0 ≡ f → q < length t → f ≤ 3 → has_of f ≡ true → far_of f ≡ eqb f 3
        → cond head (ref_at t (q + 1) (eqb f 3)) None ≡ Some (front_places h far at) → FrontHere t q head h far at
    some f u l k m n e' =
        let a1 = ask head _ None (Some (front_places h far at)) (front_no h far at) e' in
        let r = ref-here t (q + 1) (eqb f 3) h far at a1.1 in
        let m' : has_of (get_or t q 0) ≡ true = ap has_of u ∙ m in
        record {
          inside = l;
          few = omega arith;
          remote = sym r.same ∙ sym n ∙ ap far_of (sym u);
          next = rw m' (sym r.next);
          hist = rw m' (sym r.hist);
          fits = λ z. r.fits;
          plain = λ z. absurd (yes_no (sym a1.0 ∙ z));
        }

    go : (f : ℕ) → get_or t q 0 ≡ f → q < length t → f ≤ 3
        → cond (eqb f 0 || eqb f 2) (Some (front_places no_hist (eqb f 2) (q + 1))) (cond head (ref_at t (q + 1) (eqb f 3)) None) ≡ Some (front_places h far at) → FrontHere t q head h far at
    go zero u l k e' = none 0 u l k refl refl e'
    go (suc zero) u l k e' = some 1 u l k refl refl e'
    go (suc (suc zero)) u l k e' = none 2 u l k refl refl e'
    go (suc (suc (suc zero))) u l k e' = some 3 u l k refl refl e'
    go (suc (suc (suc (suc f)))) u l k e' = absurd (omega arith)

-- ---- the value behind it

-- a remote's bytes stand behind its frame's header and its size
remote-place : (s : List ℕ) (a : Addr) (n p : ℕ) → remote_at s a n ≡ Some p → a.0 + 40 ≡ p
unfolding remote_at
remote-place s a n p e = go (box_at s a) e
  where
    no : None ≡ Some p → ⊥
    no z = let y : ◌≡◌ {A = ℕ} 0 1 = cc in omega arith

    go : (f : Option BoxHeader) → layout.remote_of s a.0 n f ≡ Some p → a.0 + 40 ≡ p
    go (Some h) e' =
        let a1 = ask (eqb h.box_kind box_remote) _ None (Some p) no e' in
        let a2 = ask (eqb h.payload_size (8 + n)) _ None (Some p) no a1.1 in
        let a3 = ask (eqb (le_at 8 s (a.0 + box_len)) n) _ None (Some p) no a2.1 in
        let x : a.0 + box_len + 8 ≡ p = cc in
        omega arith
    go None e' = absurd (no e')

-- a value that was read, with its flag
pub record ValueHere (w : List ℕ) (q : ℕ) (head : Bool) (h : HistRef) (p n : ℕ) (a : Addr) : Type 0 where
  pub flag : q < length w
  pub few : get_or w q 0 ≤ 3
  pub ref : HistFits w (has_of (get_or w q 0)) (q + 1)
  pub hist : h ≡ hist_at w (has_of (get_or w q 0)) (q + 1)
  pub fits : BytesFit w (far_of (get_or w q 0)) (behind_of (has_of (get_or w q 0)) (q + 1))
  pub bytes : bytes_at w (far_of (get_or w q 0)) (behind_of (has_of (get_or w q 0)) (q + 1)) ≡ record { at = p; len = n; remote = a }
  pub plain : head ≡ false → has_of (get_or w q 0) ≡ false
  pub small : n ≤ max_value
  pub whole : p + n ≤ length w

-- a flag of a page's bytes is the arena's
hist_front : (w : List ℕ) (e at : ℕ) (has : Bool) → (has ≡ true → at + 14 ≤ e) → hist_at (take e w) has at ≡ hist_at w has at
unfolding hist_at
hist_front w e at true l =
    let k = l refl in
    rw (number-front w e 8 at (omega arith), number-front w e 2 (at + 8) (omega arith), number-front w e 4 (at + 10) (omega arith))
hist_front w e at false l = refl

front_lift : (w : List ℕ) (e q : ℕ) (head : Bool) (h : HistRef) (far : Bool) (at : ℕ) → length (take e w) ≡ e → e ≤ length w → FrontHere (take e w) q head h far at → FrontHere w q head h far at
front_lift w e q head h far at m n f =
    let l : q < e = omega (arith, f.inside) in
    let g : get_or (take e w) q 0 ≡ get_or w q 0 = get_or-take e w q 0 l in
    let r : has_of (get_or w q 0) ≡ true → q + 1 + 14 ≤ e = λ z. omega (arith, f.fits (ap has_of g ∙ z)) in
    record {
      inside = omega arith;
      few = omega (arith, f.few);
      remote = f.remote ∙ ap far_of g;
      next = f.next ∙ ap (λ (x : ℕ). behind_of (has_of x) (q + 1)) g;
      hist = f.hist ∙ ap (λ (x : ℕ). hist_at (take e w) (has_of x) (q + 1)) g ∙ hist_front w e (q + 1) (has_of (get_or w q 0)) r;
      fits = λ z. omega (arith, r z);
      plain = λ z. ap has_of (sym g) ∙ f.plain z;
    }

-- a flag and the value behind it, put together
value_of : (w : List ℕ) (q : ℕ) (head : Bool) (h : HistRef) (far : Bool) (at p n : ℕ) (a : Addr) → FrontHere w q head h far at → BytesFit w far at
    → bytes_at w far at ≡ record { at = p; len = n; remote = a } → n ≤ max_value → p + n ≤ length w → ValueHere w q head h p n a
value_of w q head h far at p n a f b e l m =
    let x : BytesFit w (far_of (get_or w q 0)) at = subst (λ (y : Bool). BytesFit w y at) f.remote b in
    let z : bytes_at w (far_of (get_or w q 0)) at ≡ record { at = p; len = n; remote = a } = subst (λ (y : Bool). bytes_at w y at ≡ record { at = p; len = n; remote = a }) f.remote e in
    record {
      flag = f.inside;
      few = f.few;
      ref = f.fits;
      hist = f.hist;
      fits = subst (λ (y : ℕ). BytesFit w (far_of (get_or w q 0)) y) f.next x;
      bytes = subst (λ (y : ℕ). bytes_at w (far_of (get_or w q 0)) y ≡ record { at = p; len = n; remote = a }) f.next z;
      plain = f.plain;
      small = l;
      whole = m;
    }

module _ (w : List ℕ) (b : Body) (i : Inside w b) (q : ℕ) (h : HistRef) (p n : ℕ) (a : Addr) (next : ℕ) where
  abbrev t : List ℕ
  t = take b.end w

  abbrev head : Bool
  head = eqb b.kind 0

  long : length (take b.end w) ≡ b.end
  long = ends w b i

  below : b.end ≤ length w
  below = omega (arith, i.payload, i.arena)

  near : (h' : HistRef) (at : ℕ) → FrontHere w q head h' false at → at + 4 ≤ b.end → le_at 4 t at ≤ max_value → at + 4 + le_at 4 t at ≤ b.end
      → Some (val_parts h' (at + 4) (le_at 4 t at) null_addr (at + 4 + le_at 4 t at)) ≡ Some (val_parts h p n a next) → ValueHere w q head h p n a
  unfolding bytes_at
  near h' at f l m r e' =
      let x1 : h' ≡ h = grind arith in
      let x2 : at + 4 ≡ p = grind arith in
      let x3 : le_at 4 t at ≡ n = grind arith in
      let x4 : null_addr ≡ a = grind arith in
      let g : le_at 4 t at ≡ le_at 4 w at = number-front w b.end 4 at l in
      let k = below in
      rw (← x1, ← x2, ← x3, ← x4)
      (value_of w q head h' false at (at + 4) (le_at 4 t at) null_addr f (record { size = omega arith; address = λ z. absurd (yes_no (sym z)); frame = λ z. absurd (yes_no (sym z)) }) (rw g) m (omega arith))

  distant : (h' : HistRef) (at : ℕ) → FrontHere w q head h' true at → le_at 4 t at ≤ max_value → at + 12 ≤ b.end → (r : Option ℕ) → remote_at w (addr (le_at 8 t (at + 4))) (le_at 4 t at) ≡ r
      → remote_of h' (addr (le_at 8 t (at + 4))) (le_at 4 t at) (at + 12) r ≡ Some (val_parts h p n a next) → ValueHere w q head h p n a
  unfolding bytes_at
  distant h' at f m r (Some c) u e' =
      let x1 : h' ≡ h = grind arith in
      let x2 : c ≡ p = grind arith in
      let x3 : le_at 4 t at ≡ n = grind arith in
      let x4 : addr (le_at 8 t (at + 4)) ≡ a = grind arith in
      let g : le_at 4 t at ≡ le_at 4 w at = number-front w b.end 4 at (omega arith) in
      let g' : le_at 8 t (at + 4) ≡ le_at 8 w (at + 4) = number-front w b.end 8 (at + 4) (omega arith) in
      let y : le_at 8 t (at + 4) + 40 ≡ c = remote-place w (addr (le_at 8 t (at + 4))) (le_at 4 t at) c u in
      let v = remote-inside w (addr (le_at 8 t (at + 4))) (le_at 4 t at) c u in
      let k = below in
      rw (← x1, ← x2, ← x3, ← x4)
      (value_of w q head h' true at c (le_at 4 t at) (addr (le_at 8 t (at + 4))) f (record { size = omega arith; address = λ z. omega arith; frame = λ z. omega arith }) (rw (← y, g, g')) m (omega arith))
  distant h' at f m r None u e' = absurd (val_no h p n a next e')

  value-here : val_in w b q ≡ Some (val_parts h p n a next) → ValueHere w q (eqb b.kind 0) h p n a
  unfolding val_in val_at
  value-here e' = go (front_at t q head) refl e'
    where
      by : (h' : HistRef) (at : ℕ) (t1 t2 far t3 t4 : Bool) → leb (at + 4) (length t) ≡ t1 → leb (le_at 4 t at) max_value ≡ t2 → leb (at + 12) (length t) ≡ t3 → leb (at + 4 + le_at 4 t at) (length t) ≡ t4
          → FrontHere w q head h' far at
          → records.val_of w (cond t1 (cond t2 (cond far (cond t3 (Some (Val.Remote h' (addr_of (le_at 8 t (at + 4))) (le_at 4 t at) (at + 12))) None) (cond t4 (Some (Val.Inline h' (at + 4) (le_at 4 t at) (at + 4 + le_at 4 t at))) None)) None) None) ≡ Some (val_parts h p n a next)
          → ValueHere w q head h p n a
      by h' at true true true true t4 c1 c2 c3 c4 f r =
          distant h' at f (leb-true (le_at 4 t at) max_value c2) (omega (arith, leb-true (at + 12) (length t) c3, long)) (remote_at w (addr (le_at 8 t (at + 4))) (le_at 4 t at)) refl r
      by h' at true true false t3 true c1 c2 c3 c4 f r =
          near h' at f (omega (arith, leb-true (at + 4) (length t) c1, long)) (leb-true (le_at 4 t at) max_value c2) (omega (arith, leb-true (at + 4 + le_at 4 t at) (length t) c4, long)) r
      by h' at true true true false t4 c1 c2 c3 c4 f r = absurd (val_no h p n a next r)
      by h' at true true false t3 false c1 c2 c3 c4 f r = absurd (val_no h p n a next r)
      by h' at true false far t3 t4 c1 c2 c3 c4 f r = absurd (val_no h p n a next r)
      by h' at false t2 far t3 t4 c1 c2 c3 c4 f r = absurd (val_no h p n a next r)

      go : (f : Option Front) → front_at t q head ≡ f → records.val_of w (val_of t f) ≡ Some (val_parts h p n a next) → ValueHere w q head h p n a
      go (Some f) u r =
          by f.hist f.next (leb (f.next + 4) (length t)) (leb (le_at 4 t f.next) max_value) f.remote (leb (f.next + 12) (length t)) (leb (f.next + 4 + le_at 4 t f.next) (length t)) refl refl refl refl
          (front_lift w b.end q head f.hist f.remote f.next long below (front-here t q head f.hist f.remote f.next u)) r
      go None u r = absurd (val_no h p n a next r)

-- ---- records

-- a head or an old version: its value stands behind its key
rec-value : (w : List ℕ) (b : Body) (j : ℕ) (r : Rec) → Inside w b → (b.kind ≡ 1 → ⊥) → rec_at w b j ≡ Some r
    → val_in w b (r.rest_at + r.rest_len) ≡ Some (val_parts r.hist r.val_at r.val_len r.remote r.next)
rec-value w b j r i k e =
    go (val_in w b (r.rest_at + r.rest_len))
    (sym (rec-val w b j r.ver_at r.rest_at r.rest_len (at-inside w b j r i e).1 (val_in w b (r.rest_at + r.rest_len)) k refl) ∙ e)
  where
    go : (x : Option ValParts) → rec_val (from_of (slot_at w b j)) r.ver_at r.rest_at r.rest_len x ≡ Some r → x ≡ Some (val_parts r.hist r.val_at r.val_len r.remote r.next)
    go (Some v) q =
        let x : rec_of (from_of (slot_at w b j)) r.ver_at r.rest_at r.rest_len v.hist v.val_at v.val_len v.remote v.next ≡ r = cc in
        rw (← x)
    go None q = absurd (rec_no r q)

pub rec-here : (w : List ℕ) (b : Body) (j : ℕ) (r : Rec) → Inside w b → (b.kind ≡ 1 → ⊥) → rec_at w b j ≡ Some r
    → ValueHere w (r.rest_at + r.rest_len) (eqb b.kind 0) r.hist r.val_at r.val_len r.remote
rec-here w b j r i k e = value-here w b i (r.rest_at + r.rest_len) r.hist r.val_at r.val_len r.remote r.next (rec-value w b j r i k e)

-- the page id of an index page's record stands behind its key
pub rec-child : (w : List ℕ) (b : Body) (j : ℕ) (r : Rec) → b.kind ≡ 1 → Inside w b → rec_at w b j ≡ Some r
    → (r.rest_at + r.rest_len ≡ r.val_at) × (r.val_at + 8 ≤ length w)
unfolding rec_at rec_in
rec-child w b j r k i e = go (slot_at w b j) e
  where
    key : (p : ℕ) (x : Option KeyParts) → rec_key w b p x ≡ Some r → (r.rest_at + r.rest_len ≡ r.val_at) × (r.val_at + 8 ≤ length w)
    key p (Some k') q =
        let q' : cond (leb (k'.rest_at + k'.rest_len + 8) b.end) (Some (rec_of p k'.ver_at k'.rest_at k'.rest_len no_hist (k'.rest_at + k'.rest_len) 8 (addr 0) (k'.rest_at + k'.rest_len + 8))) None ≡ Some r = rw (eq-eqb b.kind 1 k) at q in
        let a1 = ask (leb (k'.rest_at + k'.rest_len + 8) b.end) _ None (Some r) (rec_no r) q' in
        let x : rec_of p k'.ver_at k'.rest_at k'.rest_len no_hist (k'.rest_at + k'.rest_len) 8 (addr 0) (k'.rest_at + k'.rest_len + 8) ≡ r = cc in
        let l : k'.rest_at + k'.rest_len + 8 ≤ length w = omega (arith, leb-true (k'.rest_at + k'.rest_len + 8) b.end a1.0, i.payload, i.arena) in
        rw (← x) (refl, l)
    key p None q = absurd (rec_no r q)

    go : (x : Option ℕ) → rec_slot w b x ≡ Some r → (r.rest_at + r.rest_len ≡ r.val_at) × (r.val_at + 8 ≤ length w)
    go (Some p) q = key p (key_in w b p) q
    go None q = absurd (rec_no r q)

-- ---- keys

-- a length of one byte, and as many bytes behind it
key-short : (t : List ℕ) (p kind v ra rn : ℕ) → (kind ≡ 2 → ⊥) → p < length t → get_or t p 0 < 128 → key_at t p kind ≡ Some (key_parts v ra rn) → (p + 1 ≡ v) × (p + 1 + get_or t p 0 ≡ ra + rn)
unfolding key_at
key-short t p kind v ra rn k l m e =
    let y = Some (key_parts v ra rn) in
    let e' : key_of t kind (Some (get_or t p 0, p + 1)) ≡ Some (key_parts v ra rn) = rw (ne_eqb kind 2 k, read_one t p l m) at e in
    let a1 = ask (leb (skip_of kind) (get_or t p 0)) _ None y (key_no v ra rn) e' in
    let a2 = ask (leb (p + 1 + get_or t p 0) (length t)) _ None y (key_no v ra rn) a1.1 in
    let x : p + 1 ≡ v = grind arith in
    let z : p + 1 + skip_of kind ≡ ra = grind arith in
    let u : get_or t p 0 - skip_of kind ≡ rn = grind arith in
    (x, omega (arith, leb-true (skip_of kind) (get_or t p 0) a1.0))

-- a version alone
key-old : (t : List ℕ) (p kind v ra rn : ℕ) → kind ≡ 2 → key_at t p kind ≡ Some (key_parts v ra rn) → (p ≡ v) × (p + 12 ≡ ra + rn)
unfolding key_at
key-old t p kind v ra rn k e =
    let e' : cond (leb (p + 12) (length t)) (Some (key_parts p (p + 12) 0)) None ≡ Some (key_parts v ra rn) = rw (eq-eqb kind 2 k) at e in
    let a1 = ask (leb (p + 12) (length t)) _ None (Some (key_parts v ra rn)) (key_no v ra rn) e' in
    let x : p ≡ v = grind arith in
    let z : p + 12 ≡ ra = grind arith in
    let u : 0 ≡ rn = grind arith in
    (x, omega arith)

key-page : (w : List ℕ) (b : Body) (p v ra rn : ℕ) → key_in w b p ≡ Some (key_parts v ra rn) → (key_at (take b.end w) p b.kind ≡ Some (key_parts v ra rn)) × (b.prefix_len + rn ≤ max_key)
unfolding key_in
key-page w b p v ra rn e = go (key_at (take b.end w) p b.kind) e
  where
    go : (k : Option KeyParts) → key_whole b k ≡ Some (key_parts v ra rn) → (k ≡ Some (key_parts v ra rn)) × (b.prefix_len + rn ≤ max_key)
    go (Some k) e' =
        let a1 = ask (leb (b.prefix_len + k.rest_len) max_key) _ None (Some (key_parts v ra rn)) (key_no v ra rn) e' in
        let z : k.rest_len ≡ rn = cc in
        (a1.1, omega (arith, leb-true (b.prefix_len + k.rest_len) max_key a1.0))
    go None e' = absurd (key_no v ra rn e')

-- the key of a slot, by the byte that its slot points at
pub record KeyFound (w : List ℕ) (b : Body) (r : Rec) (p : ℕ) : Type 0 where
  pub first : p < b.end
  pub short : (b.kind ≡ 2 → ⊥) → get_or w p 0 < 128 → (p + 1 ≡ r.ver_at) × (p + 1 + get_or w p 0 ≡ r.rest_at + r.rest_len)
  pub old : b.kind ≡ 2 → (p ≡ r.ver_at) × (p + 12 ≡ r.rest_at + r.rest_len)
  pub whole : b.prefix_len + r.rest_len ≤ max_key

key-found : (w : List ℕ) (b : Body) (r : Rec) (p : ℕ) → Inside w b → p < b.end → rec_in w b p ≡ Some r → KeyFound w b r p
key-found w b r p i l e =
    let k = key-page w b p r.ver_at r.rest_at r.rest_len (rec-inside w b p r i e).1 in
    let g = get_or-take b.end w p 0 l in
    record {
      first = l;
      short = λ n m. rw g at (key-short (take b.end w) p b.kind r.ver_at r.rest_at r.rest_len n (omega (arith, ends w b i)) (rw g m) k.0);
      old = λ n. key-old (take b.end w) p b.kind r.ver_at r.rest_at r.rest_len n k.0;
      whole = k.1;
    }

pub slot-found : (w : List ℕ) (b : Body) (j : ℕ) (r : Rec) → Inside w b → rec_at w b j ≡ Some r → KeyFound w b r (place_of w b j)
unfolding rec_at slot_at
slot-found w b j r i e = go (ltb j b.elems) (leb b.first (place_of w b j)) (ltb (place_of w b j) b.end) refl e
  where
    go : (t1 t2 t3 : Bool) → ltb (place_of w b j) b.end ≡ t3 → rec_slot w b (cond t1 (cond t2 (cond t3 (Some (place_of w b j)) None) None) None) ≡ Some r → KeyFound w b r (place_of w b j)
    go true true true q e' = key-found w b r (place_of w b j) i (ltb-true (place_of w b j) b.end q) e'
    go true true false q e' = absurd (rec_no r e')
    go true false t3 q e' = absurd (rec_no r e')
    go false t2 t3 q e' = absurd (rec_no r e')
