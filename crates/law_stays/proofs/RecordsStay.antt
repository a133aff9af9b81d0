-- A slot, a key, a value, a record that was read in the shorter arena is read alike in the longer one.
-- Assumes nothing.
use Prim.Native.Nat.{ℕ, ◌+◌, ◌*◌, ◌≤◌, ◌<◌}
use mathlib.Core.Path.{◌≡◌, refl, sym, ap, ap₂, ◌∙◌}
use mathlib.Core.Bool.{Bool, true, false, cond}
use mathlib.Core.List.{List}
use native.Mathlib.Omega.{arith}
use lib.ListN.{length, take}
use lib.Dec.{leb, eqb}
use Rattle.numbers.specs.Number.{le_at}
use Rattle.order.specs.Version.{ver_of}
use Rattle.frames.specs.declared.Addr.{Addr}
use Rattle.frames.specs.declared.Body.{Body}
use Rattle.frames.specs.Layout.{base_len, addr, Inside, remote_at}
use Rattle.values.specs.declared.HistRef.{HistRef}
use Rattle.values.specs.Keys.{ver_in, key_at}
use Rattle.values.specs.Vals.{no_hist, val_at}
use Rattle.records.specs.declared.Rec.{Rec}
use Rattle.records.specs.Records.{place_of, slot_at, key_whole, key_in, remote_of, val_of, val_in, rec_of, rec_val, rec_key, rec_in, rec_slot, rec_at, val_parts}
use Rattle.records.proofs.Inside.{slot-inside}
use Rattle.law_stays.proofs.Grown.{Grown, stay_take, stay_number}
use Rattle.law_stays.proofs.FramesStay.{remote_stays}
use Rattle.std.proofs.Common.{Option, Some, None}
use Rattle.records.specs.declared.ValParts.{ValParts}
use Rattle.values.specs.declared.KeyParts.{KeyParts}
use Rattle.values.specs.declared.Val.{Val}

rec_no : (r : Rec) → None ≡ Some r → ⊥
rec_no r e = let z : ◌≡◌ {A = ℕ} 0 1 = cc in omega arith

module _ (t s : List ℕ) (g : Grown t s) where
  pub ver_stays : (at : ℕ) → at + 12 ≤ length t → ver_in s at ≡ ver_in t at
  unfolding ver_in
  ver_stays at h = ap₂ ver_of (stay_number t s g 8 at (omega arith)) (stay_number t s g 4 (at + 8) (omega arith))

  module _ (b : Body) (i : Inside t b) where
    slot_stays : (j p : ℕ) → slot_at t b j ≡ Some p → slot_at s b j ≡ Some p
    unfolding slot_at
    slot_stays j p e =
        let k = slot-inside t b j p e in
        rw (stay_number t s g 4 (b.at + base_len + 4 * j) (omega (arith, k.2, i.slots, i.records, i.payload, i.arena))) e

    page-bytes : take b.end s ≡ take b.end t
    page-bytes = stay_take t s g b.end (omega (arith, i.payload, i.arena))

    pub key_stays : (at : ℕ) → key_in s b at ≡ key_in t b at
    unfolding key_in
    key_stays at = ap (λ (l : List ℕ). key_whole b (key_at l at b.kind)) page-bytes

    val_stays : (at : ℕ) (h : HistRef) (p n : ℕ) (a : Addr) (next : ℕ) → val_in t b at ≡ Some (val_parts h p n a next) → val_in s b at ≡ Some (val_parts h p n a next)
    unfolding val_in
    val_stays at h p n a next e =
        rw page-bytes (go (val_at (take b.end t) at (eqb b.kind 0)) e)
      where
        remote : (h' : HistRef) (a' : Addr) (n' next' : ℕ) (r : Option ℕ) → remote_at t a' n' ≡ r → remote_of h' a' n' next' r ≡ Some (val_parts h p n a next) → remote_of h' a' n' next' (remote_at s a' n') ≡ Some (val_parts h p n a next)
        remote h' a' n' next' (Some q) w e' = rw (remote_stays t s g a' n' q w) e'
        remote h' a' n' next' None w e' = absurd (let z : ◌≡◌ {A = ℕ} 0 1 = cc in omega arith)

        go : (v : Option Val) → val_of t v ≡ Some (val_parts h p n a next) → val_of s v ≡ Some (val_parts h p n a next)
        go (Some (Val.Inline h' p' n' next')) e' = e'
        go (Some (Val.Remote h' a' n' next')) e' = remote h' a' n' next' (remote_at t a' n') refl e'
        go None e' = absurd (let z : ◌≡◌ {A = ℕ} 0 1 = cc in omega arith)

    in_stays : (at : ℕ) (r : Rec) → rec_in t b at ≡ Some r → rec_in s b at ≡ Some r
    unfolding rec_in
    in_stays at r e = rw (key_stays at) (go (key_in t b at) e)
      where
        val : (v ra rn : ℕ) (w : Option ValParts) → val_in t b (ra + rn) ≡ w → rec_val at v ra rn w ≡ Some r → rec_val at v ra rn (val_in s b (ra + rn)) ≡ Some r
        val v ra rn (Some v') q e' = rw (val_stays (ra + rn) v'.hist v'.val_at v'.val_len v'.remote v'.next q) e'
        val v ra rn None q e' = absurd (rec_no r e')

        kind : (v ra rn : ℕ) (u : Bool)
            → cond u (cond (leb (ra + rn + 8) b.end) (Some (rec_of at v ra rn no_hist (ra + rn) 8 (addr 0) (ra + rn + 8))) None) (rec_val at v ra rn (val_in t b (ra + rn))) ≡ Some r
            → cond u (cond (leb (ra + rn + 8) b.end) (Some (rec_of at v ra rn no_hist (ra + rn) 8 (addr 0) (ra + rn + 8))) None) (rec_val at v ra rn (val_in s b (ra + rn))) ≡ Some r
        kind v ra rn true q = q
        kind v ra rn false q = val v ra rn (val_in t b (ra + rn)) refl q

        go : (k : Option KeyParts) → rec_key t b at k ≡ Some r → rec_key s b at k ≡ Some r
        go (Some k) e' = kind k.ver_at k.rest_at k.rest_len (eqb b.kind 1) e'
        go None e' = absurd (rec_no r e')

    pub rec_stays : (j : ℕ) (r : Rec) → rec_at t b j ≡ Some r → rec_at s b j ≡ Some r
    unfolding rec_at
    rec_stays j r e = go (slot_at t b j) refl e
      where
        go : (w : Option ℕ) → slot_at t b j ≡ w → rec_slot t b w ≡ Some r → rec_slot s b (slot_at s b j) ≡ Some r
        go (Some p) q e' = rw (slot_stays j p q) (in_stays p r e')
        go None q e' = absurd (rec_no r e')
