-- What a record that was read tells beside its places: its lengths are document 01's, its numbers have their widths, and its remote
-- holds its value. These laws belong to `values` and `records`.
-- Assumes nothing.
use Prim.Native.Nat.{ℕ, ◌+◌, ◌^◌, ◌≤◌, ◌<◌}
use mathlib.Core.Path.{◌≡◌, refl, sym, subst}
use mathlib.Core.Bool.{Bool, true, false, cond, ◌||◌}
use mathlib.Core.List.{List}
use native.Mathlib.Omega.{arith}
use borrow.Author.Tests.{leb-true}
use lib.ListN.{length, take, get_or}
use lib.Dec.{leb, ltb, eqb}
use Rattle.spans.specs.Span.{part}
use Rattle.spans.proofs.Tests.{ask}
use Rattle.numbers.specs.Number.{le_at, Bytes}
use Rattle.numbers.proofs.Numbers.{le_at_lt, bytes-part}
use Rattle.frames.specs.declared.Addr.{Addr}
use Rattle.frames.specs.declared.Body.{Body}
use Rattle.frames.specs.Layout.{addr, remote_at}
use Rattle.frames.specs.Limits.{max_key, max_value}
use Rattle.values.specs.declared.HistRef.{HistRef}
use Rattle.values.specs.Keys.{key_at, key_parts}
use Rattle.values.specs.Vals.{hist_of, no_hist, addr_of, ref_at, front_at, val_of, val_at, front_places}
use Rattle.records.specs.declared.Rec.{Rec}
use Rattle.records.specs.Records as records_specs
use Rattle.records.specs.Records.{slot_at, key_whole, key_in, remote_of, val_in, rec_of, rec_val, rec_key, rec_in, rec_slot, rec_at, val_parts}
use Rattle.records.proofs.Inside.{val_no}
use Rattle.records.proofs.Places.{key_no, inline_place, remote-place}
use Rattle.std.proofs.Common.{Option, Some, None}
use Rattle.records.specs.declared.ValParts.{ValParts}
use Rattle.values.specs.declared.Front.{Front}
use Rattle.values.specs.declared.KeyParts.{KeyParts}
use Rattle.values.specs.declared.Val.{Val}

-- ---- the numbers of a value

abbrev NarrowFront : Option Front → Type 0
NarrowFront (Some f) = f.hist.count < 256 ^ 4
NarrowFront None = Unit {0}

abbrev NarrowVal : Option Val → Type 0
NarrowVal (Some (Val.Inline h p n next)) = h.count < 256 ^ 4
NarrowVal (Some (Val.Remote h a n next)) = (h.count < 256 ^ 4) × (a.0 < 256 ^ 8)
NarrowVal None = Unit {0}

module _ (s : List ℕ) (y : Bytes s) where
  ref_narrow : (at : ℕ) (at-remote : Bool) → NarrowFront (ref_at s at at-remote)
  unfolding ref_at
  ref_narrow at at-remote = go (leb (at + 14) (length s)) refl (eqb (le_at 4 s (at + 10)) 0)
    where
      go : (t : Bool) → leb (at + 14) (length s) ≡ t → (u : Bool) → NarrowFront (cond t (cond u None (Some (front_places (hist_of (le_at 8 s at) (le_at 2 s (at + 8)) (le_at 4 s (at + 10))) at-remote (at + 14)))) None)
      go true e true = tt
      go true e false = le_at_lt s (at + 10) 4 (omega (arith, leb-true (at + 14) (length s) e)) y
      go false e u = tt

  front_narrow : (at : ℕ) (head : Bool) → NarrowFront (front_at s at head)
  unfolding front_at
  front_narrow at head = go (ltb at (length s)) (leb (get_or s at 0) 3) (eqb (get_or s at 0) 0 || eqb (get_or s at 0) 2) head
    where
      go : (a b c d : Bool) → NarrowFront (cond a (cond b (cond c (Some (front_places no_hist (eqb (get_or s at 0) 2) (at + 1))) (cond d (ref_at s (at + 1) (eqb (get_or s at 0) 3)) None)) None) None)
      go true true true d = omega arith
      go true true false true = ref_narrow (at + 1) (eqb (get_or s at 0) 3)
      go true true false false = tt
      go true false c d = tt
      go false b c d = tt

  of_narrow : (f : Option Front) → NarrowFront f → NarrowVal (val_of s f)
  of_narrow (Some f) k = go (leb (f.next + 4) (length s)) (leb (le_at 4 s f.next) max_value) f.remote (leb (f.next + 12) (length s)) refl (leb (f.next + 4 + le_at 4 s f.next) (length s))
    where
      go : (a b c d : Bool) → leb (f.next + 12) (length s) ≡ d → (e : Bool) → NarrowVal (cond a (cond b (cond c (cond d (Some (Val.Remote f.hist (addr_of (le_at 8 s (f.next + 4))) (le_at 4 s f.next) (f.next + 12))) None) (cond e (Some (Val.Inline f.hist (f.next + 4) (le_at 4 s f.next) (f.next + 4 + le_at 4 s f.next))) None)) None) None)
      go true true true true q e = (k, le_at_lt s (f.next + 4) 8 (omega (arith, leb-true (f.next + 12) (length s) q)) y)
      go true true true false q e = tt
      go true true false d q true = k
      go true true false d q false = tt
      go true false c d q e = tt
      go false b c d q e = tt
  of_narrow None k = tt

  val_narrow : (at : ℕ) (head : Bool) (v : Option Val) → val_at s at head ≡ v → NarrowVal v
  unfolding val_at
  val_narrow at head v e = subst NarrowVal e (of_narrow (front_at s at head) (front_narrow at head))

bytes-front : (s : List ℕ) (n : ℕ) → Bytes s → Bytes (take n s)
unfolding part
bytes-front s n y = bytes-part s 0 n y

-- ---- a value of a page

record ValHeld (s : List ℕ) (h : HistRef) (p n : ℕ) (a : Addr) : Type 0 where
  small : n ≤ max_value
  held : (a.0 ≡ 0 → ⊥) → remote_at s a n ≡ Some p
  word : a.0 < 256 ^ 8
  count : h.count < 256 ^ 4

val-held : (s : List ℕ) → Bytes s → (b : Body) (at : ℕ) (h : HistRef) (p n : ℕ) (a : Addr) (next : ℕ) → val_in s b at ≡ Some (val_parts h p n a next) → ValHeld s h p n a
unfolding val_in
val-held s y b at h p n a next e = go (val_at (take b.end s) at (eqb b.kind 0)) refl e
  where
    y' : Bytes (take b.end s)
    y' = bytes-front s b.end y

    at-remote : (h' : HistRef) (a' : Addr) (n' next' : ℕ) → n' ≤ max_value → (h'.count < 256 ^ 4) × (a'.0 < 256 ^ 8) → (r : Option ℕ) → remote_at s a' n' ≡ r → remote_of h' a' n' next' r ≡ Some (val_parts h p n a next) → ValHeld s h p n a
    at-remote h' a' n' next' l k (Some q) w e' =
        let x1 : h' ≡ h = grind arith in
        let x2 : q ≡ p = grind arith in
        let x3 : n' ≡ n = grind arith in
        let x4 : a' ≡ a = grind arith in
        rw (← x1, ← x2, ← x3, ← x4) (record { small = l; held = λ z. w; word = k.1; count = k.0 })
    at-remote h' a' n' next' l k None w e' = absurd (val_no h p n a next e')

    go : (v : Option Val) → val_at (take b.end s) at (eqb b.kind 0) ≡ v → records_specs.val_of s v ≡ Some (val_parts h p n a next) → ValHeld s h p n a
    go (Some (Val.Inline h' p' n' next')) q e' =
        let x1 : h' ≡ h = grind arith in
        let x3 : n' ≡ n = grind arith in
        let x4 : addr 0 ≡ a = grind arith in
        let k = inline_place (take b.end s) at (eqb b.kind 0) h' p' n' next' q in
        let z = val_narrow (take b.end s) y' at (eqb b.kind 0) (Some (Val.Inline h' p' n' next')) q in
        rw (← x1, ← x3, ← x4) (record { small = k.small; held = λ g. absurd (g refl); word = omega arith; count = z })
    go (Some (Val.Remote h' a' n' next')) q e' =
        let k = remote-place (take b.end s) at (eqb b.kind 0) h' a' n' next' q in
        at-remote h' a' n' next' k.small (val_narrow (take b.end s) y' at (eqb b.kind 0) (Some (Val.Remote h' a' n' next')) q) (remote_at s a' n') refl e'
    go None q e' = absurd (val_no h p n a next e')

-- ---- a record of a page

-- "whole key at most 4,096"
key-whole : (s : List ℕ) (b : Body) (at v r n : ℕ) → key_in s b at ≡ Some (key_parts v r n) → b.prefix_len + n ≤ max_key
unfolding key_in
key-whole s b at v r n e = go (key_at (take b.end s) at b.kind) e
  where
    go : (k : Option KeyParts) → key_whole b k ≡ Some (key_parts v r n) → b.prefix_len + n ≤ max_key
    go (Some k) e' =
        let a1 = ask (leb (b.prefix_len + k.rest_len) max_key) _ None (Some (key_parts v r n)) (key_no v r n) e' in
        let z : k.rest_len ≡ n = cc in
        omega (arith, leb-true (b.prefix_len + k.rest_len) max_key a1.0)
    go None e' = absurd (key_no v r n e')

pub record RecHeld (s : List ℕ) (b : Body) (r : Rec) : Type 0 where
  pub whole : b.prefix_len + r.rest_len ≤ max_key
  pub small : r.val_len ≤ max_value
  pub held : (r.remote.0 ≡ 0 → ⊥) → remote_at s r.remote r.val_len ≡ Some r.val_at
  pub word : r.remote.0 < 256 ^ 8
  pub count : r.hist.count < 256 ^ 4

rec_in_held : (s : List ℕ) → Bytes s → (b : Body) (at : ℕ) (r : Rec) → rec_in s b at ≡ Some r → RecHeld s b r
unfolding rec_in
rec_in_held s y b at r e = go (key_in s b at) refl e
  where
    no : None ≡ Some r → ⊥
    no z = let x : ◌≡◌ {A = ℕ} 0 1 = cc in omega arith

    val : (v ra rn : ℕ) → b.prefix_len + rn ≤ max_key → (w : Option ValParts) → val_in s b (ra + rn) ≡ w → rec_val at v ra rn w ≡ Some r → RecHeld s b r
    val v ra rn k (Some v') q e' =
        let x : rec_of at v ra rn v'.hist v'.val_at v'.val_len v'.remote v'.next ≡ r = cc in
        let z = val-held s y b (ra + rn) v'.hist v'.val_at v'.val_len v'.remote v'.next q in
        rw (← x) (record { whole = k; small = z.small; held = z.held; word = z.word; count = z.count })
    val v ra rn k None q e' = absurd (no e')

    kind : (v ra rn : ℕ) → b.prefix_len + rn ≤ max_key → (t : Bool) → cond t (cond (leb (ra + rn + 8) b.end) (Some (rec_of at v ra rn no_hist (ra + rn) 8 (addr 0) (ra + rn + 8))) None) (rec_val at v ra rn (val_in s b (ra + rn))) ≡ Some r → RecHeld s b r
    kind v ra rn k true q =
        let a1 = ask (leb (ra + rn + 8) b.end) _ None (Some r) no q in
        let x : rec_of at v ra rn no_hist (ra + rn) 8 (addr 0) (ra + rn + 8) ≡ r = cc in
        rw (← x) (record { whole = k; small = omega arith; held = λ g. absurd (g refl); word = omega arith; count = omega arith })
    kind v ra rn k false q = val v ra rn k (val_in s b (ra + rn)) refl q

    go : (k : Option KeyParts) → key_in s b at ≡ k → rec_key s b at k ≡ Some r → RecHeld s b r
    go (Some k) q e' = kind k.ver_at k.rest_at k.rest_len (key-whole s b at k.ver_at k.rest_at k.rest_len q) (eqb b.kind 1) e'
    go None q e' = absurd (no e')

pub rec-held : (s : List ℕ) → Bytes s → (b : Body) (j : ℕ) (r : Rec) → rec_at s b j ≡ Some r → RecHeld s b r
unfolding rec_at
rec-held s y b j r e = go (slot_at s b j) e
  where
    go : (w : Option ℕ) → rec_slot s b w ≡ Some r → RecHeld s b r
    go (Some p) e' = rec_in_held s y b p r e'
    go None e' = absurd (let x : ◌≡◌ {A = ℕ} 0 1 = cc in omega arith)
