-- What a slot, a key, a value, a record of a page that was read tells of its place.
-- Assumes nothing.
use Prim.Native.Nat.{ℕ, ◌+◌, ◌*◌, ◌≤◌, ◌<◌}
use mathlib.Core.Path.{◌≡◌, refl, sym, ap, ◌∙◌}
use mathlib.Core.Bool.{Bool, true, false, cond}
use mathlib.Core.List.{List}
use native.Mathlib.Omega.{arith}
use borrow.Author.Tests.{ltb-true, leb-true, le-leb, lt-leb, eq-eqb, ne_eqb}
use lib.ListN.{length, take}
use lib.Seq.{length-take-le}
use lib.Dec.{leb, ltb, eqb}
use Rattle.spans.specs.Span.{part, part_or}
use Rattle.spans.proofs.Part.{part_or_in}
use Rattle.spans.proofs.Tests.{ask}
use Rattle.frames.specs.declared.Addr.{Addr}
use Rattle.frames.specs.declared.Body.{Body}
use Rattle.frames.specs.Layout.{base_len, addr, Inside, remote_at}
use Rattle.frames.specs.Limits.{max_key}
use Rattle.frames.proofs.Frames.{remote-inside}
use Rattle.values.specs.declared.HistRef.{HistRef}
use Rattle.values.specs.Keys.{skip_of, key_at, key_parts}
use Rattle.values.specs.Vals.{no_hist, val_at}
use Rattle.records.specs.declared.Rec.{Rec}
use Rattle.records.specs.Records.{place_of, slot_at, key_whole, key_in, key_slot, key_at_slot, remote_of, val_of, val_in, rec_of, rec_val, rec_key, rec_in, rec_slot, rec_at, RecInside, val_parts}
use Rattle.records.specs.Parts.{prefix_in}
use Rattle.records.proofs.Places.{key_no, key-place, inline_place, remote-place}
use Rattle.std.proofs.Common.{Option, Some, None}
use Rattle.records.specs.declared.ValParts.{ValParts}
use Rattle.values.specs.declared.KeyParts.{KeyParts}
use Rattle.values.specs.declared.Val.{Val}

slot_no : (p : ℕ) → None ≡ Some p → ⊥
slot_no p e = let z : ◌≡◌ {A = ℕ} 0 1 = cc in omega arith

pub rec_no : (r : Rec) → None ≡ Some r → ⊥
rec_no r e = let z : ◌≡◌ {A = ℕ} 0 1 = cc in omega arith

pub val_no : (h : HistRef) (p n : ℕ) (a : Addr) (next : ℕ) → None ≡ Some (val_parts h p n a next) → ⊥
val_no h p n a next e = let z : ◌≡◌ {A = ℕ} 0 1 = cc in omega arith

-- a page's end is in the arena
pub ends : (s : List ℕ) (b : Body) → Inside s b → length (take b.end s) ≡ b.end
ends s b i = length-take-le b.end s (omega (arith, i.payload, i.arena))

slot_tells : (s : List ℕ) (b : Body) (i p : ℕ) → slot_at s b i ≡ Some p → (b.first ≤ p) × (p < b.end) × (i < b.elems) × (p ≡ place_of s b i)
unfolding slot_at
slot_tells s b i p e =
    let a1 = ask (ltb i b.elems) _ None (Some p) (slot_no p) e in
    let a2 = ask (leb b.first (place_of s b i)) _ None (Some p) (slot_no p) a1.1 in
    let a3 = ask (ltb (place_of s b i) b.end) _ None (Some p) (slot_no p) a2.1 in
    let q : place_of s b i ≡ p = cc in
    omega (arith, ltb-true i b.elems a1.0, leb-true b.first (place_of s b i) a2.0, ltb-true (place_of s b i) b.end a3.0)

pub slot-inside : (s : List ℕ) (b : Body) (i p : ℕ) → slot_at s b i ≡ Some p → (b.first ≤ p) × (p < b.end) × (i < b.elems)
slot-inside s b i p e = let t = slot_tells s b i p e in (t.0, t.1, t.2)

-- a key lies in the page, behind its version
pub record KeyInside (b : Body) (v r n : ℕ) : Type 0 where
  pub ver : v + skip_of b.kind ≡ r
  pub rest : r + n ≤ b.end

pub place_inside : (s : List ℕ) (b : Body) (at v r n : ℕ) → Inside s b → key_at (take b.end s) at b.kind ≡ Some (key_parts v r n) → KeyInside b v r n
place_inside s b at v r n i e =
    let k = key-place (take b.end s) at b.kind v r n e in
    record { ver = k.ver; rest = omega (arith, k.rest, ends s b i) }

pub key-inside : (s : List ℕ) (b : Body) (at v r n : ℕ) → Inside s b → key_in s b at ≡ Some (key_parts v r n) → KeyInside b v r n
unfolding key_in
key-inside s b at v r n i e = go (key_at (take b.end s) at b.kind) refl e
  where
    go : (k : Option KeyParts) → key_at (take b.end s) at b.kind ≡ k → key_whole b k ≡ Some (key_parts v r n) → KeyInside b v r n
    go (Some k) q e' =
        let a1 = ask (leb (b.prefix_len + k.rest_len) max_key) _ None (Some (key_parts v r n)) (key_no v r n) e' in
        let x : k.ver_at ≡ v = cc in
        let y : k.rest_at ≡ r = cc in
        let z : k.rest_len ≡ n = cc in
        rw (← x, ← y, ← z) (place_inside s b at k.ver_at k.rest_at k.rest_len i q)
    go None q e' = absurd (key_no v r n e')

-- a value lies in the arena, and what follows it in the page
pub record ValInside (s : List ℕ) (b : Body) (p n next : ℕ) : Type 0 where
  pub val : p + n ≤ length s
  pub behind : next ≤ b.end

pub val-inside : (s : List ℕ) (b : Body) (at : ℕ) (h : HistRef) (p n : ℕ) (a : Addr) (next : ℕ) → Inside s b → val_in s b at ≡ Some (val_parts h p n a next) → ValInside s b p n next
unfolding val_in
val-inside s b at h p n a next i e = go (val_at (take b.end s) at (eqb b.kind 0)) refl e
  where
    remote : (h' : HistRef) (a' : Addr) (n' next' : ℕ) → next' ≤ b.end → (r : Option ℕ) → remote_at s a' n' ≡ r → remote_of h' a' n' next' r ≡ Some (val_parts h p n a next) → ValInside s b p n next
    remote h' a' n' next' l (Some q) w e' =
        let x : q ≡ p = grind arith in
        let y : n' ≡ n = grind arith in
        let z : next' ≡ next = grind arith in
        record { val = omega (arith, remote-inside s a' n' q w); behind = omega arith }
    remote h' a' n' next' l None w e' = absurd (val_no h p n a next e')

    go : (v : Option Val) → val_at (take b.end s) at (eqb b.kind 0) ≡ v → val_of s v ≡ Some (val_parts h p n a next) → ValInside s b p n next
    go (Some (Val.Inline h' p' n' next')) q e' =
        let x : p' ≡ p = grind arith in
        let y : n' ≡ n = grind arith in
        let z : next' ≡ next = grind arith in
        let k = inline_place (take b.end s) at (eqb b.kind 0) h' p' n' next' q in
        let u = ends s b i in
        record { val = omega (arith, k.whole, k.inside, i.payload, i.arena); behind = omega (arith, k.inside) }
    go (Some (Val.Remote h' a' n' next')) q e' =
        let k = remote-place (take b.end s) at (eqb b.kind 0) h' a' n' next' q in
        remote h' a' n' next' (omega (arith, k.inside, ends s b i)) (remote_at s a' n') refl e'
    go None q e' = absurd (val_no h p n a next e')

-- the record at a place
pub rec-inside : (s : List ℕ) (b : Body) (at : ℕ) (r : Rec) → Inside s b → rec_in s b at ≡ Some r → RecInside s b r × (key_in s b at ≡ Some (key_parts r.ver_at r.rest_at r.rest_len))
unfolding rec_in
rec-inside s b at r i e = go (key_in s b at) refl e
  where
    val : (v ra rn : ℕ) → KeyInside b v ra rn → (w : Option ValParts) → val_in s b (ra + rn) ≡ w → rec_val at v ra rn w ≡ Some r → RecInside s b r × (Some (key_parts v ra rn) ≡ Some (key_parts r.ver_at r.rest_at r.rest_len))
    val v ra rn k (Some v') q e' =
        let x : rec_of at v ra rn v'.hist v'.val_at v'.val_len v'.remote v'.next ≡ r = cc in
        let y = val-inside s b (ra + rn) v'.hist v'.val_at v'.val_len v'.remote v'.next i q in
        rw (← x) (record { ver = k.ver; rest = k.rest; val = y.val; next = y.behind }, refl)
    val v ra rn k None q e' = absurd (rec_no r e')

    kind : (v ra rn : ℕ) → KeyInside b v ra rn → (t : Bool) → cond t (cond (leb (ra + rn + 8) b.end) (Some (rec_of at v ra rn no_hist (ra + rn) 8 (addr 0) (ra + rn + 8))) None) (rec_val at v ra rn (val_in s b (ra + rn))) ≡ Some r → RecInside s b r × (Some (key_parts v ra rn) ≡ Some (key_parts r.ver_at r.rest_at r.rest_len))
    kind v ra rn k true q =
        let a1 = ask (leb (ra + rn + 8) b.end) _ None (Some r) (rec_no r) q in
        let x : rec_of at v ra rn no_hist (ra + rn) 8 (addr 0) (ra + rn + 8) ≡ r = cc in
        let l = leb-true (ra + rn + 8) b.end a1.0 in
        let u = i.payload in
        let w = i.arena in
        rw (← x) (record { ver = k.ver; rest = k.rest; val = omega arith; next = l }, refl)
    kind v ra rn k false q = val v ra rn k (val_in s b (ra + rn)) refl q

    go : (k : Option KeyParts) → key_in s b at ≡ k → rec_key s b at k ≡ Some r → RecInside s b r × (k ≡ Some (key_parts r.ver_at r.rest_at r.rest_len))
    go (Some k) q e' = kind k.ver_at k.rest_at k.rest_len (key-inside s b at k.ver_at k.rest_at k.rest_len i q) (eqb b.kind 1) e'
    go None q e' = absurd (rec_no r e')

-- the record of a slot: its places, its key as a search reads it, and that the slot is one of the page's
pub at-inside : (s : List ℕ) (b : Body) (j : ℕ) (r : Rec) → Inside s b → rec_at s b j ≡ Some r → RecInside s b r × (key_at_slot s b j ≡ Some (key_parts r.ver_at r.rest_at r.rest_len))
unfolding rec_at key_at_slot
at-inside s b j r i e = go (slot_at s b j) e
  where
    go : (w : Option ℕ) → rec_slot s b w ≡ Some r → RecInside s b r × (key_slot s b w ≡ Some (key_parts r.ver_at r.rest_at r.rest_len))
    go (Some p) e' = rec-inside s b p r i e'
    go None e' = absurd (rec_no r e')

pub at_slot : (s : List ℕ) (b : Body) (i : ℕ) (r : Rec) → rec_at s b i ≡ Some r → i < b.elems
unfolding rec_at
at_slot s b i r e = go (slot_at s b i) refl e
  where
    go : (w : Option ℕ) → slot_at s b i ≡ w → rec_slot s b w ≡ Some r → i < b.elems
    go (Some p) q e' = omega (arith, slot-inside s b i p q)
    go None q e' = absurd (rec_no r e')

-- an old version's key is its version, where its slot points
old-key : (s : List ℕ) (b : Body) (at v r n : ℕ) → b.kind ≡ 2 → key_in s b at ≡ Some (key_parts v r n) → v ≡ at
unfolding key_in key_at
old-key s b at v r n k e = go (leb (at + 12) (length (take b.end s))) (rw (eq-eqb b.kind 2 k) at e)
  where
    go : (t : Bool) → key_whole b (cond t (Some (key_parts at (at + 12) 0)) None) ≡ Some (key_parts v r n) → v ≡ at
    go true q =
        let a1 = ask (leb (b.prefix_len + 0) max_key) _ None (Some (key_parts v r n)) (key_no v r n) q in
        let x : at ≡ v = grind arith in
        sym x
    go false q = absurd (key_no v r n q)

pub old-place : (s : List ℕ) (b : Body) (i : ℕ) (r : Rec) → Inside s b → b.kind ≡ 2 → rec_at s b i ≡ Some r → r.ver_at ≡ place_of s b i
unfolding rec_at
old-place s b i r n k e = go (slot_at s b i) refl e
  where
    go : (w : Option ℕ) → slot_at s b i ≡ w → rec_slot s b w ≡ Some r → r.ver_at ≡ place_of s b i
    go (Some p) q e' = old-key s b p r.ver_at r.rest_at r.rest_len k (rec-inside s b p r n e').1 ∙ (slot_tells s b i p q).3
    go None q e' = absurd (rec_no r e')

-- a record of an index page has no history
pub index_count : (s : List ℕ) (b : Body) (i : ℕ) (r : Rec) → b.kind ≡ 1 → rec_at s b i ≡ Some r → r.hist ≡ no_hist
unfolding rec_at rec_in
index_count s b i r k e = go (slot_at s b i) e
  where
    key : (p : ℕ) (x : Option KeyParts) → rec_key s b p x ≡ Some r → r.hist ≡ no_hist
    key p (Some k') q =
        let q' : cond (leb (k'.rest_at + k'.rest_len + 8) b.end) (Some (rec_of p k'.ver_at k'.rest_at k'.rest_len no_hist (k'.rest_at + k'.rest_len) 8 (addr 0) (k'.rest_at + k'.rest_len + 8))) None ≡ Some r = rw (eq-eqb b.kind 1 k) at q in
        let a1 = ask (leb (k'.rest_at + k'.rest_len + 8) b.end) _ None (Some r) (rec_no r) q' in
        let x : rec_of p k'.ver_at k'.rest_at k'.rest_len no_hist (k'.rest_at + k'.rest_len) 8 (addr 0) (k'.rest_at + k'.rest_len + 8) ≡ r = cc in
        rw (← x)
    key p None q = absurd (rec_no r q)

    go : (w : Option ℕ) → rec_slot s b w ≡ Some r → r.hist ≡ no_hist
    go (Some p) q = key p (key_in s b p) q
    go None q = absurd (rec_no r q)

-- a version takes 12 bytes but on index pages
pub skip_twelve : (k : ℕ) → (k ≡ 1 → ⊥) → skip_of k ≡ 12
unfolding skip_of
skip_twelve k n = rw (ne_eqb _ _ n)

pub ver-inside : (s : List ℕ) (b : Body) (j : ℕ) (r : Rec) → Inside s b → (b.kind ≡ 1 → ⊥) → rec_at s b j ≡ Some r → r.ver_at + 12 ≤ length s
ver-inside s b j r i n e =
    let k = (at-inside s b j r i e).0 in
    omega (arith, k.ver, k.rest, skip_twelve b.kind n, i.payload, i.arena)

-- ---- the record of a slot, by its key and what stands behind the key

-- where it begins: a key does not tell
abbrev pub from_of : Option ℕ → ℕ
from_of (Some p) = p
from_of None = 0

module _ (s : List ℕ) (b : Body) (i : ℕ) where
  rec-key : rec_at s b i ≡ rec_key s b (from_of (slot_at s b i)) (key_at_slot s b i)
  unfolding rec_at rec_in key_at_slot
  rec-key = go (slot_at s b i)
    where
      go : (w : Option ℕ) → rec_slot s b w ≡ rec_key s b (from_of w) (key_slot s b w)
      go (Some p) = refl
      go None = refl

  pub rec_no_key : key_at_slot s b i ≡ None → rec_at s b i ≡ None
  rec_no_key e = rec-key ∙ ap (rec_key s b (from_of (slot_at s b i))) e

  module _ (v ra rn : ℕ) (e : key_at_slot s b i ≡ Some (key_parts v ra rn)) where
    -- a head or an old version: its value
    pub rec-val : (x : Option ValParts) → (b.kind ≡ 1 → ⊥) → val_in s b (ra + rn) ≡ x → rec_at s b i ≡ rec_val (from_of (slot_at s b i)) v ra rn x
    rec-val x k u = rec-key ∙ ap (rec_key s b (from_of (slot_at s b i))) e ∙ rw (ne_eqb b.kind 1 k, u)

    -- an index record: its page id
    pub rec-short : b.kind ≡ 1 → b.end < ra + rn + 8 → rec_at s b i ≡ None
    rec-short k l = rec-key ∙ ap (rec_key s b (from_of (slot_at s b i))) e ∙ rw (eq-eqb b.kind 1 k, lt-leb (ra + rn + 8) b.end l)

    pub rec-page : b.kind ≡ 1 → ra + rn + 8 ≤ b.end → rec_at s b i ≡ Some (rec_of (from_of (slot_at s b i)) v ra rn no_hist (ra + rn) 8 (addr 0) (ra + rn + 8))
    rec-page k l = rec-key ∙ ap (rec_key s b (from_of (slot_at s b i))) e ∙ rw (eq-eqb b.kind 1 k, le-leb (ra + rn + 8) b.end l)

-- ---- parts: on a page that was opened they are all there

module _ (s : List ℕ) (b : Body) (i : Inside s b) where
  pub lo-part : part_or s (b.at + base_len + 4 * b.elems) b.lo_len ≡ part s (b.at + base_len + 4 * b.elems) b.lo_len
  lo-part = part_or_in s (b.at + base_len + 4 * b.elems) b.lo_len (omega (arith, i.slots, i.records, i.payload, i.arena))

  pub hi-part : part_or s (b.at + base_len + 4 * b.elems + b.lo_len) b.hi_len ≡ part s (b.at + base_len + 4 * b.elems + b.lo_len) b.hi_len
  hi-part = part_or_in s (b.at + base_len + 4 * b.elems + b.lo_len) b.hi_len (omega (arith, i.slots, i.records, i.payload, i.arena))

  pub prefix-part : prefix_in s b ≡ part s (b.at + base_len + 4 * b.elems) b.prefix_len
  unfolding prefix_in
  prefix-part = part_or_in s (b.at + base_len + 4 * b.elems) b.prefix_len (omega (arith, i.slots, i.records, i.payload, i.arena, i.prefix))

  module _ (j : ℕ) (r : Rec) (e : rec_at s b j ≡ Some r) where
    pub rest_part : part_or s r.rest_at r.rest_len ≡ part s r.rest_at r.rest_len
    rest_part = let k = (at-inside s b j r i e).0 in part_or_in s r.rest_at r.rest_len (omega (arith, k.rest, i.payload, i.arena))

    pub val-part : part_or s r.val_at r.val_len ≡ part s r.val_at r.val_len
    val-part = let k = (at-inside s b j r i e).0 in part_or_in s r.val_at r.val_len k.val
