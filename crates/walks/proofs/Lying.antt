-- The test that a page lies in the arena says exactly that; a page as a walk carries it reads as its body does.
-- Assumes nothing.
use Prim.Native.Nat.{ℕ, ◌+◌, ◌*◌, ◌-◌, ◌/◌, ◌≤◌, ◌<◌}
use mathlib.Core.Path.{◌≡◌, refl, ap, subst, ◌∙◌}
use mathlib.Core.Bool.{Bool, true, false, ◌&&◌, cond}
use mathlib.Core.List.{List}
use native.Mathlib.Omega.{arith}
use borrow.Author.Tests.{le-leb, lt-leb, leb-true, eq-eqb}
use lib.ListN.{length, take}
use lib.Dec.{leb}
use Rattle.spans.proofs.Tests.{ask, leb_same}
use Rattle.frames.specs.declared.Body.{Body}
use Rattle.frames.specs.Layout.{base_len, addr, Inside}
use Rattle.frames.proofs.Frames.{and_l, and_r}
use Rattle.values.specs.Keys.{key_at}
use Rattle.values.specs.Vals.{no_hist}
use Rattle.records.specs.declared.Rec.{Rec}
use Rattle.records.specs.Records.{slot_at, key_whole, key_in, key_at_slot, val_in, rec_of, rec_key, rec_in, rec_slot, rec_at}
use Rattle.walks.specs.declared.Sheet.{Sheet}
use Rattle.walks.specs.Walk.{sheet_of, body_in, body_of, fits_in, read_at}
use Rattle.walks.specs.Aged.{key_old}
use Rattle.std.proofs.Common.{Option, Some, None}
use Rattle.values.specs.declared.KeyParts.{KeyParts}

-- ---- the test

abbrev pub Rising : ℕ → Sheet → Bool
Rising len v = leb v.at v.end && leb v.end len && leb v.prefix_len v.front

-- what the differences say is what the sum says
pub sum_is : (at el front end : ℕ) → at ≤ end → el ≤ (end - at) / 4 → base_len ≤ end - at - 4 * el → leb front (end - at - 4 * el - base_len) ≡ leb (at + base_len + 4 * el + front) end
sum_is at el front end h1 h2 h3 = leb_same front (end - at - 4 * el - base_len) (at + base_len + 4 * el + front) end (λ e. omega arith) (λ e. omega arith)

module _ (len : ℕ) (v : Sheet) where
  pub fits_off : Rising len v ≡ false → fits_in len v ≡ false
  unfolding fits_in
  fits_off e = rw e

  module _ (e : Rising len v ≡ true) where
    pub rising-at : v.at ≤ v.end
    rising-at = leb-true v.at v.end (and_l (leb v.at v.end) (leb v.end len) (and_l (leb v.at v.end && leb v.end len) (leb v.prefix_len v.front) e))

    pub fits_by : fits_in len v ≡ leb (v.at + base_len + 4 * v.elems + v.front) v.end
    unfolding fits_in
    fits_by = rw e

    pub fits_no : v.end < v.at + base_len + 4 * v.elems + v.front → fits_in len v ≡ false
    fits_no n = fits_by ∙ lt-leb (v.at + base_len + 4 * v.elems + v.front) v.end n

pub fits-inside : (s : List ℕ) (v : Sheet) (k : ℕ) → fits_in (length s) v ≡ true → Inside s (body_in v k)
unfolding fits_in
fits-inside s v k e =
    let a1 = ask (Rising (length s) v) (leb (v.at + base_len + 4 * v.elems + v.front) v.end) false true (λ z. absurd (let y : ◌≡◌ {A = ℕ} 0 1 = cc in omega arith)) e in
    let p1 = leb v.at v.end in
    let p2 = leb v.end (length s) in
    let p3 = leb v.prefix_len v.front in
    record {
      slots = omega arith;
      records = leb-true (v.at + base_len + 4 * v.elems + v.front) v.end a1.1;
      payload = omega arith;
      arena = leb-true v.end (length s) (and_r p1 p2 (and_l (p1 && p2) p3 a1.0));
      prefix = leb-true v.prefix_len v.front (and_r (p1 && p2) p3 a1.0);
    }

-- a page that a walk carries, once asked for
module _ (s : List ℕ) (v : Sheet) (k : ℕ) (b : Body) (e : body_of s v k ≡ Some b) where
  asked : (fits_in (length s) v ≡ true) × (Some (body_in v k) ≡ Some b)
  unfolding body_of
  asked = ask (fits_in (length s) v) (Some (body_in v k)) None (Some b) (λ z. absurd (let y : ◌≡◌ {A = ℕ} 0 1 = cc in omega arith)) e

  pub body_is : body_in v k ≡ b
  body_is = let y = asked.1 in cc

  pub body-inside : Inside s b
  body-inside = subst (λ (z : Body). Inside s z) body_is (fits-inside s v k asked.0)

  pub body_reads : (i : ℕ) → read_at s v k i ≡ rec_at s b i
  unfolding read_at
  body_reads i = ap (λ (t : Bool). cond t (rec_at s (body_in v k) i) None) asked.0 ∙ ap (λ (z : Body). rec_at s z i) body_is

pub body-keys : (s : List ℕ) (v : Sheet) (b : Body) → body_of s v 2 ≡ Some b → (i : ℕ) → key_old s v i ≡ key_at_slot s b i
unfolding key_old
body-keys s v b e i = ap (λ (t : Bool). cond t (key_at_slot s (body_in v 2) i) None) (asked s v 2 b e).0 ∙ ap (λ (z : Body). key_at_slot s z i) (body_is s v 2 b e)

-- ---- a page that was opened

module _ (s : List ℕ) (b : Body) (i : Inside s b) where
  pub front-few : b.lo_len + b.hi_len ≤ length s
  front-few = omega (arith, i.slots, i.records, i.payload, i.arena)

  pub inside-fits : fits_in (length s) (sheet_of b) ≡ true
  unfolding fits_in
  inside-fits =
      let f : b.at ≤ b.end = omega (arith, i.slots, i.records) in
      let g : b.end ≤ length s = omega (arith, i.payload, i.arena) in
      let h : b.prefix_len ≤ b.lo_len + b.hi_len = omega (arith, i.prefix) in
      let l : b.at + base_len + 4 * b.elems + (b.lo_len + b.hi_len) ≤ b.end = omega (arith, i.slots, i.records) in
      rw (le-leb b.at b.end f, le-leb b.end (length s) g, le-leb b.prefix_len (b.lo_len + b.hi_len) h, le-leb (b.at + base_len + 4 * b.elems + (b.lo_len + b.hi_len)) b.end l)

  same-slot : (j : ℕ) → slot_at s (body_in (sheet_of b) b.kind) j ≡ slot_at s b j
  unfolding slot_at
  same-slot j =
      let e : b.at + base_len + 4 * b.elems + (b.lo_len + b.hi_len) ≡ b.first = omega (arith, i.slots) in
      rw e

  same_key_lem : (at : ℕ) → key_in s (body_in (sheet_of b) b.kind) at ≡ key_in s b at
  unfolding key_in
  same_key_lem at = go (key_at (take b.end s) at b.kind)
    where
      go : (k : Option KeyParts) → key_whole (body_in (sheet_of b) b.kind) k ≡ key_whole b k
      go (Some k) = refl
      go None = refl

  same_in : (p : ℕ) → rec_in s (body_in (sheet_of b) b.kind) p ≡ rec_in s b p
  unfolding rec_in val_in
  same_in p = rw (same_key_lem p) (go (key_in s b p))
    where
      go : (k : Option KeyParts) → rec_key s (body_in (sheet_of b) b.kind) p k ≡ rec_key s b p k
      go (Some k) = refl
      go None = refl

  same-rec : (j : ℕ) → rec_at s (body_in (sheet_of b) b.kind) j ≡ rec_at s b j
  unfolding rec_at
  same-rec j = rw (same-slot j) (go (slot_at s b j))
    where
      go : (x : Option ℕ) → rec_slot s (body_in (sheet_of b) b.kind) x ≡ rec_slot s b x
      go (Some p) = same_in p
      go None = refl

  -- what a walk reads of it is what it says
  pub read_is : (k j : ℕ) → k ≡ b.kind → read_at s (sheet_of b) k j ≡ rec_at s b j
  unfolding read_at
  read_is k j e = rw (inside-fits, e) (same-rec j)

-- a record that a walk read stands in a page in the arena
pub read-inside : (s : List ℕ) (v : Sheet) (k j : ℕ) (r : Rec) → read_at s v k j ≡ Some r → Inside s (body_in v k) × (rec_at s (body_in v k) j ≡ Some r)
unfolding read_at
read-inside s v k j r e =
    let a1 = ask (fits_in (length s) v) (rec_at s (body_in v k) j) None (Some r) (λ z. absurd (let y : ◌≡◌ {A = ℕ} 0 1 = cc in omega arith)) e in
    (fits-inside s v k a1.0, a1.1)

-- the value of an index page's record has 8 bytes (it belongs to `records`' Inside)
pub index_value : (s : List ℕ) (b : Body) (i : ℕ) (r : Rec) → b.kind ≡ 1 → rec_at s b i ≡ Some r → r.val_len ≡ 8
unfolding rec_at rec_in
index_value s b i r k e = go (slot_at s b i) e
  where
    no : None ≡ Some r → ⊥
    no z = let y : ◌≡◌ {A = ℕ} 0 1 = cc in omega arith

    key : (p : ℕ) (x : Option KeyParts) → rec_key s b p x ≡ Some r → r.val_len ≡ 8
    key p (Some k') q =
        let q' : cond (leb (k'.rest_at + k'.rest_len + 8) b.end) (Some (rec_of p k'.ver_at k'.rest_at k'.rest_len no_hist (k'.rest_at + k'.rest_len) 8 (addr 0) (k'.rest_at + k'.rest_len + 8))) None ≡ Some r = rw (eq-eqb b.kind 1 k) at q in
        let a1 = ask (leb (k'.rest_at + k'.rest_len + 8) b.end) _ None (Some r) no q' in
        let x : rec_of p k'.ver_at k'.rest_at k'.rest_len no_hist (k'.rest_at + k'.rest_len) 8 (addr 0) (k'.rest_at + k'.rest_len + 8) ≡ r = cc in
        rw (← x)
    key p None q = absurd (no q)

    go : (w : Option ℕ) → rec_slot s b w ≡ Some r → r.val_len ≡ 8
    go (Some p) q = key p (key_in s b p) q
    go None q = absurd (no q)
