-- What the short ways read: a key whose length is one byte, an old version's key, a value that stands in its page; what an answer of theirs says.
-- Assumes nothing.
use Prim.Native.Nat.{ℕ, ◌+◌, ◌-◌, ◌≤◌, ◌<◌}
use mathlib.Core.Path.{◌≡◌, refl, sym, ap, ◌∙◌}
use mathlib.Core.Bool.{Bool, true, false, cond}
use mathlib.Core.List.{List}
use mathlib.Core.Logic.{⊎_elim, inl, inr}
use native.Mathlib.Omega.{arith}
use borrow.Author.Tests.{le-leb, lt-leb, lt-ltb, eq-eqb, ne_eqb}
use lib.Dec.{eqb}
use lib.ListN.{length, get_or, take}
use Rattle.lengths.proofs.Laws.{read_one}
use Rattle.frames.specs.declared.Addr.{Addr}
use Rattle.frames.specs.declared.Body.{Body}
use Rattle.frames.specs.Layout.{addr, Inside}
use Rattle.frames.specs.Limits.{max_key}
use Rattle.values.specs.declared.HistRef.{HistRef}
use Rattle.values.specs.Keys.{skip_of, key_at, key_parts}
use Rattle.values.specs.Vals.{no_hist, val_of, ref_at, front_at, val_at, front_places}
use Rattle.records.specs.Records as records
use Rattle.records.specs.Records.{slot_at, key_whole, key_in, val_in, rec_of, rec_val, rec_key, rec_in, rec_slot, rec_at, Quickly, ShortKey, val_parts}
use Rattle.records.proofs.Inside.{ends, place_inside, skip_twelve}
use Rattle.std.proofs.Common.{Option, Some, None}
use Rattle.values.specs.declared.KeyParts.{KeyParts}
use Rattle.values.specs.declared.Val.{Val}

-- ---- answers

-- an answer that is not none is the decoder's
pub quick_is : {A : Type 0} {none r x : A} (y : A) → Quickly none r x → r ≡ y → (none ≡ y → ⊥) → x ≡ y
quick_is y q e n = ⊎_elim (λ z. absurd (n (sym z ∙ e))) (λ z. sym z ∙ e) q

pub quick_on : {A : Type 0} {none r x y : A} → x ≡ y → Quickly none r x → Quickly none r y
quick_on e q = ⊎_elim (λ z. inl z) (λ z. inr (z ∙ e)) q

-- ---- keys

short-at : (t : List ℕ) (at kind k : ℕ) → k ≡ skip_of kind → at < length t → get_or t at 0 < 128 → (kind ≡ 2 → ⊥) → k ≤ get_or t at 0 → at + 1 + get_or t at 0 ≤ length t
    → key_at t at kind ≡ Some (key_parts (at + 1) (at + 1 + k) (get_or t at 0 - k))
unfolding key_at
short-at t at kind k e a b h l r = simp (ne_eqb kind 2 h, read_one t at a b, ← e, le-leb _ _ l, le-leb _ _ r)

pub short_in : (s : List ℕ) (b : Body) (at k : ℕ) → Inside s b → k ≡ skip_of b.kind → at < b.end → get_or (take b.end s) at 0 < 128 → (b.kind ≡ 2 → ⊥)
    → k ≤ get_or (take b.end s) at 0 → get_or (take b.end s) at 0 ≤ b.end - at - 1 → b.prefix_len + (get_or (take b.end s) at 0 - k) ≤ max_key
    → key_in s b at ≡ Some (key_parts (at + 1) (at + 1 + k) (get_or (take b.end s) at 0 - k))
unfolding key_in
short_in s b at k i e a n h l r w =
    ap (key_whole b) (short-at (take b.end s) at b.kind k e (omega (arith, ends s b i)) n h l (omega (arith, ends s b i)))
    ∙ ap (λ (q : Bool). cond q (Some (key_parts (at + 1) (at + 1 + k) (get_or (take b.end s) at 0 - k))) None) (le-leb _ _ w)

-- a history key is a version alone
pub old_in_lem : (s : List ℕ) (b : Body) (at : ℕ) → Inside s b → b.kind ≡ 2 → at + 12 ≤ b.end → b.prefix_len ≤ max_key → key_in s b at ≡ Some (key_parts at (at + 12) 0)
unfolding key_in key_at
old_in_lem s b at i e a w = simp (eq-eqb b.kind 2 e, ends s b i, le-leb _ _ a, le-leb (b.prefix_len + 0) max_key (omega arith))

-- ---- values

-- without history
pub val-plain : (t : List ℕ) (at : ℕ) (head : Bool) → at < length t → get_or t at 0 ≡ 0 → val_at t at head ≡ val_of t (Some (front_places no_hist false (at + 1)))
unfolding val_at front_at
val-plain t at head a e = simp (lt-ltb _ _ a, e)

-- with history, in its page
pub val_hist : (t : List ℕ) (at : ℕ) → at < length t → get_or t at 0 ≡ 1 → val_at t at true ≡ val_of t (ref_at t (at + 1) false)
unfolding val_at front_at
val_hist t at a e = simp (lt-ltb _ _ a, e)

-- ---- records

-- a key with a length of one byte: so short a rest that only a long prefix could make too long a key
pub short-key : (s : List ℕ) (b : Body) (p : ℕ) → Inside s b → b.kind ≡ 0 → p < b.end
    → 12 ≤ get_or (take b.end s) p 0 → get_or (take b.end s) p 0 ≤ 127 → get_or (take b.end s) p 0 ≤ b.end - p - 1 → b.prefix_len ≤ 3980
    → ShortKey s b p (get_or (take b.end s) p 0)
short-key s b p i k a l m r w =
    record {
      key = short_in s b p 12 i (sym (skip_twelve b.kind (λ e. omega arith))) a (omega arith) (λ e. omega arith) l r (omega arith);
      inside = omega arith;
      long = l;
      short = m;
    }

-- a head: such a key, and a value behind it
pub short_head : (s : List ℕ) (b : Body) (p n : ℕ) (h : HistRef) (va vn : ℕ) (rem : Addr) (next : ℕ) → b.kind ≡ 0 → ShortKey s b p n
    → val_in s b (p + 1 + n) ≡ Some (val_parts h va vn rem next) → rec_in s b p ≡ Some (rec_of p (p + 1) (p + 1 + 12) (n - 12) h va vn rem next)
unfolding rec_in
short_head s b p n h va vn rem next e k q =
    let l = k.long in
    let z : p + 1 + 12 + (n - 12) ≡ p + 1 + n = omega arith in
    simp (k.key, ne_eqb b.kind 1 (λ y. omega arith), z, q)

-- the record at a slot's place
pub slot-rec : (s : List ℕ) (b : Body) (i p : ℕ) → slot_at s b i ≡ Some p → rec_in s b p ≡ rec_at s b i
unfolding rec_at
slot-rec s b i p e = sym (ap (rec_slot s b) e)

pub old-rec : (s : List ℕ) (b : Body) (p : ℕ) (h : HistRef) (va vn next : ℕ) → Inside s b → b.kind ≡ 2 → p + 12 ≤ b.end → b.prefix_len ≤ max_key
    → val_at (take b.end s) (p + 12) false ≡ Some (Val.Inline h va vn next) → rec_in s b p ≡ Some (rec_of p p (p + 12) 0 h va vn (addr 0) next)
unfolding rec_in val_in
old-rec s b p h va vn next i e a w q =
    let z : val_at (take b.end s) (p + 12 + 0) false ≡ Some (Val.Inline h va vn next) = ap (λ (k : ℕ). val_at (take b.end s) k false) (omega arith) ∙ q in
    simp (old_in_lem s b p i e a w, ne_eqb b.kind 1 (λ y. omega arith), ne_eqb b.kind 0 (λ y. omega arith), z)

-- ---- a head by numbers

module _ (s : List ℕ) (e prefix p : ℕ) (b : Body) (k : b.kind ≡ 0) (x : b.end ≡ e) (y : b.prefix_len ≡ prefix) where
  by_key : (z : Option KeyParts) → key_at (take e s) p 0 ≡ z → rec_in s b p ≡ rec_key s b p (key_whole b z)
  unfolding rec_in key_in
  by_key z q = ap (λ (u : Option KeyParts). rec_key s b p (key_whole b u)) (ap (λ (m : ℕ). key_at (take m s) p b.kind) x ∙ ap (key_at (take e s) p) k ∙ q)

  pub by_none : key_at (take e s) p 0 ≡ None → rec_in s b p ≡ None
  by_none q = by_key None q

  module _ (v ra rn : ℕ) (q : key_at (take e s) p 0 ≡ Some (key_parts v ra rn)) where
    pub by_long : max_key < prefix + rn → rec_in s b p ≡ None
    by_long l = by_key (Some (key_parts v ra rn)) q ∙ rw (lt-leb (b.prefix_len + rn) max_key (omega (arith, y, l)))

    pub by_val : prefix + rn ≤ max_key → (u : Option Val) → val_at (take e s) (ra + rn) true ≡ u → rec_in s b p ≡ rec_val p v ra rn (records.val_of s u)
    unfolding val_in
    by_val l u w =
        let w' : val_in s b (ra + rn) ≡ records.val_of s u = ap (records.val_of s) (ap (λ (m : ℕ). val_at (take m s) (ra + rn) (eqb b.kind 0)) x ∙ ap (val_at (take e s) (ra + rn)) (eq-eqb b.kind 0 k) ∙ w) in
        by_key (Some (key_parts v ra rn)) q ∙ rw (le-leb (b.prefix_len + rn) max_key (omega (arith, y, l)), ne_eqb b.kind 1 (λ z. omega (arith, k, z)), w')

-- ---- children

pub child-short : (t : List ℕ) (at : ℕ) → at < length t → get_or t at 0 < 128 → get_or t at 0 ≤ length t - at - 1 → key_at t at 1 ≡ Some (key_parts (at + 1) (at + 1) (get_or t at 0))
unfolding skip_of
child-short t at a n r =
    let y : at + 1 + 0 ≡ at + 1 = omega arith in
    let z : get_or t at 0 - 0 ≡ get_or t at 0 = omega arith in
    short-at t at 1 0 refl a n (λ e. omega arith) (omega arith) (omega arith) ∙ rw (y, z)

-- a child at a slot's place, by its key
module _ (s : List ℕ) (b : Body) (i p : ℕ) (k : b.kind ≡ 1) (e : slot_at s b i ≡ Some p) where
  child-key : (x : Option KeyParts) → key_at (take b.end s) p 1 ≡ x → rec_at s b i ≡ rec_key s b p (key_whole b x)
  unfolding rec_in key_in
  child-key x q = sym (slot-rec s b i p e) ∙ ap (λ (y : Option KeyParts). rec_key s b p (key_whole b y)) (ap (key_at (take b.end s) p) k ∙ q)

  pub child_none : key_at (take b.end s) p 1 ≡ None → rec_at s b i ≡ None
  child_none q = child-key None q

  module _ (v ra rn : ℕ) (q : key_at (take b.end s) p 1 ≡ Some (key_parts v ra rn)) where
    pub child-place : Inside s b → ra + rn ≤ b.end
    child-place n = (place_inside s b p v ra rn n (ap (key_at (take b.end s) p) k ∙ q)).rest

    pub child-long : max_key < b.prefix_len + rn → rec_at s b i ≡ None
    child-long l = child-key (Some (key_parts v ra rn)) q ∙ rw (lt-leb (b.prefix_len + rn) max_key l)

    module _ (w : b.prefix_len + rn ≤ max_key) where
      pub child_cut : b.end < ra + rn + 8 → rec_at s b i ≡ None
      child_cut l = child-key (Some (key_parts v ra rn)) q ∙ rw (le-leb (b.prefix_len + rn) max_key w, eq-eqb b.kind 1 k, lt-leb (ra + rn + 8) b.end l)

      pub child-is : ra + rn + 8 ≤ b.end → rec_at s b i ≡ Some (rec_of p v ra rn no_hist (ra + rn) 8 (addr 0) (ra + rn + 8))
      child-is l = child-key (Some (key_parts v ra rn)) q ∙ rw (le-leb (b.prefix_len + rn) max_key w, eq-eqb b.kind 1 k, le-leb (ra + rn + 8) b.end l)
