-- What a frame, a page, a remote or a delta that was read tells of its place.
-- Assumes nothing.
use Prim.Native.Nat.{ℕ, ◌+◌, ◌*◌, ◌%◌, ◌≤◌}
use mathlib.Core.Path.{◌≡◌, refl, ap, ◌∙◌, subst}
use mathlib.Core.Bool.{Bool, true, false, cond, ◌&&◌, ◌||◌}
use mathlib.Core.List.{List}
use native.Mathlib.Omega.{arith}
use borrow.Author.Tests.{leb-true, eqb-true, ne_eqb}
use lib.ListN.{length}
use lib.Dec.{leb, eqb}
use Rattle.numbers.specs.Number.{le_at}
use Rattle.frames.specs.declared.Addr.{Addr}
use Rattle.frames.specs.declared.BoxHeader.{BoxHeader}
use Rattle.frames.specs.declared.BaseHeader.{BaseHeader}
use Rattle.frames.specs.declared.Body.{Body}
use Rattle.frames.specs.declared.Delta.{Delta}
use Rattle.frames.specs.Layout.{box_len, base_len, delta_lens, box_base, box_delta, box_remote, flag_sibling, frame_len, box_fields, address_ok, box_kind_ok, flag_ok, link_ok, remote_ok, box_ok, box_at, base_fields, zeros_ok, leaf_ok, index_ok, many_ok, history_ok, payload_ok, lengths_ok, base_ok, page_of, page_at, kind_of, body_of, open_of, open_at, Inside, remote_of, remote_at, cut_at, delta_of, delta_at}
use Rattle.spans.proofs.Tests.{ask}
use Rattle.std.proofs.Common.{Option, Some, None}

-- ---- what a conjunction that holds says of its parts (they belong to `spans`' Tests)

pub and_l : (a b : Bool) → (a && b) ≡ true → a ≡ true
and_l true b e = refl
and_l false b e = e

pub and_r : (a b : Bool) → (a && b) ≡ true → b ≡ true
and_r true b e = e
and_r false b e = absurd (let z : ◌≡◌ {A = ℕ} 0 1 = cc in omega arith)

-- ---- frames

frame_no : (h : BoxHeader) → None ≡ Some h → ⊥
frame_no h e = let z : ◌≡◌ {A = ℕ} 0 1 = cc in omega arith

page_no : (x : BoxHeader) (h : BaseHeader) → ◌≡◌ {A = Option (BoxHeader × BaseHeader)} None (Some (x, h)) → ⊥
page_no x h e = let z : ◌≡◌ {A = ℕ} 0 1 = cc in omega arith

-- the frame at an address: its whole stretch lies in the arena
pub record Framed (s : List ℕ) (a : Addr) (h : BoxHeader) : Type 0 where
  pub read : box_fields s a.0 ≡ h
  pub room : a.0 + frame_len h.payload_size ≤ length s
  pub above : 8 ≤ a.0
  pub even : a.0 % 8 ≡ 0

pub framed : (s : List ℕ) (a : Addr) (h : BoxHeader) → box_at s a ≡ Some h → Framed s a h
unfolding box_at box_ok
framed s a h e =
    let k = box_fields s a.0 in
    let at = a.0 in
    let a1 = ask (leb (at + box_len) (length s)) _ None (Some h) (frame_no h) e in
    let a2 = ask (box_ok k at (length s)) _ None (Some h) (frame_no h) a1.1 in
    let x : k ≡ h = cc in
    let p4 = address_ok at && box_kind_ok k && flag_ok k && link_ok k at in
    let b5 = and_l (p4 && remote_ok k) (leb (at + frame_len k.payload_size) (length s)) a2.0 in
    let b1 = and_l (address_ok at) (box_kind_ok k) (and_l (address_ok at && box_kind_ok k) (flag_ok k) (and_l (address_ok at && box_kind_ok k && flag_ok k) (link_ok k at) (and_l p4 (remote_ok k) b5))) in
    rw (← x)
    (record {
      read = refl;
      room = leb-true (at + frame_len k.payload_size) (length s) (and_r (p4 && remote_ok k) (leb (at + frame_len k.payload_size) (length s)) a2.0);
      above = leb-true 8 at (and_l (leb 8 at) (eqb (at % 8) 0) b1);
      even = eqb-true (at % 8) 0 (and_r (leb 8 at) (eqb (at % 8) 0) b1);
    })

-- a page's size is in its frame's payload and holds header, slots and boundaries
pub record Sizes (s : List ℕ) (a : Addr) (x : BoxHeader) (h : BaseHeader) : Type 0 where
  pub arena : a.0 + box_len + x.payload_size ≤ length s
  pub size : h.size ≤ x.payload_size
  pub holds : base_len + 4 * h.elems + h.lo_len + h.hi_len ≤ h.size
  pub prefix : h.prefix_len ≤ h.lo_len
  pub above : 8 ≤ a.0

pub base_sizes : (s : List ℕ) (a : Addr) (x : BoxHeader) (h : BaseHeader) → box_at s a ≡ Some x → base_ok x h ≡ true → Sizes s a x h
unfolding base_ok
base_sizes s a x h q o =
    let f = framed s a x q in
    let front = zeros_ok h && (leaf_ok x h || index_ok x h) && many_ok x h && history_ok x h && payload_ok x h && lengths_ok h in
    let p = leb h.prefix_len h.lo_len in
    let z = leb h.size x.payload_size in
    let w = leb (base_len + 4 * h.elems + h.lo_len + h.hi_len) h.size in
    let o1 = and_l (front && p && z) w o in
    let o2 = and_l (front && p) z o1 in
    let room : a.0 + frame_len x.payload_size ≤ length s = f.room in
    record {
      arena = omega arith;
      size = leb-true h.size x.payload_size (and_r (front && p) z o1);
      holds = leb-true (base_len + 4 * h.elems + h.lo_len + h.hi_len) h.size (and_r (front && p && z) w o);
      prefix = leb-true h.prefix_len h.lo_len (and_r front p o2);
      above = f.above;
    }

pub page_sizes : (s : List ℕ) (a : Addr) (x : BoxHeader) (h : BaseHeader) → page_at s a ≡ Some (x, h) → Sizes s a x h
unfolding page_at
page_sizes s a x h e = go (box_at s a) refl e
  where
    go : (f : Option BoxHeader) → box_at s a ≡ f → page_of s a.0 f ≡ Some (x, h) → Sizes s a x h
    go (Some y) q e' =
        let b = base_fields s (a.0 + box_len) in
        let a1 = ask (eqb y.box_kind box_base) _ None (Some (x, h)) (page_no x h) e' in
        let a2 = ask (leb base_len y.payload_size) _ None (Some (x, h)) (page_no x h) a1.1 in
        let a3 = ask (base_ok y b) _ None (Some (x, h)) (page_no x h) a2.1 in
        let i : y ≡ x = grind arith in
        let j : b ≡ h = grind arith in
        rw (← i, ← j) (base_sizes s a y b q a3.0)
    go None q e' = absurd (page_no x h e')

pub body-inside : (s : List ℕ) (a : Addr) (x : BoxHeader) (h : BaseHeader) → Sizes s a x h → Inside s (body_of a x h)
unfolding body_of
body-inside s a x h z = record { slots = refl; records = omega arith; payload = omega arith; arena = omega arith; prefix = omega arith }

-- a page that was opened stands in the arena, above 0
pub open_inside : (s : List ℕ) (a : Addr) (b : Body) → open_at s a ≡ Some b → Inside s b × (8 ≤ a.0)
unfolding open_at
open_inside s a b e = go (page_at s a) refl e
  where
    go : (p : Option (BoxHeader × BaseHeader)) → page_at s a ≡ p → open_of a p ≡ Some b → Inside s b × (8 ≤ a.0)
    go (Some (x, h)) q e' = let z = page_sizes s a x h q in let i : body_of a x h ≡ b = cc in (rw i at (body-inside s a x h z), z.above)
    go None q e' = absurd (let z : ◌≡◌ {A = ℕ} 0 1 = cc in omega arith)

-- a page's kind is leaf, index or history
pub open_kind : (s : List ℕ) (a : Addr) (b : Body) → open_at s a ≡ Some b → b.kind ≤ 2
unfolding open_at body_of kind_of
open_kind s a b e = go (page_at s a) e
  where
    by : (t u : Bool) → cond t 2 (cond u 1 0) ≤ 2
    by true u = omega arith
    by false true = omega arith
    by false false = omega arith

    go : (p : Option (BoxHeader × BaseHeader)) → open_of a p ≡ Some b → b.kind ≤ 2
    go (Some (x, h)) e' = let i : body_of a x h ≡ b = cc in subst (λ (d : Body). d.kind ≤ 2) i (by (eqb x.flag flag_sibling) (eqb h.is_index 1))
    go None e' = absurd (let z : ◌≡◌ {A = ℕ} 0 1 = cc in omega arith)

-- a history page has a record
some : (x : BoxHeader) (h : BaseHeader) → base_ok x h ≡ true → kind_of x.flag h.is_index ≡ 2 → 1 ≤ h.elems
unfolding base_ok kind_of
some x h o k =
    let front = zeros_ok h && (leaf_ok x h || index_ok x h) && many_ok x h in
    let l = leb h.prefix_len h.lo_len in
    let z = leb h.size x.payload_size in
    let w = leb (base_len + 4 * h.elems + h.lo_len + h.hi_len) h.size in
    let o1 = and_l (front && history_ok x h && payload_ok x h && lengths_ok h && l) z (and_l (front && history_ok x h && payload_ok x h && lengths_ok h && l && z) w o) in
    let o2 = and_l (front && history_ok x h && payload_ok x h) (lengths_ok h) (and_l (front && history_ok x h && payload_ok x h && lengths_ok h) l o1) in
    go (eqb x.flag flag_sibling) refl k (and_r front (history_ok x h) (and_l (front && history_ok x h) (payload_ok x h) o2))
  where
    many : Bool
    many = (leb 1 h.elems && (eqb h.lo_len 0 && eqb h.hi_len 0 && eqb h.right_sibling.0 0))

    kinds : (i : Bool) → ◌≡◌ {A = ℕ} (cond i 1 0) 2 → ⊥
    kinds true e = omega arith
    kinds false e = omega arith

    go : (t : Bool) → eqb x.flag flag_sibling ≡ t → ◌≡◌ {A = ℕ} (cond t 2 (cond (eqb h.is_index 1) 1 0)) 2 → (eqb x.flag 0 || many) ≡ true → 1 ≤ h.elems
    go true f k' q =
        let f1 : x.flag ≡ 1 = eqb-true x.flag flag_sibling f in
        let n : eqb x.flag 0 ≡ false = ne_eqb x.flag 0 (λ e. omega arith) in
        let m : many ≡ true = rw n at q in
        leb-true 1 h.elems (and_l (leb 1 h.elems) (eqb h.lo_len 0 && eqb h.hi_len 0 && eqb h.right_sibling.0 0) m)
    go false f k' q = absurd (kinds (eqb h.is_index 1) k')

pub open_some : (s : List ℕ) (a : Addr) (b : Body) → open_at s a ≡ Some b → b.kind ≡ 2 → 1 ≤ b.elems
unfolding open_at page_at body_of
open_some s a b e k = go (box_at s a) e
  where
    no : None ≡ Some b → ⊥
    no n = let z : ◌≡◌ {A = ℕ} 0 1 = cc in omega arith

    h : BaseHeader
    h = base_fields s (a.0 + box_len)

    by : (y : BoxHeader) (t : Bool) → base_ok y h ≡ t → open_of a (cond t (Some (y, h)) None) ≡ Some b → 1 ≤ b.elems
    by y true o e' =
        let i : body_of a y h ≡ b = cc in
        subst (λ (d : Body). 1 ≤ d.elems) i (some y h o (ap (λ (d : Body). d.kind) i ∙ k))
    by y false o e' = absurd (no e')

    base : (y : BoxHeader) (t u : Bool) → open_of a (cond t (cond u (cond (base_ok y h) (Some (y, h)) None) None) None) ≡ Some b → 1 ≤ b.elems
    base y true true e' = by y (base_ok y h) refl e'
    base y true false e' = absurd (no e')
    base y false u e' = absurd (no e')

    go : (f : Option BoxHeader) → open_of a (page_of s a.0 f) ≡ Some b → 1 ≤ b.elems
    go (Some y) e' = base y (eqb y.box_kind box_base) (leb base_len y.payload_size) e'
    go None e' = absurd (no e')

-- a remote value lies in the arena
pub remote-inside : (s : List ℕ) (a : Addr) (n p : ℕ) → remote_at s a n ≡ Some p → p + n ≤ length s
unfolding remote_at
remote-inside s a n p e = go (box_at s a) refl e
  where
    no : None ≡ Some p → ⊥
    no z = let y : ◌≡◌ {A = ℕ} 0 1 = cc in omega arith

    go : (f : Option BoxHeader) → box_at s a ≡ f → remote_of s a.0 n f ≡ Some p → p + n ≤ length s
    go (Some h) q e' =
        let a1 = ask (eqb h.box_kind box_remote) _ None (Some p) no e' in
        let a2 = ask (eqb h.payload_size (8 + n)) _ None (Some p) no a1.1 in
        let a3 = ask (eqb (le_at 8 s (a.0 + box_len)) n) _ None (Some p) no a2.1 in
        let x : a.0 + box_len + 8 ≡ p = cc in
        omega (arith, (framed s a h q).room, eqb-true h.payload_size (8 + n) a2.0)
    go None q e' = absurd (no e')

-- a delta's key and value lie in the arena
pub record DeltaInside (s : List ℕ) (d : Delta) : Type 0 where
  pub key : d.key_at ≤ d.val_at
  pub val : d.val_at ≤ d.end
  pub arena : d.end ≤ length s

pub delta_inside : (s : List ℕ) (a : Addr) (d : Delta) → delta_at s a ≡ Some d → DeltaInside s d
unfolding delta_at
delta_inside s a d e = go (box_at s a) refl e
  where
    no : None ≡ Some d → ⊥
    no z = let y : ◌≡◌ {A = ℕ} 0 1 = cc in omega arith

    go : (f : Option BoxHeader) → box_at s a ≡ f → delta_of s a.0 f ≡ Some d → DeltaInside s d
    go (Some h) q e' =
        let p = a.0 + box_len in
        let a1 = ask (eqb h.box_kind box_delta) _ None (Some d) no e' in
        let a2 = ask (leb delta_lens h.payload_size) _ None (Some d) no a1.1 in
        let a3 = ask (eqb h.payload_size (delta_lens + le_at 4 s p + le_at 4 s (p + 4))) _ None (Some d) no a2.1 in
        let x : cut_at s p h ≡ d = cc in
        rw (← x)
        (record {
          key = omega arith;
          val = omega arith;
          arena = omega (arith, (framed s a h q).room, eqb-true h.payload_size (delta_lens + le_at 4 s p + le_at 4 s (p + 4)) a3.0);
        })
    go None q e' = absurd (no e')
