-- A page judged by `plain` or by `history` is one that both headers' tests let pass.
-- Assumes nothing.
use Prim.Native.Nat.{ℕ, ◌+◌, ◌*◌}
use mathlib.Core.Path.{◌≡◌, refl, sym, ap, ◌∙◌}
use mathlib.Core.Bool.{Bool, true, false, ◌&&◌, ◌||◌}
use mathlib.Core.List.{List}
use mathlib.Core.Logic.{◌⊎◌, ⊎_elim, inl, inr}
use native.Mathlib.Omega.{arith}
use borrow.Author.Tests.{leb-true, eqb-true, le-leb, eq-eqb}
use lib.ListN.{length}
use lib.Dec.{leb, ltb, eqb}
use Rattle.frames.specs.declared.Addr.{Addr}
use Rattle.frames.specs.declared.BoxHeader.{BoxHeader}
use Rattle.frames.specs.declared.BaseHeader.{BaseHeader}
use Rattle.frames.specs.declared.Body.{Body}
use Rattle.frames.specs.Layout.{box_len, base_len, slots_at, box_base, node_leaf, node_index, flag_sibling, frame_len, box_fields, address_ok, box_ok, box_at, base_fields, zeros_ok, lengths_ok, base_ok, AnyBase, Passes, page_at, kind_of, body_of, open_at}
use Rattle.frames.specs.Limits.{max_key}
use Rattle.frames.proofs.Frames.{and_l, and_r, base_sizes}
use Rattle.std.proofs.Common.{Some, None}

either : (a b : Bool) → (a || b) ≡ true → (a ≡ true) ⊎ (b ≡ true)
either true b e = inl refl
either false b e = inr e

-- one version or many, where the page is a leaf
versions : (a b : Bool) → (a || b) ≡ true → (a || (b && true && true)) ≡ true
versions true b e = refl
versions false true e = refl
versions false false e = e

-- the parts of a row of tests
record Five (a b c d e : Bool) : Type 0 where
  one : a ≡ true
  two : b ≡ true
  three : c ≡ true
  four : d ≡ true
  five : e ≡ true

five_true : (a b c d e : Bool) → (a && b && c && d && e) ≡ true → Five a b c d e
five_true a b c d e t =
    let t4 = and_l (a && b && c && d) e t in
    let t3 = and_l (a && b && c) d t4 in
    let t2 = and_l (a && b) c t3 in
    record {
      one = and_l a b t2;
      two = and_r a b t2;
      three = and_r (a && b) c t3;
      four = and_r (a && b && c) d t4;
      five = and_r (a && b && c && d) e t;
    }

module _ (x : BoxHeader) (h : BaseHeader) (at len : ℕ) where
  -- what `any_base` answers, with the front's and the frame's lengths as they were worked out
  pub any_base_ok : (front frame : ℕ) → front ≡ base_len + 4 * h.elems + h.lo_len + h.hi_len → frame ≡ frame_len x.payload_size
      → (address_ok at && eqb x.box_kind box_base && zeros_ok h && leb front h.size && leb (at + frame) len) ≡ true → AnyBase x h at len
  any_base_ok front frame u v t =
      let q = five_true (address_ok at) (eqb x.box_kind box_base) (zeros_ok h) (leb front h.size) (leb (at + frame) len) t in
      record {
        address = q.one;
        kind = eqb-true x.box_kind box_base q.two;
        zeros = q.three;
        front = ap (λ (n : ℕ). leb n h.size) (sym u) ∙ q.four;
        fits = ap (λ (n : ℕ). leb (at + n) len) (sym v) ∙ q.five;
      }

  abbrev pub plain_leaf : Bool
  plain_leaf = eqb h.is_index 0 && eqb x.node_type node_leaf && (eqb h.has_multiple_versions 0 || eqb h.has_multiple_versions 1)

  abbrev pub plain_index : Bool
  plain_index = eqb h.is_index 1 && eqb x.node_type node_index && (eqb h.has_multiple_versions 0 && eqb h.size x.payload_size)

  module _ (r : AnyBase x h at len) where
    module _ (f : eqb x.flag 0 ≡ true) (l : eqb x.link.0 0 ≡ true) where
      box_leaf : x.node_type ≡ node_leaf → box_ok x at len ≡ true
      unfolding box_ok
      box_leaf n = simp (r.address, r.kind, n, f, l, r.fits)

      box_index : x.node_type ≡ node_index → box_ok x at len ≡ true
      unfolding box_ok
      box_index n = simp (r.address, r.kind, n, f, l, r.fits)

    box_history : x.node_type ≡ node_leaf → x.flag ≡ flag_sibling → (eqb x.link.0 0 || ltb at x.link.0) ≡ true → box_ok x at len ≡ true
    unfolding box_ok
    box_history n f l = simp (r.address, r.kind, n, f, l, r.fits)

    module _ (e : lengths_ok h ≡ true) (p : leb h.prefix_len h.lo_len ≡ true) (s : leb h.size x.payload_size ≡ true) where
      base_leaf : eqb x.flag 0 ≡ true → eqb h.is_index 0 ≡ true → eqb x.node_type node_leaf ≡ true → (eqb h.has_multiple_versions 0 || eqb h.has_multiple_versions 1) ≡ true → base_ok x h ≡ true
      unfolding base_ok
      base_leaf f i n m = simp (r.zeros, i, n, f, versions (eqb h.has_multiple_versions 0) (eqb h.has_multiple_versions 1) m, e, p, s, r.front)

      base_index : eqb x.flag 0 ≡ true → h.is_index ≡ 1 → x.node_type ≡ node_index → eqb h.has_multiple_versions 0 ≡ true → eqb h.size x.payload_size ≡ true → base_ok x h ≡ true
      unfolding base_ok
      base_index f i n m q = simp (r.zeros, i, n, f, m, q, e, p, s, r.front)

      base_history : x.flag ≡ flag_sibling → eqb h.is_index 0 ≡ true → eqb x.node_type node_leaf ≡ true → eqb h.has_multiple_versions 0 ≡ true → leb 1 h.elems ≡ true
          → (eqb h.lo_len 0 && eqb h.hi_len 0 && eqb h.right_sibling.0 0) ≡ true → eqb h.size x.payload_size ≡ true → base_ok x h ≡ true
      unfolding base_ok
      base_history f i n m k b q = simp (r.zeros, i, n, f, m, k, b, q, e, p, s, r.front)

  -- what `plain` answers
  pub plain_ok : (t : Bool) → (t ≡ true → AnyBase x h at len)
      → (t && (eqb x.flag 0 && eqb x.link.0 0) && (plain_leaf || plain_index) && lengths_ok h && leb h.prefix_len h.lo_len && leb h.size x.payload_size) ≡ true → Passes x h at len
  plain_ok t w y =
      let u0 = eqb x.flag 0 in
      let u1 = eqb x.link.0 0 in
      let lo = leb h.prefix_len h.lo_len in
      let fit = leb h.size x.payload_size in
      let q = five_true t (u0 && u1) (plain_leaf || plain_index) (lengths_ok h) lo (and_l (t && (u0 && u1) && (plain_leaf || plain_index) && lengths_ok h && lo) fit y) in
      let s = and_r (t && (u0 && u1) && (plain_leaf || plain_index) && lengths_ok h && lo) fit y in
      let r = w q.one in
      let f = and_l u0 u1 q.two in
      let l = and_r u0 u1 q.two in
      let i0 = eqb h.is_index 0 in
      let i1 = eqb h.is_index 1 in
      let n1 = eqb x.node_type node_leaf in
      let n2 = eqb x.node_type node_index in
      let m0 = eqb h.has_multiple_versions 0 in
      let m1 = eqb h.has_multiple_versions 1 in
      let same = eqb h.size x.payload_size in
      ⊎_elim
      (λ g.
      let i = and_l (i0 && n1) (m0 || m1) g in
      let n = and_r i0 n1 i in
      (box_leaf r f l (eqb-true x.node_type node_leaf n), r.kind, base_leaf r q.four q.five s f (and_l i0 n1 i) n (and_r (i0 && n1) (m0 || m1) g)))
      (λ g.
      let i = and_l (i1 && n2) (m0 && same) g in
      let n = eqb-true x.node_type node_index (and_r i1 n2 i) in
      let m = and_r (i1 && n2) (m0 && same) g in
      (box_index r f l n, r.kind, base_index r q.four q.five s f (eqb-true h.is_index 1 (and_l i1 n2 i)) n (and_l m0 same m) (and_r m0 same m)))
      (either plain_leaf plain_index q.three)

  -- what `history` answers
  pub history_ok_lem : (t : Bool) → (t ≡ true → AnyBase x h at len)
      → (t && (eqb x.node_type node_leaf && eqb x.flag flag_sibling) && (eqb x.link.0 0 || ltb at x.link.0) && (eqb h.lo_len 0 && eqb h.hi_len 0 && eqb h.right_sibling.0 0)
      && (eqb h.is_index 0 && eqb h.has_multiple_versions 0) && eqb h.prefix_len 0 && leb 1 h.elems && eqb h.size x.payload_size) ≡ true → Passes x h at len × (x.flag ≡ flag_sibling)
  history_ok_lem t w y =
      let n1 = eqb x.node_type node_leaf in
      let f1 = eqb x.flag flag_sibling in
      let link = (eqb x.link.0 0 || ltb at x.link.0) in
      let lo = eqb h.lo_len 0 in
      let hi = eqb h.hi_len 0 in
      let bounds = (lo && hi && eqb h.right_sibling.0 0) in
      let i0 = eqb h.is_index 0 in
      let m0 = eqb h.has_multiple_versions 0 in
      let none = eqb h.prefix_len 0 in
      let some = leb 1 h.elems in
      let same = eqb h.size x.payload_size in
      let front = (t && (n1 && f1) && link && bounds && (i0 && m0)) in
      let y2 = and_l (front && none && some) same y in
      let y1 = and_l (front && none) some y2 in
      let q = five_true t (n1 && f1) link bounds (i0 && m0) (and_l front none y1) in
      let r = w q.one in
      let n = and_l n1 f1 q.two in
      let f = eqb-true x.flag flag_sibling (and_r n1 f1 q.two) in
      let b = and_l (lo && hi) (eqb h.right_sibling.0 0) q.four in
      let zl : h.lo_len ≡ 0 = eqb-true h.lo_len 0 (and_l lo hi b) in
      let zh : h.hi_len ≡ 0 = eqb-true h.hi_len 0 (and_r lo hi b) in
      let zp : h.prefix_len ≡ 0 = eqb-true h.prefix_len 0 (and_r front none y1) in
      let e1 : leb h.lo_len max_key ≡ true = le-leb h.lo_len max_key (omega arith) in
      let e2 : leb h.hi_len max_key ≡ true = le-leb h.hi_len max_key (omega arith) in
      let e : lengths_ok h ≡ true = simp (e1, e2) in
      let p : leb h.prefix_len h.lo_len ≡ true = le-leb h.prefix_len h.lo_len (omega arith) in
      let z : h.size ≡ x.payload_size = eqb-true h.size x.payload_size (and_r (front && none && some) same y) in
      let s : leb h.size x.payload_size ≡ true = le-leb h.size x.payload_size (omega arith) in
      ((box_history r (eqb-true x.node_type node_leaf n) f q.three, r.kind, base_history r e p s f (and_l i0 m0 q.five) n (and_r i0 m0 q.five) (and_r (front && none) some y2) q.four (and_r (front && none && some) same y)), f)

boxed : (s : List ℕ) (a : Addr) (x : BoxHeader) → leb (a.0 + box_len) (length s) ≡ true → x ≡ box_fields s a.0 → box_ok (box_fields s a.0) a.0 (length s) ≡ true → box_at s a ≡ Some x
unfolding box_at
boxed s a x room i b = simp (room, b, i)

-- a page whose headers pass is read
pub plain-page : (s : List ℕ) (a : Addr) (x : BoxHeader) (h : BaseHeader) → leb (a.0 + slots_at) (length s) ≡ true → x ≡ box_fields s a.0 → h ≡ base_fields s (a.0 + box_len) → Passes x h a.0 (length s) → page_at s a ≡ Some (x, h)
unfolding page_at
plain-page s a x h r i j p =
    let room : leb (a.0 + box_len) (length s) ≡ true = le-leb (a.0 + box_len) (length s) (omega (arith, leb-true (a.0 + slots_at) (length s) r)) in
    let b : box_ok (box_fields s a.0) a.0 (length s) ≡ true = ap (λ (y : BoxHeader). box_ok y a.0 (length s)) (sym i) ∙ p.0 in
    let frame = boxed s a x room i b in
    let z = base_sizes s a x h frame p.2 in
    let big : leb base_len x.payload_size ≡ true = le-leb base_len x.payload_size (omega (arith, z.size, z.holds)) in
    let o : base_ok x (base_fields s (a.0 + box_len)) ≡ true = ap (λ (y : BaseHeader). base_ok x y) (sym j) ∙ p.2 in
    simp (frame, eq-eqb x.box_kind box_base p.1, big, o, j)

-- a page whose flag is a history page's is opened as one
pub history_open : (s : List ℕ) (a : Addr) (b : Body) (x : BoxHeader) (h : BaseHeader) → page_at s a ≡ Some (x, h) → x.flag ≡ flag_sibling → (d : Body) → d ≡ body_of a x h → Some d ≡ Some b → (open_at s a ≡ Some b) × (b.kind ≡ 2)
unfolding open_at body_of kind_of
history_open s a b x h p f d o e =
    let z : d ≡ b = cc in
    let w : open_at s a ≡ Some (body_of a x h) = simp p in
    let k : (body_of a x h).kind ≡ 2 = rw f in
    (w ∙ ap Some (sym o ∙ z), sym (ap (λ (y : Body). y.kind) (sym o ∙ z)) ∙ k)

pub bad_open : {A : Type 0} (b : Body) → None ≡ Some b → A
bad_open b e = absurd (let z : ◌≡◌ {A = ℕ} 0 1 = cc in omega arith)
