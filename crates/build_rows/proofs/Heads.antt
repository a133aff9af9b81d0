-- A record of a judged page: it can be read, its key is where its slot points, its value behind its key.
-- Assumes nothing.
use Prim.Native.Nat.{ℕ, ◌+◌, ◌-◌, ◌*◌, ◌≤◌, ◌<◌}
use mathlib.Core.Path.{◌≡◌, refl, sym, ap, ◌∙◌, subst}
use mathlib.Core.Bool.{true}
use mathlib.Core.List.{List}
use native.Mathlib.Omega.{arith}
use borrow.Author.Tests.{eq-eqb}
use lib.ListN.{length, get_or}
use lib.Dec.{eqb}
use Rattle.numbers.specs.Number.{le_at}
use Rattle.frames.specs.declared.Body.{Body}
use Rattle.frames.specs.Layout.{base_len, page_id}
use Rattle.values.specs.declared.HistRef.{HistRef}
use Rattle.records.specs.declared.Rec.{Rec}
use Rattle.records.specs.Records.{place_of, rec_at}
use Rattle.records.proofs.Inside.{rec_no, at-inside, at_slot, skip_twelve}
use Rattle.pages.proofs.Given.{every_slot}
use Rattle.values.specs.Keys.{skip_of}
use Rattle.build_rows.specs.declared.Bytes.{Bytes}
use Rattle.build_rows.specs.declared.KeyHere.{KeyHere}
use Rattle.build_rows.specs.declared.Head.{Head}
use Rattle.build_rows.specs.declared.Child.{Child}
use Rattle.build_rows.specs.Fields.{hist_at, behind_of, bytes_at, Readable, KeyIs, KeyAt}
use Rattle.build_rows.specs.Judged.{Judged, head_of}
use Rattle.build_rows.proofs.Fields.{has_of, far_of, ValueHere, rec-here, rec-child, slot-found}
use Rattle.std.proofs.Common.{Some, None}

-- every slot of it can be read
pub judged-slot : (w : List ℕ) (b : Body) (k i : ℕ) → k < 2 → Judged w b k → i < b.elems → Readable w b i
judged-slot w b k i l g m =
    let x = every_slot w b g.slots i m in
    record { inside = g.inside; kind = omega (arith, g.is); rec = x.0; read = x.1 }

-- ---- where its key stands

is_same : (w : List ℕ) (b : Body) (i : ℕ) (r r' : Rec) → rec_at w b i ≡ Some r → rec_at w b i ≡ Some r' → r ≡ r'
is_same w b i r r' e e' =
    let x : Some r ≡ Some r' = sym e ∙ e' in
    let y : r ≡ r' = cc in
    y

module _ (w : List ℕ) (b : Body) (i : ℕ) (g : Readable w b i) where
  not_old : b.kind ≡ 2 → ⊥
  not_old e = omega (arith, g.kind)

  pub slot-room : b.at + base_len + 4 * i + 4 ≤ length w
  slot-room =
      let u = g.inside in
      omega (arith, at_slot w b i g.rec g.read, u.slots, u.records, u.payload, u.arena)

  module _ (v : ℕ) (e : v ≡ le_at 4 w (b.at + base_len + 4 * i)) where
    place : b.at + v ≡ place_of w b i
    place = ap (λ (x : ℕ). b.at + x) e

    pub first-room : b.at + v < length w
    first-room =
        let u = g.inside in
        omega (arith, place, (slot-found w b i g.rec u g.read).first, u.payload, u.arena)

    -- a length of one byte
    pub short-here : get_or w (b.at + v) 0 < 128 → KeyAt w b i (record { at = b.at + v + 1; len = get_or w (b.at + v) 0 })
    short-here l =
        rw place
        (λ r q. let k = (slot-found w b i r g.inside q).short not_old (subst (λ (x : ℕ). get_or w x 0 < 128) place l) in record { begins = k.0; ends = k.1 })

  pub rec-room : (r : Rec) → rec_at w b i ≡ Some r → (r.ver_at ≤ r.rest_at) × (r.rest_at + r.rest_len ≤ length w)
  rec-room r e =
      let u = g.inside in
      let k = (at-inside w b i r u e).0 in
      (omega (arith, k.ver), omega (arith, k.rest, u.payload, u.arena))

  pub not_bad : rec_at w b i ≡ None → ⊥
  not_bad e = rec_no g.rec (sym e ∙ g.read)

  -- any other, by the decoder
  pub long-here : (r : Rec) → rec_at w b i ≡ Some r → KeyAt w b i (record { at = r.ver_at; len = r.rest_at - r.ver_at + r.rest_len })
  long-here r e =
      λ r' e'.
      let k = (at-inside w b i r g.inside e).0 in
      let x : r ≡ r' = is_same w b i r r' e e' in
      subst (λ (y : Rec). KeyIs (record { at = r.ver_at; len = r.rest_at - r.ver_at + r.rest_len }) y) x (record { begins = refl; ends = omega (arith, k.ver) })

-- ---- a head

pub record HeadFound (w : List ℕ) (k : KeyHere) (r : Rec) : Type 0 where
  pub ver : k.at ≡ r.ver_at
  pub rest : k.len - 12 ≡ r.rest_len
  pub long : 12 ≤ k.len
  pub value : ValueHere w (k.at + k.len) true r.hist r.val_at r.val_len r.remote

pub head_found : (w : List ℕ) (b : Body) (i : ℕ) (k : KeyHere) (r : Rec) → Judged w b 0 → KeyAt w b i k → rec_at w b i ≡ Some r → HeadFound w k r
head_found w b i k r g f e =
    let u = g.inside in
    let x = f r e in
    let z = (at-inside w b i r u e).0 in
    let m : skip_of b.kind ≡ 12 = skip_twelve b.kind (λ y. omega (arith, g.is)) in
    let v = rec-here w b i r u (λ y. omega (arith, g.is)) e in
    let n : eqb b.kind 0 ≡ true = eq-eqb b.kind 0 g.is in
    record {
      ver = x.begins;
      rest = omega (arith, x.begins, x.ends, z.ver, m);
      long = omega (arith, x.begins, x.ends, z.ver, m);
      value = rw (x.ends, ← n) v;
    }

pub head_is_lem : (w : List ℕ) (k : KeyHere) (r : Rec) (h : HistRef) (y : Bytes) → HeadFound w k r → h ≡ hist_at w (has_of (get_or w (k.at + k.len) 0)) (k.at + k.len + 1)
    → y ≡ bytes_at w (far_of (get_or w (k.at + k.len) 0)) (behind_of (has_of (get_or w (k.at + k.len) 0)) (k.at + k.len + 1))
    → ◌≡◌ {A = Head} (record { ver_at = k.at; rest_len = k.len - 12; hist = h; bytes = y }) (head_of r)
head_is_lem w k r h y g e f =
    let x1 : h ≡ r.hist = e ∙ sym g.value.hist in
    let x2 = f ∙ g.value.bytes in
    rw (g.ver, g.rest, x1, x2)

-- ---- a child

pub child-is : (w : List ℕ) (b : Body) (i : ℕ) (k : KeyHere) (r : Rec) → Judged w b 1 → KeyAt w b i k → rec_at w b i ≡ Some r
    → (k.at + k.len + 8 ≤ length w) × ((n : ℕ) → n ≡ le_at 8 w (k.at + k.len) → ◌≡◌ {A = Child} (record { rest_at = k.at; rest_len = k.len; page = page_id n }) (record { rest_at = r.rest_at; rest_len = r.rest_len; page = page_id (le_at 8 w r.val_at) }))
unfolding skip_of
child-is w b i k r g f e =
    let u = g.inside in
    let x = f r e in
    let z : r.ver_at + skip_of b.kind ≡ r.rest_at = (at-inside w b i r u e).0.ver in
    let z' : r.ver_at + 0 ≡ r.rest_at = rw g.is at z in
    let v = rec-child w b i r g.is u e in
    let y1 : k.at ≡ r.rest_at = omega (arith, x.begins) in
    let y2 : k.len ≡ r.rest_len = omega (arith, x.ends) in
    let y3 : k.at + k.len ≡ r.val_at = x.ends ∙ v.0 in
    (omega (arith, v.1), λ n q. rw (q, y3, y1, y2))
