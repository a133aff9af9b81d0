-- A frame that was read in the shorter arena is read alike in the longer one.
-- Assumes nothing.
use Prim.Native.Nat.{ℕ, ◌+◌, ◌*◌, ◌≤◌, ◌<◌}
use mathlib.Core.Path.{◌≡◌, refl, sym, ap, ◌∙◌}
use mathlib.Core.Bool.{Bool, true, false, cond, ◌&&◌}
use mathlib.Core.List.{List}
use native.Mathlib.Omega.{arith}
use borrow.Author.Tests.{le-leb, leb-true, eqb-true}
use lib.ListN.{length}
use lib.Dec.{leb, eqb}
use Rattle.spans.proofs.Tests.{ask}
use Rattle.numbers.specs.Number.{le_at}
use Rattle.frames.specs.declared.Addr.{Addr}
use Rattle.frames.specs.declared.BoxHeader.{BoxHeader}
use Rattle.frames.specs.declared.BaseHeader.{BaseHeader}
use Rattle.frames.specs.declared.Body.{Body}
use Rattle.frames.specs.Layout.{box_len, base_len, box_base, box_remote, frame_len, box_fields, address_ok, box_kind_ok, flag_ok, link_ok, remote_ok, box_ok, box_at, base_fields, base_ok, page_of, page_at, open_of, open_at, remote_of, remote_at}
use Rattle.frames.proofs.Frames.{and_l, and_r, framed}
use Rattle.frames.proofs.Stores.{base_same}
use Rattle.law_stays.proofs.Grown.{Grown, stay_part, stay_byte, stay_number}
use Rattle.std.proofs.Common.{Option, Some, None}

and_both : (a b : Bool) → a ≡ true → b ≡ true → (a && b) ≡ true
and_both true b p q = q
and_both false b p q = p

-- a longer arena holds the frame too
box_longer : (h : BoxHeader) (at m n : ℕ) → m ≤ n → box_ok h at m ≡ true → box_ok h at n ≡ true
unfolding box_ok
box_longer h at m n l e =
    let front = address_ok at && box_kind_ok h && flag_ok h && link_ok h at && remote_ok h in
    let r = leb-true (at + frame_len h.payload_size) m (and_r front (leb (at + frame_len h.payload_size) m) e) in
    and_both front (leb (at + frame_len h.payload_size) n) (and_l front (leb (at + frame_len h.payload_size) m) e) (le-leb (at + frame_len h.payload_size) n (omega arith))

module _ (t s : List ℕ) (g : Grown t s) where
  box_fields_lem : (at : ℕ) → at + box_len ≤ length t → box_fields s at ≡ box_fields t at
  unfolding box_fields
  box_fields_lem at h =
      λ i.
      record {
        payload_size = stay_number t s g 4 at (omega arith) i;
        box_kind = stay_byte t s g (at + 4) (omega arith) i;
        node_type = stay_byte t s g (at + 5) (omega arith) i;
        flag = stay_byte t s g (at + 6) (omega arith) i;
        group = stay_byte t s g (at + 7) (omega arith) i;
        link = record { 0 = stay_number t s g 8 (at + 8) (omega arith) i };
        txid = stay_number t s g 8 (at + 16) (omega arith) i;
        lsn = stay_number t s g 8 (at + 24) (omega arith) i;
      }

  base_fields_lem : (at : ℕ) → at + base_len ≤ length t → base_fields s at ≡ base_fields t at
  base_fields_lem at h = base_same s t at (stay_part t s g at base_len h)

  pub box_stays : (a : Addr) (h : BoxHeader) → box_at t a ≡ Some h → box_at s a ≡ Some h
  unfolding box_at
  box_stays a h e =
      let at = a.0 in
      let no : None ≡ Some h → ⊥ = λ z. let y : ◌≡◌ {A = ℕ} 0 1 = cc in omega arith in
      let a1 = ask (leb (at + box_len) (length t)) _ None (Some h) no e in
      let a2 = ask (box_ok (box_fields t at) at (length t)) _ None (Some h) no a1.1 in
      let l : at + box_len ≤ length t = leb-true (at + box_len) (length t) a1.0 in
      let m : length t ≤ length s = g.long in
      let ok = box_longer (box_fields t at) at (length t) (length s) m a2.0 in
      rw (le-leb (at + box_len) (length s) (omega arith), box_fields_lem at l, ok) a2.1

  pub page_stays : (a : Addr) (x : BoxHeader) (h : BaseHeader) → page_at t a ≡ Some (x, h) → page_at s a ≡ Some (x, h)
  unfolding page_at
  page_stays a x h e = go (box_at t a) refl e
    where
      no : ◌≡◌ {A = Option (BoxHeader × BaseHeader)} None (Some (x, h)) → ⊥
      no z = let y : ◌≡◌ {A = ℕ} 0 1 = cc in omega arith

      go : (f : Option BoxHeader) → box_at t a ≡ f → page_of t a.0 f ≡ Some (x, h) → page_of s a.0 (box_at s a) ≡ Some (x, h)
      go (Some y) q e' =
          let a1 = ask (eqb y.box_kind box_base) _ None (Some (x, h)) no e' in
          let a2 = ask (leb base_len y.payload_size) _ None (Some (x, h)) no a1.1 in
          let l : a.0 + box_len + base_len ≤ length t = omega (arith, (framed t a y q).room, leb-true base_len y.payload_size a2.0) in
          rw (box_stays a y q, base_fields_lem (a.0 + box_len) l) e'
      go None q e' = absurd (no e')

  pub open_stays : (a : Addr) (b : Body) → open_at t a ≡ Some b → open_at s a ≡ Some b
  unfolding open_at
  open_stays a b e = go (page_at t a) refl e
    where
      go : (p : Option (BoxHeader × BaseHeader)) → page_at t a ≡ p → open_of a p ≡ Some b → open_of a (page_at s a) ≡ Some b
      go (Some (x, h)) q e' = rw (page_stays a x h q) e'
      go None q e' = absurd (let z : ◌≡◌ {A = ℕ} 0 1 = cc in omega arith)

  pub remote_stays : (a : Addr) (n p : ℕ) → remote_at t a n ≡ Some p → remote_at s a n ≡ Some p
  unfolding remote_at
  remote_stays a n p e = go (box_at t a) refl e
    where
      no : None ≡ Some p → ⊥
      no z = let y : ◌≡◌ {A = ℕ} 0 1 = cc in omega arith

      go : (f : Option BoxHeader) → box_at t a ≡ f → remote_of t a.0 n f ≡ Some p → remote_of s a.0 n (box_at s a) ≡ Some p
      go (Some h) q e' =
          let a1 = ask (eqb h.box_kind box_remote) _ None (Some p) no e' in
          let a2 = ask (eqb h.payload_size (8 + n)) _ None (Some p) no a1.1 in
          let l : a.0 + box_len + 8 ≤ length t = omega (arith, (framed t a h q).room, eqb-true h.payload_size (8 + n) a2.0) in
          rw (box_stays a h q, stay_number t s g 8 (a.0 + box_len) l) e'
      go None q e' = absurd (no e')
