-- An entry as it is told does not change with what is written above it, and what is stored of it does not know its key or its mark.
-- Assumes nothing.
use mathlib.Core.Path.{◌≡◌, refl, ap₂}
use mathlib.Core.List.{List, ◌++◌}
use mathlib.Core.Bool.{Bool}
use Prim.Native.Nat.{ℕ, ◌+◌, ◌≤◌}
use native.Mathlib.Omega.{arith}
use lib.ListN.{take}
use Rattle.spans.specs.Span.{part}
use Rattle.spans.proofs.Part.{part_agree}
use Rattle.numbers.proofs.Numbers.{le_at_agree}
use Rattle.order.specs.declared.Ver.{Ver}
use Rattle.order.specs.Version.{ver_of}
use Rattle.frames.specs.declared.Body.{Body}
use Rattle.values.specs.declared.HistRef.{HistRef}
use Rattle.values.specs.Keys.{ver_in}
use Rattle.pages.specs.Meaning.{prefix_of}
use Rattle.build_image.specs.declared.Call.{Call}
use Rattle.build_image.specs.Image.{remote_addr, val_bytes, old_rec, head_rec, remote_frame_of}
use Rattle.build_rows.specs.declared.Bytes.{Bytes}
use Rattle.build_rows.specs.declared.Old.{Old}
use Rattle.build_rows.specs.declared.Head.{Head}
use Rattle.build_page_pen.specs.Told.{told, value_told, old_told, key_told, head_told, ValueBelow, OldBelow, KeyBelow, HeadBelow}

-- below a higher place, too
pub value_up : (low at : ℕ) (v : Bytes) → low ≤ at → ValueBelow low v → ValueBelow at v
value_up low at v h b = record { all = omega (arith, h, b.all); small = b.small }

pub key_up : (low at : ℕ) (b : Body) (rest len : ℕ) → low ≤ at → KeyBelow low b rest len → KeyBelow at b rest len
key_up low at b rest len h k = record { prefix = omega (arith, h, k.prefix); all = omega (arith, h, k.all); small = k.small }

pub old_up : (low at : ℕ) (o : Old) → low ≤ at → OldBelow low o → OldBelow at o
old_up low at o h b = record { ver = omega (arith, h, b.ver); value = value_up low at o.bytes h b.value }

pub head_up : (low at : ℕ) (b : Body) (r : Head) → low ≤ at → HeadBelow low b r → HeadBelow at b r
head_up low at b r h k = record { key = key_up low at b (r.ver_at + 12) r.rest_len h k.key; value = value_up low at r.bytes h k.value }

-- two arenas that agree below a place tell the same
module _ (x y : List ℕ) (low : ℕ) (e : take low x ≡ take low y) where
  pub value_same : (v : Bytes) → ValueBelow low v → part x v.at v.len ≡ part y v.at v.len
  value_same v b = part_agree x y v.at v.len low b.all e

  ver-same : (at : ℕ) → at + 12 ≤ low → ver_in x at ≡ ver_in y at
  unfolding ver_in
  ver-same at h = ap₂ ver_of (le_at_agree x y 8 at low (omega (arith, h)) e) (le_at_agree x y 4 (at + 8) low (omega (arith, h)) e)

  pub key-same : (b : Body) (rest len : ℕ) → KeyBelow low b rest len → key_told x b rest len ≡ key_told y b rest len
  unfolding prefix_of
  key-same b rest len k = ap₂ (λ (p q : List ℕ). p ++ q) (part_agree x y _ b.prefix_len low k.prefix e) (part_agree x y rest len low k.all e)

  pub old-same : (o : Old) (kept : ℕ) → OldBelow low o → old_told x o kept ≡ old_told y o kept
  old-same o kept b = rw (ver-same o.ver_at b.ver, value_same o.bytes b.value) refl

  pub head_same : (b : Body) (r : Head) (kept : ℕ) → HeadBelow low b r → head_told x b r kept ≡ head_told y b r kept
  head_same b r kept k = rw (ver-same r.ver_at (omega (arith, k.key.all)), key-same b (r.ver_at + 12) r.rest_len k.key, value_same r.bytes k.value) refl

-- a value's bytes, and its remote frame, are its value's alone
module _ (w : List ℕ) (v : Bytes) (old : Bool) (key : List ℕ) (ver : Ver) where
  pub value_alone : (limit remote : ℕ) (h : HistRef) (kept : ℕ) → val_bytes limit remote h (told w old key ver v kept) ≡ val_bytes limit remote h (value_told w v kept)
  unfolding val_bytes
  value_alone limit remote h kept = refl

  pub frame_alone : (m : Call) (kept : ℕ) → remote_frame_of m (told w old key ver v kept) ≡ remote_frame_of m (value_told w v kept)
  unfolding remote_frame_of
  frame_alone m kept = refl

  -- the remote's address told, or kept
  pub old-kept : (limit remote kept : ℕ) → old_rec limit (remote_addr remote kept) (told w old key ver v 0) ≡ old_rec limit remote (told w old key ver v kept)
  unfolding old_rec val_bytes remote_addr
  old-kept limit remote kept = refl

  pub head_kept : (limit p remote : ℕ) (h : HistRef) (kept : ℕ) → head_rec limit p (remote_addr remote kept) h (told w old key ver v 0) ≡ head_rec limit p remote h (told w old key ver v kept)
  unfolding head_rec val_bytes remote_addr
  head_kept limit p remote h kept = refl
