-- A history page reads back: it opens, and its records are the old versions that were written, slot by slot.
-- Assumes nothing.
use Prim.Native.Nat.{ℕ, ◌+◌, ◌*◌, ◌-◌, ◌^◌, ◌≤◌, ◌<◌}
use mathlib.Core.Path.{◌≡◌, refl, sym, ap, ◌∙◌, subst}
use mathlib.Core.List.{List, [], ◌∷◌, ◌++◌}
use native.Mathlib.Omega.{arith}
use borrow.Author.Tests.{le-leb}
use lib.ListN.{length, take, length-append}
use lib.Seq.{length-take-le}
use Rattle.spans.specs.Span.{part, Lies}
use Rattle.spans.proofs.Lying.{lies_front, lies_back}
use Rattle.numbers.specs.Number.{le}
use Rattle.numbers.proofs.Numbers.{length-le}
use Rattle.frames.specs.declared.Body.{Body}
use Rattle.frames.specs.Layout.{base_len}
use Rattle.values.specs.Keys.{ver_in, ver_bytes, key_at, key_parts}
use Rattle.values.specs.Vals.{no_hist}
use Rattle.values.proofs.Laws.{length-ver}
use Rattle.values.proofs.KeysBack.{SmallVer, ver_back}
use Rattle.values.proofs.ValsBack.{SmallHist}
use Rattle.records.specs.declared.Rec.{Rec}
use Rattle.records.specs.Records.{key_in}
use Rattle.build_sources.specs.Source.{Entry}
use Rattle.build_sources.specs.Marks.{Each}
use Rattle.build_image.specs.declared.Call.{Call}
use Rattle.build_image.specs.Sizes.{remote_len, val_len, remotes_len}
use Rattle.build_image.specs.Image.{val_bytes, remote_frame_of, remote_frames, old_rec, old_recs, old_slots}
use Rattle.build_image.proofs.Lengths.{length-remote_of, length-old, length-plain}
use Rattle.law_history.specs.Fit.{Fits, CallFits, Address}
use Rattle.law_history.specs.Rows.{Rows}
use Rattle.law_history.proofs.Values.{Resolves, val_back, RecBack, rec_back, rec-at}
use Rattle.law_history.proofs.Remotes.{remote-even, resolves}
use Rattle.std.proofs.Common.{Some}

-- a record says an old version
pub record SaysOld (s : List ℕ) (r : Rec) (e : Entry) : Type 0 where
  pub ver : ver_in s r.ver_at ≡ e.ver
  pub val : part s r.val_at r.val_len ≡ e.val

small-ver : (s : List ℕ) (e : Entry) → Fits s e → SmallVer e.ver
small-ver s e f = record { txid = f.wide.txid; cmd = f.wide.cmd }

no_hist_lem : SmallHist no_hist
no_hist_lem = record { page = omega arith; slot = omega arith; count = omega arith }

-- ---- one record

module _ (s : List ℕ) (b : Body) (p limit remote : ℕ) (e : Entry) (kind : b.kind ≡ 2) (bare : b.prefix_len ≡ 0) (ends : b.end ≤ length s) (fit : Fits s e) (res : Resolves s limit remote e)
    (lies : Lies s p (old_rec limit remote e)) (room : p + length (old_rec limit remote e) ≤ b.end) where
  lead : Lies s p (ver_bytes e.ver)
  unfolding old_rec
  lead = lies_front s p (ver_bytes e.ver) (val_bytes limit remote no_hist e) lies

  tail : Lies s (p + 12) (val_bytes limit remote no_hist e)
  unfolding old_rec
  tail = rw (length-ver e.ver) at (lies_back s p (ver_bytes e.ver) (val_bytes limit remote no_hist e) lies)

  long : length (old_rec limit remote e) ≡ 12 + length (val_bytes limit remote no_hist e)
  long = length-old limit remote e ∙ ap (λ (k : ℕ). 12 + k) (sym (length-plain limit remote e))

  key : key_in s b p ≡ Some (key_parts p (p + 12) 0)
  unfolding key_in key_at
  key =
      let x : length (take b.end s) ≡ b.end = length-take-le b.end s ends in
      rw (kind, bare, x, le-leb (p + 12) b.end (omega (arith, long))) refl

  pub old_back : RecBack s b p p (p + 12) 0 no_hist e (p + 12 + 0 + length (val_bytes limit remote no_hist e))
  old_back =
      let z : p + 12 + 0 ≡ p + 12 = omega arith in
      rec_back s b p p (p + 12) 0 no_hist e (p + 12 + 0 + length (val_bytes limit remote no_hist e)) (λ q. omega arith) key
      (val_back s b (p + 12 + 0) limit remote no_hist e (λ q. absurd (let y : ◌≡◌ {A = ℕ} 0 1 = cc in omega arith)) no_hist_lem fit.short.val res (rw z tail) (omega (arith, long)))

  pub old_says : SaysOld s old_back.rec e
  old_says = record { ver = rw old_back.ver-at (ver_back s p e.ver (small-ver s e fit) lead); val = old_back.val }

-- ---- the records in order

module _ (s : List ℕ) (m : Call) (b : Body) (w : CallFits m) (kind : b.kind ≡ 2) (bare : b.prefix_len ≡ 0) (ends : b.end ≤ length s) (short : b.end < b.at + 256 ^ 4) where
  pub rows-old : (i off remote : ℕ) (es : List Entry) → i + length es ≡ b.elems → b.first ≤ b.at + off → b.at + off + length (old_recs m.limit remote es) ≤ b.end
      → Each (Fits s) es → Address s remote → remote + remotes_len m.limit es ≤ length s
      → Lies s (b.at + base_len + 4 * i) (old_slots m.limit off es) → Lies s (b.at + off) (old_recs m.limit remote es) → Lies s remote (remote_frames m es) → Rows (SaysOld s) s b i (b.at + off) es
  unfolding Rows Each old_slots old_recs remote_frames remotes_len
  rows-old i off remote [] n lo hi f ad fr sl rl fl = tt
  rows-old i off remote (e ∷ es) n lo hi f ad fr sl rl fl =
      let limit = m.limit in
      let remote' = remote + remote_len limit (length e.val) e.kept in
      let off' = off + (12 + val_len limit e) in
      let here = old_rec limit remote e in
      let rest = old_recs limit remote' es in
      let len : length here ≡ 12 + val_len limit e = length-old limit remote e in
      let all : length (here ++ rest) ≡ length here + length rest = length-append here rest in
      let res = resolves s m remote e w f.0 ad (omega arith) (lies_front s remote (remote_frame_of m e) (remote_frames m es) fl) in
      let rb = lies_front s (b.at + off) here rest rl in
      let rm : b.at + off + length here ≤ b.end = omega arith in
      let back = old_back s b (b.at + off) limit remote e kind bare ends f.0 res rb rm in
      let q : b.at + off + 12 + 0 + length (val_bytes limit remote no_hist e) ≡ b.at + off' = omega (arith, length-plain limit remote e) in
      let fl' : Lies s remote' (remote_frames m es) = rw (length-remote_of m e) at (lies_back s remote (remote_frame_of m e) (remote_frames m es) fl) in
      let z : b.at + off + length here ≡ b.at + off' = omega arith in
      let rl' : Lies s (b.at + off') rest = rw z at (lies_back s (b.at + off) here rest rl) in
      let y : b.at + base_len + 4 * i + length (le 4 off) ≡ b.at + base_len + 4 * (i + 1) = omega (arith, length-le 4 off) in
      let sl' : Lies s (b.at + base_len + 4 * (i + 1)) (old_slots limit off' es) = rw y at (lies_back s (b.at + base_len + 4 * i) (le 4 off) (old_slots limit off' es) sl) in
      let ad' : Address s remote' = record { above = omega arith; even = omega (arith, remote-even limit (length e.val) e.kept); word = ad.word } in (
        back.rec,
        rec-at s b i off (omega arith) lo (omega arith) (omega arith) (lies_front s (b.at + base_len + 4 * i) (le 4 off) (old_slots limit off' es) sl) ∙ back.read,
        back.from,
        old_says s b (b.at + off) limit remote e kind bare ends f.0 res rb rm,
        subst (λ (k : ℕ). Rows (SaysOld s) s b (i + 1) k es) (sym (back.behind ∙ q)) (rows-old (i + 1) off' remote' es (omega arith) (omega arith) (omega arith) f.1 ad' (omega arith) sl' rl' fl'),
      )
