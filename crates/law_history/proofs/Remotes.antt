-- Remote frames that stand one behind the other: each value that is a remote resolves.
-- Assumes nothing.
use Prim.Native.Nat.{ℕ, ◌+◌, ◌%◌, ◌^◌, ◌≤◌, ◌<◌}
use mathlib.Core.Path.{◌≡◌, refl}
use mathlib.Core.Bool.{Bool, true, false, cond}
use mathlib.Core.List.{List, [], ◌∷◌}
use native.Mathlib.Omega.{arith}
use borrow.Author.Tests.{le-ltb, eqb-false}
use lib.ListN.{length}
use lib.Dec.{ltb, eqb}
use Rattle.spans.specs.Span.{Lies}
use Rattle.frames.specs.Layout.{box_len, frame_len}
use Rattle.build_sources.specs.Source.{Entry}
use Rattle.build_sources.specs.Marks.{Held, Keeps}
use Rattle.build_image.specs.declared.Call.{Call}
use Rattle.build_image.specs.Sizes.{remote_len, remotes_len}
use Rattle.build_image.specs.Image.{remote_addr, remote_frame, remote_frame_of}
use Rattle.law_history.specs.Fit.{Fits, CallFits, Address}
use Rattle.law_history.proofs.Opening.{Framing, remote_back, remote-bytes}
use Rattle.law_history.proofs.Values.{Resolves}

-- ---- frames take a multiple of 8

even_by : (b c : Bool) (n : ℕ) → cond b 0 (cond c (frame_len (8 + n)) 0) % 8 ≡ 0
even_by true c n = refl
even_by false true n = omega arith
even_by false false n = refl

pub remote-even : (limit n kept : ℕ) → remote_len limit n kept % 8 ≡ 0
unfolding remote_len
remote-even limit n kept = even_by (ltb n limit) (eqb kept 0) n

pub remotes-even : (limit : ℕ) (es : List Entry) → remotes_len limit es % 8 ≡ 0
unfolding remotes_len
remotes-even limit [] = refl
remotes-even limit (e ∷ es) = omega (arith, remote-even limit (length e.val) e.kept, remotes-even limit es)

-- ---- one entry's remote

module _ (s : List ℕ) (m : Call) (remote : ℕ) (e : Entry) (w : CallFits m) (fit : Fits s e) (ad : Address s remote) (room : remote + remote_len m.limit (length e.val) e.kept ≤ length s) (lies : Lies s remote (remote_frame_of m e)) where
  word_by : (c : Bool) → cond c remote e.kept < 256 ^ 8
  word_by true = omega (arith, ad.word)
  word_by false = fit.wide.kept

  held_by : (c : Bool) → eqb e.kept 0 ≡ c → m.limit ≤ length e.val → remote + cond c (frame_len (8 + length e.val)) 0 ≤ length s → Lies s remote (cond c (remote_frame m e.val) []) → Held s (cond c remote e.kept) e.val
  unfolding Keeps
  held_by true q h r l =
      let f : Framing s remote (8 + length e.val) = record { above = ad.above; even = ad.even; room = r; word = ad.word } in
      record { place = remote + box_len + 8; read = remote_back s m remote e.val w.numbers f fit.short.val l; bytes = remote-bytes s m remote e.val w.numbers f fit.short.val l }
  held_by false q h r l = fit.keeps (eqb-false e.kept 0 q)

  pub resolves : Resolves s m.limit remote e
  unfolding remote_addr remote_len remote_frame_of
  resolves =
      record {
        word = word_by (eqb e.kept 0);
        held =
            λ h.
            let t : ltb (length e.val) m.limit ≡ false = le-ltb (length e.val) m.limit h in
            held_by (eqb e.kept 0) refl h (rw t at room) (rw t at lies);
      }
