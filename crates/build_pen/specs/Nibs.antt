-- What the pen does to an arena for one entry: three stores, and a hint.
-- Assumes nothing.
use Rattle.std.specs.Prelude.{ℕ, ◌+◌, ◌-◌, ◌≤◌, List, [], ◌∷◌, cond, length, ltb}
use Rattle.spans.specs.Span.{put}
use Rattle.numbers.specs.Number.{le}
use Rattle.build_sources.specs.Source.{Entry}
use Rattle.build_image.specs.declared.Call.{Call}
use Rattle.build_image.specs.Image.{remote_addr, remote_frame_of, remote_frames, old_slots, old_recs}
use Rattle.build_pen.specs.declared.Nib.{Nib}
use Rattle.build_pen.specs.Stretches.{Stretch, stretch}

-- an entry's slot, record (rec says which) and remote frame
abbrev pub drawn : Call → Nib → ℕ → (Entry → List ℕ) → Entry → List ℕ → List ℕ
drawn m q base rec e a = put (put (put a q.slot (le 4 (q.rec - base))) q.rec (rec e)) q.remote (remote_frame_of m e)

abbrev pub nib_past : Call → Nib → (Entry → List ℕ) → Entry → Nib
nib_past m q rec e = record { slot = q.slot + 4; rec = q.rec + length (rec e); remote = q.remote + length (remote_frame_of m e) }

-- there is room for the three in an arena of this length
pub record Asks (long : ℕ) (q : Nib) (base : ℕ) (m : Call) (rec : Entry → List ℕ) (e : Entry) : Type 0 where
  pub slot-room : q.slot + 4 ≤ long
  pub rec-room : q.rec + length (rec e) ≤ long
  pub remote-room : q.remote + length (remote_frame_of m e) ≤ long
  pub above : base ≤ q.rec
  pub small : q.rec - base ≤ 4294967295

-- they stand above a mark
pub record Above (low : ℕ) (q : Nib) : Type 0 where
  pub slot : low ≤ q.slot
  pub rec : low ≤ q.rec
  pub remote : low ≤ q.remote

-- the hint of a value of n bytes: its remote frame's address, if it takes one
unfoldable pub hint_of : ℕ → ℕ → ℕ → List ℕ
unfolding le
hint_of limit remote n = cond (ltb n limit) [] (le 8 remote)

-- an entry's: its remote may be kept
abbrev pub hint_for : ℕ → ℕ → Entry → List ℕ
hint_for limit remote e = hint_of limit (remote_addr remote e.kept) (length e.val)

-- what is left of a page's old versions: slots, records, remote frames; then the tail
abbrev pub olds_left : Call → Nib → ℕ → List Entry → List Stretch → List Stretch
olds_left m q base es tail =
    stretch q.slot (old_slots m.limit (q.rec - base) es) ∷ stretch q.rec (old_recs m.limit q.remote es) ∷ stretch q.remote (remote_frames m es) ∷ tail
