-- An entry's three stores, one behind the other, by themselves and among the stretches of a drawing.
-- Assumes nothing.
use mathlib.Core.Path.{◌≡◌, refl, ap, ◌∙◌}
use mathlib.Core.List.{List, ◌∷◌, ◌++◌}
use Prim.Native.Nat.{ℕ, ◌+◌, ◌-◌, ◌≤◌}
use native.Mathlib.Omega.{arith}
use lib.ListN.{length}
use Rattle.spans.specs.Span.{put}
use Rattle.spans.proofs.Put.{length-put}
use Rattle.numbers.specs.Number.{le}
use Rattle.numbers.proofs.Numbers.{length-le}
use Rattle.build_sources.specs.Source.{Entry}
use Rattle.build_image.specs.declared.Call.{Call}
use Rattle.build_image.specs.Image.{remote_frame_of}
use Rattle.build_pen.specs.declared.Nib.{Nib}
use Rattle.build_pen.specs.Stretches.{Stretch, stretch, Drawing}
use Rattle.build_pen.specs.Nibs.{Asks, Above, drawn, nib_past}
use Rattle.build_pen.proofs.Drawn.{rising_le, rising-before}
use Rattle.build_pen.proofs.Cutting.{rising-after, three_room, drew_three}

module _ (a : List ℕ) (q : Nib) (base : ℕ) (m : Call) (rec : Entry → List ℕ) (e : Entry) (h : Asks (length a) q base m rec e)
    (a₁ : List ℕ) (e₁ : a₁ ≡ put a q.slot (le 4 (q.rec - base))) where
  long₁ : length a₁ ≡ length a
  long₁ = ap length e₁ ∙ length-put a q.slot (le 4 (q.rec - base))

  pub rec_asks : q.rec + length (rec e) ≤ length a₁
  rec_asks = omega (arith, long₁, h.rec-room)

  module _ (a₂ : List ℕ) (e₂ : a₂ ≡ put a₁ q.rec (rec e)) where
    pub remote_asks : q.remote + length (remote_frame_of m e) ≤ length a₂
    remote_asks = omega (arith, ap length e₂, length-put a₁ q.rec (rec e), long₁, h.remote-room)

    pub nib_is : (n g : ℕ) → n ≡ length (rec e) → g ≡ q.remote + length (remote_frame_of m e) → record { slot = q.slot + 4; rec = q.rec + n; remote = g } ≡ nib_past m q rec e
    nib_is n g en eg = rw (en, eg) refl

    pub all-drawn : (a₃ : List ℕ) → a₃ ≡ put a₂ q.remote (remote_frame_of m e) → a₃ ≡ drawn m q base rec e a
    all-drawn a₃ e₃ = e₃ ∙ ap (λ (b : List ℕ). put b q.remote (remote_frame_of m e)) (e₂ ∙ ap (λ (b : List ℕ). put b q.rec (rec e)) e₁)

module _ (a₀ : List ℕ) (low : ℕ) (whole a : List ℕ) (pre mid tail : List Stretch) (end : ℕ) (q : Nib) (base : ℕ) (m : Call) (rec : Entry → List ℕ) (e : Entry) (ys yr yf : List ℕ)
    (h : Drawing a₀ low whole a (pre ++ stretch q.slot (le 4 (q.rec - base) ++ ys) ∷ stretch q.rec (rec e ++ yr) ∷ (mid ++ stretch q.remote (remote_frame_of m e ++ yf) ∷ tail)) end) where
  pub nib_asks : base ≤ q.rec → q.rec - base ≤ 4294967295 → Asks (length a) q base m rec e
  nib_asks above small =
      let r = three_room a₀ low whole a pre q.slot _ (le 4 (q.rec - base)) ys q.rec _ (rec e) yr mid q.remote _ (remote_frame_of m e) yf tail end h refl refl refl in
      record { slot-room = omega (arith, r.0, length-le 4 (q.rec - base)); rec-room = r.1.0; remote-room = r.1.1; above = above; small = small }

  -- what is stored lies above the mark
  pub nib_above : Above low q
  nib_above =
      let x : low ≤ q.slot = rising_le low pre q.slot (rising-before low pre (stretch q.slot (le 4 (q.rec - base) ++ ys)) _ end h.order) in
      let y = rising-after low pre (stretch q.slot (le 4 (q.rec - base) ++ ys)) _ end h.order in
      let z = rising_le (q.rec + length (rec e ++ yr)) mid q.remote (rising-before (q.rec + length (rec e ++ yr)) mid (stretch q.remote (remote_frame_of m e ++ yf)) tail end y.1) in
      record { slot = x; rec = omega (arith, x, y.0); remote = omega (arith, x, y.0, z) }

  pub nib_turn : (a' : List ℕ) → a' ≡ drawn m q base rec e a
      → Drawing a₀ low whole a' (pre ++ stretch (q.slot + 4) ys ∷ stretch (q.rec + length (rec e)) yr ∷ (mid ++ stretch (q.remote + length (remote_frame_of m e)) yf ∷ tail)) end
  nib_turn a' ea =
      drew_three a₀ low whole a pre q.slot _ (le 4 (q.rec - base)) ys q.rec _ (rec e) yr mid q.remote _ (remote_frame_of m e) yf tail end h refl refl refl a' _ _ _ ea
      (omega (arith, length-le 4 (q.rec - base))) refl refl
