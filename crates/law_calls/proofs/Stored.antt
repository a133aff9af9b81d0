-- An image stored at the next free address: the page says what the build was told, in every arena that keeps the bytes below the new
-- mark; and every page that said something below the old mark still says it.
-- Assumes nothing.
use Prim.Native.Nat.{ℕ, ◌+◌, ◌^◌, ◌≤◌, ◌<◌}
use mathlib.Core.Path.{◌≡◌, ap, ◌∙◌}
use mathlib.Core.List.{List, [], ◌∷◌}
use native.Mathlib.Omega.{arith}
use lib.ListN.{length, take}
use lib.Seq.{take-take, length-take-le}
use Rattle.spans.specs.Span.{put, Lies}
use Rattle.spans.proofs.Put.{length-put, take_put}
use Rattle.spans.proofs.Lying.{put_lies}
use Rattle.frames.specs.declared.Addr.{Addr}
use Rattle.frames.specs.Layout.{addr}
use Rattle.frames.proofs.Frames.{remote-inside}
use Rattle.pages.specs.Meaning.{Page, says, meaning}
use Rattle.build_sources.specs.Source.{Entry, olds}
use Rattle.build_sources.specs.Marks.{Each, Held, Keeps}
use Rattle.build_image.specs.declared.Call.{Call}
use Rattle.build_image.specs.Image.{Borders, cuts_of, history_end, leaf_image, index_image}
use Rattle.law_stays.proofs.Grown.{Grown, stay_part}
use Rattle.law_stays.proofs.FramesStay.{remote_stays}
use Rattle.law_stays.proofs.PagesStay.{meaning_stays, below_mark}
use Rattle.law_history.specs.Fit.{Fits}
use Rattle.law_history.proofs.Values.{lies_take}
use Rattle.law_leaf.specs.Grouped.{leaf_page, LeafFit}
use Rattle.law_leaf.proofs.Built.{leaf_says}
use Rattle.law_index.specs.Children.{index_page, IndexFit}
use Rattle.law_index.proofs.Built.{index_says}

-- ---- a remote that is kept stays one

held_grown : (t s : List ℕ) → Grown t s → (a : ℕ) (v : List ℕ) → Held t a v → Held s a v
held_grown t s g a v h =
    record {
      place = h.place;
      read = remote_stays t s g (addr a) (length v) h.place h.read;
      bytes = stay_part t s g h.place (length v) (remote-inside t (addr a) (length v) h.place h.read) ∙ h.bytes;
    }

fits_grown : (t s : List ℕ) → Grown t s → (e : Entry) → Fits t e → Fits s e
unfolding Keeps
fits_grown t s g e f = record { short = f.short; wide = f.wide; keeps = λ k. held_grown t s g e.kept e.val (f.keeps k) }

each_grown : (t s : List ℕ) → Grown t s → (es : List Entry) → Each (Fits t) es → Each (Fits s) es
unfolding Each
each_grown t s g [] h = tt
each_grown t s g (e ∷ es) h = (fits_grown t s g e h.0, each_grown t s g es h.1)

-- ---- one store at the mark

-- the arena below the new mark
abbrev pub stored : List ℕ → ℕ → List ℕ → List ℕ
stored a at x = take (at + length x) (put a at x)

module _ (a : List ℕ) (at : ℕ) (x : List ℕ) (room : at + length x ≤ length a) where
  abbrev end : ℕ
  end = at + length x

  abbrev now : List ℕ
  now = stored a at x

  now_long : length now ≡ end
  now_long = length-take-le end (put a at x) (omega (arith, length-put a at x))

  pub now_lies : Lies now at x
  now_lies = lies_take (put a at x) at end x (omega arith) (put_lies a at x room)

  pub now_grown : Grown (take at a) now
  now_grown =
      let l : length (take at a) ≡ at = length-take-le at a (omega arith) in
      record {
        long = omega (arith, now_long);
        same = ap (λ (n : ℕ). take n now) l ∙ take-take at end (put a at x) (omega arith) ∙ take_put at a at x (omega arith);
      }

  -- what said something below the old mark says it below the new one
  pub others_stay : (p : Addr) (q : Page) → meaning (take at a) p ≡ says q → meaning now p ≡ says q
  others_stay p q m = meaning_stays (take at a) now now_grown p q m

  -- and from then on in every arena that keeps those bytes
  module _ (s : List ℕ) (long : end ≤ length s) (same : take end s ≡ now) where
    pub from-then-on : (p : Addr) (q : Page) → meaning now p ≡ says q → meaning s p ≡ says q
    from-then-on p q m = below_mark end (put a at x) s p q long same m

-- ---- a leaf build's store

module _ (a : List ℕ) (m : Call) (b : Borders) (at : ℕ) (es : List Entry) (fit : LeafFit (take at a) m b at es) (word : length a < 256 ^ 8) (room : at + length (leaf_image m b at es) ≤ length a) where
  fit_now : LeafFit (stored a at (leaf_image m b at es)) m b at es
  fit_now =
      let x = leaf_image m b at es in
      record {
        address = record { above = fit.address.above; even = fit.address.even; word = omega (arith, now_long a at x room) };
        call = fit.call;
        bounds = fit.bounds;
        each = each_grown (take at a) (stored a at x) (now_grown a at x room) es fit.each;
        marks = fit.marks;
        rises = fit.rises;
        begins = fit.begins;
        encloses = fit.encloses;
        few = fit.few;
        small = fit.small;
      }

  pub leaf_stored : meaning (stored a at (leaf_image m b at es)) (addr (history_end m.limit at (cuts_of m es) (olds es))) ≡ says (leaf_page b es)
  leaf_stored = leaf_says (stored a at (leaf_image m b at es)) m b at es fit_now (now_lies a at (leaf_image m b at es) room)

-- ---- an index build's store

module _ (a : List ℕ) (m : Call) (b : Borders) (at : ℕ) (es : List Entry) (fit : IndexFit a m b at es) (room : at + length (index_image m b es) ≤ length a) where
  index_now : IndexFit (stored a at (index_image m b es)) m b at es
  index_now =
      let x = index_image m b es in
      record {
        address = record { above = fit.address.above; even = fit.address.even; word = omega (arith, now_long a at x room, fit.address.word) };
        numbers = fit.numbers;
        bounds = fit.bounds;
        each = fit.each;
        rises = fit.rises;
        begins = fit.begins;
        encloses = fit.encloses;
        few = fit.few;
        small = fit.small;
      }

  pub index_stored : meaning (stored a at (index_image m b es)) (addr at) ≡ says (index_page b es)
  index_stored = index_says (stored a at (index_image m b es)) m b at es index_now (now_lies a at (index_image m b es) room)
