-- A build by any table of rows that answered a page: all rows held, the arena afterwards is one store of the image, and what the image says
-- there it says in every arena that keeps the bytes below the new next free address.
-- Assumes nothing.
use Prim.Native.Nat.{ℕ, ◌+◌, ◌≤◌}
use mathlib.Core.Path.{◌≡◌, refl, ap, ◌∙◌, subst}
use mathlib.Core.List.{List}
use native.Mathlib.Omega.{arith}
use lib.ListN.{length, take}
use Rattle.spans.specs.Span.{put}
use Rattle.spans.proofs.Put.{length-put}
use Rattle.frames.specs.declared.Addr.{Addr}
use Rattle.frames.specs.declared.Refusal.{Refusal}
use Rattle.frames.specs.Layout.{addr}
use Rattle.pages.specs.Meaning.{Page, says, meaning}
use Rattle.build_image.specs.Table.{Row, judged}
use Rattle.build_image.proofs.Tables.{All, all_go, passes}
use Rattle.law_calls.proofs.Stored.{stored, others_stay, from-then-on}
use Rattle.std.proofs.Common.{Result, Ok, Err}

module _ (rows : List Row) (at to : ℕ) (p : Addr) (end : ℕ) (built : judged {X = Result (Addr × ℕ) Refusal} rows Err (Ok (addr at, to)) ≡ Ok (p, end)) where
  apart : (r : Refusal) → ◌≡◌ {A = Result (Addr × ℕ) Refusal} (Err r) (Ok (p, end)) → ⊥
  apart r e = let z : ◌≡◌ {A = ℕ} 0 1 = cc in omega arith

  passed : (◌≡◌ {A = Result (Addr × ℕ) Refusal} (Ok (addr at, to)) (Ok (p, end))) × All rows
  passed = passes Err (Ok (addr at, to)) rows (Ok (p, end)) apart built

  pub all_hold : All rows
  all_hold = passed.1

  page-is : addr at ≡ p
  page-is = let e = passed.0 in grind arith

  pub end_is : to ≡ end
  end_is = let e = passed.0 in grind arith

module _ (rows : List Row) (a : List ℕ) (next at : ℕ) (image : List ℕ) (p : Addr) (end : ℕ) (built : judged {X = Result (Addr × ℕ) Refusal} rows Err (Ok (addr at, next + length image)) ≡ Ok (p, end))
    (room : next + length image ≤ length a) (after : List ℕ) (is : after ≡ judged rows (λ r. a) (put a next image)) where
  ends : next + length image ≡ end
  ends = end_is rows at (next + length image) p end built

  after_is : after ≡ put a next image
  after_is = is ∙ all_go rows (λ r. a) (put a next image) (all_hold rows at (next + length image) p end built)

  below : take end after ≡ stored a next image
  below = rw (after_is, ← ends) refl

  -- the arena afterwards is one of those that follow
  pub after-long : end ≤ length after
  after-long = rw after_is (omega (arith, length-put a next image, room, ends))

  module _ (s : List ℕ) (long : end ≤ length s) (same : take end s ≡ take end after) where
    long' : next + length image ≤ length s
    long' = omega (arith, ends)

    same' : take (next + length image) s ≡ stored a next image
    same' = ap (λ (n : ℕ). take n s) ends ∙ same ∙ below

    -- what was stored says so from then on
    pub answered_says : (r : Page) → meaning (stored a next image) (addr at) ≡ says r → meaning s p ≡ says r
    answered_says r h = subst (λ (q : Addr). meaning s q ≡ says r) (page-is rows at (next + length image) p end built) (from-then-on a next image room s long' same' (addr at) r h)

    -- every page that said something below the old mark still says it
    pub answered_others : (q : Addr) (r : Page) → meaning (take next a) q ≡ says r → meaning s q ≡ says r
    answered_others q r h = from-then-on a next image room s long' same' q r (others_stay a next image room q r h)
