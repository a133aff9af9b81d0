-- What a page's meaning says of the calls: the check, and the boundaries that are lent on.
-- Assumes nothing.
use Prim.Native.Nat.{ℕ}
use mathlib.Core.Path.{◌≡◌, refl, ap, ◌∙◌}
use mathlib.Core.List.{List}
use native.Mathlib.Omega.{arith}
use borrow.Author.Tests.{ne_eqb}
use Rattle.records.specs.Parts.{prefix_in}
use Rattle.records.proofs.Inside.{lo-part, hi-part, prefix-part}
use Rattle.frames.specs.declared.Addr.{Addr}
use Rattle.frames.proofs.Frames.{open_inside}
use Rattle.pages.specs.Meaning.{Page, Said, nothing, says, prefix_of, page_says, meaning, check_of}
use Rattle.pages.specs.Boundaries.{bounds_of, bounds_at, lo_at, hi_at, prefix_at}
use Rattle.pages.proofs.Given.{sound_given}
use Rattle.std.proofs.Common.{Ok}

-- the check says sound exactly where the page has a meaning
pub checked_says : (m : Said) → check_of m ≡ Ok tt → (p : Page) × (m ≡ says p)
checked_says nothing e = absurd (let z : ◌≡◌ {A = ℕ} 0 1 = cc in omega arith)
checked_says (says p) e = (p, refl)

pub says_checked : (m : Said) (p : Page) → m ≡ says p → check_of m ≡ Ok tt
says_checked m p e = ap check_of e

-- the boundaries and the prefix that are lent on are those of the meaning
module _ (s : List ℕ) (a : Addr) (p : Page) (m : meaning s a ≡ says p) where
  pub lo_says : lo_at s a ≡ p.lo
  unfolding lo_at bounds_at bounds_of page_says
  lo_says =
      let g = sound_given s a p m in
      let i = (open_inside s a g.body g.opened).0 in
      rw (g.opened, ne_eqb g.body.kind 2 g.kind) (lo-part s g.body i ∙ ap (λ (q : Page). q.lo) g.said)

  pub hi_says : hi_at s a ≡ p.hi
  unfolding hi_at bounds_at bounds_of page_says
  hi_says =
      let g = sound_given s a p m in
      let i = (open_inside s a g.body g.opened).0 in
      rw (g.opened, ne_eqb g.body.kind 2 g.kind) (hi-part s g.body i ∙ ap (λ (q : Page). q.hi) g.said)

  pub prefix_says : prefix_at s a ≡ p.prefix
  unfolding prefix_at bounds_at bounds_of page_says prefix_of prefix_in
  prefix_says =
      let g = sound_given s a p m in
      let i = (open_inside s a g.body g.opened).0 in
      rw (g.opened, ne_eqb g.body.kind 2 g.kind) (prefix-part s g.body i ∙ ap (λ (q : Page). q.prefix) g.said)
