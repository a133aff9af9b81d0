-- What is stored of a list's leaf beside its entries: the hints' counts, the headers, the boundaries and the rounding, one behind the other.
-- Assumes nothing.
use mathlib.Core.Path.{◌≡◌, refl, ap, ◌∙◌}
use mathlib.Core.List.{List}
use Prim.Native.Nat.{ℕ, ◌+◌, ◌-◌, ◌*◌, ◌≤◌}
use native.Mathlib.Omega.{arith}
use borrow.Author.Tests.{eq-eqb, ne_eqb}
use lib.ListN.{length, take, replicate}
use Rattle.spans.specs.Span.{put}
use Rattle.spans.proofs.Put.{length-put, take_put}
use Rattle.numbers.specs.Number.{le}
use Rattle.frames.specs.Layout.{box_len, slots_at}
use Rattle.frames.specs.Limits.{max_entries, max_size}
use Rattle.build_image.specs.declared.Call.{Call}
use Rattle.build_bounds.specs.declared.Boundaries.{Boundaries}
use Rattle.build_bounds.specs.Boundaries.{Within, BothWithin, boundary_bytes}
use Rattle.build_totals.specs.declared.Totals.{Totals}
use Rattle.build_leaf.specs.Leaf.{Small, leaf_head}
use Rattle.build_leaf.specs.Listed.{hint_places, hints_set, fixed_on, Fixes}

-- ---- the hints' counts

module _ (room at pages remotes aged : ℕ) (a : List ℕ) where
  pub counts_none : room ≡ 0 → (record { pages = at; olds = at; heads = at } ≡ hint_places room at pages aged) × (a ≡ hints_set room at pages remotes a)
  unfolding hints_set
  counts_none z = rw (eq-eqb room 0 z) (refl, refl)

  pub counts_some : (room ≡ 0 → ⊥) → (a₁ a₂ a₃ : List ℕ) → a₁ ≡ put a at (le 4 pages) → a₂ ≡ put a₁ (at + 4 + 8 * pages) (le 4 remotes)
      → a₃ ≡ put a₂ (at + 4 + 8 * pages + 4 + 8 * remotes) (replicate (at + room - (at + 4 + 8 * pages + 4 + 8 * remotes)) 0)
      → (record { pages = at + 4; olds = at + 4 + 8 * pages + 4; heads = at + 4 + 8 * pages + 4 + 8 * aged } ≡ hint_places room at pages aged) × (a₃ ≡ hints_set room at pages remotes a)
  unfolding hints_set
  counts_some z a₁ a₂ a₃ e₁ e₂ e₃ = rw (ne_eqb room 0 z) (refl, e₃ ∙ rw (e₂, e₁) refl)

-- ---- the rest

module _ (a : List ℕ) (footing : ℕ) (m : Call) (t : Totals) (e : Boundaries) (remote : ℕ) (lo hi : List ℕ) (f : Fixes (length a) footing t e remote) (w : BothWithin lo hi (take footing a) e) where
  abbrev leaf : ℕ
  leaf = t.leaf

  abbrev x : ℕ
  x = leaf + slots_at + 4 * t.heads

  abbrev y : ℕ
  y = x + e.lo.len

  abbrev q : ℕ
  q = leaf + (box_len + t.size)

  pub head_asks : (leaf + slots_at ≤ length a) × (Small t e × (t.heads ≤ max_entries))
  head_asks = (omega (arith, f.first, f.inside, f.end), (f.small, f.count))

  pub fixed_fits : (y + e.hi.len ≤ length a) × ((q + t.room ≤ remote) × (remote ≤ length a))
  fixed_fits = (omega (arith, f.first, f.inside, f.end), (omega (arith, f.inside), f.end))

  module _ (a₁ : List ℕ) (e₁ : a₁ ≡ put a leaf (leaf_head m t e)) where
    same₁ : take footing a₁ ≡ take footing a
    same₁ = ap (take footing) e₁ ∙ take_put footing a leaf (leaf_head m t e) f.over

    long₁ : length a₁ ≡ length a
    long₁ = ap length e₁ ∙ length-put a leaf (leaf_head m t e)

    pub lo_asks : (footing ≤ x) × ((x + e.lo.len ≤ length a₁) × Within lo (take footing a₁) e.lo)
    lo_asks = (omega (arith, f.over), (omega (arith, long₁, fixed_fits.0), rw same₁ w.footing))

    module _ (a₂ : List ℕ) (e₂ : a₂ ≡ put a₁ x (boundary_bytes lo (take footing a₁) e.lo)) where
      f₂ : a₂ ≡ put a₁ x (boundary_bytes lo (take footing a) e.lo)
      f₂ = rw same₁ at e₂

      same₂ : take footing a₂ ≡ take footing a
      same₂ = ap (take footing) f₂ ∙ take_put footing a₁ x (boundary_bytes lo (take footing a) e.lo) (omega (arith, f.over)) ∙ same₁

      long₂ : length a₂ ≡ length a
      long₂ = ap length f₂ ∙ length-put a₁ x (boundary_bytes lo (take footing a) e.lo) ∙ long₁

      pub hi_asks : (footing ≤ y) × ((y + e.hi.len ≤ length a₂) × Within hi (take footing a₂) e.hi)
      hi_asks = (omega (arith, f.over), (omega (arith, long₂, fixed_fits.0), rw same₂ w.high))

      module _ (a₃ : List ℕ) (e₃ : a₃ ≡ put a₂ y (boundary_bytes hi (take footing a₂) e.hi)) where
        f₃ : a₃ ≡ put a₂ y (boundary_bytes hi (take footing a) e.hi)
        f₃ = rw same₂ at e₃

        long₃ : length a₃ ≡ length a
        long₃ = ap length f₃ ∙ length-put a₂ y (boundary_bytes hi (take footing a) e.hi) ∙ long₂

        pub pad_asks : q + t.room + (remote - (q + t.room)) ≤ length a₃
        pad_asks = omega (arith, long₃, f.inside, f.end)

        module _ (a₄ : List ℕ) (e₄ : a₄ ≡ put a₃ (q + t.room) (replicate (remote - (q + t.room)) 0)) where
          pub counts_asks : (q + t.room ≤ length a₄) × ((t.room ≤ max_size) × (((t.room ≡ 0 → ⊥) → 8 + 8 * t.pages + 8 * t.remotes ≤ t.room) × (t.aged ≤ t.remotes)))
          counts_asks = (omega (arith, ap length e₄, length-put a₃ (q + t.room) (replicate (remote - (q + t.room)) 0), long₃, f.inside, f.end), (omega (arith, f.small.size), (f.hints, f.few)))

          pub fixed_done : (a₅ : List ℕ) → a₅ ≡ hints_set t.room q t.pages t.remotes a₄
              → a₅ ≡ fixed_on m t e remote (boundary_bytes lo (take footing a) e.lo) (boundary_bytes hi (take footing a) e.hi) a
          fixed_done a₅ e₅ =
              e₅
              ∙ ap (hints_set t.room q t.pages t.remotes)
              (e₄ ∙ ap (λ (b : List ℕ). put b (q + t.room) (replicate (remote - (q + t.room)) 0))
              (f₃ ∙ ap (λ (b : List ℕ). put b y (boundary_bytes hi (take footing a) e.hi)) (f₂ ∙ ap (λ (b : List ℕ). put b x (boundary_bytes lo (take footing a) e.lo)) e₁)))
