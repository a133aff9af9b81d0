-- One entry's part of the head slots: a head has one, an old version none.
-- Assumes nothing.
use Rattle.std.specs.Prelude.{ℕ, ◌+◌, ◌≤◌, List, [], ◌∷◌, Bool, cond, length}
use Rattle.numbers.specs.Number.{le}
use Rattle.values.specs.Vals.{size_of}
use Rattle.build_sources.specs.Source.{Entry}
use Rattle.build_image.specs.Sizes.{key_len, old_run}
use Rattle.build_image.specs.Image.{any}

unfoldable pub slot_if : Bool → ℕ → List ℕ
slot_if old off = cond old [] (le 4 off)

-- how far the next head's record stands behind: nothing for an old version
unfoldable pub step_len : ℕ → ℕ → Entry → List Entry → ℕ
step_len limit p e es = cond e.old 0 (key_len p (length e.key) + size_of (any (old_run es)) limit (length e.val))

-- all of them
unfoldable pub steps : ℕ → ℕ → List Entry → ℕ
unfolding step_len
steps limit p [] = 0
steps limit p (e ∷ es) = step_len limit p e es + steps limit p es

-- no key is shorter than the page's prefix
abbrev pub Long : ℕ → List Entry → Type 0
Long p [] = Unit {0}
Long p (e ∷ es) = (p ≤ length e.key) × Long p es
