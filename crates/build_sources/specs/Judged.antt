-- What a build judges of a whole list of entries: 6 OUT OF ORDER, 7 WRONG PREFIX, 10 OUTSIDE.
-- Assumes nothing.
use Rattle.std.specs.Prelude.{ℕ, List, [], ◌∷◌, map, Bool, true, false, cond, length, Option, Some, None}
use Rattle.order.specs.declared.Ver.{Ver}
use Rattle.order.specs.Order.{cmp_bytes, starts_with}
use Rattle.order.specs.Bounds.{bounded}
use Rattle.order.specs.Version.{newer_than}
use Rattle.build_sources.specs.Source.{Entry}
use Rattle.std.specs.declared.cmp.Ordering.{Ordering}

abbrev pub above_by : Ordering → Ver → Ver → Bool
above_by Ordering.Less v w = true
above_by Ordering.Equal v w = newer_than v w
above_by Ordering.Greater v w = false

-- "Keys compare by bytes, a proper prefix first; at equal keys the newer version comes first": b is above a
unfoldable pub above : Entry → Entry → Bool
above a b = above_by (cmp_bytes a.key b.key) a.ver b.ver

unfoldable pub rising_from : Entry → List Entry → Bool
unfolding above
rising_from a [] = true
rising_from a (b ∷ es) = cond (above a b) (rising_from b es) false

-- "an entry not above the one before" is OUT OF ORDER
unfoldable pub rising : List Entry → Bool
unfolding rising_from
rising [] = true
rising (a ∷ es) = rising_from a es

-- "a key .. does not begin with the page's prefix" is WRONG PREFIX
unfoldable pub prefixed : List ℕ → List Entry → Bool
prefixed p [] = true
prefixed p (e ∷ es) = cond (starts_with p e.key) (prefixed p es) false

-- "a key below lo, or not below a nonempty hi, is refused, a lo not below a nonempty hi too" is OUTSIDE
abbrev pub enclosed : List ℕ → List ℕ → List Entry → Bool
enclosed lo hi es = bounded lo hi (map (λ e. e.key) es)

-- where they rise, how many there are and whether the boundaries enclose them
unfoldable pub risen_of : List ℕ → List ℕ → List Entry → Option (ℕ × Bool)
unfolding rising
risen_of lo hi es = cond (rising es) (Some (length es, enclosed lo hi es)) None
