-- What two numbers say of two strings.
-- Assumes nothing.
use Rattle.std.specs.Prelude.{ℕ, ◌≡◌, List, true}
use Rattle.std.specs.declared.cmp.Ordering.{Ordering}
use Rattle.order.specs.Order.{by_number, cmp_bytes}
use Rattle.order_pair.specs.declared.Pair.{Pair}

-- the strings stand as the numbers where these differ, and are the same where these are and say all
pub record StandsAs (a b : List ℕ) (r : Pair) : Type 0 where
  pub differ : (r.x ≡ r.y → ⊥) → cmp_bytes a b ≡ by_number r.x r.y Ordering.Equal
  pub same : r.x ≡ r.y → r.whole ≡ true → cmp_bytes a b ≡ Ordering.Equal
