-- How large a tally can be: k bounds the count of its entries.
-- Assumes nothing.
use Rattle.std.specs.Prelude.{ℕ, ◌*◌, ◌≤◌}
use Rattle.build_sweep.specs.declared.Tally.{Tally}

pub record Bounded (t : Tally) (k : ℕ) : Type 0 where
  pub heads : t.heads ≤ k
  pub olds : t.olds ≤ k
  pub sums : t.sums ≤ 69800 * k
  pub counted : t.counted ≤ k
  pub remotes : t.remotes ≤ k
  pub aged : t.aged ≤ k
  pub remote : t.remote ≤ 65600 * k
