-- No second answer fits the contract of the public call.
-- Assumes nothing.
use mathlib.Core.Path.{◌≡◌}
use mathlib.Core.Bool.{Bool}
use Prim.Native.Nat.{ℕ}
use denote.Triple.Clauses.{AtExit}
use Rattle.spans.specs.Only.{Decides, decides}
use Rattle.build_paging.specs.Cuts.{fits}
use Rattle.build_paging.specs.contracts.takes as takes_fn
use Rattle.build_paging.proofs.takes.Reads as takes

pub takes_decided : (budget n t s : ℕ) (x : AtExit takes_fn.ended tt) → Decides (λ (r : Bool). takes.Post tt (budget, (n, (t, (s, tt)))) r x) (λ (r : Bool). r)
takes_decided budget n t s x = decides (λ (r : Bool). r) (fits budget n t s)
