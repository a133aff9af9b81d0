-- No second answer fits the contract of the call. `Post` is the contract as the check reads it, so a contract that is weakened fails here.
-- Assumes nothing.
use mathlib.Core.List.{List}
use Prim.Native.Nat.{ℕ}
use contract.Lifetimes.{Lfts}
use denote.Ref.{Bor}
use denote.Triple.Clauses.{AtExit}
use Rattle.spans.specs.Only.{Decides, decides}
use Rattle.order.specs.declared.Ver.{Ver}
use Rattle.frames.specs.declared.Addr.{Addr}
use Rattle.asof.specs.AsOf.{as_of_at}
use Rattle.asof.specs.contracts.as_of as as_of_fn
use Rattle.asof.proofs.as_of.Reads as as_of_at_lem
use Rattle.std.proofs.Common.{Result}
use Rattle.asof.specs.declared.AsOf.{AsOf}
use Rattle.frames.specs.declared.Refusal.{Refusal}

pub as_of_decided : (κs : Lfts 2) (s : Bor (List ℕ)) (a : Addr) (probe : Bor (List ℕ)) (v : Ver) (x : AtExit as_of_fn.ended κs)
    → Decides (λ (r : Result AsOf Refusal). as_of_at_lem.Post κs (s, (a, (probe, (v, tt)))) r x) (λ (r : Result AsOf Refusal). r)
as_of_decided κs s a probe v x = decides (λ (r : Result AsOf Refusal). r) (as_of_at s.now a probe.now v)
