-- No second answer fits the contract of a public call. `Post` is the contract as the check reads it, so a contract that is weakened fails here.
-- Assumes nothing.
use mathlib.Core.List.{List}
use Prim.Native.Nat.{ℕ}
use contract.Lifetimes.{Lfts}
use denote.Ref.{Bor}
use denote.Triple.Clauses.{AtExit}
use Rattle.spans.specs.Only.{Decides, decides}
use Rattle.order.specs.declared.Ver.{Ver}
use Rattle.frames.specs.declared.Addr.{Addr}
use Rattle.sst.specs.declared.Want.{Want}
use Rattle.sst.specs.Search.{outcome_at, lower_at, floor_at, search_at}
use Rattle.sst.specs.contracts.halve_at as halve_fn
use Rattle.sst.proofs.halve_at.Reads as halve-at
use Rattle.sst.specs.contracts.lower_bound as lower_fn
use Rattle.sst.proofs.lower_bound.Reads as lower_bound
use Rattle.sst.specs.contracts.floor_pid_by_raw as floor_fn
use Rattle.sst.proofs.floor_pid_by_raw.Reads as floor_pid
use Rattle.sst.specs.contracts.search_ver_val_by_raw as search_fn
use Rattle.sst.proofs.search_ver_val_by_raw.Reads as search_ver-val
use Rattle.std.proofs.Common.{Option, Result}
use Rattle.frames.specs.declared.Refusal.{Refusal}
use Rattle.sst.specs.declared.Bound.{Bound}
use Rattle.sst.specs.declared.Floor.{Floor}
use Rattle.sst.specs.declared.Found.{Found}
use Rattle.sst.specs.declared.Outcome.{Outcome}

module _ (κs : Lfts 2) (s : Bor (List ℕ)) (a : Addr) (probe : Bor (List ℕ)) where
  pub halve_decided : (w : Want) (x : AtExit halve_fn.ended κs) → Decides (λ (r : Option Outcome). halve-at.Post κs (s, (a, (probe, (w, tt)))) r x) (λ (r : Option Outcome). r)
  halve_decided w x = decides (λ (r : Option Outcome). r) (outcome_at s.now a probe.now w)

  pub lower_decided : (v : Ver) (x : AtExit lower_fn.ended κs) → Decides (λ (r : Result Bound Refusal). lower_bound.Post κs (s, (a, (probe, (v, tt)))) r x) (λ (r : Result Bound Refusal). r)
  lower_decided v x = decides (λ (r : Result Bound Refusal). r) (lower_at s.now a probe.now v)

  pub floor_decided : (x : AtExit floor_fn.ended κs) → Decides (λ (r : Result Floor Refusal). floor_pid.Post κs (s, (a, (probe, tt))) r x) (λ (r : Result Floor Refusal). r)
  floor_decided x = decides (λ (r : Result Floor Refusal). r) (floor_at s.now a probe.now)

  pub search_decided : (x : AtExit search_fn.ended κs) → Decides (λ (r : Result Found Refusal). search_ver-val.Post κs (s, (a, (probe, tt))) r x) (λ (r : Result Found Refusal). r)
  search_decided x = decides (λ (r : Result Found Refusal). r) (search_at s.now a probe.now)
