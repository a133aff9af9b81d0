-- No second answer fits the contract of a public call. `Post` is the contract as the check reads it, so a contract that is weakened fails here.
-- Assumes nothing.
use mathlib.Core.Path.{◌≡◌}
use mathlib.Core.List.{List}
use Prim.Native.Nat.{ℕ}
use contract.Lifetimes.{Lfts}
use denote.Ref.{Bor}
use denote.Triple.Clauses.{AtExit}
use Rattle.spans.specs.Only.{Decides, decides}
use Rattle.frames.specs.declared.Addr.{Addr}
use Rattle.frames.specs.declared.Refusal.{Refusal}
use Rattle.frames.specs.declared.Clerk.{Clerk}
use Rattle.frames.specs.declared.Taken.{Taken}
use Rattle.frames.specs.Refusals.{number_of}
use Rattle.frames.specs.Layout.{box_at, page_at, open_at, remote_at, delta_at, frame_len}
use Rattle.frames.specs.Clerks.{taken_of}
use Rattle.frames.specs.contracts.number as number_fn
use Rattle.frames.proofs.number.Reads as number
use Rattle.frames.specs.contracts.frame_len as frame-len-fn
use Rattle.frames.proofs.frame_len.Reads as frame_len_lem
use Rattle.frames.specs.contracts.BoxHeader.at as box_fn
use Rattle.frames.proofs.BoxHeader.at.Reads as box
use Rattle.frames.specs.contracts.BaseHeader.at as base_fn
use Rattle.frames.proofs.BaseHeader.at.Reads as base
use Rattle.frames.specs.contracts.open_at as open_fn
use Rattle.frames.proofs.open_at.Reads as open_at
use Rattle.frames.specs.contracts.remote_at as remote_fn
use Rattle.frames.proofs.remote_at.Reads as remote-at
use Rattle.frames.specs.contracts.delta_at as delta_fn
use Rattle.frames.proofs.delta_at.Reads as delta_at_lem
use Rattle.frames.specs.contracts.Clerk.take as take_fn
use Rattle.frames.proofs.Clerk.take.Reads as taking
use Rattle.std.proofs.Common.{Option}
use Rattle.frames.specs.declared.BaseHeader.{BaseHeader}
use Rattle.frames.specs.declared.Body.{Body}
use Rattle.frames.specs.declared.BoxHeader.{BoxHeader}
use Rattle.frames.specs.declared.Delta.{Delta}

pub number_decided : (r : Refusal) (x : AtExit number_fn.ended tt) → Decides (λ (n : ℕ). number.Post tt (r, tt) n x) (λ (n : ℕ). n)
number_decided r x = decides (λ (n : ℕ). n) (number_of r)

pub take_decided : (c : Clerk) (n : ℕ) (x : AtExit take_fn.ended tt) → Decides (λ (t : Taken). taking.Post tt (c, (n, tt)) t x) (λ (t : Taken). t)
take_decided c n x = decides (λ (t : Taken). t) (taken_of c n)

module _ (κs : Lfts 1) (s : Bor (List ℕ)) (a : Addr) where
  pub box_decided : (x : AtExit box_fn.ended κs) → Decides (λ (r : Option BoxHeader). box.Post κs (s, (a, tt)) r x) (λ (r : Option BoxHeader). r)
  box_decided x = decides (λ (r : Option BoxHeader). r) (box_at s.now a)

  pub base_decided : (x : AtExit base_fn.ended κs) → Decides (λ (r : Option (BoxHeader × BaseHeader)). base.Post κs (s, (a, tt)) r x) (λ (r : Option (BoxHeader × BaseHeader)). r)
  base_decided x = decides (λ (r : Option (BoxHeader × BaseHeader)). r) (page_at s.now a)

  pub open_decided : (x : AtExit open_fn.ended κs) → Decides (λ (r : Option Body). open_at.Post κs (s, (a, tt)) r x) (λ (r : Option Body). r)
  open_decided x = decides (λ (r : Option Body). r) (open_at s.now a)

  pub delta_decided : (x : AtExit delta_fn.ended κs) → Decides (λ (r : Option Delta). delta_at_lem.Post κs (s, (a, tt)) r x) (λ (r : Option Delta). r)
  delta_decided x = decides (λ (r : Option Delta). r) (delta_at s.now a)

  pub remote_decided : (n : ℕ) (x : AtExit remote_fn.ended κs) → Decides (λ (r : Option ℕ). remote-at.Post κs (s, (a, (n, tt))) r x) (λ (r : Option ℕ). r)
  remote_decided n x = decides (λ (r : Option ℕ). r) (remote_at s.now a n)
