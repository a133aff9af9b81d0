-- No second answer fits the contract of a public call. `Post` is the contract as the check reads it, so a contract that is weakened fails here.
-- Assumes nothing.
use mathlib.Core.List.{List}
use Prim.Native.Nat.{ℕ}
use lib.IntN.{ℤ}
use contract.Lifetimes.{Lfts}
use denote.Ref.{Bor}
use denote.Triple.Clauses.{AtExit}
use Rattle.spans.specs.Span.{part_or}
use Rattle.spans.specs.Only.{Decides, decides}
use Rattle.frames.specs.declared.Addr.{Addr}
use Rattle.values.specs.declared.HistRef.{HistRef}
use Rattle.walks.specs.declared.Sheet.{Sheet}
use Rattle.walks.specs.declared.OldPlace.{OldPlace}
use Rattle.walks.specs.declared.Walk.{Walk}
use Rattle.walks.specs.declared.Item.{Item}
use Rattle.walks.specs.declared.Branch.{Branch}
use Rattle.walks.specs.Walk.{forward_at, backward_at, body_of, read_at, enter_at, step_at}
use Rattle.walks.specs.Aged.{aged_at}
use Rattle.walks.specs.contracts.forward as forward_fn
use Rattle.walks.proofs.forward.Reads as forward_at_lem
use Rattle.walks.specs.contracts.backward as backward_fn
use Rattle.walks.proofs.backward.Reads as backward_at_lem
use Rattle.walks.specs.contracts.body_of as body_fn
use Rattle.walks.proofs.body_of.Reads as body_at
use Rattle.walks.specs.contracts.enter as enter_fn
use Rattle.walks.proofs.enter.Reads as enter_at_lem
use Rattle.walks.specs.contracts.read as read_fn
use Rattle.walks.proofs.read.Reads as read_at
use Rattle.walks.specs.contracts.OldPlace.aged as aged_fn
use Rattle.walks.proofs.OldPlace.aged.Reads as aged-at
use Rattle.walks.specs.contracts.Walk.step as step_fn
use Rattle.walks.proofs.Walk.step.Reads as step_at_lem
use Rattle.walks.specs.contracts.rest_of as rest_fn
use Rattle.walks.proofs.rest_of.Reads as rest_at
use Rattle.walks.specs.contracts.value_of as value_fn
use Rattle.walks.proofs.value_of.Reads as value-at
use Rattle.walks.specs.contracts.branch_rest_of as branch_fn
use Rattle.walks.proofs.branch_rest_of.Reads as branch_at
use Rattle.std.proofs.Common.{Option, Result}
use Rattle.frames.specs.declared.Body.{Body}
use Rattle.frames.specs.declared.Refusal.{Refusal}
use Rattle.records.specs.declared.Rec.{Rec}
use Rattle.walks.specs.declared.Aged.{Aged}
use Rattle.walks.specs.declared.Step.{Step}

module _ (κs : Lfts 1) (s : Bor (List ℕ)) where
  pub forward_decided : (a : Addr) (i j : ℕ) (x : AtExit forward_fn.ended κs) → Decides (λ (r : Result Walk Refusal). forward_at_lem.Post κs (s, (a, (i, (j, tt)))) r x) (λ (r : Result Walk Refusal). r)
  forward_decided a i j x = decides (λ (r : Result Walk Refusal). r) (forward_at s.now a i j)

  pub backward_decided : (a : Addr) (i j : ℤ) (x : AtExit backward_fn.ended κs) → Decides (λ (r : Result Walk Refusal). backward_at_lem.Post κs (s, (a, (i, (j, tt)))) r x) (λ (r : Result Walk Refusal). r)
  backward_decided a i j x = decides (λ (r : Result Walk Refusal). r) (backward_at s.now a i j)

  pub body_decided : (v : Sheet) (kind : ℕ) (x : AtExit body_fn.ended κs) → Decides (λ (r : Option Body). body_at.Post κs (s, (v, (kind, tt))) r x) (λ (r : Option Body). r)
  body_decided v kind x = decides (λ (r : Option Body). r) (body_of s.now v kind)

  pub enter_decided : (h : HistRef) (was : OldPlace) (x : AtExit enter_fn.ended κs) → Decides (λ (r : Option OldPlace). enter_at_lem.Post κs (s, (h, (was, tt))) r x) (λ (r : Option OldPlace). r)
  enter_decided h was x = decides (λ (r : Option OldPlace). r) (enter_at s.now h was)

  pub step_decided : (w : Walk) (x : AtExit step_fn.ended κs) → Decides (λ (r : Result Step Refusal). step_at_lem.Post κs (w, (s, tt)) r x) (λ (r : Result Step Refusal). r)
  step_decided w x = decides (λ (r : Result Step Refusal). r) (step_at s.now w)

  pub read_decided : (v : Sheet) (kind i : ℕ) (x : AtExit read_fn.ended κs) → Decides (λ (r : Option Rec). read_at.Post κs (s, (v, (kind, (i, tt)))) r x) (λ (r : Option Rec). r)
  read_decided v kind i x = decides (λ (r : Option Rec). r) (read_at s.now v kind i)

  pub aged_decided : (p : OldPlace) (x : AtExit aged_fn.ended κs) → Decides (λ (r : Option Aged). aged-at.Post κs (p, (s, tt)) r x) (λ (r : Option Aged). r)
  aged_decided p x = decides (λ (r : Option Aged). r) (aged_at s.now p)

-- the bytes of a part are decided
module _ (κs : Lfts 1) (s : Bor (List ℕ)) where
  pub rest_decided : (i : Item) (x : AtExit rest_fn.ended κs) → Decides (λ (r : Bor (List ℕ)). rest_at.Post κs (s, (i, tt)) r x) (λ (r : Bor (List ℕ)). r.now)
  rest_decided i x = decides (λ (r : Bor (List ℕ)). r.now) (part_or s.now i.key.at i.key.len)

  pub value_decided : (i : Item) (x : AtExit value_fn.ended κs) → Decides (λ (r : Bor (List ℕ)). value-at.Post κs (s, (i, tt)) r x) (λ (r : Bor (List ℕ)). r.now)
  value_decided i x = decides (λ (r : Bor (List ℕ)). r.now) (part_or s.now i.value.at i.value.len)

  pub branch_decided : (i : Branch) (x : AtExit branch_fn.ended κs) → Decides (λ (r : Bor (List ℕ)). branch_at.Post κs (s, (i, tt)) r x) (λ (r : Bor (List ℕ)). r.now)
  branch_decided i x = decides (λ (r : Bor (List ℕ)). r.now) (part_or s.now i.key.at i.key.len)
