-- No second answer fits the contract of a public call. `Post` is the contract as the check reads it, so a contract that is weakened fails here.
-- Assumes nothing.
use mathlib.Core.List.{List}
use mathlib.Core.Bool.{Bool}
use Prim.Native.Nat.{ℕ}
use contract.Lifetimes.{Lfts}
use denote.Ref.{Bor}
use denote.Triple.Clauses.{AtExit}
use Rattle.spans.specs.Only.{Decides, decides}
use Rattle.frames.specs.declared.Addr.{Addr}
use Rattle.pages.specs.declared.Place.{Place}
use Rattle.pages.specs.declared.Hints.{Hints}
use Rattle.pages.specs.Sound.{history_at, old_at, entered}
use Rattle.pages.specs.Meaning.{meaning, check_of}
use Rattle.pages.specs.Boundaries.{bounds_at, part_in, lo_at, hi_at, prefix_at}
use Rattle.pages.specs.HintsAt.{history_hints_at, remote_hints_at, hint_in}
use Rattle.pages.specs.contracts.check as check_fn
use Rattle.pages.proofs.check.Reads as checking
use Rattle.pages.specs.contracts.history_at as history_fn
use Rattle.pages.proofs.history_at.Reads as history-at
use Rattle.pages.specs.contracts.old_at as old_fn
use Rattle.pages.proofs.old_at.Reads as old-at
use Rattle.pages.specs.contracts.entered_at as entered_fn
use Rattle.pages.proofs.entered_at.Reads as entered_at
use Rattle.pages.specs.contracts.bounds_at as bounds_fn
use Rattle.pages.proofs.bounds_at.Reads as bounds-at
use Rattle.pages.specs.contracts.part_at as part_fn
use Rattle.pages.proofs.part_at.Reads as part_at
use Rattle.pages.specs.contracts.lo as lo_fn
use Rattle.pages.proofs.lo.Reads as lo_at_lem
use Rattle.pages.specs.contracts.hi as hi_fn
use Rattle.pages.proofs.hi.Reads as hi_at
use Rattle.pages.specs.contracts.prefix as prefix_fn
use Rattle.pages.proofs.prefix.Reads as prefix-at
use Rattle.pages.specs.contracts.history_hints as history-hints_fn
use Rattle.pages.proofs.history_hints.Reads as history-hints
use Rattle.pages.specs.contracts.remote_hints as remote-hints_fn
use Rattle.pages.proofs.remote_hints.Reads as remote-hints
use Rattle.pages.specs.contracts.hint_at as hint_fn
use Rattle.pages.proofs.hint_at.Reads as hint-at
use Rattle.std.proofs.Common.{Option, Result}
use Rattle.frames.specs.declared.Body.{Body}
use Rattle.frames.specs.declared.Refusal.{Refusal}
use Rattle.pages.specs.declared.Bounds.{Bounds}
use Rattle.pages.specs.declared.OldVersion.{OldVersion}

module _ (κs : Lfts 1) (s : Bor (List ℕ)) (a : Addr) where
  pub check_decided : (x : AtExit check_fn.ended κs) → Decides (λ (r : Result Unit Refusal). checking.Post κs (s, (a, tt)) r x) (λ (r : Result Unit Refusal). r)
  check_decided x = decides (λ (r : Result Unit Refusal). r) (check_of (meaning s.now a))

  pub history_decided : (x : AtExit history_fn.ended κs) → Decides (λ (r : Option Body). history-at.Post κs (s, (a, tt)) r x) (λ (r : Option Body). r)
  history_decided x = decides (λ (r : Option Body). r) (history_at s.now a)

  pub bounds_decided : (x : AtExit bounds_fn.ended κs) → Decides (λ (r : Result Bounds Refusal). bounds-at.Post κs (s, (a, tt)) r x) (λ (r : Result Bounds Refusal). r)
  bounds_decided x = decides (λ (r : Result Bounds Refusal). r) (bounds_at s.now a)

  pub history-hints_decided : (x : AtExit history-hints_fn.ended κs) → Decides (λ (r : Result (Option Hints) Refusal). history-hints.Post κs (s, (a, tt)) r x) (λ (r : Result (Option Hints) Refusal). r)
  history-hints_decided x = decides (λ (r : Result (Option Hints) Refusal). r) (history_hints_at s.now a)

  pub remote-hints_decided : (x : AtExit remote-hints_fn.ended κs) → Decides (λ (r : Result (Option Hints) Refusal). remote-hints.Post κs (s, (a, tt)) r x) (λ (r : Result (Option Hints) Refusal). r)
  remote-hints_decided x = decides (λ (r : Result (Option Hints) Refusal). r) (remote_hints_at s.now a)

  pub old_decided : (i : ℕ) (x : AtExit old_fn.ended κs) → Decides (λ (r : Option OldVersion). old-at.Post κs (s, (a, (i, tt))) r x) (λ (r : Option OldVersion). r)
  old_decided i x = decides (λ (r : Option OldVersion). r) (old_at s.now a i)

  pub entered_decided : (i : ℕ) (x : AtExit entered_fn.ended κs) → Decides (λ (r : Bool). entered_at.Post κs (s, (a, (i, tt))) r x) (λ (r : Bool). r)
  entered_decided i x = decides (λ (r : Bool). r) (entered s.now a i)

-- the bytes of a part are decided
module _ (κs : Lfts 1) (s : Bor (List ℕ)) (a : Addr) where
  pub lo_decided : (x : AtExit lo_fn.ended κs) → Decides (λ (r : Bor (List ℕ)). lo_at_lem.Post κs (s, (a, tt)) r x) (λ (r : Bor (List ℕ)). r.now)
  lo_decided x = decides (λ (r : Bor (List ℕ)). r.now) (lo_at s.now a)

  pub hi_decided : (x : AtExit hi_fn.ended κs) → Decides (λ (r : Bor (List ℕ)). hi_at.Post κs (s, (a, tt)) r x) (λ (r : Bor (List ℕ)). r.now)
  hi_decided x = decides (λ (r : Bor (List ℕ)). r.now) (hi_at s.now a)

  pub prefix_decided : (x : AtExit prefix_fn.ended κs) → Decides (λ (r : Bor (List ℕ)). prefix-at.Post κs (s, (a, tt)) r x) (λ (r : Bor (List ℕ)). r.now)
  prefix_decided x = decides (λ (r : Bor (List ℕ)). r.now) (prefix_at s.now a)

pub part_decided : (κs : Lfts 1) (s : Bor (List ℕ)) (p : Place) (x : AtExit part_fn.ended κs) → Decides (λ (r : Bor (List ℕ)). part_at.Post κs (s, (p, tt)) r x) (λ (r : Bor (List ℕ)). r.now)
part_decided κs s p x = decides (λ (r : Bor (List ℕ)). r.now) (part_in s.now p)

pub hint_decided : (κs : Lfts 1) (s : Bor (List ℕ)) (h : Hints) (k : ℕ) (x : AtExit hint_fn.ended κs) → Decides (λ (r : Option Addr). hint-at.Post κs (s, (h, (k, tt))) r x) (λ (r : Option Addr). r)
hint_decided κs s h k x = decides (λ (r : Option Addr). r) (hint_in s.now h k)
