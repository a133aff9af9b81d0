-- No second answer fits the contract of a public call. `Post` is the contract as the check reads it, so a contract that is weakened
-- fails here. `next_of` promises what its answer stands for, which decides every pass: the entries from there on.
-- Assumes nothing.
use mathlib.Core.List.{List}
use mathlib.Core.Bool.{Bool}
use Prim.Native.Nat.{ℕ}
use contract.Lifetimes.{Lfts}
use denote.Ref.{Bor}
use denote.Triple.Clauses.{AtExit}
use Rattle.spans.specs.Only.{Decides, decides}
use Rattle.build_sources.specs.declared.Cursor.{Cursor}
use Rattle.build_sources.specs.declared.EntryRead.{EntryRead}
use Rattle.build_sources.specs.Lists.{begun_of}
use Rattle.build_sources.specs.Source.{next_of, entries, well_formed}
use Rattle.build_sources.specs.Judged.{risen_of, prefixed}
use Rattle.build_sources.specs.contracts.open_records as records_fn
use Rattle.build_sources.proofs.open_records.Reads as records
use Rattle.build_sources.specs.contracts.open_index as index_fn
use Rattle.build_sources.proofs.open_index.Reads as index
use Rattle.build_sources.specs.contracts.next as next_fn
use Rattle.build_sources.proofs.next.Reads as next
use Rattle.build_sources.specs.contracts.well as well_fn
use Rattle.build_sources.proofs.well.Reads as well
use Rattle.build_sources.specs.contracts.rises as rises_fn
use Rattle.build_sources.proofs.rises.Reads as rises
use Rattle.build_sources.specs.contracts.begins as begins_fn
use Rattle.build_sources.proofs.begins.Reads as begins
use Rattle.std.proofs.Common.{Option}

pub open_records_decided : (κs : Lfts 1) (l : Bor (List ℕ)) (x : AtExit records_fn.ended κs) → Decides (λ (r : Option Cursor). records.Post κs (l, tt) r x) (λ (r : Option Cursor). r)
open_records_decided κs l x = decides (λ (r : Option Cursor). r) (begun_of l.now 0)

pub open_index_decided : (κs : Lfts 1) (l : Bor (List ℕ)) (x : AtExit index_fn.ended κs) → Decides (λ (r : Option Cursor). index.Post κs (l, tt) r x) (λ (r : Option Cursor). r)
open_index_decided κs l x = decides (λ (r : Option Cursor). r) (begun_of l.now 1)

module _ (κs : Lfts 2) (l w : Bor (List ℕ)) (c : Cursor) where
  pub next_decided : (x : AtExit next_fn.ended κs) → Decides (λ (r : EntryRead). next.Post κs (l, (w, (c, tt))) r x) (λ (r : EntryRead). r)
  next_decided x = decides (λ (r : EntryRead). r) (next_of l.now w.now c)

  pub well_decided : (x : AtExit well_fn.ended κs) → Decides (λ (r : Bool). well.Post κs (l, (w, (c, tt))) r x) (λ (r : Bool). r)
  well_decided x = decides (λ (r : Bool). r) (well_formed l.now w.now c)

pub begins_decided : (κs : Lfts 3) (l w p : Bor (List ℕ)) (c : Cursor) (x : AtExit begins_fn.ended κs) → Decides (λ (r : Bool). begins.Post κs (l, (w, (c, (p, tt)))) r x) (λ (r : Bool). r)
begins_decided κs l w p c x = decides (λ (r : Bool). r) (prefixed p.now (entries l.now w.now c))

pub rises_decided : (κs : Lfts 4) (l w lo hi : Bor (List ℕ)) (c : Cursor) (x : AtExit rises_fn.ended κs) → Decides (λ (r : Option (ℕ × Bool)). rises.Post κs (l, (w, (c, (lo, (hi, tt))))) r x) (λ (r : Option (ℕ × Bool)). r)
rises_decided κs l w lo hi c x = decides (λ (r : Option (ℕ × Bool)). r) (risen_of lo.now hi.now (entries l.now w.now c))
