-- No second answer fits the contract of a public call. `Post` is the contract as the check reads it, so a contract that is weakened fails here.
-- Assumes nothing.
use mathlib.Core.Path.{◌≡◌}
use mathlib.Core.List.{List}
use Prim.Native.Nat.{ℕ}
use lib.ListN.{length}
use contract.Lifetimes.{Lfts}
use denote.MutBor.{MutBor}
use denote.Ref.{Bor}
use denote.Triple.Clauses.{AtExit}
use Rattle.spans.specs.Only.{Decides, decides}
use Rattle.spans.proofs.Put.{stored_decided}
use Rattle.lengths.specs.Leb128.{uleb, read_len}
use Rattle.lengths.specs.contracts.read as read_fn
use Rattle.lengths.proofs.read.Reads as read
use Rattle.lengths.specs.contracts.size as size_fn
use Rattle.lengths.proofs.size.Reads as size
use Rattle.lengths.specs.contracts.write as write_fn
use Rattle.lengths.proofs.write.Reads as write
use Rattle.std.proofs.Common.{Option}

pub read_decided : (κs : Lfts 1) (s : Bor (List ℕ)) (at : ℕ) (e : AtExit read_fn.ended κs) → Decides (λ (r : Option (ℕ × ℕ)). read.Post κs (s, (at, tt)) r e) (λ (r : Option (ℕ × ℕ)). r)
read_decided κs s at e = decides (λ (r : Option (ℕ × ℕ)). r) (read_len s.now at)

pub size_decided : (x : ℕ) (e : AtExit size_fn.ended tt) → Decides (λ (r : ℕ). size.Post tt (x, tt) r e) (λ (r : ℕ). r)
size_decided x e = decides (λ (r : ℕ). r) (length (uleb x))

-- the count and the buffer afterwards
pub write_decided : (κs : Lfts 1) (buf : MutBor (List ℕ)) (at x r r' : ℕ) (e e' : AtExit write_fn.ended κs)
    → write.Post κs (buf, (at, (x, tt))) r e → write.Post κs (buf, (at, (x, tt))) r' e' → (r ≡ r') × (e.0.now ≡ e'.0.now)
write_decided κs buf at x r r' e e' h k = stored_decided r r' e.0.now e'.0.now h k
