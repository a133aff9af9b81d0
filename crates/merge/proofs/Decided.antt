-- No second answer fits the contract of merge: the answer, and the arena afterwards.
-- Assumes nothing.
use mathlib.Core.Path.{◌≡◌, ◌∙◌, sym}
use mathlib.Core.List.{List}
use Prim.Native.Nat.{ℕ}
use contract.Lifetimes.{Lfts}
use denote.MutBor.{MutBor}
use denote.Ref.{Bor}
use denote.Triple.Clauses.{AtExit}
use Rattle.frames.specs.declared.Addr.{Addr}
use Rattle.merge.specs.contracts.merge as merge_fn
use Rattle.merge.proofs.merge.Reads as merge
use Rattle.std.proofs.Common.{Result}
use Rattle.frames.specs.declared.Refusal.{Refusal}

pub merge_decided : (κs : Lfts 1) (a : MutBor (List ℕ)) (next : ℕ) (left right : Addr) (limit budget group txid lsn checkpoint : ℕ) (r r' : Result (Addr × ℕ) Refusal) (x x' : AtExit merge_fn.ended κs)
    → merge.Post κs (a, (next, (left, (right, (limit, (budget, (group, (txid, (lsn, (checkpoint, tt)))))))))) r x
    → merge.Post κs (a, (next, (left, (right, (limit, (budget, (group, (txid, (lsn, (checkpoint, tt)))))))))) r' x' → (r ≡ r') × (x.0.now ≡ x'.0.now)
merge_decided κs a next left right limit budget group txid lsn checkpoint r r' x x' h k = (h.0 ∙ sym k.0, h.1 ∙ sym k.1)
