-- No second answer fits the contract of a public call: answer, and arena afterwards where one is lent to be written.
-- Assumes nothing.
use mathlib.Core.Path.{◌≡◌, ◌∙◌, sym}
use mathlib.Core.List.{List}
use Prim.Native.Nat.{ℕ}
use contract.Lifetimes.{Lfts}
use denote.MutBor.{MutBor}
use denote.Ref.{Bor}
use denote.Triple.Clauses.{AtExit}
use Rattle.spans.specs.Only.{Decides, decides}
use Rattle.build_image.specs.Prefix.{common}
use Rattle.frames.specs.declared.PageId.{PageId}
use Rattle.base.specs.contracts.calc_prefix as calc_fn
use Rattle.base.proofs.calc_prefix.Reads as calc
use Rattle.base.specs.contracts.new_intl as index_fn
use Rattle.base.proofs.new_intl.Reads as index
use Rattle.base.specs.contracts.new_leaf as leaf_fn
use Rattle.base.proofs.new_leaf.Reads as leaf
use Rattle.std.proofs.Common.{Result}
use Rattle.frames.specs.declared.Addr.{Addr}
use Rattle.frames.specs.declared.Refusal.{Refusal}

pub calc_prefix_decided : (κs : Lfts 2) (lo hi : Bor (List ℕ)) (x : AtExit calc_fn.ended κs) → Decides (λ (r : ℕ). calc.Post κs (lo, (hi, tt)) r x) (λ (r : ℕ). r)
calc_prefix_decided κs lo hi x = decides (λ (r : ℕ). r) (common lo.now hi.now)

pub new_intl_decided : (κs : Lfts 4) (a : MutBor (List ℕ)) (next : ℕ) (l lo hi : Bor (List ℕ)) (s : PageId) (group txid lsn checkpoint : ℕ) (r r' : Result (Addr × ℕ) Refusal) (x x' : AtExit index_fn.ended κs)
    → index.Post κs (a, (next, (l, (lo, (hi, (s, (group, (txid, (lsn, (checkpoint, tt)))))))))) r x
    → index.Post κs (a, (next, (l, (lo, (hi, (s, (group, (txid, (lsn, (checkpoint, tt)))))))))) r' x' → (r ≡ r') × (x.0.now ≡ x'.0.now)
new_intl_decided κs a next l lo hi s group txid lsn checkpoint r r' x x' h k = (h.0 ∙ sym k.0, h.1 ∙ sym k.1)

pub new_leaf_decided : (κs : Lfts 4) (a : MutBor (List ℕ)) (next : ℕ) (l lo hi : Bor (List ℕ)) (s : PageId) (limit budget group txid lsn checkpoint : ℕ) (r r' : Result (Addr × ℕ) Refusal) (x x' : AtExit leaf_fn.ended κs)
    → leaf.Post κs (a, (next, (l, (lo, (hi, (s, (limit, (budget, (group, (txid, (lsn, (checkpoint, tt)))))))))))) r x
    → leaf.Post κs (a, (next, (l, (lo, (hi, (s, (limit, (budget, (group, (txid, (lsn, (checkpoint, tt)))))))))))) r' x' → (r ≡ r') × (x.0.now ≡ x'.0.now)
new_leaf_decided κs a next l lo hi s limit budget group txid lsn checkpoint r r' x x' h k = (h.0 ∙ sym k.0, h.1 ∙ sym k.1)
