-- No second answer fits the contract of a public call. `Post` is the contract as the check reads it, so a contract that is weakened fails here.
-- Assumes nothing.
use mathlib.Core.Path.{◌≡◌, ◌∙◌, sym}
use mathlib.Core.List.{List}
use Prim.Native.Nat.{ℕ}
use contract.Lifetimes.{Lfts}
use denote.MutBor.{MutBor}
use denote.Ref.{Bor}
use denote.Triple.Clauses.{AtExit}
use Rattle.spans.specs.Only.{Decides, decides}
use Rattle.order.specs.declared.Ver.{Ver}
use Rattle.frames.specs.declared.Addr.{Addr}
use Rattle.frames.specs.declared.PageId.{PageId}
use Rattle.delta.specs.Read.{leaf_key_at, index_key_at, value_at, child_at}
use Rattle.delta.specs.contracts.from_key_val as leaf_fn
use Rattle.delta.proofs.from_key_val.Reads as leaf
use Rattle.delta.specs.contracts.from_key_index as index_fn
use Rattle.delta.proofs.from_key_index.Reads as index
use Rattle.delta.specs.contracts.key as key_fn
use Rattle.delta.proofs.key.Reads as key-at
use Rattle.delta.specs.contracts.index_key as index_key_fn
use Rattle.delta.proofs.index_key.Reads as index_key-at
use Rattle.delta.specs.contracts.val as val_fn
use Rattle.delta.proofs.val.Reads as val_at
use Rattle.delta.specs.contracts.index as child_fn
use Rattle.delta.proofs.index.Reads as child-at
use Rattle.std.proofs.Common.{Result}
use Rattle.delta.specs.declared.LeafKey.{LeafKey}
use Rattle.frames.specs.declared.Refusal.{Refusal}
use Rattle.pages.specs.declared.Place.{Place}

-- ---- the two calls: the answer, and the arena afterwards

module _ (κs : Lfts 3) (a : MutBor (List ℕ)) (next limit group lsn ckpt : ℕ) (ver : Ver) (k v : Bor (List ℕ)) (r r' : Result (Addr × ℕ) Refusal) (x x' : AtExit leaf_fn.ended κs) where
  pub leaf_decided : leaf.Post κs (a, (next, (limit, (group, (lsn, (ckpt, (ver, (k, (v, tt))))))))) r x
      → leaf.Post κs (a, (next, (limit, (group, (lsn, (ckpt, (ver, (k, (v, tt))))))))) r' x' → (r ≡ r') × (x.0.now ≡ x'.0.now)
  leaf_decided h h' = (h.0 ∙ sym h'.0, h.1 ∙ sym h'.1)

module _ (κs : Lfts 2) (a : MutBor (List ℕ)) (next txid group lsn ckpt : ℕ) (k : Bor (List ℕ)) (page : PageId) (r r' : Result (Addr × ℕ) Refusal) (x x' : AtExit index_fn.ended κs) where
  pub index_decided : index.Post κs (a, (next, (txid, (group, (lsn, (ckpt, (k, (page, tt)))))))) r x
      → index.Post κs (a, (next, (txid, (group, (lsn, (ckpt, (k, (page, tt)))))))) r' x' → (r ≡ r') × (x.0.now ≡ x'.0.now)
  index_decided h h' = (h.0 ∙ sym h'.0, h.1 ∙ sym h'.1)

-- ---- readers

module _ (κs : Lfts 1) (s : Bor (List ℕ)) (a : Addr) where
  pub key_decided : (x : AtExit key_fn.ended κs) → Decides (λ (r : Result LeafKey Refusal). key-at.Post κs (s, (a, tt)) r x) (λ (r : Result LeafKey Refusal). r)
  key_decided x = decides (λ (r : Result LeafKey Refusal). r) (leaf_key_at s.now a)

  pub index_key_decided : (x : AtExit index_key_fn.ended κs) → Decides (λ (r : Result Place Refusal). index_key-at.Post κs (s, (a, tt)) r x) (λ (r : Result Place Refusal). r)
  index_key_decided x = decides (λ (r : Result Place Refusal). r) (index_key_at s.now a)

  pub val_decided : (x : AtExit val_fn.ended κs) → Decides (λ (r : Result Place Refusal). val_at.Post κs (s, (a, tt)) r x) (λ (r : Result Place Refusal). r)
  val_decided x = decides (λ (r : Result Place Refusal). r) (value_at s.now a)

  pub child_decided : (x : AtExit child_fn.ended κs) → Decides (λ (r : Result PageId Refusal). child-at.Post κs (s, (a, tt)) r x) (λ (r : Result PageId Refusal). r)
  child_decided x = decides (λ (r : Result PageId Refusal). r) (child_at s.now a)
