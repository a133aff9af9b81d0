-- A head that was found comes from a halving that ended at its slot: where it lies, and search's own answer. It is refused with 4 alone.
-- Assumes nothing.
use mathlib.Core.Path.{◌≡◌, refl}
use mathlib.Core.List.{List}
use Prim.Native.Nat.{ℕ}
use native.Mathlib.Omega.{arith}
use Rattle.order.specs.declared.Ver.{Ver}
use Rattle.frames.specs.declared.Addr.{Addr}
use Rattle.frames.specs.declared.Body.{Body}
use Rattle.frames.specs.declared.Refusal.{Refusal}
use Rattle.frames.specs.Layout.{Inside}
use Rattle.records.specs.Records.{key_at_slot}
use Rattle.sst.specs.Search.{leaves, outcome_at}
use Rattle.sst.proofs.Opens.{outcome_ready}
use Rattle.search_head.specs.Head.{head_key, head_slot, head_of, head_at}
use Rattle.std.proofs.Common.{Option, Some, None, Ok, Err, Result}
use Rattle.search_head.specs.declared.Head.{Head}
use Rattle.sst.specs.declared.Halved.{Halved}
use Rattle.sst.specs.declared.Outcome.{Outcome}
use Rattle.values.specs.declared.KeyParts.{KeyParts}

pub record HeadFrom (s : List ℕ) (a : Addr) (probe : List ℕ) (b : Body) (i : ℕ) (v : Ver) (x n : ℕ) : Type 0 where
  pub found : outcome_at s a probe leaves ≡ Some (Outcome.Stands b (Some (Halved.At i n)))
  pub head : head_slot s b i n ≡ Ok (Head.Is b i v x n)

slot_same : (s : List ℕ) (b' b : Body) (i' i n' n : ℕ) (v : Ver) (x : ℕ) → head_slot s b' i' n' ≡ Ok (Head.Is b i v x n) → (b' ≡ b) × (i' ≡ i) × (n' ≡ n)
unfolding head_slot
slot_same s b' b i' i n' n v x e = go (key_at_slot s b' i') e
  where
    go : (k : Option KeyParts) → head_key s b' i' n' k ≡ Ok (Head.Is b i v x n) → (b' ≡ b) × (i' ≡ i) × (n' ≡ n)
    go (Some k) e' = (cc, cc, cc)
    go None e' = absurd (let z : ◌≡◌ {A = ℕ} 0 1 = cc in omega arith)

module _ (s : List ℕ) (a : Addr) (probe : List ℕ) (b : Body) (i : ℕ) (v : Ver) (x n : ℕ) (e : head_at s a probe ≡ Ok (Head.Is b i v x n)) where
  pub head_from : HeadFrom s a probe b i v x n
  unfolding head_at
  head_from = go (outcome_at s a probe leaves) refl e
    where
      no : (m : ℕ) → ◌≡◌ {A = Result Head Refusal} (Ok (Head.Nothing m)) (Ok (Head.Is b i v x n)) → ⊥
      no m e' = let z : ◌≡◌ {A = ℕ} 0 1 = cc in omega arith

      go : (o : Option Outcome) → outcome_at s a probe leaves ≡ o → head_of s o ≡ Ok (Head.Is b i v x n) → HeadFrom s a probe b i v x n
      go (Some (Outcome.Stands b' (Some (Halved.At i' n')))) q e' =
          let same = slot_same s b' b i' i n' n v x e' in
          let e1 = same.0 in
          let e2 = same.1 in
          let e3 = same.2 in
          rw (← e1, ← e2, ← e3) (record { found = q; head = cc })
      go (Some (Outcome.Stands b' (Some (Halved.End p m)))) q e' = absurd (no m e')
      go (Some (Outcome.Stands b' None)) q e' = absurd (let z : ◌≡◌ {A = ℕ} 0 1 = cc in omega arith)
      go (Some Outcome.Empty) q e' = absurd (no 0 e')
      go None q e' = absurd (let z : ◌≡◌ {A = ℕ} 0 1 = cc in omega arith)

  pub head_inside : Inside s b
  head_inside = (outcome_ready s a probe leaves b (Some (Halved.At i n)) head_from.found).0.inside

-- whatever the arena, address and probe
pub head_refused : (s : List ℕ) (a : Addr) (probe : List ℕ) (r : Refusal) → head_at s a probe ≡ Err r → r ≡ Refusal.BadFrame
unfolding head_at head_slot
head_refused s a probe r e = go (outcome_at s a probe leaves) e
  where
    key : (b : Body) (i n : ℕ) (k : Option KeyParts) → head_key s b i n k ≡ Err r → r ≡ Refusal.BadFrame
    key b i n (Some k) e' = absurd (let z : ◌≡◌ {A = ℕ} 0 1 = cc in omega arith)
    key b i n None e' = cc

    go : (o : Option Outcome) → head_of s o ≡ Err r → r ≡ Refusal.BadFrame
    go (Some (Outcome.Stands b (Some (Halved.At i n)))) e' = key b i n (key_at_slot s b i) e'
    go (Some (Outcome.Stands b (Some (Halved.End p n)))) e' = absurd (let z : ◌≡◌ {A = ℕ} 0 1 = cc in omega arith)
    go (Some (Outcome.Stands b None)) e' = cc
    go (Some Outcome.Empty) e' = absurd (let z : ◌≡◌ {A = ℕ} 0 1 = cc in omega arith)
    go None e' = cc
