-- What a search that found a key read, on every arena: a record of a leaf, whose value lies in the arena.
-- Assumes nothing.
use Prim.Native.Nat.{ℕ, ◌+◌, ◌≤◌}
use mathlib.Core.Path.{◌≡◌, refl, sym, ap, ◌∙◌}
use mathlib.Core.List.{List}
use native.Mathlib.Omega.{arith}
use lib.ListN.{length}
use Rattle.order.specs.declared.Ver.{Ver}
use Rattle.frames.specs.declared.Addr.{Addr}
use Rattle.frames.specs.declared.Body.{Body}
use Rattle.frames.specs.declared.Refusal.{Refusal}
use Rattle.frames.specs.Layout.{open_at}
use Rattle.values.specs.declared.HistRef.{HistRef}
use Rattle.records.specs.declared.Rec.{Rec}
use Rattle.values.specs.Keys.{ver_in}
use Rattle.records.specs.Records.{rec_at}
use Rattle.records.proofs.Inside.{at-inside}
use Rattle.pages.specs.declared.Place.{Place}
use Rattle.pages.specs.Boundaries.{place}
use Rattle.sst.specs.Search.{outcome_at, leaves, found_rec, head_in, found_in, search_of, search_at}
use Rattle.sst.proofs.Opens.{IsReady, outcome_ready, leaf_kind}
use Rattle.std.proofs.Common.{Option, Some, None, Ok, Err, Result, Result}
use Rattle.sst.specs.declared.Found.{Found}
use Rattle.sst.specs.declared.Halved.{Halved}
use Rattle.sst.specs.declared.Outcome.{Outcome}

pub record FoundAt (s : List ℕ) (a : Addr) (i : ℕ) (v : Ver) (h : HistRef) (x : Place) : Type 0 where
  pub body : Body
  pub opened : open_at s a ≡ Some body
  pub kind : body.kind ≡ 0
  pub rec : Rec
  pub read : rec_at s body i ≡ Some rec
  pub ver : ver_in s rec.ver_at ≡ v
  pub hist : rec.hist ≡ h
  pub value : place rec.val_at rec.val_len ≡ x
  pub inside : x.at + x.len ≤ length s

module _ (s : List ℕ) (a : Addr) (probe : List ℕ) (i : ℕ) (v : Ver) (h : HistRef) (x : Place) (n : ℕ) where
  no_refusal : (r : Refusal) → Err r ≡ Ok (Found.Is i v h x n) → ⊥
  no_refusal r e = let z : ◌≡◌ {A = ℕ} 0 1 = cc in omega arith

  no_nothing : (m : ℕ) → ◌≡◌ {A = Result Found Refusal} (Ok (Found.Nothing m)) (Ok (Found.Is i v h x n)) → ⊥
  no_nothing m e = let z : ◌≡◌ {A = ℕ} 0 1 = cc in omega arith

  head_found : (b : Body) → IsReady s a leaves b → (j m : ℕ) → head_in s b j m ≡ Ok (Found.Is i v h x n) → FoundAt s a i v h x
  unfolding head_in
  head_found b g j m e = go (rec_at s b j) refl e
    where
      go : (r : Option Rec) → rec_at s b j ≡ r → found_rec s j m r ≡ Ok (Found.Is i v h x n) → FoundAt s a i v h x
      go (Some r) q e' =
          let z : j ≡ i = cc in
          let y : place r.val_at r.val_len ≡ x = cc in
          let u : ver_in s r.ver_at ≡ v = cc in
          let t : r.hist ≡ h = cc in
          let w : r.val_at + r.val_len ≤ length s = (at-inside s b j r g.inside q).0.val in
          record {
            body = b;
            opened = g.opened;
            kind = leaf_kind b.kind g.right;
            rec = r;
            read = ap (rec_at s b) (sym z) ∙ q;
            ver = u;
            hist = t;
            value = y;
            inside = rw (← y) w;
          }
      go None q e' = absurd (no_refusal Refusal.BadFrame e')

  pub search_found : search_at s a probe ≡ Ok (Found.Is i v h x n) → FoundAt s a i v h x
  unfolding search_at
  search_found e = go (outcome_at s a probe leaves) refl e
    where
      by : (b : Body) → IsReady s a leaves b → (y : Option Halved) → found_in s b y ≡ Ok (Found.Is i v h x n) → FoundAt s a i v h x
      by b g (Some (Halved.At j m)) q = head_found b g j m q
      by b g (Some (Halved.End p m)) q = absurd (no_nothing m q)
      by b g None q = absurd (no_refusal Refusal.BadFrame q)

      go : (o : Option Outcome) → outcome_at s a probe leaves ≡ o → search_of s o ≡ Ok (Found.Is i v h x n) → FoundAt s a i v h x
      go (Some (Outcome.Stands b y)) q e' = by b (outcome_ready s a probe leaves b y q).0 y e'
      go (Some Outcome.Empty) q e' = absurd (no_nothing 0 e')
      go None q e' = absurd (no_refusal Refusal.BadFrame e')
