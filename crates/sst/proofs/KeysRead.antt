-- The number of keys read: the halving's steps, and at most the bit length of elems. On every arena, sound or damaged.
-- Assumes nothing.
use Prim.Native.Nat.{ℕ, zero, suc, ◌+◌, ◌≤◌, ◌<◌, ◌^◌, zero-le}
use mathlib.Core.Path.{◌≡◌, refl, ap, ◌∙◌, subst}
use mathlib.Core.Bool.{Bool, true, false, cond}
use mathlib.Core.List.{List, [], ◌∷◌}
use native.Mathlib.Omega.{arith}
use borrow.Author.Tests.{lt-ltb, le-ltb, ltb-true, ltb-false}
use lib.ListN.{length}
use lib.Dec.{ltb}
use Rattle.order.specs.declared.Ver.{Ver}
use Rattle.order.specs.Order.{cmp_bytes, is_less}
use Rattle.frames.specs.declared.Addr.{Addr}
use Rattle.frames.specs.declared.Body.{Body}
use Rattle.frames.specs.Layout.{open_at}
use Rattle.records.specs.Records.{rec_at}
use Rattle.records.specs.Parts.{prefix_in}
use Rattle.sst.specs.declared.Want.{Want}
use Rattle.sst.specs.Halve.{mid, halve, steps}
use Rattle.sst.specs.Search.{fits_prefix, halved, elsewhere, probed, outcome_at, bound, bound_in, lower_of, lower_at, indexes, page_rec, page_in, floor_in, floor_of, floor_at, leaves, found_rec, head_in, found_in, search_of, search_at}
use Rattle.sst.specs.Says.{bound_reads, floor_reads, found_reads}
use Rattle.sst.proofs.Turns.{halve-less, halve_equal, halve_greater, halve_refuse, halve-end}
use Rattle.sst.proofs.Halving.{reads_of, reads_few}
use Rattle.sst.proofs.Opens.{outcome_ready}
use Rattle.std.proofs.Common.{Option, Some, None, Ok}
use Rattle.records.specs.declared.Rec.{Rec}
use Rattle.sst.specs.declared.Bound.{Bound}
use Rattle.sst.specs.declared.Halved.{Halved}
use Rattle.sst.specs.declared.Outcome.{Outcome}
use Rattle.std.specs.declared.cmp.Ordering.{Ordering}

-- an answer's reads are none, or the halving's
bound_reads_lem : (n : ℕ) (x : Option Halved) → bound_reads (bound_in n x) ≤ reads_of x
bound_reads_lem n (Some (Halved.At i r)) = zero-le
bound_reads_lem n (Some (Halved.End q r)) = go (ltb q n)
  where
    go : (t : Bool) → bound_reads (cond t (Ok (Bound.At q r)) (Ok (Bound.PastEnd q r))) ≤ r
    go true = omega arith
    go false = omega arith
bound_reads_lem n None = zero-le

page_reads : (s : List ℕ) (b : Body) (i n : ℕ) → floor_reads (page_in s b i n) ≤ n
unfolding page_in
page_reads s b i n = go (rec_at s b i)
  where
    go : (r : Option Rec) → floor_reads (page_rec s i n r) ≤ n
    go (Some r) = omega arith
    go None = zero-le

floor_reads_lem : (s : List ℕ) (b : Body) (x : Option Halved) → floor_reads (floor_in s b x) ≤ reads_of x
floor_reads_lem s b (Some (Halved.At i r)) = page_reads s b i r
floor_reads_lem s b (Some (Halved.End q r)) = page_reads s b _ r
floor_reads_lem s b None = zero-le

head_reads : (s : List ℕ) (b : Body) (i n : ℕ) → found_reads (head_in s b i n) ≤ n
unfolding head_in
head_reads s b i n = go (rec_at s b i)
  where
    go : (r : Option Rec) → found_reads (found_rec s i n r) ≤ n
    go (Some r) = omega arith
    go None = zero-le

found_reads_lem : (s : List ℕ) (b : Body) (x : Option Halved) → found_reads (found_in s b x) ≤ reads_of x
found_reads_lem s b (Some (Halved.At i r)) = head_reads s b i r
found_reads_lem s b (Some (Halved.End q r)) = omega arith
found_reads_lem s b None = zero-le

-- "at most the bit length of elems": a number of k bits is below 2 ^ k
module _ (s : List ℕ) (a : Addr) (probe : List ℕ) (k : ℕ) (few : (b : Body) → open_at s a ≡ Some b → b.elems < 2 ^ k) where
  stands_few : (w : Want) (b : Body) (x : Option Halved) → outcome_at s a probe w ≡ Some (Outcome.Stands b x) → reads_of x ≤ k
  unfolding halved elsewhere probed
  stands_few w b x e =
      let g = outcome_ready s a probe w b x e in
      subst (λ (y : Option Halved). reads_of y ≤ k) g.1 (by (fits_prefix s b probe) (is_less (cmp_bytes probe (prefix_in s b))) (few b g.0.opened))
    where
      by : (f l : Bool) → b.elems < 2 ^ k → reads_of (cond f (halved s b probe w) (cond l (Some (Halved.End 0 0)) (Some (Halved.End b.elems 0)))) ≤ k
      by true l h = reads_few _ b.elems k h
      by false true h = zero-le
      by false false h = zero-le

  pub lower_few : (v : Ver) → bound_reads (lower_at s a probe v) ≤ k
  unfolding lower_at
  lower_few v = go (outcome_at s a probe (bound v)) refl
    where
      go : (o : Option Outcome) → outcome_at s a probe (bound v) ≡ o → bound_reads (lower_of o) ≤ k
      go (Some (Outcome.Stands b x)) q = omega (arith, bound_reads_lem b.elems x, stands_few (bound v) b x q)
      go (Some Outcome.Empty) q = zero-le
      go None q = zero-le

  pub floor_few : floor_reads (floor_at s a probe) ≤ k
  unfolding floor_at
  floor_few = go (outcome_at s a probe indexes) refl
    where
      go : (o : Option Outcome) → outcome_at s a probe indexes ≡ o → floor_reads (floor_of s o) ≤ k
      go (Some (Outcome.Stands b x)) q = omega (arith, floor_reads_lem s b x, stands_few indexes b x q)
      go (Some Outcome.Empty) q = zero-le
      go None q = zero-le

  pub search_few : found_reads (search_at s a probe) ≤ k
  unfolding search_at
  search_few = go (outcome_at s a probe leaves) refl
    where
      go : (o : Option Outcome) → outcome_at s a probe leaves ≡ o → found_reads (search_of s o) ≤ k
      go (Some (Outcome.Stands b x)) q = omega (arith, found_reads_lem s b x, stands_few leaves b x q)
      go (Some Outcome.Empty) q = zero-le
      go None q = zero-le

-- the keys read are the halving's steps, one each
module _ (f : ℕ → Option Ordering) (k lo hi : ℕ) where
  steps-less : lo < hi → f (mid lo hi) ≡ Some Ordering.Less → steps f (suc k) lo hi ≡ mid lo hi ∷ steps f k (mid lo hi + 1) hi
  unfolding steps
  steps-less h e = rw (lt-ltb lo hi h, e, steps)

  steps_equal : lo < hi → f (mid lo hi) ≡ Some Ordering.Equal → steps f (suc k) lo hi ≡ mid lo hi ∷ []
  unfolding steps
  steps_equal h e = rw (lt-ltb lo hi h, e, steps)

  steps_greater : lo < hi → f (mid lo hi) ≡ Some Ordering.Greater → steps f (suc k) lo hi ≡ mid lo hi ∷ steps f k lo (mid lo hi)
  unfolding steps
  steps_greater h e = rw (lt-ltb lo hi h, e, steps)

steps-end : (f : ℕ → Option Ordering) (k lo hi : ℕ) → hi ≤ lo → steps f k lo hi ≡ []
unfolding steps
steps-end f zero lo hi h = refl
steps-end f (suc k) lo hi h = rw (le-ltb lo hi h, steps)

abbrev Counts : (ℕ → Option Ordering) → ℕ → ℕ → ℕ → ℕ → Type 0
Counts f k lo hi r = (halve f k lo hi r ≡ None → ⊥) → reads_of (halve f k lo hi r) ≡ r + length (steps f k lo hi)

pub halve-steps : (f : ℕ → Option Ordering) (k lo hi r : ℕ) → (halve f k lo hi r ≡ None → ⊥) → reads_of (halve f k lo hi r) ≡ r + length (steps f k lo hi)
unfolding halve steps
halve-steps f zero lo hi r ok = omega arith
halve-steps f (suc k) lo hi r ok = turn (ltb lo hi) refl (halve-steps f k (mid lo hi + 1) hi (r + 1)) (halve-steps f k lo (mid lo hi) (r + 1))
  where
    by : lo < hi → Counts f k (mid lo hi + 1) hi (r + 1) → Counts f k lo (mid lo hi) (r + 1) → (c : Option Ordering) → f (mid lo hi) ≡ c → reads_of (halve f (suc k) lo hi r) ≡ r + length (steps f (suc k) lo hi)
    by h u d (Some Ordering.Less) q =
        let e = halve-less f k lo hi r h q in
        let l : length (steps f (suc k) lo hi) ≡ suc (length (steps f k (mid lo hi + 1) hi)) = ap length (steps-less f k lo hi h q) in
        ap reads_of e ∙ u (λ z. ok (e ∙ z)) ∙ omega arith
    by h u d (Some Ordering.Equal) q =
        let l : length (steps f (suc k) lo hi) ≡ 1 = ap length (steps_equal f k lo hi h q) in
        ap reads_of (halve_equal f k lo hi r h q) ∙ omega arith
    by h u d (Some Ordering.Greater) q =
        let e = halve_greater f k lo hi r h q in
        let l : length (steps f (suc k) lo hi) ≡ suc (length (steps f k lo (mid lo hi))) = ap length (steps_greater f k lo hi h q) in
        ap reads_of e ∙ d (λ z. ok (e ∙ z)) ∙ omega arith
    by h u d None q = absurd (ok (halve_refuse f k lo hi r h q))

    turn : (b : Bool) → ltb lo hi ≡ b → Counts f k (mid lo hi + 1) hi (r + 1) → Counts f k lo (mid lo hi) (r + 1) → reads_of (halve f (suc k) lo hi r) ≡ r + length (steps f (suc k) lo hi)
    turn true e u d = by (ltb-true lo hi e) u d (f (mid lo hi)) refl
    turn false e u d =
        let h = ltb-false lo hi e in
        let l : length (steps f (suc k) lo hi) ≡ 0 = ap length (steps-end f (suc k) lo hi h) in
        ap reads_of (halve-end f (suc k) lo hi r h) ∙ omega arith
