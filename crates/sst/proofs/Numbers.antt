-- The numbers of the three searches, on every arena, address and probe: 0 or 4, so 7 is no answer of theirs.
-- Assumes nothing.
use Prim.Native.Nat.{ℕ}
use mathlib.Core.Path.{refl}
use mathlib.Core.Logic.{inl, inr}
use mathlib.Core.List.{List}
use lib.Dec.{ltb}
use Rattle.order.specs.declared.Ver.{Ver}
use Rattle.frames.specs.declared.Addr.{Addr}
use Rattle.frames.specs.declared.Body.{Body}
use Rattle.frames.specs.Refusals.{ZeroOrFour}
use Rattle.frames.proofs.Refusals.{either}
use Rattle.records.specs.Records.{rec_at}
use Rattle.sst.specs.Search.{outcome_at, bound, bound_in, lower_of, lower_at, indexes, floor_slot, page_rec, page_in, floor_in, floor_of, floor_at, leaves, found_rec, head_in, found_in, search_of, search_at}
use Rattle.sst.specs.Refused.{bound_number, floor_number, found_number}
use Rattle.std.proofs.Common.{Option, Some, None, Ok}
use Rattle.records.specs.declared.Rec.{Rec}
use Rattle.sst.specs.declared.Bound.{Bound}
use Rattle.sst.specs.declared.Halved.{Halved}
use Rattle.sst.specs.declared.Outcome.{Outcome}

module _ (s : List ℕ) (a : Addr) (probe : List ℕ) where
  pub lower_number : (v : Ver) → ZeroOrFour (bound_number (lower_at s a probe v))
  unfolding lower_at
  lower_number v = go (outcome_at s a probe (bound v))
    where
      by : (elems : ℕ) (h : Option Halved) → ZeroOrFour (bound_number (bound_in elems h))
      by elems (Some (Halved.At i n)) = inr refl
      by elems (Some (Halved.End p n)) = either bound_number (ltb p elems) (Ok (Bound.At p n)) (Ok (Bound.PastEnd p n)) (inl refl) (inl refl)
      by elems None = inr refl

      go : (o : Option Outcome) → ZeroOrFour (bound_number (lower_of o))
      go (Some (Outcome.Stands b h)) = by b.elems h
      go (Some Outcome.Empty) = inl refl
      go None = inr refl

  page-number : (b : Body) (i n : ℕ) → ZeroOrFour (floor_number (page_in s b i n))
  unfolding page_in
  page-number b i n = go (rec_at s b i)
    where
      go : (r : Option Rec) → ZeroOrFour (floor_number (page_rec s i n r))
      go (Some r) = inl refl
      go None = inr refl

  pub floor_number_lem : ZeroOrFour (floor_number (floor_at s a probe))
  unfolding floor_at
  floor_number_lem = go (outcome_at s a probe indexes)
    where
      by : (b : Body) (h : Option Halved) → ZeroOrFour (floor_number (floor_in s b h))
      by b (Some (Halved.At i n)) = page-number b i n
      by b (Some (Halved.End p n)) = page-number b (floor_slot p) n
      by b None = inr refl

      go : (o : Option Outcome) → ZeroOrFour (floor_number (floor_of s o))
      go (Some (Outcome.Stands b h)) = by b h
      go (Some Outcome.Empty) = inl refl
      go None = inr refl

  head_number : (b : Body) (i n : ℕ) → ZeroOrFour (found_number (head_in s b i n))
  unfolding head_in
  head_number b i n = go (rec_at s b i)
    where
      go : (r : Option Rec) → ZeroOrFour (found_number (found_rec s i n r))
      go (Some r) = inl refl
      go None = inr refl

  pub search_number : ZeroOrFour (found_number (search_at s a probe))
  unfolding search_at
  search_number = go (outcome_at s a probe leaves)
    where
      by : (b : Body) (h : Option Halved) → ZeroOrFour (found_number (found_in s b h))
      by b (Some (Halved.At i n)) = head_number b i n
      by b (Some (Halved.End p n)) = inl refl
      by b None = inr refl

      go : (o : Option Outcome) → ZeroOrFour (found_number (search_of s o))
      go (Some (Outcome.Stands b h)) = by b h
      go (Some Outcome.Empty) = inl refl
      go None = inr refl
