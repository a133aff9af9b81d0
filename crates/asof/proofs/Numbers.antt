-- The numbers of the lookup as of a version, on every arena, address, probe and version: 0 or 4, so 7 is no answer of it.
-- Assumes nothing.
use Prim.Native.Nat.{ℕ, zero, suc}
use mathlib.Core.Path.{◌≡◌, refl}
use mathlib.Core.Logic.{inl, inr}
use mathlib.Core.Bool.{Bool, true, false}
use mathlib.Core.List.{List}
use lib.ListN.{take}
use Rattle.order.specs.declared.Ver.{Ver}
use Rattle.order.specs.Version.{newer_than}
use Rattle.frames.specs.declared.Addr.{Addr}
use Rattle.frames.specs.declared.Body.{Body}
use Rattle.frames.specs.Refusals.{ZeroOrFour}
use Rattle.values.specs.declared.HistRef.{HistRef}
use Rattle.values.specs.Vals.{val_at}
use Rattle.records.specs.Records.{rec_at}
use Rattle.search_head.specs.Head.{head_at}
use Rattle.search_head.proofs.Heads.{head_refused}
use Rattle.walks.specs.declared.OldPlace.{OldPlace}
use Rattle.walks.specs.Walk.{read_at, enter_at, no_older}
use Rattle.walks.specs.Aged.{aged_at}
use Rattle.asof.specs.AsOf.{handed_of, old_pick, old_by, old_as_of, old_in, old_enter, older_val, older_as_of, head_pick, as_of_head, as_of_at}
use Rattle.asof.specs.Refused.{as_of_number}
use Rattle.std.proofs.Common.{Option, Some, None, Result, Ok, Err}
use Rattle.frames.specs.declared.Refusal.{Refusal}
use Rattle.records.specs.declared.Rec.{Rec}
use Rattle.search_head.specs.declared.Head.{Head}
use Rattle.values.specs.declared.Val.{Val}
use Rattle.walks.specs.declared.Aged.{Aged}

module _ (s : List ℕ) (v : Ver) (slot reads : ℕ) where
  handed_number : (ver : Ver) (r : Option Rec) → ZeroOrFour (as_of_number (handed_of slot ver reads r))
  handed_number ver (Some r) = inl refl
  handed_number ver None = inr refl

  old-number : (k : ℕ) (p : OldPlace) → ZeroOrFour (as_of_number (old_as_of s v slot reads k p))
  unfolding old_as_of
  old-number zero p = inl refl
  old-number (suc k) p = go (old-number k) (aged_at s p)
    where
      pick : ((q : OldPlace) → ZeroOrFour (as_of_number (old_as_of s v slot reads k q))) → (ver : Ver) (i : ℕ) (rest : OldPlace) (t : Bool) → ZeroOrFour (as_of_number (old_pick s slot ver reads (old_as_of s v slot reads k) i rest t))
      pick ih ver i rest true = ih rest
      pick ih ver i rest false = handed_number ver (read_at s rest.page 2 i)

      go : ((q : OldPlace) → ZeroOrFour (as_of_number (old_as_of s v slot reads k q))) → (x : Option Aged) → ZeroOrFour (as_of_number (old_by s v slot reads (old_as_of s v slot reads k) x))
      go ih (Some (Aged.Is ver i rest)) = pick ih ver i rest (newer_than ver v)
      go ih (Some Aged.End) = inl refl
      go ih None = inr refl

  enter_number : (h : HistRef) → ZeroOrFour (as_of_number (old_enter s v slot reads h))
  unfolding old_enter
  enter_number h = go (enter_at s h no_older)
    where
      go : (x : Option OldPlace) → ZeroOrFour (as_of_number (old_in s v slot reads x))
      go (Some p) = old-number _ p
      go None = inr refl

  older-number : (b : Body) (at : ℕ) → ZeroOrFour (as_of_number (older_as_of s v slot reads b at))
  unfolding older_as_of
  older-number b at = go (val_at (take b.end s) at true)
    where
      go : (x : Option Val) → ZeroOrFour (as_of_number (older_val s v slot reads x))
      go (Some (Val.Inline h p n next)) = enter_number h
      go (Some (Val.Remote h a n next)) = enter_number h
      go None = inr refl

pub as_of_number_lem : (s : List ℕ) (a : Addr) (probe : List ℕ) (v : Ver) → ZeroOrFour (as_of_number (as_of_at s a probe v))
unfolding as_of_at
as_of_number_lem s a probe v = go (head_at s a probe) refl
  where
    pick : (b : Body) (i : ℕ) (ver : Ver) (at n : ℕ) (t : Bool) → ZeroOrFour (as_of_number (head_pick s v b i ver at n t))
    pick b i ver at n true = older-number s v i n b at
    pick b i ver at n false = handed_number s v i n ver (rec_at s b i)

    go : (h : Result Head Refusal) → head_at s a probe ≡ h → ZeroOrFour (as_of_number (as_of_head s v h))
    go (Ok (Head.Is b i ver at n)) e = pick b i ver at n (newer_than ver v)
    go (Ok (Head.Nothing n)) e = inl refl
    go (Err r) e = inr (rw (head_refused s a probe r e) refl)
