-- The numbers of the overlay lookup, on every pair of buffers, addresses and probe: 0 or 4, so 7 is no answer of it.
-- Assumes nothing.
use Prim.Native.Nat.{ℕ}
use mathlib.Core.Path.{◌≡◌, refl}
use mathlib.Core.Logic.{inl, inr}
use mathlib.Core.Bool.{Bool, not, ◌&&◌}
use mathlib.Core.List.{List}
use Rattle.order.specs.declared.Ver.{Ver}
use Rattle.order.specs.Version.{newer_than}
use Rattle.frames.specs.declared.Addr.{Addr}
use Rattle.frames.specs.declared.Body.{Body}
use Rattle.frames.specs.Refusals.{ZeroOrFour}
use Rattle.frames.proofs.Refusals.{either}
use Rattle.records.specs.Records.{rec_at}
use Rattle.search_head.specs.Head.{head_at}
use Rattle.search_head.proofs.Heads.{head_refused}
use Rattle.delta.specs.Read.{leaf_key_at, value_at}
use Rattle.delta.specs.Refused.{leaf_key_number, value_number}
use Rattle.delta.proofs.Numbers.{leaf_key-number, value-number}
use Rattle.overlay.specs.Overlay.{page_rec, page_value, is_probe, delta_val, delta_value, laid_by, laid_of, laid_at, laid_number}
use Rattle.std.proofs.Common.{Option, Some, None, Result, Ok, Err}
use Rattle.delta.specs.declared.LeafKey.{LeafKey}
use Rattle.frames.specs.declared.Refusal.{Refusal}
use Rattle.overlay.specs.declared.Laid.{Laid}
use Rattle.pages.specs.declared.Place.{Place}
use Rattle.records.specs.declared.Rec.{Rec}
use Rattle.search_head.specs.declared.Head.{Head}

delta_number_lem : (t : List ℕ) (d : Addr) → ZeroOrFour (laid_number (delta_value t d))
unfolding delta_value
delta_number_lem t d = go (value_at t d) (value-number t d)
  where
    go : (x : Result Place Refusal) → ZeroOrFour (value_number x) → ZeroOrFour (laid_number (delta_val x))
    go (Ok p) h = inl refl
    go (Err r) h = h

page-number : (s : List ℕ) (b : Body) (i : ℕ) → ZeroOrFour (laid_number (page_value s b i))
unfolding page_value
page-number s b i = go (rec_at s b i)
  where
    go : (r : Option Rec) → ZeroOrFour (laid_number (page_rec r))
    go (Some r) = inl refl
    go None = inr refl

pub overlay-number : (s : List ℕ) (a : Addr) (t : List ℕ) (d : Addr) (probe : List ℕ) → ZeroOrFour (laid_number (laid_at s a t d probe))
unfolding laid_at laid_by
overlay-number s a t d probe = go (leaf_key_at t d) (leaf_key-number t d)
  where
    by : (mine : Bool) (ver : Ver) (h : Result Head Refusal) → head_at s a probe ≡ h → ZeroOrFour (laid_number (laid_by s t d mine ver h))
    by mine ver (Ok (Head.Is b i v at n)) e = either laid_number (mine && not (newer_than v ver)) (delta_value t d) (page_value s b i) (delta_number_lem t d) (page-number s b i)
    by mine ver (Ok (Head.Nothing n)) e = either laid_number mine (delta_value t d) (Ok Laid.Nothing) (delta_number_lem t d) (inl refl)
    by mine ver (Err r) e = inr (rw (head_refused s a probe r e) refl)

    go : (k : Result LeafKey Refusal) → ZeroOrFour (leaf_key_number k) → ZeroOrFour (laid_number (laid_of s a t d probe k))
    go (Ok k) h = by (is_probe t k.key probe) k.ver (head_at s a probe) refl
    go (Err r) h = h
