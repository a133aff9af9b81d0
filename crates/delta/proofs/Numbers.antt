-- The numbers of the four readers of deltas: 0 or 4.
-- Assumes nothing.
use Prim.Native.Nat.{ℕ, ◌+◌}
use mathlib.Core.Path.{refl}
use mathlib.Core.Logic.{inl, inr}
use mathlib.Core.Bool.{false}
use mathlib.Core.List.{List}
use lib.ListN.{take}
use lib.Dec.{eqb}
use Rattle.numbers.specs.Number.{le_at}
use Rattle.frames.specs.declared.Addr.{Addr}
use Rattle.frames.specs.declared.Refusal.{Refusal}
use Rattle.frames.specs.Refusals.{ZeroOrFour}
use Rattle.frames.proofs.Refusals.{either}
use Rattle.frames.specs.Layout.{page_id, node_leaf, node_index}
use Rattle.values.specs.Vals.{val_at}
use Rattle.records.specs.Records.{val_of}
use Rattle.pages.specs.Frames.{val_fills}
use Rattle.delta.specs.Read.{delta_is, key_of, leaf_key_of, leaf_key_at, index_key_of, index_key_at, place_of, val_in, value_of, value_at, child_of, child_at}
use Rattle.delta.specs.Refused.{leaf_key_number, index_key_number, value_number, child_number}
use Rattle.std.proofs.Common.{Option, Some, None, Ok, Err}
use Rattle.frames.specs.declared.Delta.{Delta}
use Rattle.records.specs.declared.ValParts.{ValParts}
use Rattle.values.specs.declared.KeyParts.{KeyParts}

module _ (s : List ℕ) (a : Addr) where
  pub leaf_key-number : ZeroOrFour (leaf_key_number (leaf_key_at s a))
  unfolding leaf_key_at
  leaf_key-number = go (key_of s 0 (delta_is s a node_leaf))
    where
      go : (k : Option KeyParts) → ZeroOrFour (leaf_key_number (leaf_key_of s k))
      go (Some k) = inl refl
      go None = inr refl

  pub index_key-number : ZeroOrFour (index_key_number (index_key_at s a))
  unfolding index_key_at
  index_key-number = go (key_of s 1 (delta_is s a node_index))
    where
      go : (k : Option KeyParts) → ZeroOrFour (index_key_number (index_key_of k))
      go (Some k) = inl refl
      go None = inr refl

  pub value-number : ZeroOrFour (value_number (value_at s a))
  unfolding value_at val_in
  value-number = go (delta_is s a node_leaf)
    where
      place : (x : Option ValParts) → ZeroOrFour (value_number (place_of x))
      place (Some v) = inl refl
      place None = inr refl

      go : (d : Option Delta) → ZeroOrFour (value_number (value_of s d))
      go (Some d) =
          let v = val_of s (val_at (take d.end s) d.val_at false) in
          either value_number (val_fills d.end v) (place_of v) (Err Refusal.BadFrame) (place v) (inr refl)
      go None = inr refl

  pub child-number : ZeroOrFour (child_number (child_at s a))
  unfolding child_at
  child-number = go (delta_is s a node_index)
    where
      go : (d : Option Delta) → ZeroOrFour (child_number (child_of s d))
      go (Some d) = either child_number (eqb d.end (d.val_at + 8)) (Ok (page_id (le_at 8 s d.val_at))) (Err Refusal.BadFrame) (inl refl) (inr refl)
      go None = inr refl
