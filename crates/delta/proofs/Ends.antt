-- A delta that was read lies in its buffer, and so does its key's version.
-- Assumes nothing.
use mathlib.Core.Path.{◌≡◌, refl, ◌∙◌}
use mathlib.Core.Bool.{◌&&◌}
use mathlib.Core.List.{List}
use Prim.Native.Nat.{ℕ, ◌+◌, ◌≤◌}
use native.Mathlib.Omega.{arith}
use lib.ListN.{length, take}
use lib.Dec.{leb, eqb}
use lib.Seq.{length-take-le}
use borrow.Author.Tests.{leb-true}
use Rattle.spans.proofs.Tests.{ask}
use Rattle.frames.specs.declared.Addr.{Addr}
use Rattle.frames.specs.declared.Delta.{Delta}
use Rattle.frames.specs.Layout.{delta_at}
use Rattle.frames.specs.Limits.{max_key}
use Rattle.frames.proofs.Frames.{DeltaInside, delta_inside, and_l}
use Rattle.values.specs.Keys.{skip_of, key_at, key_parts}
use Rattle.records.proofs.Places.{key_no, key-place}
use Rattle.delta.specs.Read.{typed, delta_is, key_to, key_in}
use Rattle.std.proofs.Common.{Option, Some, None}
use Rattle.values.specs.declared.KeyParts.{KeyParts}

delta_no : (d : Delta) → None ≡ Some d → ⊥
delta_no d e = let z : ◌≡◌ {A = ℕ} 0 1 = cc in omega arith

pub is-inside : (s : List ℕ) (a : Addr) (node : ℕ) (d : Delta) → delta_is s a node ≡ Some d → DeltaInside s d
unfolding delta_is
is-inside s a node d e = go (delta_at s a) refl e
  where
    go : (r : Option Delta) → delta_at s a ≡ r → typed node r ≡ Some d → DeltaInside s d
    go (Some x) q e' =
        let a1 = ask (eqb x.node_type node) (Some x) None (Some d) (delta_no d) e' in
        delta_inside s a d (q ∙ a1.1)
    go None q e' = absurd (delta_no d e')

pub key-ends : (s : List ℕ) (a : Addr) (node : ℕ) (d : Delta) → delta_is s a node ≡ Some d → d.val_at ≤ length s
key-ends s a node d e = let i = is-inside s a node d e in omega (arith, i.val, i.arena)

pub val-ends : (s : List ℕ) (a : Addr) (node : ℕ) (d : Delta) → delta_is s a node ≡ Some d → d.end ≤ length s
val-ends s a node d e = (is-inside s a node d e).arena

-- the key that was read is the one that the bytes say, and fills its length
pub record Filled (s : List ℕ) (d : Delta) (kind v r n : ℕ) : Type 0 where
  pub ver : v + skip_of kind ≡ r
  pub ends : r + n ≤ d.val_at
  pub small : n ≤ max_key

pub key-filled : (s : List ℕ) (d : Delta) (kind v r n : ℕ) → d.val_at ≤ length s → key_in s d kind ≡ Some (key_parts v r n) → Filled s d kind v r n
unfolding key_in
key-filled s d kind v r n h e = go (key_at (take d.val_at s) d.key_at kind) refl e
  where
    go : (k : Option KeyParts) → key_at (take d.val_at s) d.key_at kind ≡ k → key_to d.val_at k ≡ Some (key_parts v r n) → Filled s d kind v r n
    go (Some k) q e' =
        let a1 = ask (leb k.rest_len max_key && eqb (k.rest_at + k.rest_len) d.val_at) (Some k) None (Some (key_parts v r n)) (key_no v r n) e' in
        let p = key-place (take d.val_at s) d.key_at kind v r n (q ∙ a1.1) in
        let x : k.rest_len ≡ n = cc in
        record { ver = p.ver; ends = omega (arith, p.rest, length-take-le d.val_at s h); small = omega (arith, leb-true k.rest_len max_key (and_l (leb k.rest_len 4096) (eqb (k.rest_at + k.rest_len) d.val_at) a1.0)) }
    go None q e' = absurd (key_no v r n e')

pub ver-ends : (s : List ℕ) (a : Addr) (d : Delta) → delta_is s a 1 ≡ Some d → (v r n : ℕ) → key_in s d 0 ≡ Some (key_parts v r n) → v + 12 ≤ length s
unfolding skip_of
ver-ends s a d e v r n k =
    let h = key-ends s a 1 d e in
    let f = key-filled s d 0 v r n h k in
    omega (arith, f.ver, f.ends, h)
