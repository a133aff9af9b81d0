-- A key against a probe, by how its bytes stand: only an equal one asks for the version.
-- Assumes nothing.
use Prim.Native.Nat.{ℕ, ◌+◌, ◌-◌, ◌≤◌}
use mathlib.Core.Path.{◌≡◌, refl, ap, ◌∙◌}
use native.Mathlib.Omega.{arith}
use lib.ListN.{length, take, drop}
use mathlib.Core.Bool.{Bool, true, false, cond}
use mathlib.Core.List.{List}
use Rattle.spans.specs.Span.{part}
use Rattle.spans.proofs.Part.{length_part}
use Rattle.order.specs.Order.{cmp_bytes}
use Rattle.frames.specs.declared.Body.{Body}
use Rattle.records.specs.Records.{key_at_slot}
use Rattle.sst.specs.declared.Want.{Want}
use Rattle.sst.specs.Halve.{asked, lowered}
use Rattle.sst.specs.Search.{newer_at, cmp_read, key_cmp}
use Rattle.sst.specs.Narrow.{equal_at}
use Rattle.std.proofs.Common.{Option, Some, None}
use Rattle.std.specs.declared.cmp.Ordering.{Ordering}
use Rattle.values.specs.Keys.{key_parts}

pub twice : (t : Bool) (x : Option Ordering) → cond t x x ≡ x
twice true x = refl
twice false x = refl

module _ (s : List ℕ) (b : Body) (rest : List ℕ) (w : Want) (v at n : ℕ) where
  abbrev read : Ordering → Option Ordering
  read c = cond w.lower (lowered (newer_at s b.kind v w.ver) (asked c)) (asked c)

  module _ (i : ℕ) (k : key_at_slot s b i ≡ Some (key_parts v at n)) where
    by_bytes : (c : Ordering) → cmp_bytes (part s at n) rest ≡ c → key_cmp s b rest w i ≡ read c
    unfolding key_cmp
    by_bytes c e = ap (cmp_read s b rest w) k ∙ ap read e

    pub key-less : cmp_bytes (part s at n) rest ≡ Ordering.Less → key_cmp s b rest w i ≡ Some Ordering.Less
    key-less e = by_bytes Ordering.Less e ∙ twice w.lower (Some Ordering.Less)

    pub key_greater : cmp_bytes (part s at n) rest ≡ Ordering.Greater → key_cmp s b rest w i ≡ Some Ordering.Greater
    key_greater e = by_bytes Ordering.Greater e ∙ twice w.lower (Some Ordering.Greater)

    pub key_equal : cmp_bytes (part s at n) rest ≡ Ordering.Equal → key_cmp s b rest w i ≡ equal_at s b.kind v w
    key_equal e = by_bytes Ordering.Equal e

pub key_bad : (s : List ℕ) (b : Body) (rest : List ℕ) (w : Want) (i : ℕ) → key_at_slot s b i ≡ None → key_cmp s b rest w i ≡ None
unfolding key_cmp
key_bad s b rest w i k = ap (cmp_read s b rest w) k

-- the key as it was lent
pub lent : (s rest : List ℕ) (at n : ℕ) → cmp_bytes (take (at + n - at) (drop at s)) rest ≡ cmp_bytes (part s at n) rest
unfolding part
lent s rest at n = let e : at + n - at ≡ n = omega arith in ap (λ (z : ℕ). cmp_bytes (take z (drop at s)) rest) e

pub lent_length : (s : List ℕ) (at n : ℕ) → at + n ≤ length s → length (take (at + n - at) (drop at s)) ≡ n
unfolding part
lent_length s at n h = let e : at + n - at ≡ n = omega arith in ap (λ (z : ℕ). length (take z (drop at s))) e ∙ length_part s at n h
