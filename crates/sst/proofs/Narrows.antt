-- The turns over keys as long as the probe: what the mark says, and one law for each turn.
-- Assumes nothing.
use Prim.Native.Nat.{ℕ, ◌+◌, ◌-◌, ◌≤◌, ◌<◌}
use mathlib.Core.Path.{◌≡◌, refl, sym, ap, ◌∙◌}
use mathlib.Core.Bool.{Bool, true, false, cond}
use mathlib.Core.List.{List}
use native.Mathlib.Omega.{arith}
use borrow.Author.Tests.{le-leb, lt-ltb, le-ltb}
use lib.ListN.{length, get_or, take, drop}
use lib.Seq.{get_or-take}
use lib.Dec.{eqb}
use Rattle.spans.specs.Span.{part}
use Rattle.order.specs.Order.{cmp_bytes}
use Rattle.order_pair.specs.declared.Pair.{Pair}
use Rattle.order_pair.specs.Apart.{StandsAs}
use Rattle.frames.specs.declared.Body.{Body}
use Rattle.frames.specs.Layout.{Inside}
use Rattle.values.specs.Keys.{skip_of, key_parts}
use Rattle.records.specs.Records.{place_of, slot_at, key_in, key_slot, key_at_slot}
use Rattle.records.proofs.Quick.{short_in}
use Rattle.sst.specs.Halve.{mid, halve}
use Rattle.sst.specs.declared.Want.{Want}
use Rattle.sst.specs.Search.{key_cmp}
use Rattle.sst.specs.Narrow.{Marks, MarkedAt, equal_at, IsMet, Goes}
use Rattle.sst.proofs.Compared.{key-less, key_equal, key_greater, lent}
use Rattle.sst.proofs.Opens.{key-at-inside}
use Rattle.sst.proofs.Turns.{turn_less, turn_equal, turn_greater, turn_refuse, halve-end}
use Rattle.std.proofs.Common.{Option, Some, None}
use Rattle.sst.specs.declared.Halved.{Halved}
use Rattle.std.specs.declared.cmp.Ordering.{Ordering}
use Rattle.values.specs.declared.KeyParts.{KeyParts}

-- ---- the mark

no_at : (p : ℕ) → None ≡ Some p → ⊥
no_at p e = let z : ◌≡◌ {A = ℕ} 0 1 = cc in omega arith

same_at : (p q : ℕ) → Some p ≡ Some q → p ≡ q
same_at p q e = cc

pub skip_small : (k : ℕ) → skip_of k ≤ 12
unfolding skip_of
skip_small k = go (eqb k 1)
  where
    go : (t : Bool) → cond t 0 12 ≤ 12
    go true = omega arith
    go false = omega arith

-- no record was found
pub none_marked : (s : List ℕ) (b : Body) (i mark : ℕ) → MarkedAt s b i mark None
none_marked s b i mark = record { key = λ n p m e. absurd (no_at p e) }

-- a slot whose place stands in the page
slot_is : (s : List ℕ) (b : Body) (i p : ℕ) → p ≡ place_of s b i → i < b.elems → b.first ≤ p → p < b.end → slot_at s b i ≡ Some p
unfolding slot_at
slot_is s b i p x h l r = rw (← x, lt-ltb _ _ h, le-leb _ _ l, lt-ltb _ _ r)

key_there : (s : List ℕ) (b : Body) (i p : ℕ) (k : Option KeyParts) → slot_at s b i ≡ Some p → key_in s b p ≡ k → key_at_slot s b i ≡ k
unfolding key_at_slot
key_there s b i p k e h = ap (key_slot s b) e ∙ h

-- a byte that is the mark: the key behind it, of any length that the mark says
pub is_marked : (s : List ℕ) (b : Body) (i mark p : ℕ) → Inside s b → i < b.elems → p ≡ place_of s b i → b.first ≤ p → p + mark < b.end → get_or s p 0 ≡ mark → mark < 256 → MarkedAt s b i mark (Some p)
is_marked s b i mark p z h x l r g t = record { key = go }
  where
    go : (n q : ℕ) → Marks b n mark → Some p ≡ Some q → key_at_slot s b i ≡ Some (key_parts (q + 1) (q + 1 + skip_of b.kind) n)
    go n q m e =
        let byte : get_or (take b.end s) p 0 ≡ mark = get_or-take b.end s p 0 (omega (arith, r)) ∙ g in
        let sum : mark ≡ skip_of b.kind + n = m.sum t in
        let long : get_or (take b.end s) p 0 - skip_of b.kind ≡ n = omega (arith, byte, sum) in
        let there : key_in s b p ≡ Some (key_parts (p + 1) (p + 1 + skip_of b.kind) (get_or (take b.end s) p 0 - skip_of b.kind)) = short_in s b p (skip_of b.kind) z refl (omega (arith, r)) (omega (arith, byte, m.short t)) (m.kind t) (omega (arith, byte, sum)) (omega (arith, byte, r)) (omega (arith, long, m.whole t)) in
        key_there s b i p (Some (key_parts (p + 1) (p + 1 + skip_of b.kind) (get_or (take b.end s) p 0 - skip_of b.kind))) (slot_is s b i p x h l (omega (arith, r))) there
        ∙ ap (λ (k : ℕ). Some (key_parts (p + 1) (p + 1 + skip_of b.kind) k)) long
        ∙ ap (λ (k : ℕ). Some (key_parts (k + 1) (k + 1 + skip_of b.kind) n)) (same_at p q e)

-- the same with the number that the loop holds, and that the key lies in the arena
pub record Lies (s : List ℕ) (b : Body) (i v at n : ℕ) : Type 0 where
  pub key : key_at_slot s b i ≡ Some (key_parts v at n)
  pub inside : at + n ≤ length s

pub marked_lies : (s : List ℕ) (b : Body) (i mark n p skip : ℕ) (r : Option ℕ) → Inside s b → Marks b n mark → MarkedAt s b i mark r → r ≡ Some p → skip ≡ skip_of b.kind → Lies s b i (p + 1) (p + 1 + skip) n
marked_lies s b i mark n p skip r z m a e k =
    let q = a.key n p m e ∙ ap (λ (j : ℕ). Some (key_parts (p + 1) (p + 1 + j) n)) (sym k) in
    record { key = q; inside = omega (arith, (key-at-inside s b i (p + 1) (p + 1 + skip) n z q).rest, z.payload, z.arena) }

-- ---- a turn of the halving

pub goes_begin : (f : ℕ → Option Ordering) (n lo hi reads : ℕ) → hi ≤ n → hi - lo + reads ≤ n → Goes f n lo hi reads lo hi reads
goes_begin f n lo hi reads a b = record { inside = a; fuel = b; less = omega arith; ends = refl }

module _ (f : ℕ → Option Ordering) (n lo₀ hi₀ reads₀ lo hi reads : ℕ) (g : Goes f n lo₀ hi₀ reads₀ lo hi reads) where
  pub goes_on : (lo' hi' reads' : ℕ) → Goes f n lo hi reads lo' hi' reads' → Goes f n lo₀ hi₀ reads₀ lo' hi' reads'
  goes_on lo' hi' reads' k = record { inside = k.inside; fuel = k.fuel; less = omega (arith, g.less, k.less); ends = k.ends ∙ g.ends }

  pub goes-less : lo < hi → f (mid lo hi) ≡ Some Ordering.Less → Goes f n lo₀ hi₀ reads₀ (mid lo hi + 1) hi (reads + 1)
  goes-less h e = record { inside = g.inside; fuel = omega (arith, g.fuel, h); less = omega (arith, g.less, h); ends = sym (turn_less f n lo hi reads h g.fuel e) ∙ g.ends }

  pub goes_greater : lo < hi → f (mid lo hi) ≡ Some Ordering.Greater → Goes f n lo₀ hi₀ reads₀ lo (mid lo hi) (reads + 1)
  goes_greater h e = record { inside = omega (arith, g.inside, h); fuel = omega (arith, g.fuel, h); less = omega (arith, g.less, h); ends = sym (turn_greater f n lo hi reads h g.fuel e) ∙ g.ends }

-- where the whole page was to be halved
module _ (f : ℕ → Option Ordering) (n lo hi reads : ℕ) (g : Goes f n 0 n 0 lo hi reads) where
  ends-whole : halve f (n - reads) lo hi reads ≡ halve f n 0 n 0
  ends-whole = let e : n - 0 ≡ n = omega arith in g.ends ∙ ap (λ (k : ℕ). halve f k 0 n 0) e

  pub goes_equal : lo < hi → f (mid lo hi) ≡ Some Ordering.Equal → Some (Halved.At (mid lo hi) (reads + 1)) ≡ halve f n 0 n 0
  goes_equal h e = sym (turn_equal f n lo hi reads h g.fuel e) ∙ ends-whole

  pub goes_bad : lo < hi → f (mid lo hi) ≡ None → None ≡ halve f n 0 n 0
  goes_bad h e = sym (turn_refuse f n lo hi reads h g.fuel e) ∙ ends-whole

  pub goes_end : hi ≤ lo → Some (Halved.End lo reads) ≡ halve f n 0 n 0
  goes_end h = sym (halve-end f (n - reads) lo hi reads h) ∙ ends-whole

-- ---- a turn over a key as long as the probe

pub none_met : (s : List ℕ) (b : Body) (rest : List ℕ) (i : ℕ) → IsMet s b rest i None
none_met s b rest i = record { key = λ p e. absurd (no_at p e); same = λ p e. absurd (no_at p e) }

-- the key as it was lent, and what the two numbers say of it
module _ (s : List ℕ) (b : Body) (rest : List ℕ) (at : ℕ) (d : Pair) (z : StandsAs (take (at + length rest - at) (drop at s)) rest d) where
  order-less : d.x < d.y → cmp_bytes (part s at (length rest)) rest ≡ Ordering.Less
  order-less h = sym (lent s rest at (length rest)) ∙ z.differ (λ e. omega arith) ∙ rw (lt-ltb d.x d.y h)

  order_greater : (d.x ≡ d.y → ⊥) → d.y ≤ d.x → cmp_bytes (part s at (length rest)) rest ≡ Ordering.Greater
  order_greater n h = sym (lent s rest at (length rest)) ∙ z.differ n ∙ rw (le-ltb d.x d.y h, lt-ltb d.y d.x (omega arith))

  module _ (lo₀ hi₀ reads₀ lo hi reads v : ℕ) (g : (w : Want) → Goes (key_cmp s b rest w) b.elems lo₀ hi₀ reads₀ lo hi reads) (h : lo < hi) (k : key_at_slot s b (mid lo hi) ≡ Some (key_parts v at (length rest))) where
    pub narrow_less : d.x < d.y → (w : Want) → Goes (key_cmp s b rest w) b.elems lo₀ hi₀ reads₀ (mid lo hi + 1) hi (reads + 1)
    narrow_less l w = goes-less (key_cmp s b rest w) b.elems lo₀ hi₀ reads₀ lo hi reads (g w) h (key-less s b rest w v at (length rest) (mid lo hi) k (order-less l))

    pub narrow_greater : (d.x ≡ d.y → ⊥) → d.y ≤ d.x → (w : Want) → Goes (key_cmp s b rest w) b.elems lo₀ hi₀ reads₀ lo (mid lo hi) (reads + 1)
    narrow_greater n l w = goes_greater (key_cmp s b rest w) b.elems lo₀ hi₀ reads₀ lo hi reads (g w) h (key_greater s b rest w v at (length rest) (mid lo hi) k (order_greater n l))

pub narrow_met : (s : List ℕ) (b : Body) (rest : List ℕ) (i p skip : ℕ) (d : Pair) → skip ≡ skip_of b.kind → StandsAs (take (p + 1 + skip + length rest - (p + 1 + skip)) (drop (p + 1 + skip) s)) rest d
    → d.x ≡ d.y → d.whole ≡ true → key_at_slot s b i ≡ Some (key_parts (p + 1) (p + 1 + skip) (length rest)) → IsMet s b rest i (Some p)
narrow_met s b rest i p skip d e z x t k =
    record {
      key = λ q m. k ∙ ap (λ (j : ℕ). Some (key_parts (p + 1) (p + 1 + j) (length rest))) e ∙ ap (λ (j : ℕ). Some (key_parts (j + 1) (j + 1 + skip_of b.kind) (length rest))) (same_at p q m);
      same = λ q m. ap (λ (j : ℕ). cmp_bytes (part s (j + 1 + skip_of b.kind) (length rest)) rest) (sym (same_at p q m)) ∙ ap (λ (j : ℕ). cmp_bytes (part s (p + 1 + j) (length rest)) rest) (sym e) ∙ sym (lent s rest (p + 1 + skip) (length rest)) ∙ z.same x t;
    }

-- the key that was met, as the search compares it
pub met-key : (s : List ℕ) (b : Body) (rest : List ℕ) (w : Want) (i p : ℕ) (m : Option ℕ) → IsMet s b rest i m → m ≡ Some p → equal_at s b.kind (p + 1) w ≡ key_cmp s b rest w i
met-key s b rest w i p m z e = sym (key_equal s b rest w (p + 1) (p + 1 + skip_of b.kind) (length rest) i (z.key p e) (z.same p e))
