-- What the two numbers decide: of short strings all, behind a common front what eight bytes say.
-- Assumes nothing.
use mathlib.Core.Path.{◌≡◌, refl, sym, ◌∙◌}
use mathlib.Core.List.{List}
use mathlib.Core.Bool.{true}
use Prim.Native.Nat.{ℕ, ◌+◌, ◌≤◌, ◌<◌}
use native.Mathlib.Omega.{arith}
use lib.ListN.{length, take, drop}
use Rattle.numbers.specs.Number.{Bytes, be_at}
use Rattle.std.specs.declared.cmp.Ordering.{Ordering}
use Rattle.order.specs.Order.{by_number, cmp_bytes}
use Rattle.order.proofs.Laws.{case_order, is-less, is_greater, is_same}
use Rattle.order.proofs.Words.{step}
use Rattle.order_pair.specs.declared.Pair.{Pair}
use Rattle.order_pair.specs.Word.{word_of}
use Rattle.order_pair.specs.Apart.{StandsAs}
use Rattle.order_pair.proofs.Overlap.{behind, ends_level}
use Rattle.order_pair.proofs.Joined.{by_word}

-- numbers that differ, whatever follows
unlike : (x y : ℕ) (k l : Ordering) → (x ≡ y → ⊥) → by_number x y k ≡ by_number x y l
unlike x y k l h =
    case_order x y (λ p. is-less x y k p ∙ sym (is-less x y l p)) (λ p. absurd (h p)) (λ p. is_greater x y k p ∙ sym (is_greater x y l p))

module _ (a b : List ℕ) (ha : Bytes a) (hb : Bytes b) (e : length a ≡ length b) (r : Pair) where
  pub short : length b < 8 → r.x ≡ word_of a → r.y ≡ word_of b → StandsAs a b r
  short l ex ey =
      let z : cmp_bytes a b ≡ by_number r.x r.y Ordering.Equal = rw (ex, ey) (by_word a b ha hb (length b) (sym e) refl l) in
      record { differ = λ h. z; same = λ h w. z ∙ is_same r.x r.y Ordering.Equal h }

  pub long : (k : ℕ) → k + 8 ≤ length b → take k a ≡ take k b → r.x ≡ be_at 8 a k → r.y ≡ be_at 8 b k → (r.whole ≡ true → k + 8 ≡ length b) → StandsAs a b r
  long k l f ex ey all =
      let rest : Ordering = cmp_bytes (drop (k + 8) a) (drop (k + 8) b) in
      let z : cmp_bytes a b ≡ by_number r.x r.y rest = behind a b k f ∙ rw (ex, ey) (step a b ha hb 8 k (omega arith) l) in
      record {
        differ = λ h. z ∙ unlike r.x r.y rest Ordering.Equal h;
        same = λ h w. z ∙ is_same r.x r.y rest h ∙ ends_level a b (k + 8) (all w ∙ sym e) e;
      }
