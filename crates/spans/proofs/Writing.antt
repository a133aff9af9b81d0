-- A writer that goes up in address. `Writing a₀ low whole a to x`: the arena is now `a`, the bytes `x` are still to be stored from `to`
-- on, and with them it is `whole`. What lies below `low` is as it was in `a₀`. One law, `wrote`, serves every store of every pass.
-- Assumes nothing.
use mathlib.Core.Path.{◌≡◌, refl, sym, ap, ◌∙◌}
use mathlib.Core.List.{List, [], ◌∷◌, ◌++◌}
use Prim.Native.Nat.{ℕ, ◌+◌, ◌≤◌}
use native.Mathlib.Omega.{arith}
use lib.ListN.{length, take, set, length-append}
use Rattle.spans.specs.Span.{put}
use Rattle.spans.proofs.Put.{length-put, put-append, take_put, put_nil, put_one}

pub record Writing (a₀ : List ℕ) (low : ℕ) (whole a : List ℕ) (to : ℕ) (x : List ℕ) : Type 0 where
  pub goes : put a to x ≡ whole
  pub room : to + length x ≤ length a
  pub over : low ≤ to
  pub long : length a ≡ length a₀
  pub same : take low a ≡ take low a₀

pub begin : (a : List ℕ) (low at : ℕ) (x : List ℕ) → low ≤ at → at + length x ≤ length a → Writing a low (put a at x) a at x
begin a low at x h k = record { goes = refl; room = k; over = h; long = refl; same = refl }

-- the front of what is left has been stored
pub wrote : (a₀ : List ℕ) (low : ℕ) (whole a : List ℕ) (to : ℕ) (z x y : List ℕ) (a' : List ℕ) (to' : ℕ) → Writing a₀ low whole a to z
    → z ≡ x ++ y → a' ≡ put a to x → to' ≡ to + length x → Writing a₀ low whole a' to' y
wrote a₀ low whole a to z x y a' to' h e p q =
    rw (p, q)
    (record {
      goes = sym (put-append a to x y) ∙ ap (λ (s : List ℕ). put a to s) (sym e) ∙ h.goes;
      room = rw length-put (omega (arith, ap length e, length-append x y, h.room));
      over = omega (arith, h.over);
      long = length-put a to x ∙ h.long;
      same = take_put low a to x h.over ∙ h.same;
    })

-- all of it has been stored
pub finished : (a₀ : List ℕ) (low : ℕ) (whole a : List ℕ) (to : ℕ) (x : List ℕ) → Writing a₀ low whole a to x → x ≡ [] → a ≡ whole
finished a₀ low whole a to x h e = sym (put_nil a to) ∙ ap (λ (s : List ℕ). put a to s) (sym e) ∙ h.goes

-- there is room for the front of what is left
pub front : (a₀ : List ℕ) (low : ℕ) (whole a : List ℕ) (to : ℕ) (z x y : List ℕ) → Writing a₀ low whole a to z → z ≡ x ++ y → to + length x ≤ length a
front a₀ low whole a to z x y h e = omega (arith, ap length e, length-append x y, h.room)

-- one byte
pub wrote_byte : (a₀ : List ℕ) (low : ℕ) (whole a : List ℕ) (to : ℕ) (z : List ℕ) (b : ℕ) (y : List ℕ) → Writing a₀ low whole a to z → z ≡ b ∷ y
    → Writing a₀ low whole (set a to b) (to + 1) y
wrote_byte a₀ low whole a to z b y h e = wrote a₀ low whole a to z (b ∷ []) y (set a to b) (to + 1) h e (sym (put_one a to b)) refl
