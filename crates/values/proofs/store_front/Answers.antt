use mathlib.Core.Path.{◌≡◌, ap}
use mathlib.Core.List.{List, ◌++◌}
use Prim.Native.Nat.{ℕ, ◌+◌}
use native.Mathlib.Omega.{arith}
use lib.ListN.{length, length-append}
use Rattle.spans.specs.Span.{put}
use Rattle.spans.proofs.Put.{put-append}
use Rattle.numbers.specs.Number.{le}
use Rattle.numbers.proofs.Numbers.{put_then, length-le}
use Rattle.values.specs.Vals.{flag_of, hist_bytes, front_bytes}
use Rattle.values.specs.declared.HistRef.{HistRef}
use mathlib.Core.Bool.{Bool}
use Rattle.values.proofs.store_front.Goals as goal

long : (h : HistRef) (remote : Bool) (n : ℕ) → length (front_bytes h remote n) ≡ 1 + (length (hist_bytes h) + 4)
unfolding front_bytes
long h remote n = simp (length-append, length-le)

-- the three stores are one, said of lists alone

stored : (b₀ b₁ b₂ b₃ : List ℕ) (at g f p n : ℕ) (x : List ℕ) → g ≡ f → b₁ ≡ put b₀ at (le 1 g) → b₂ ≡ put b₁ (at + 1) x → p ≡ at + 1 + length x → b₃ ≡ put b₂ p (le 4 n)
    → b₃ ≡ put b₀ at (le 1 f ++ (x ++ le 4 n))
stored b₀ b₁ b₂ b₃ at g f p n x e h i j k = cc (put_then b₀ at 1 f (x ++ le 4 n), put-append (put b₀ at (le 1 f)) (at + 1) x (le 4 n))

pub put_u8-requires : goal.put_u8-requires
put_u8-requires c = omega (arith, long c.args.h c.args.remote c.args.n)

pub store_hist-p-requires : goal.store_hist-p-requires
store_hist-p-requires c = omega (arith, long c.args.h c.args.remote c.args.n, c.put_u8.auto.buf)

pub put_u32-requires : goal.put_u32-requires
put_u32-requires c = omega (arith, long c.args.h c.args.remote c.args.n, c.store_hist-p.ensures.0, c.store_hist-p.auto.buf, c.put_u8.auto.buf)

pub overflow_add-result : goal.overflow_add-result
overflow_add-result c = omega (arith, long c.args.h c.args.remote c.args.n, c.store_hist-p.ensures.0)

pub returns : goal.returns
unfolding front_bytes
returns c = let a = c.args in (
  omega (arith, long a.h a.remote a.n, c.store_hist-p.ensures.0),
  stored a.buf.now _ _ _ a.at _ (flag_of a.h.count a.remote) _ a.n (hist_bytes a.h) c.flag_of-flag.ensures c.put_u8.ensures c.store_hist-p.ensures.1 c.store_hist-p.ensures.0 c.put_u32.ensures,
)
