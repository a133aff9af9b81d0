use mathlib.Core.Path.{◌≡◌, sym, ap, ap₂, ◌∙◌}
use Prim.Native.Nat.{ℕ, ◌+◌, ◌*◌, ◌-◌}
use native.Mathlib.Omega.{arith}
use lib.ListN.{get_or, drop}
use Rattle.lengths.specs.Leb128.{within, carry, dec}
use Rattle.lengths.proofs.Laws.{weight, weight_four, weight_step, weight_le, product_le, below_next, read-end, read_one, read_first, step_end, step_none, step_zero, step_last, step_above, step_more}
use Rattle.lengths.proofs.read.Goals as goal

pub returns-in_default : goal.returns-in_default
returns-in_default c = sym (read-end c.args.s.now c.args.at c.in_default.ensures.lookup.3)

pub returns-then-first-lt128 : goal.returns-then-first-lt128
returns-then-first-lt128 c = let f = c.in-Some.ensures.lookup.3 in
    rw (f.1 0) (sym (read_one c.args.s.now c.args.at f.0 (omega (arith, f.1 0))))

pub loop-k-init : goal.loop-k-init
loop-k-init c = let f = c.in-Some.ensures.lookup.3 in
    rw (f.1 0) (sym weight_four, omega (arith, c.type_inv.s c.args.at), omega (arith, f.0), read_first c.args.s.now c.args.at f.0 (omega (arith, f.1 0)))

pub returns-in_default-get : goal.returns-in_default-get
returns-in_default-get c = let l = c.loop-k in
    let a = c.args in
    sym (step_end a.s.now a.at l.v l.p (5 - l.k) (a.at + l.k) l.invariant.3 c.in_default-get.ensures.lookup.3)

pub returns-then-b-eq0 : goal.returns-then-b-eq0
returns-then-b-eq0 c = let l = c.loop-k in
    let a = c.args in
    let f = c.in-Some-get.ensures.lookup.3 in
    sym (step_zero a.s.now a.at l.v l.p (5 - l.k) (a.at + l.k) l.invariant.3 f.0 (omega arith) (sym (f.1 0) ∙ c.if-b-eq0.true))

pub overflow_mul-whole : goal.overflow_mul-whole
overflow_mul-whole c = let l = c.loop-k in
    let b = c.in-Some-get.field-0.now in
    omega (arith, product_le l.p b (omega (arith, weight_le (5 - l.k))) (omega arith))

pub overflow_add-whole : goal.overflow_add-whole
overflow_add-whole c = let l = c.loop-k in
    let b = c.in-Some-get.field-0.now in
    omega (arith, weight_le (5 - l.k), product_le l.p b (omega (arith, weight_le (5 - l.k))) (omega arith))

pub returns-then-whole-lt4294967296 : goal.returns-then-whole-lt4294967296
returns-then-whole-lt4294967296 c = let l = c.loop-k in
    let a = c.args in
    let f = c.in-Some-get.ensures.lookup.3 in
    rw (f.1 0) (sym (step_last a.s.now a.at l.v l.p (5 - l.k) (a.at + l.k) l.invariant.3 f.0 (omega arith) (omega (arith, f.1 0)) (omega (arith, f.1 0, c.if-b-eq0.false)) (rw (f.1 0) at c.if-whole-lt4294967296.true)))

pub returns-then-b-lt128 : goal.returns-then-b-lt128
returns-then-b-lt128 c = let l = c.loop-k in
    let a = c.args in
    let f = c.in-Some-get.ensures.lookup.3 in
    sym (step_above a.s.now a.at l.v l.p (5 - l.k) (a.at + l.k) l.invariant.3 f.0 (omega arith) (omega (arith, f.1 0)) (omega (arith, f.1 0, c.if-b-eq0.false)) (rw (f.1 0) at c.if-whole-lt4294967296.false))

pub overflow_mul-v : goal.overflow_mul-v
overflow_mul-v c = let l = c.loop-k in
    let b = c.in-Some-get.field-0.now in
    omega (arith, product_le l.p (b - 128) (omega (arith, weight_le (5 - l.k))) (omega (arith, c.in-Some-get.ensures.lookup.3.1 0, c.type_inv.s (c.args.at + l.k))))

pub overflow_add-v : goal.overflow_add-v
overflow_add-v c = let l = c.loop-k in
    let b = c.in-Some-get.field-0.now in
    omega (arith, weight_le (5 - l.k), product_le l.p (b - 128) (omega (arith, weight_le (5 - l.k))) (omega (arith, c.in-Some-get.ensures.lookup.3.1 0, c.type_inv.s (c.args.at + l.k))))

pub overflow_mul-p : goal.overflow_mul-p
overflow_mul-p c = omega (arith, weight_le (5 - c.loop-k.k))

pub loop-k-preserved : goal.loop-k-preserved
loop-k-preserved c = let l = c.loop-k in
    let a = c.args in
    let f = c.in-Some-get.ensures.lookup.3 in
    let k : 5 - l.k - 1 ≡ 5 - (l.k + 1) = omega arith in
    let here : a.at + l.k + 1 ≡ a.at + (l.k + 1) = omega arith in
    rw (f.1 0) (
      ap (λ (x : ℕ). x * 128) l.invariant.0 ∙ weight_step (5 - l.k) (omega arith) (omega arith) ∙ ap weight k,
      below_next l.v l.p (get_or a.s.now (a.at + l.k) 0 - 128) (omega arith) (omega (arith, c.type_inv.s (a.at + l.k))),
      omega (arith, f.0),
      step_more a.s.now a.at l.v l.p (5 - l.k) (a.at + l.k) l.invariant.3 f.0 (omega arith) (omega (arith, f.1 0))
          ∙ ap₂ (λ (m n : ℕ). within (carry (l.v + l.p * (get_or a.s.now (a.at + l.k) 0 - 128)) (l.p * 128) (dec m (drop n a.s.now) n))) k here,
    )

pub returns : goal.returns
returns c = let l = c.loop-k in
    let a = c.args in
    sym (step_none a.s.now a.at l.v l.p (5 - l.k) (a.at + l.k) l.invariant.3 (omega arith))
