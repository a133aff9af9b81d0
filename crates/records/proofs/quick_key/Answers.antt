-- `records::quick_key` meets its contract. Assumes nothing.
use native.Mathlib.Omega.{arith}
use mathlib.Core.Path.{refl, sym}
use Rattle.records.proofs.Inside.{ends}
use Rattle.records.proofs.Quick.{short-key}
use Rattle.records.proofs.quick_key.Goals as goal

pub slice_bounds-t-end : goal.slice_bounds-t-end
slice_bounds-t-end c = sym (ends c.args.s.now c.args.b c.requires.inside)

pub bounds-t-p : goal.bounds-t-p
bounds-t-p c = omega (arith, ends c.args.s.now c.args.b c.requires.inside, c.requires.p_lt_end)

pub overflow_cast-n : goal.overflow_cast-n
overflow_cast-n c = omega (arith, c.shared_slice_known-1.given c.args.p)

pub returns-then-n-lt12 : goal.returns-then-n-lt12
returns-then-n-lt12 c = λ h. absurd (h refl)

pub returns-then-n-gt127 : goal.returns-then-n-gt127
returns-then-n-gt127 c = λ h. absurd (h refl)

pub returns-then-e-p : goal.returns-then-e-p
returns-then-e-p c = λ h. absurd (h refl)

pub returns-then-b-gt3980 : goal.returns-then-b-gt3980
returns-then-b-gt3980 c = λ h. absurd (h refl)

pub returns : goal.returns
returns c = λ h. short-key c.args.s.now c.args.b c.args.p c.requires.inside c.requires.kind_value c.requires.p_lt_end c.if-n-lt12.false c.if-n-gt127.false c.if-e-p.false c.if-b-gt3980.false
