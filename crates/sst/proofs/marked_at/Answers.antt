use native.Mathlib.Omega.{arith}
use Prim.Native.Nat.{ℕ, ◌+◌}
use mathlib.Core.Path.{ap}
use Rattle.sst.proofs.Narrows.{none_marked, is_marked}
use Rattle.sst.proofs.marked_at.Goals as goal

pub returns-then-p-b : goal.returns-then-p-b
returns-then-p-b c = none_marked c.args.s.now c.args.b c.args.i c.args.mark

pub returns-then-b-p : goal.returns-then-b-p
returns-then-b-p c = none_marked c.args.s.now c.args.b c.args.i c.args.mark

pub overflow_cast-s : goal.overflow_cast-s
overflow_cast-s c = omega (arith, c.type_inv.s (c.args.b.at + c.read_u32.result))

pub returns-then-s-p : goal.returns-then-s-p
returns-then-s-p c = none_marked c.args.s.now c.args.b c.args.i c.args.mark

pub returns : goal.returns
returns c = let b = c.args.b in
    let byte = c.type_inv.s (b.at + c.read_u32.result) in
    is_marked c.args.s.now b c.args.i c.args.mark (b.at + c.read_u32.result) c.requires.inside c.requires.i_lt_elems.0 (ap (λ (k : ℕ). b.at + k) c.read_u32.ensures) c.if-p-b.false c.if-b-p.false c.if-s-p.false (omega (arith, byte, c.if-s-p.false))
