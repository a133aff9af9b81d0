-- `build_rows::key_here` meets its contract. Assumes nothing.
use native.Mathlib.Omega.{arith}
use Prim.Native.Nat.{◌+◌}
use mathlib.Core.Path.{sym, ◌∙◌}
use Rattle.build_rows.proofs.Heads.{slot-room, first-room, short-here, rec-room, not_bad, long-here}
use Rattle.build_rows.proofs.key_here.Goals as goal

pub overflow_mul-i : goal.overflow_mul-i
overflow_mul-i c = omega (arith, slot-room c.args.s.now c.args.b c.args.i c.requires)

pub overflow_add-b-2 : goal.overflow_add-b-2
overflow_add-b-2 c = omega (arith, slot-room c.args.s.now c.args.b c.args.i c.requires)

pub read_u32-requires : goal.read_u32-requires
read_u32-requires c = slot-room c.args.s.now c.args.b c.args.i c.requires

pub overflow_add-p : goal.overflow_add-p
overflow_add-p c = omega (arith, first-room c.args.s.now c.args.b c.args.i c.requires c.read_u32.result c.read_u32.ensures)

pub bounds-s-p : goal.bounds-s-p
bounds-s-p c = first-room c.args.s.now c.args.b c.args.i c.requires c.read_u32.result c.read_u32.ensures

pub overflow_cast-n : goal.overflow_cast-n
overflow_cast-n c = omega (arith, c.type_inv.s (c.args.b.at + c.read_u32.result))

pub overflow_add-result : goal.overflow_add-result
overflow_add-result c = omega (arith, first-room c.args.s.now c.args.b c.args.i c.requires c.read_u32.result c.read_u32.ensures)

pub returns-then-n-lt128 : goal.returns-then-n-lt128
returns-then-n-lt128 c = short-here c.args.s.now c.args.b c.args.i c.requires c.read_u32.result c.read_u32.ensures c.if-n-lt128.true

pub overflow_add-result-in_default : goal.overflow_add-result-in_default
overflow_add-result-in_default c = omega (arith, first-room c.args.s.now c.args.b c.args.i c.requires c.read_u32.result c.read_u32.ensures)

pub returns-in_default : goal.returns-in_default
returns-in_default c = absurd (not_bad c.args.s.now c.args.b c.args.i c.requires (sym c.rec_at.ensures ∙ c.in_default.is))

pub overflow_sub-result : goal.overflow_sub-result
overflow_sub-result c = (rec-room c.args.s.now c.args.b c.args.i c.requires c.in-Some.r (sym c.rec_at.ensures ∙ c.in-Some.is)).0

pub overflow_add-result-2 : goal.overflow_add-result-2
overflow_add-result-2 c = omega (arith, c.well_formed, c.ranges, rec-room c.args.s.now c.args.b c.args.i c.requires c.in-Some.r (sym c.rec_at.ensures ∙ c.in-Some.is))

pub returns : goal.returns
returns c = long-here c.args.s.now c.args.b c.args.i c.requires c.in-Some.r (sym c.rec_at.ensures ∙ c.in-Some.is)
