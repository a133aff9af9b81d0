use native.Mathlib.Omega.{arith}
use Prim.Native.Nat.{◌+◌}
use Rattle.build_heads.proofs.Slots.{step_old, step_head}
use Rattle.build_image.proofs.Lengths.{key_most, size_most}
use Rattle.build_heads.proofs.slot_step.Goals as goal

pub returns-then-i : goal.returns-then-i
returns-then-i c = step_old _ _ _ c.requires.placed _ _ _ c.if-i.true

pub overflow_add-i : goal.overflow_add-i
overflow_add-i c = omega (arith, c.requires.placed.ksmall)

pub key_len-requires : goal.key_len-requires
key_len-requires c = (c.requires.placed.ksmall, c.requires.p_bound)

pub overflow_cast-i : goal.overflow_cast-i
overflow_cast-i c = omega (arith, c.requires.placed.vsmall)

pub overflow_add-result : goal.overflow_add-result
overflow_add-result c = omega (arith, c.requires.placed.ksmall, c.key_len.ensures, key_most c.args.p (c.args.i.key.plen + c.args.i.key.klen), c.calc_size.ensures, size_most c.has_old-h.result c.args.limit c.args.i.vlen c.requires.placed.vsmall)

pub returns : goal.returns
returns c = step_head _ _ _ c.requires.placed _ _ _ c.if-i.false _ _ _ c.has_old-h.ensures c.key_len.ensures c.calc_size.ensures
