use native.Mathlib.Omega.{arith}
use mathlib.Core.Path.{◌∙◌}
use Prim.Native.Nat.{◌+◌}
use lib.Dec.{ltb}
use Rattle.build_image.proofs.Lengths.{key_most, size_most}
use Rattle.build_heads.proofs.HeadPass.{rec_none, rec-room, rec_one, rec-long, some-any, old_of}
use Rattle.build_heads.proofs.put_head.Goals as goal

pub returns-then-i : goal.returns-then-i
returns-then-i c = let all = rec_none _ _ _ _ _ _ _ (old_of _ _ _ ∙ c.if-i.true) in record {
  value = all.0;
  a_after = all.1;
}

pub overflow_add-i : goal.overflow_add-i
overflow_add-i c = omega (arith, c.requires.placed.ksmall)

pub key_len-k-requires : goal.key_len-k-requires
key_len-k-requires c = (c.requires.placed.ksmall, c.requires.p_bound)

pub overflow_cast-i : goal.overflow_cast-i
overflow_cast-i c = omega (arith, c.requires.placed.vsmall)

pub overflow_add-n : goal.overflow_add-n
overflow_add-n c = omega (arith, c.requires.placed.ksmall, c.key_len-k.ensures, key_most c.args.p (c.args.i.key.plen + c.args.i.key.klen), c.calc_size.ensures, size_most (ltb 0 c.args.h.count) c.args.limit c.args.i.vlen c.requires.placed.vsmall)

pub head_rec-requires : goal.head_rec-requires
head_rec-requires c = record {
  footing_le_at = c.requires.footing_le_at;
  placed = c.requires.placed;
  p_bound = c.requires.p_bound;
  i_in_bounds = rec-room c.args.a.now c.args.at c.args.limit c.args.p c.args.remote c.args.h _ (old_of _ _ _ ∙ c.if-i.false) c.requires.i_in_bounds;
}

pub overflow_add-result : goal.overflow_add-result
overflow_add-result c = let z = rec-long _ _ _ c.requires.placed c.args.limit c.args.p c.args.remote c.args.h _ _ _ c.key_len-k.ensures c.calc_size.ensures (some-any c.args.h.count) in let y = rec-room c.args.a.now c.args.at c.args.limit c.args.p c.args.remote c.args.h _ (old_of _ _ _ ∙ c.if-i.false) c.requires.i_in_bounds in omega (arith, z, y, c.well_formed.0)

pub returns : goal.returns
returns c = let all = rec_one _ _ _ _ _ _ _ (old_of _ _ _ ∙ c.if-i.false) _ _ (rec-long _ _ _ c.requires.placed c.args.limit c.args.p c.args.remote c.args.h _ _ _ c.key_len-k.ensures c.calc_size.ensures (some-any c.args.h.count)) c.head_rec.ensures in record {
  value = all.0;
  a_after = all.1;
}
