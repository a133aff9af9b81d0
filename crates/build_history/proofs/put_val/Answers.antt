use native.Mathlib.Omega.{arith}
use Rattle.build_history.proofs.Straight.{near_asks, near_fits, near-end, away-room, away-fits, away-end}
use Rattle.build_history.proofs.put_val.Goals as goal

pub overflow_add-v : goal.overflow_add-v
overflow_add-v c = let z = near_fits _ _ _ _ _ _ _ _ c.requires.footing_le_at c.requires.placed c.requires.i_in_bounds c.if-n-limit.true _ _ c.write_front-k.ensures in omega arith

pub copy_part-requires : goal.copy_part-requires
copy_part-requires c = let all = near_asks _ _ _ _ _ _ _ _ c.requires.footing_le_at c.requires.placed c.requires.i_in_bounds c.if-n-limit.true _ _ c.write_front-k.ensures in record {
  footing_le_at = all.0;
  n_in_bounds = all.1.0;
  n_in_bounds_2 = all.1.1;
}

pub overflow_add-w : goal.overflow_add-w
overflow_add-w c = let z = away-fits _ _ _ _ _ _ _ _ c.requires.footing_le_at c.requires.placed c.requires.i_in_bounds c.if-n-limit.false _ _ c.write_front-j.ensures in omega arith

pub put_u64-requires : goal.put_u64-requires
put_u64-requires c = away-room _ _ _ _ _ _ _ _ c.requires.footing_le_at c.requires.placed c.requires.i_in_bounds c.if-n-limit.false _ _ c.write_front-j.ensures

pub returns-then-n-limit : goal.returns-then-n-limit
returns-then-n-limit c = near-end _ _ _ _ _ _ _ _ c.requires.footing_le_at c.requires.placed c.requires.i_in_bounds c.if-n-limit.true _ _ c.write_front-k.ensures _ c.copy_part.ensures

pub returns-else-n-limit : goal.returns-else-n-limit
returns-else-n-limit c = away-end _ _ _ _ _ _ _ _ c.requires.footing_le_at c.requires.placed c.requires.i_in_bounds c.if-n-limit.false _ _ c.write_front-j.ensures _ c.remote_addr-addr.ensures _ c.put_u64.ensures
