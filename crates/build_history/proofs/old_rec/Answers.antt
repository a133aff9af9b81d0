use native.Mathlib.Omega.{arith}
use Rattle.build_history.proofs.Straight.{rec-fits, rec_asks, rec-end}
use Rattle.build_history.proofs.old_rec.Goals as goal

pub overflow_add-at : goal.overflow_add-at
overflow_add-at c = let z = rec-fits _ _ _ _ _ _ _ c.requires.footing_le_at c.requires.placed c.requires.i_in_bounds _ _ c.write_ver-k.ensures in omega arith

pub put_val-requires : goal.put_val-requires
put_val-requires c = let all = rec_asks _ _ _ _ _ _ _ c.requires.footing_le_at c.requires.placed c.requires.i_in_bounds _ _ c.write_ver-k.ensures in record {
  footing_le_at = all.0;
  placed = all.1.0;
  i_in_bounds = all.1.1;
}

pub returns : goal.returns
returns c = rec-end _ _ _ _ _ _ _ c.requires.footing_le_at c.requires.placed c.requires.i_in_bounds _ _ c.write_ver-k.ensures _ c.put_val.ensures
