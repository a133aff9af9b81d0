-- `build_pen::put_old` meets its contract. Assumes nothing.
use native.Mathlib.Omega.{arith}
use Rattle.build_pen.proofs.Writing.{old-fits, old-room, old_done}
use Rattle.build_pen.proofs.put_old.Goals as goal

pub overflow_add-at : goal.overflow_add-at
overflow_add-at c = omega (arith, old-fits _ _ _ _ _ c.requires.i_in_bounds _ c.ver_in-v.ensures _ _ c.write_ver-k.ensures, c.well_formed.0)

pub put_value-n-requires : goal.put_value-n-requires
put_value-n-requires c = record {
  inside = c.requires.inside;
  i_in_bounds = old-room _ _ _ _ _ c.requires.i_in_bounds _ c.ver_in-v.ensures _ _ c.write_ver-k.ensures;
}

pub overflow_add-result : goal.overflow_add-result
overflow_add-result c = let z = (old_done _ _ _ _ _ c.requires.i_in_bounds _ c.ver_in-v.ensures _ _ c.write_ver-k.ensures _ _ c.put_value-n.ensures.value c.put_value-n.ensures.a_after).0 in omega (arith, z, c.requires.i_in_bounds, c.well_formed.0)

pub returns : goal.returns
returns c = let all = old_done _ _ _ _ _ c.requires.i_in_bounds _ c.ver_in-v.ensures _ _ c.write_ver-k.ensures _ _ c.put_value-n.ensures.value c.put_value-n.ensures.a_after in record {
  value = all.0;
  a_after = all.1;
}
