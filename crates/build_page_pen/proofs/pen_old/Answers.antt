-- `build_page_pen::pen_old` meets its contract. Assumes nothing.
use mathlib.Core.Path.{ap}
use Rattle.build_pen.specs.declared.Nib.{Nib}
use native.Mathlib.Omega.{arith}
use Rattle.build_page_pen.proofs.Marking.{old_asks, old-remote, old_done}
use Rattle.build_page_pen.proofs.pen_old.Goals as goal

pub overflow_sub-q : goal.overflow_sub-q
overflow_sub-q c = c.requires.asks.above

pub overflow_cast-q : goal.overflow_cast-q
overflow_cast-q c = omega (arith, c.requires.asks.small)

pub put_u32-requires : goal.put_u32-requires
put_u32-requires c = c.requires.asks.slot-room

pub put_old-n-requires : goal.put_old-n-requires
put_old-n-requires c = let all = old_asks _ _ _ _ _ _ c.requires.old_below c.requires.above c.requires.asks _ c.put_u32.ensures _ c.remote_addr-addr.ensures in record {
  old_below = all.0;
  o_in_bounds = all.1;
}

pub put_remote-g-requires : goal.put_remote-g-requires
put_remote-g-requires c = let all = old-remote _ _ _ _ _ _ c.requires.old_below c.requires.above c.requires.asks _ c.put_u32.ensures _ c.remote_addr-addr.ensures _ c.put_old-n.ensures.a_after in record {
  value_below = all.0;
  next_le_at = all.1.0;
  remote_in_bounds = all.1.1;
}

pub overflow_add-result : goal.overflow_add-result
overflow_add-result c = omega (arith, c.requires.asks.slot-room, c.well_formed.0)

pub overflow_add-result-2 : goal.overflow_add-result-2
overflow_add-result-2 c = let z = ap (λ (n : Nib). n.rec) (old_done _ _ _ _ _ _ c.requires.old_below c.requires.above c.requires.asks _ c.put_u32.ensures _ c.remote_addr-addr.ensures _ c.put_old-n.ensures.a_after _ _ _ c.put_old-n.ensures.value c.put_remote-g.ensures.value c.put_remote-g.ensures.a_after).0 in omega (arith, z, c.requires.asks.rec-room, c.well_formed.0)

pub returns : goal.returns
returns c = let all = old_done _ _ _ _ _ _ c.requires.old_below c.requires.above c.requires.asks _ c.put_u32.ensures _ c.remote_addr-addr.ensures _ c.put_old-n.ensures.a_after _ _ _ c.put_old-n.ensures.value c.put_remote-g.ensures.value c.put_remote-g.ensures.a_after in record {
  value = all.0;
  a_after = all.1;
}
