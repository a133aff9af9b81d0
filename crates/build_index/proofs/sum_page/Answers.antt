-- `build_index::sum_page` meets its contract. Assumes nothing.
use native.Mathlib.Omega.{arith}
use Rattle.build_index.proofs.Children.{child-here, count_begin, count-end, count_small, count_turn, count_fits}
use Rattle.build_index.proofs.sum_page.Goals as goal

pub loop-i-init : goal.loop-i-init
loop-i-init c = count_begin _ _ _ _ _

pub child_here-c-requires : goal.child_here-c-requires
child_here-c-requires c = record {
  judged = c.requires.judged;
  i_lt_elems = omega (arith, c.requires.end_le_elems.0, c.loop-i-test.true);
}

pub overflow_add-b : goal.overflow_add-b
overflow_add-b c = omega (arith, (child-here _ _ _ _ _ c.requires.judged c.requires.end_le_elems.0 c.loop-i-test.true c.child_here-c.ensures).small)

pub overflow_cast-less : goal.overflow_cast-less
overflow_cast-less c = omega (arith, c.less.ensures, (child-here _ _ _ _ _ c.requires.judged c.requires.end_le_elems.0 c.loop-i-test.true c.child_here-c.ensures).small)

pub overflow_add-n : goal.overflow_add-n
overflow_add-n c = omega (arith, count_small _ _ _ _ _ _ _ c.loop-i.invariant c.loop-i-test.true _ (child-here _ _ _ _ _ c.requires.judged c.requires.end_le_elems.0 c.loop-i-test.true c.child_here-c.ensures) _ _ c.less.ensures c.index_key_size.ensures)

pub overflow_add-n-in-loop-i : goal.overflow_add-n-in-loop-i
overflow_add-n-in-loop-i c = omega (arith, count_fits _ _ _ _ _ _ _ c.loop-i.invariant c.loop-i-test.true _ (child-here _ _ _ _ _ c.requires.judged c.requires.end_le_elems.0 c.loop-i-test.true c.child_here-c.ensures) _ _ c.less.ensures c.index_key_size.ensures c.requires.end_le_elems.1)

pub loop-i-preserved : goal.loop-i-preserved
loop-i-preserved c = count_turn _ _ _ _ _ _ _ c.loop-i.invariant c.loop-i-test.true _ (child-here _ _ _ _ _ c.requires.judged c.requires.end_le_elems.0 c.loop-i-test.true c.child_here-c.ensures) _ _ c.less.ensures c.index_key_size.ensures

pub returns : goal.returns
returns c = let all = count-end _ _ _ _ _ _ _ c.loop-i.invariant c.loop-i-test.false in record {
  value = all.0;
  upper_bound = all.1;
}
