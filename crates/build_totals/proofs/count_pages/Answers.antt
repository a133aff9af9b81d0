use native.Mathlib.Omega.{arith}
use mathlib.Core.Path.{refl}
use mathlib.Core.Bool.{true}
use Rattle.build_totals.proofs.Paged.{paging_begin, paging_done, size_small, step_small, to-small, n-small, paging_turn, paging_less}
use Rattle.build_totals.proofs.count_pages.Goals as goal

pub loop-s-init : goal.loop-s-init
loop-s-init c = paging_begin _ _ _ _ _ _ c.requires.from_len_bound

pub look_ahead-s-requires : goal.look_ahead-s-requires
look_ahead-s-requires c = c.requires.limit_le_max_limit

pub returns-then-s-eq0 : goal.returns-then-s-eq0
returns-then-s-eq0 c = let all = paging_done _ _ _ _ _ _ _ _ _ c.requires.limit_le_max_limit.0 c.requires.limit_le_max_limit.1 c.loop-s.invariant _ c.look_ahead-s.ensures.run_value c.if-s-eq0.true in record {
  value = all.0;
  end_bound = all.1;
}

pub overflow_add-n : goal.overflow_add-n
overflow_add-n c = let z = n-small _ _ _ _ _ _ _ _ _ c.requires.limit_le_max_limit.0 c.requires.limit_le_max_limit.1 c.loop-s.invariant _ c.look_ahead-s.ensures.run_value c.if-s-eq0.false _ refl in omega (arith, z)

pub overflow_cast-s : goal.overflow_cast-s
overflow_cast-s c = let z = size_small _ _ _ _ _ _ _ _ _ c.requires.limit_le_max_limit.0 c.requires.limit_le_max_limit.1 c.loop-s.invariant _ c.look_ahead-s.ensures.run_value c.if-s-eq0.false in omega (arith, z)

pub overflow_add-to : goal.overflow_add-to
overflow_add-to c = let z = step_small _ _ _ _ _ _ _ _ _ c.requires.limit_le_max_limit.0 c.requires.limit_le_max_limit.1 c.loop-s.invariant _ c.look_ahead-s.ensures.run_value c.if-s-eq0.false _ c.frame_len.ensures in omega (arith, z)

pub overflow_add-to-in-loop-s : goal.overflow_add-to-in-loop-s
overflow_add-to-in-loop-s c = let z = to-small _ _ _ _ _ _ _ _ _ c.requires.limit_le_max_limit.0 c.requires.limit_le_max_limit.1 c.loop-s.invariant _ c.look_ahead-s.ensures.run_value c.if-s-eq0.false _ c.frame_len.ensures in omega (arith, z, c.requires.at_bound)

pub loop-s-smaller : goal.loop-s-smaller
loop-s-smaller c = paging_less _ _ _ _ _ _ _ _ _ c.requires.limit_le_max_limit.0 c.requires.limit_le_max_limit.1 c.loop-s.invariant _ c.look_ahead-s.ensures.run_value c.if-s-eq0.false _ c.frame_len.ensures _ c.look_ahead-s.ensures.skipped

pub loop-s-preserved : goal.loop-s-preserved
loop-s-preserved c = paging_turn _ _ _ _ _ _ _ _ _ c.requires.limit_le_max_limit.0 c.requires.limit_le_max_limit.1 c.loop-s.invariant _ c.look_ahead-s.ensures.run_value c.if-s-eq0.false _ c.frame_len.ensures _ c.look_ahead-s.ensures.skipped
