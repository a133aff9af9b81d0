-- `build_page_sweep::sweep_page` meets its contract. Assumes nothing.
use native.Mathlib.Omega.{arith}
use mathlib.Core.Logic.{inl}
use Rattle.build_page_sweep.proofs.Paging.{page_begin, page_done, page-few, page-bounded, page-val, page-key, page-many, page-run, page-due, page-on}
use Rattle.build_page_sweep.proofs.sweep_page.Goals as goal

pub loop-i-init : goal.loop-i-init
loop-i-init c = page_begin c.args.s.now c.args.b c.args.end c.args.p c.args.limit c.args.budget c.args.from c.args.first c.args.begun c.requires.due c.no_hand-hand.result (inl c.no_hand-hand.ensures)

pub head_here-r-requires : goal.head_here-r-requires
head_here-r-requires c = record {
  judged = c.requires.judged;
  i_lt_elems = omega (arith, c.requires.end_le_elems, c.loop-i-test.true);
}

pub overflow_add-t : goal.overflow_add-t
overflow_add-t c = omega (arith, page-few _ _ _ _ _ _ _ _ _ _ _ _ _ c.loop-i.invariant)

pub overflow_add-t-in-loop-i : goal.overflow_add-t-in-loop-i
overflow_add-t-in-loop-i c = omega (arith, page-few _ _ _ _ _ _ _ _ _ _ _ _ _ c.loop-i.invariant)

pub overflow_add-t-in-loop-i-2 : goal.overflow_add-t-in-loop-i-2
overflow_add-t-in-loop-i-2 c = let z = page-few _ _ _ _ _ _ _ _ _ _ _ _ _ c.loop-i.invariant in omega arith

pub returns-then-t-h-gt-MAX_ENTRIES : goal.returns-then-t-h-gt-MAX_ENTRIES
returns-then-t-h-gt-MAX_ENTRIES c = page-many _ _ _ _ _ _ _ _ _ _ _ _ _ c.loop-i.invariant c.requires.judged c.requires.end_le_elems c.loop-i-test.true _ c.head_here-r.ensures c.if-t-h-gt-MAX_ENTRIES.true

pub overflow_add-b : goal.overflow_add-b
overflow_add-b c = omega (arith, page-key _ _ _ _ _ _ _ _ _ _ _ _ _ c.loop-i.invariant c.requires.judged c.requires.end_le_elems c.loop-i-test.true _ c.head_here-r.ensures)

pub with_head-t-requires : goal.with_head-t-requires
with_head-t-requires c = record {
  n_le_max_value = page-val _ _ _ _ _ _ _ _ _ _ _ _ _ c.loop-i.invariant c.requires.judged c.requires.end_le_elems c.loop-i-test.true _ c.head_here-r.ensures;
  k_le_max_key = page-key _ _ _ _ _ _ _ _ _ _ _ _ _ c.loop-i.invariant c.requires.judged c.requires.end_le_elems c.loop-i-test.true _ c.head_here-r.ensures;
  bounded = page-bounded _ _ _ _ _ _ _ _ _ _ _ _ _ c.loop-i.invariant;
}

pub sweep_run-x-requires : goal.sweep_run-x-requires
sweep_run-x-requires c = record {
  limit_le_max_limit = c.requires.limit_le_max_limit;
  run = page-run _ _ _ _ _ _ _ _ _ _ _ _ _ c.loop-i.invariant c.requires.judged c.requires.end_le_elems c.loop-i-test.true _ c.head_here-r.ensures (omega (arith, c.if-t-h-gt-MAX_ENTRIES.false)) _ c.with_head-t.ensures;
  known = c.loop-i.invariant.known;
  run_due = page-due _ _ _ _ _ _ _ _ _ _ _ _ _ c.loop-i.invariant c.requires.judged c.requires.end_le_elems c.loop-i-test.true _ c.head_here-r.ensures (omega (arith, c.if-t-h-gt-MAX_ENTRIES.false)) _ c.with_head-t.ensures;
}

pub loop-i-preserved : goal.loop-i-preserved
loop-i-preserved c = page-on _ _ _ _ _ _ _ _ _ _ _ _ _ c.loop-i.invariant c.requires.judged c.requires.end_le_elems c.loop-i-test.true _ c.head_here-r.ensures (omega (arith, c.if-t-h-gt-MAX_ENTRIES.false)) _ c.with_head-t.ensures _ _ c.sweep_run-x.ensures.run_swept_by _ c.sweep_run-x.ensures.known_2

pub returns : goal.returns
returns c = page_done _ _ _ _ _ _ _ _ _ _ _ _ _ c.loop-i.invariant (omega (arith, c.loop-i-test.false))
