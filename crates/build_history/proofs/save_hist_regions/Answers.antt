use native.Mathlib.Omega.{arith}
use mathlib.Core.Path.{sym, ap}
use mathlib.Core.Bool.{true, false}
use lib.ListN.{length, take}
use lib.Seq.{length-take-le}
use Rattle.build_history.proofs.Page.{hist_begin, hist_done, page_asks, hist_turn, hist_less}
use Rattle.build_history.proofs.save_hist_regions.Goals as goal

pub loop-m-init : goal.loop-m-init
loop-m-init c = hist_begin _ _ _ _ _ _ c.requires.footing_le_at c.requires.from_in_bounds

pub slice_bounds-look_ahead-end : goal.slice_bounds-look_ahead-end
slice_bounds-look_ahead-end c = let v = c.loop-m.invariant.writing in omega (arith, v.over, v.room)

pub slice_bounds-look_ahead-end-in-loop-m : goal.slice_bounds-look_ahead-end-in-loop-m
slice_bounds-look_ahead-end-in-loop-m c = let v = c.loop-m.invariant.writing in sym (length-take-le _ _ (omega (arith, v.over, v.room)))

pub look_ahead-s-requires : goal.look_ahead-s-requires
look_ahead-s-requires c = (c.requires.sane.limit, c.requires.sane.budget)

pub shape_of-a-then-s-eq0 : goal.shape_of-a-then-s-eq0
shape_of-a-then-s-eq0 c = c.loop-m.invariant.writing.long

pub returns-then-s-eq0 : goal.returns-then-s-eq0
returns-then-s-eq0 c = let all = hist_done _ _ _ _ _ _ _ _ _ c.requires.sane c.loop-m.invariant _ c.look_ahead-s.ensures.run_value c.if-s-eq0.true in record {
  value = all.0;
  a_after = all.1;
}

pub hist_page-to-requires : goal.hist_page-to-requires
hist_page-to-requires c = let all = page_asks _ _ _ _ _ _ _ _ _ c.requires.sane c.loop-m.invariant _ c.look_ahead-s.ensures.run_value c.if-s-eq0.false in record {
  footing_le_at = all.0;
  sane = all.1.0;
  r_value = all.1.1.0;
  from_in_bounds = all.1.1.1;
}

pub loop-m-smaller : goal.loop-m-smaller
loop-m-smaller c = hist_less _ _ _ _ _ _ _ _ _ c.requires.sane c.loop-m.invariant _ c.look_ahead-s.ensures.run_value c.if-s-eq0.false _ _ c.hist_page-to.ensures.value c.hist_page-to.ensures.a_after _ c.look_ahead-s.ensures.skipped

pub loop-m-preserved : goal.loop-m-preserved
loop-m-preserved c = hist_turn _ _ _ _ _ _ _ _ _ c.requires.sane c.loop-m.invariant _ c.look_ahead-s.ensures.run_value c.if-s-eq0.false _ _ c.hist_page-to.ensures.value c.hist_page-to.ensures.a_after _ c.look_ahead-s.ensures.skipped
