-- `build_index::write_pages` meets its contract. Assumes nothing.
use native.Mathlib.Omega.{arith}
use Rattle.build_index.proofs.Fixed.{fixes, page-fits}
use Rattle.build_index.proofs.PagePen.{both_long, one_asks, two_asks, pages_done}
use Rattle.build_index.proofs.write_pages.Goals as goal

pub index_fixed-requires : goal.index_fixed-requires
index_fixed-requires c = record {
  fixes = fixes _ _ _ c.args.m _ _ _ _ _ _ c.requires.ready;
  both_within = c.requires.ready.inside;
}

pub overflow_add-r-2 : goal.overflow_add-r-2
overflow_add-r-2 c = omega (arith, (page-fits _ _ _ c.args.m _ _ _ _ _ _ c.requires.ready).0, c.well_formed.0)

pub overflow_add-r-3 : goal.overflow_add-r-3
overflow_add-r-3 c = omega (arith, (page-fits _ _ _ c.args.m _ _ _ _ _ _ c.requires.ready).0, c.well_formed.0)

pub pen_page-k-requires : goal.pen_page-k-requires
pen_page-k-requires c = let all = one_asks _ _ _ _ _ _ _ _ _ _ _ _ _ c.requires.judged.0 c.requires.judged.1 c.requires.from_le_end.0 c.requires.from_le_end.1 c.requires.from_le_end.2 c.requires.ready _ c.index_fixed.ensures in record {
  judged = all.0;
  end_le_elems = all.1.0;
  laid = all.1.1;
}

pub overflow_mul-t : goal.overflow_mul-t
overflow_mul-t c = omega (arith, both_long _ _ _ c.args.m _ _ _ _ _ _ _ _ _ c.requires.judged.0 c.requires.judged.1 c.requires.from_le_end.0 c.requires.from_le_end.1 c.requires.from_le_end.2 c.requires.ready, c.requires.ready.few)

pub overflow_add-t : goal.overflow_add-t
overflow_add-t c = omega (arith, both_long _ _ _ c.args.m _ _ _ _ _ _ _ _ _ c.requires.judged.0 c.requires.judged.1 c.requires.from_le_end.0 c.requires.from_le_end.1 c.requires.from_le_end.2 c.requires.ready, (page-fits _ _ _ c.args.m _ _ _ _ _ _ c.requires.ready).0, c.well_formed.0)

pub pen_page-requires : goal.pen_page-requires
pen_page-requires c = let all = two_asks _ _ _ _ _ _ _ _ _ _ _ _ _ c.requires.judged.0 c.requires.judged.1 c.requires.from_le_end.0 c.requires.from_le_end.1 c.requires.from_le_end.2 c.requires.ready _ c.index_fixed.ensures _ _ c.pen_page-k.ensures.value c.pen_page-k.ensures.a_after in record {
  judged = all.0;
  end_le_elems = all.1.0;
  laid = all.1.1;
}

pub returns : goal.returns
returns c = pages_done _ _ _ _ _ _ _ _ _ _ _ _ _ c.requires.judged.0 c.requires.judged.1 c.requires.from_le_end.0 c.requires.from_le_end.1 c.requires.from_le_end.2 c.requires.ready _ c.index_fixed.ensures _ _ c.pen_page-k.ensures.value c.pen_page-k.ensures.a_after _ c.pen_page.ensures.a_after
