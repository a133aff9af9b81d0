-- `build_page_pen::pen_leaves` meets its contract. Assumes nothing.
use native.Mathlib.Omega.{arith}
use Rattle.build_page_pen.proofs.Both.{still_judged, behind-laid, both_penned}
use Rattle.build_page_pen.proofs.pen_leaves.Goals as goal

pub pen_page-y-requires : goal.pen_page-y-requires
pen_page-y-requires c = record {
  sane = c.requires.sane;
  judged = c.requires.judged.0;
  judged_2 = c.requires.judged.1;
  end_le_elems = c.requires.end_le_elems;
  all_laid = c.requires.all_laid;
}

pub pen_page-z-requires : goal.pen_page-z-requires
pen_page-z-requires c = record {
  sane = c.requires.sane;
  judged = still_judged c.args.next c.args.base c.args.m c.args.p c.args.a.now c.args.b c.args.from c.args.end c.args.d c.args.n c.args.x _ _ c.pen_page-y.ensures c.requires.judged.1;
  judged_2 = still_judged c.args.next c.args.base c.args.m c.args.p c.args.a.now c.args.b c.args.from c.args.end c.args.d c.args.n c.args.x _ _ c.pen_page-y.ensures c.requires.judged.1;
  end_le_elems = (c.requires.end_le_elems.1, omega arith);
  all_laid = behind-laid c.args.next c.args.base c.args.m c.args.p c.args.a.now c.args.b c.args.from c.args.end c.args.d c.args.n c.args.x _ _ c.pen_page-y.ensures;
}

pub returns : goal.returns
returns c = let all = both_penned c.args.next c.args.base c.args.m c.args.p c.args.a.now c.args.b c.args.from c.args.end c.args.d c.args.n c.args.x _ _ c.pen_page-y.ensures _ _ c.pen_page-z.ensures in record {
  value = all.0;
  a_after = all.1;
}
