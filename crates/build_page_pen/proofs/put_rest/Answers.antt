-- `build_page_pen::put_rest` meets its contract. Assumes nothing.
use Rattle.build_page_pen.proofs.Resting.{back_asks, back_done, same_asks, same_done, fore_asks, rest_asks, both_done}
use Rattle.build_page_pen.proofs.put_rest.Goals as goal

pub copy_within-requires : goal.copy_within-requires
copy_within-requires c = back_asks c.args.a.now _ _ _ _ _ c.requires.key_below c.requires.p_bound c.requires.p_in_bounds c.if-n-p.true

pub returns-then-n-p : goal.returns-then-n-p
returns-then-n-p c = let all = back_done _ _ _ _ _ _ c.requires.key_below c.requires.p_bound c.requires.p_in_bounds c.if-n-p.true _ c.copy_within.ensures in record {
  value = all.0;
  a_after = all.1;
}

pub copy_within-requires-then-f-eq0 : goal.copy_within-requires-then-f-eq0
copy_within-requires-then-f-eq0 c = same_asks c.args.a.now _ _ _ _ _ c.requires.key_below c.requires.p_bound c.requires.p_in_bounds c.if-n-p.false c.if-f-eq0.true

pub returns-then-f-eq0 : goal.returns-then-f-eq0
returns-then-f-eq0 c = let all = same_done _ _ _ _ _ _ c.requires.key_below c.requires.p_bound c.requires.p_in_bounds c.if-n-p.false c.if-f-eq0.true _ c.copy_within-then-f-eq0.ensures in record {
  value = all.0;
  a_after = all.1;
}

pub copy_within-requires-2 : goal.copy_within-requires-2
copy_within-requires-2 c = fore_asks c.args.a.now _ _ _ _ _ c.requires.key_below c.requires.p_bound c.requires.p_in_bounds c.if-n-p.false

pub copy_within-requires-3 : goal.copy_within-requires-3
copy_within-requires-3 c = rest_asks _ _ _ _ _ _ c.requires.key_below c.requires.p_bound c.requires.p_in_bounds c.if-n-p.false _ c.copy_within-2.ensures

pub returns : goal.returns
returns c = let all = both_done _ _ _ _ _ _ c.requires.key_below c.requires.p_bound c.requires.p_in_bounds c.if-n-p.false _ c.copy_within-2.ensures _ c.copy_within-3.ensures in record {
  value = all.0;
  a_after = all.1;
}
