-- `build_pen::put_value` meets its contract. Assumes nothing.
use Rattle.build_pen.proofs.WritingList.{near_done, away_done}
use Rattle.build_pen.proofs.put_value.Goals as goal

pub returns-then-i-limit : goal.returns-then-i-limit
returns-then-i-limit c = let all = near_done _ _ c.requires.inside _ _ _ _ _ c.requires.i_in_bounds c.if-i-limit.true _ c.bytes_of-v.ensures _ _ c.encode_inline.ensures in record {
  value = all.0;
  a_after = all.1;
}

pub returns : goal.returns
returns c = let all = away_done _ _ c.requires.inside _ _ _ _ _ c.requires.i_in_bounds c.if-i-limit.false _ _ c.encode_remote.ensures in record {
  value = all.0;
  a_after = all.1;
}
