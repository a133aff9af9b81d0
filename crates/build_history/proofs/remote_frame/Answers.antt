use Rattle.build_history.proofs.Straight.{remote-room, remote_room1, remote_asks, remote-zeros, remote-end}
use Rattle.build_history.proofs.remote_frame.Goals as goal

pub put_box-requires : goal.put_box-requires
put_box-requires c = remote-room c.args.list.now c.args.a.now c.args.footing c.args.at c.args.inside c.args.from c.args.n c.args.m c.requires.footing_le_at c.requires.n_in_bounds c.requires.n_in_bounds_2

pub put_u64-requires : goal.put_u64-requires
put_u64-requires c = remote_room1 c.args.list.now c.args.a.now c.args.footing c.args.at c.args.inside c.args.from c.args.n c.args.m c.requires.footing_le_at c.requires.n_in_bounds c.requires.n_in_bounds_2 _ c.put_box.ensures

pub copy_part-requires : goal.copy_part-requires
copy_part-requires c = let all = remote_asks c.args.list.now c.args.a.now c.args.footing c.args.at c.args.inside c.args.from c.args.n c.args.m c.requires.footing_le_at c.requires.n_in_bounds c.requires.n_in_bounds_2 _ c.put_box.ensures _ c.put_u64.ensures in record {
  footing_le_at = all.0;
  n_in_bounds = all.1.0;
  n_in_bounds_2 = all.1.1;
}

pub zeros-requires : goal.zeros-requires
zeros-requires c = remote-zeros c.args.list.now c.args.a.now c.args.footing c.args.at c.args.inside c.args.from c.args.n c.args.m c.requires.footing_le_at c.requires.n_in_bounds c.requires.n_in_bounds_2 _ c.put_box.ensures _ c.put_u64.ensures _ c.copy_part.ensures _ c.frame_len.ensures

pub returns : goal.returns
returns c = remote-end c.args.list.now c.args.a.now c.args.footing c.args.at c.args.inside c.args.from c.args.n c.args.m c.requires.footing_le_at c.requires.n_in_bounds c.requires.n_in_bounds_2 _ c.put_box.ensures _ c.put_u64.ensures _ c.copy_part.ensures _ c.frame_len.ensures _ c.zeros.ensures
