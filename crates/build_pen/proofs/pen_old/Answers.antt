-- `build_pen::pen_old` meets its contract. Assumes nothing.
use Rattle.build_image.specs.Image.{old_rec}
use Rattle.build_pen.proofs.Nibbing.{rec_asks, remote_asks, nib_is, all-drawn}
use Rattle.build_pen.proofs.pen_old.Goals as goal

pub put_old-n-requires : goal.put_old-n-requires
put_old-n-requires c = record {
  inside = c.requires.inside;
  i_in_bounds = rec_asks _ c.args.q c.args.base c.args.m (old_rec c.args.m.limit c.args.q.remote) _ c.requires.asks _ c.put_u32.ensures;
}

pub put_remote-g-requires : goal.put_remote-g-requires
put_remote-g-requires c = record {
  inside = c.requires.inside;
  i_in_bounds = remote_asks _ c.args.q c.args.base c.args.m (old_rec c.args.m.limit c.args.q.remote) _ c.requires.asks _ c.put_u32.ensures _ c.put_old-n.ensures.a_after;
}

pub returns : goal.returns
returns c = record {
  value = nib_is _ c.args.q c.args.base c.args.m (old_rec c.args.m.limit c.args.q.remote) _ c.requires.asks _ c.put_u32.ensures _ c.put_old-n.ensures.a_after _ _ c.put_old-n.ensures.value c.put_remote-g.ensures.value;
  a_after = all-drawn _ c.args.q c.args.base c.args.m (old_rec c.args.m.limit c.args.q.remote) _ c.requires.asks _ c.put_u32.ensures _ c.put_old-n.ensures.a_after _ c.put_remote-g.ensures.a_after;
}
