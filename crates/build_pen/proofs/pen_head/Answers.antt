-- `build_pen::pen_head` meets its contract. Assumes nothing.
use Rattle.build_image.specs.Image.{head_rec}
use Rattle.build_pen.proofs.WritingList.{frame_either}
use Rattle.build_pen.proofs.Nibbing.{rec_asks, remote_asks, nib_is, all-drawn}
use Rattle.build_pen.proofs.pen_head.Goals as goal

pub put_head-n-requires : goal.put_head-n-requires
put_head-n-requires c = record {
  inside = c.requires.inside;
  p_le_klen = c.requires.p_le_klen;
  i_in_bounds = rec_asks _ c.args.q c.args.base c.args.m (head_rec c.args.m.limit c.args.p c.args.q.remote c.args.h) _ c.requires.asks _ c.put_u32.ensures;
}

pub put_remote-g-requires : goal.put_remote-g-requires
put_remote-g-requires c = record {
  inside = c.requires.inside;
  i_in_bounds = rw (frame_either _ _ c.requires.inside c.args.m) (remote_asks _ c.args.q c.args.base c.args.m (head_rec c.args.m.limit c.args.p c.args.q.remote c.args.h) _ c.requires.asks _ c.put_u32.ensures _ c.put_head-n.ensures.a_after);
}

pub returns : goal.returns
returns c = record {
  value = nib_is _ c.args.q c.args.base c.args.m (head_rec c.args.m.limit c.args.p c.args.q.remote c.args.h) _ c.requires.asks _ c.put_u32.ensures _ c.put_head-n.ensures.a_after _ _ c.put_head-n.ensures.value (rw (frame_either _ _ c.requires.inside c.args.m) at c.put_remote-g.ensures.value);
  a_after = all-drawn _ c.args.q c.args.base c.args.m (head_rec c.args.m.limit c.args.p c.args.q.remote c.args.h) _ c.requires.asks _ c.put_u32.ensures _ c.put_head-n.ensures.a_after _ (rw (frame_either _ _ c.requires.inside c.args.m) at c.put_remote-g.ensures.a_after);
}
