-- `build_pen::opened` meets its contract. Assumes nothing.
use native.Mathlib.Omega.{arith}
use Rattle.build_image.proofs.Lengths.{frame-least}
use Rattle.build_pen.proofs.Turning.{opened_pen, opened-page}
use Rattle.build_pen.proofs.opened.Goals as goal

pub overflow_cast-r : goal.overflow_cast-r
overflow_cast-r c = omega (arith, c.requires.small)

pub overflow_add-end : goal.overflow_add-end
overflow_add-end c = omega (arith, c.requires.fits, c.frame_len.ensures, c.well_formed.0)

pub overflow_add-next : goal.overflow_add-next
overflow_add-next c = omega (arith, c.requires.fits, c.frame_len.ensures, c.well_formed.0)

pub hist_head-requires : goal.hist_head-requires
hist_head-requires c = record {
  slots_at_in_bounds = omega (arith, c.requires.fits, c.requires.least, frame-least c.args.r.size);
  n_le_max_entries = c.requires.many;
  size_bound = omega (arith, c.requires.small);
}

pub overflow_add-z : goal.overflow_add-z
overflow_add-z c = omega (arith, c.requires.small)

pub overflow_add-z-2 : goal.overflow_add-z-2
overflow_add-z-2 c = omega (arith, c.requires.fits, frame-least c.args.r.size, c.well_formed.0)

pub overflow_sub-end : goal.overflow_sub-end
overflow_sub-end c = omega (arith, c.frame_len.ensures, frame-least c.args.r.size)

pub zeros-requires : goal.zeros-requires
zeros-requires c = omega (arith, c.requires.fits, c.frame_len.ensures, frame-least c.args.r.size, c.hist_head.auto.a)

pub put_u64-requires : goal.put_u64-requires
put_u64-requires c = omega (arith, c.requires.hint, c.hist_head.auto.a, c.zeros.auto.dst)

pub overflow_add-t : goal.overflow_add-t
overflow_add-t c = omega (arith, c.requires.fits, c.requires.least, frame-least c.args.r.size, c.well_formed.0)

pub overflow_mul-result : goal.overflow_mul-result
overflow_mul-result c = omega (arith, c.requires.many)

pub overflow_add-result : goal.overflow_add-result
overflow_add-result c = omega (arith, c.requires.fits, c.requires.least, frame-least c.args.r.size, c.well_formed.0)

pub overflow_add-result-2 : goal.overflow_add-result-2
overflow_add-result-2 c = omega (arith, c.requires.hint, c.well_formed.0)

pub returns : goal.returns
returns c = record {
  value = opened_pen c.args.m c.args.q c.args.r c.args.a.now _ c.frame_len.ensures;
  a_after = opened-page c.args.m c.args.q c.args.r c.args.a.now _ c.frame_len.ensures _ c.link_of-link.ensures _ _ _ c.hist_head.ensures c.zeros.ensures c.put_u64.ensures;
}
