use native.Mathlib.Omega.{arith}
use Rattle.build_image.proofs.Lengths.{frame-least}
use Rattle.build_history.proofs.Page.{tells, page-fits, page-end, head_room, slots_asks, recs_asks, zeros-room, frames_asks, page-whole}
use Rattle.build_history.proofs.hist_page.Goals as goal

pub overflow_cast-r : goal.overflow_cast-r
overflow_cast-r c = let t = tells _ _ _ _ _ _ _ c.requires.footing_le_at c.requires.sane c.requires.r_value c.requires.from_in_bounds in let f = page-fits _ _ _ _ _ _ _ c.requires.footing_le_at c.requires.sane c.requires.r_value c.requires.from_in_bounds in omega (arith, t.small)

pub overflow_add-end : goal.overflow_add-end
overflow_add-end c = let t = tells _ _ _ _ _ _ _ c.requires.footing_le_at c.requires.sane c.requires.r_value c.requires.from_in_bounds in let f = page-fits _ _ _ _ _ _ _ c.requires.footing_le_at c.requires.sane c.requires.r_value c.requires.from_in_bounds in omega (arith, f, c.frame_len.ensures)

pub overflow_add-next : goal.overflow_add-next
overflow_add-next c = let t = tells _ _ _ _ _ _ _ c.requires.footing_le_at c.requires.sane c.requires.r_value c.requires.from_in_bounds in let f = page-fits _ _ _ _ _ _ _ c.requires.footing_le_at c.requires.sane c.requires.r_value c.requires.from_in_bounds in omega (arith, f, c.frame_len.ensures)

pub hist_head-requires : goal.hist_head-requires
hist_head-requires c = let t = tells _ _ _ _ _ _ _ c.requires.footing_le_at c.requires.sane c.requires.r_value c.requires.from_in_bounds in let f = page-fits _ _ _ _ _ _ _ c.requires.footing_le_at c.requires.sane c.requires.r_value c.requires.from_in_bounds in record {
  slots_at_in_bounds = head_room _ _ _ _ _ _ _ c.requires.footing_le_at c.requires.sane c.requires.r_value c.requires.from_in_bounds;
  n_le_max_entries = omega (arith, t.small, t.many);
  size_bound = omega (arith, t.small);
}

pub overflow_add-s : goal.overflow_add-s
overflow_add-s c = let t = tells _ _ _ _ _ _ _ c.requires.footing_le_at c.requires.sane c.requires.r_value c.requires.from_in_bounds in let f = page-fits _ _ _ _ _ _ _ c.requires.footing_le_at c.requires.sane c.requires.r_value c.requires.from_in_bounds in let z = head_room _ _ _ _ _ _ _ c.requires.footing_le_at c.requires.sane c.requires.r_value c.requires.from_in_bounds in omega arith

pub overflow_mul-n : goal.overflow_mul-n
overflow_mul-n c = let t = tells _ _ _ _ _ _ _ c.requires.footing_le_at c.requires.sane c.requires.r_value c.requires.from_in_bounds in let f = page-fits _ _ _ _ _ _ _ c.requires.footing_le_at c.requires.sane c.requires.r_value c.requires.from_in_bounds in omega (arith, t.small, t.many)

pub overflow_add-n : goal.overflow_add-n
overflow_add-n c = let t = tells _ _ _ _ _ _ _ c.requires.footing_le_at c.requires.sane c.requires.r_value c.requires.from_in_bounds in let f = page-fits _ _ _ _ _ _ _ c.requires.footing_le_at c.requires.sane c.requires.r_value c.requires.from_in_bounds in omega (arith, t.small, t.many)

pub old_slots-requires : goal.old_slots-requires
old_slots-requires c = let all = slots_asks _ _ _ _ _ _ _ c.requires.footing_le_at c.requires.sane c.requires.r_value c.requires.from_in_bounds _ c.frame_len.ensures _ c.link_of-link.ensures _ c.hist_head.ensures in record {
  footing_le_at = all.0;
  n_in_bounds = all.1.0;
  n_bound = all.1.1;
}

pub overflow_mul-q : goal.overflow_mul-q
overflow_mul-q c = let t = tells _ _ _ _ _ _ _ c.requires.footing_le_at c.requires.sane c.requires.r_value c.requires.from_in_bounds in let f = page-fits _ _ _ _ _ _ _ c.requires.footing_le_at c.requires.sane c.requires.r_value c.requires.from_in_bounds in omega (arith, t.small, t.many)

pub overflow_add-q : goal.overflow_add-q
overflow_add-q c = let t = tells _ _ _ _ _ _ _ c.requires.footing_le_at c.requires.sane c.requires.r_value c.requires.from_in_bounds in let f = page-fits _ _ _ _ _ _ _ c.requires.footing_le_at c.requires.sane c.requires.r_value c.requires.from_in_bounds in omega (arith, t.many, f, frame-least c.args.r.size)

pub old_recs-requires : goal.old_recs-requires
old_recs-requires c = let all = recs_asks _ _ _ _ _ _ _ c.requires.footing_le_at c.requires.sane c.requires.r_value c.requires.from_in_bounds _ c.frame_len.ensures _ c.link_of-link.ensures _ c.hist_head.ensures _ c.old_slots.ensures in record {
  footing_le_at = all.0;
  n_in_bounds = all.1.0;
  n_in_bounds_2 = all.1.1;
}

pub overflow_add-z : goal.overflow_add-z
overflow_add-z c = let t = tells _ _ _ _ _ _ _ c.requires.footing_le_at c.requires.sane c.requires.r_value c.requires.from_in_bounds in let f = page-fits _ _ _ _ _ _ _ c.requires.footing_le_at c.requires.sane c.requires.r_value c.requires.from_in_bounds in omega (arith, t.small)

pub overflow_add-z-2 : goal.overflow_add-z-2
overflow_add-z-2 c = let t = tells _ _ _ _ _ _ _ c.requires.footing_le_at c.requires.sane c.requires.r_value c.requires.from_in_bounds in let f = page-fits _ _ _ _ _ _ _ c.requires.footing_le_at c.requires.sane c.requires.r_value c.requires.from_in_bounds in omega (arith, f, frame-least c.args.r.size)

pub overflow_sub-end : goal.overflow_sub-end
overflow_sub-end c = omega (arith, c.frame_len.ensures, frame-least c.args.r.size)

pub zeros-requires : goal.zeros-requires
zeros-requires c = zeros-room _ _ _ _ _ _ _ c.requires.footing_le_at c.requires.sane c.requires.r_value c.requires.from_in_bounds _ c.frame_len.ensures _ c.link_of-link.ensures _ c.hist_head.ensures _ c.old_slots.ensures _ c.old_recs.ensures

pub remote_frames-requires : goal.remote_frames-requires
remote_frames-requires c = let all = frames_asks _ _ _ _ _ _ _ c.requires.footing_le_at c.requires.sane c.requires.r_value c.requires.from_in_bounds _ c.frame_len.ensures _ c.link_of-link.ensures _ c.hist_head.ensures _ c.old_slots.ensures _ c.old_recs.ensures _ c.zeros.ensures in record {
  footing_le_at = all.0;
  n_in_bounds = all.1.0;
  len_value = all.1.1;
}

pub returns : goal.returns
returns c = record {
  value = page-end _ _ _ _ _ _ _ c.requires.footing_le_at c.requires.sane c.requires.r_value c.requires.from_in_bounds _ c.frame_len.ensures;
  a_after = page-whole _ _ _ _ _ _ _ c.requires.footing_le_at c.requires.sane c.requires.r_value c.requires.from_in_bounds _ c.frame_len.ensures _ c.link_of-link.ensures _ c.hist_head.ensures _ c.old_slots.ensures _ c.old_recs.ensures _ c.zeros.ensures _ c.remote_frames.ensures;
}
