-- `delta::put_leaf` meets its contract. Assumes nothing.
use native.Mathlib.Omega.{arith}
use mathlib.Core.Path.{sym, ◌∙◌}
use lib.ListN.{length}
use borrow.Author.Tests.{le-leb}
use Rattle.spans.proofs.Put.{stored_bytes}
use Rattle.values.specs.Keys.{leaf_key}
use Rattle.build_image.proofs.Lengths.{size-some}
use Rattle.delta.specs.Deltas.{value_of, leaf_frame}
use Rattle.values.proofs.Laws.{leaf_key-size_lem}
use Rattle.delta.proofs.Lengths.{length-value, leaf_key_most}
use Rattle.delta.proofs.Straight.{frame_head_room, frame-key-room, frame-val-room, frame-fits, frame-zeros-room, frame-end}
use Rattle.delta.proofs.put_leaf.Goals as goal

pub overflow_add-k : goal.overflow_add-k
overflow_add-k c = omega (arith, c.leaf_key_size-k.ensures, leaf_key_most (length c.args.key.now), c.calc_size-n.ensures, (size-some c.args.m.limit (length c.args.v.now)).1)

pub overflow_add-k-2 : goal.overflow_add-k-2
overflow_add-k-2 c = omega (arith, c.leaf_key_size-k.ensures, leaf_key_most (length c.args.key.now), c.calc_size-n.ensures, (size-some c.args.m.limit (length c.args.v.now)).1)

pub overflow_cast-k : goal.overflow_cast-k
overflow_cast-k c = omega (arith, c.leaf_key_size-k.ensures, leaf_key_most (length c.args.key.now), c.calc_size-n.ensures, (size-some c.args.m.limit (length c.args.v.now)).1)

pub put_head-requires : goal.put_head-requires
unfolding leaf_frame
put_head-requires c = record {
  delta_key_at_in_bounds = frame_head_room c.args.a.now c.args.at c.args.m 1 (leaf_key c.args.ver c.args.key.now) (value_of c.args.m.limit c.args.remote c.args.v.now) _ _ (leaf_key-size_lem c.args.ver c.args.key.now ∙ sym c.leaf_key_size-k.ensures) (length-value c.args.m.limit c.args.remote c.args.v.now ∙ sym c.calc_size-n.ensures) c.requires.v_in_bounds _ c.frame_len.ensures;
  v_bound = omega (arith, c.leaf_key_size-k.ensures, leaf_key_most (length c.args.key.now), c.calc_size-n.ensures, (size-some c.args.m.limit (length c.args.v.now)).1);
}

pub overflow_add-q : goal.overflow_add-q
unfolding leaf_frame
overflow_add-q c = omega (arith, frame-fits c.args.a.now c.args.at c.args.m 1 (leaf_key c.args.ver c.args.key.now) (value_of c.args.m.limit c.args.remote c.args.v.now) _ _ (leaf_key-size_lem c.args.ver c.args.key.now ∙ sym c.leaf_key_size-k.ensures) (length-value c.args.m.limit c.args.remote c.args.v.now ∙ sym c.calc_size-n.ensures) c.requires.v_in_bounds _ c.frame_len.ensures _ c.put_head.ensures _ (stored_bytes _ _ _ _ _ _ c.write_leaf_key-w.ensures (le-leb _ _ c.requires.key_len_bound.0) (frame-key-room c.args.a.now c.args.at c.args.m 1 (leaf_key c.args.ver c.args.key.now) (value_of c.args.m.limit c.args.remote c.args.v.now) _ _ (leaf_key-size_lem c.args.ver c.args.key.now ∙ sym c.leaf_key_size-k.ensures) (length-value c.args.m.limit c.args.remote c.args.v.now ∙ sym c.calc_size-n.ensures) c.requires.v_in_bounds _ c.frame_len.ensures _ c.put_head.ensures)), c.well_formed)

pub put_value-requires : goal.put_value-requires
unfolding leaf_frame
put_value-requires c = record {
  v_len_bound = c.requires.key_len_bound.1;
  v_in_bounds = frame-val-room c.args.a.now c.args.at c.args.m 1 (leaf_key c.args.ver c.args.key.now) (value_of c.args.m.limit c.args.remote c.args.v.now) _ _ (leaf_key-size_lem c.args.ver c.args.key.now ∙ sym c.leaf_key_size-k.ensures) (length-value c.args.m.limit c.args.remote c.args.v.now ∙ sym c.calc_size-n.ensures) c.requires.v_in_bounds _ c.frame_len.ensures _ c.put_head.ensures _ (stored_bytes _ _ _ _ _ _ c.write_leaf_key-w.ensures (le-leb _ _ c.requires.key_len_bound.0) (frame-key-room c.args.a.now c.args.at c.args.m 1 (leaf_key c.args.ver c.args.key.now) (value_of c.args.m.limit c.args.remote c.args.v.now) _ _ (leaf_key-size_lem c.args.ver c.args.key.now ∙ sym c.leaf_key_size-k.ensures) (length-value c.args.m.limit c.args.remote c.args.v.now ∙ sym c.calc_size-n.ensures) c.requires.v_in_bounds _ c.frame_len.ensures _ c.put_head.ensures));
}

pub overflow_add-e : goal.overflow_add-e
unfolding leaf_frame
overflow_add-e c = omega (arith, frame-fits c.args.a.now c.args.at c.args.m 1 (leaf_key c.args.ver c.args.key.now) (value_of c.args.m.limit c.args.remote c.args.v.now) _ _ (leaf_key-size_lem c.args.ver c.args.key.now ∙ sym c.leaf_key_size-k.ensures) (length-value c.args.m.limit c.args.remote c.args.v.now ∙ sym c.calc_size-n.ensures) c.requires.v_in_bounds _ c.frame_len.ensures _ c.put_head.ensures _ (stored_bytes _ _ _ _ _ _ c.write_leaf_key-w.ensures (le-leb _ _ c.requires.key_len_bound.0) (frame-key-room c.args.a.now c.args.at c.args.m 1 (leaf_key c.args.ver c.args.key.now) (value_of c.args.m.limit c.args.remote c.args.v.now) _ _ (leaf_key-size_lem c.args.ver c.args.key.now ∙ sym c.leaf_key_size-k.ensures) (length-value c.args.m.limit c.args.remote c.args.v.now ∙ sym c.calc_size-n.ensures) c.requires.v_in_bounds _ c.frame_len.ensures _ c.put_head.ensures)), c.well_formed)

pub zeros-requires : goal.zeros-requires
unfolding leaf_frame
zeros-requires c = frame-zeros-room c.args.a.now c.args.at c.args.m 1 (leaf_key c.args.ver c.args.key.now) (value_of c.args.m.limit c.args.remote c.args.v.now) _ _ (leaf_key-size_lem c.args.ver c.args.key.now ∙ sym c.leaf_key_size-k.ensures) (length-value c.args.m.limit c.args.remote c.args.v.now ∙ sym c.calc_size-n.ensures) c.requires.v_in_bounds _ c.frame_len.ensures _ c.put_head.ensures _ (stored_bytes _ _ _ _ _ _ c.write_leaf_key-w.ensures (le-leb _ _ c.requires.key_len_bound.0) (frame-key-room c.args.a.now c.args.at c.args.m 1 (leaf_key c.args.ver c.args.key.now) (value_of c.args.m.limit c.args.remote c.args.v.now) _ _ (leaf_key-size_lem c.args.ver c.args.key.now ∙ sym c.leaf_key_size-k.ensures) (length-value c.args.m.limit c.args.remote c.args.v.now ∙ sym c.calc_size-n.ensures) c.requires.v_in_bounds _ c.frame_len.ensures _ c.put_head.ensures)) _ c.put_value.ensures

pub returns : goal.returns
unfolding leaf_frame
returns c = frame-end c.args.a.now c.args.at c.args.m 1 (leaf_key c.args.ver c.args.key.now) (value_of c.args.m.limit c.args.remote c.args.v.now) _ _ (leaf_key-size_lem c.args.ver c.args.key.now ∙ sym c.leaf_key_size-k.ensures) (length-value c.args.m.limit c.args.remote c.args.v.now ∙ sym c.calc_size-n.ensures) c.requires.v_in_bounds _ c.frame_len.ensures _ c.put_head.ensures _ (stored_bytes _ _ _ _ _ _ c.write_leaf_key-w.ensures (le-leb _ _ c.requires.key_len_bound.0) (frame-key-room c.args.a.now c.args.at c.args.m 1 (leaf_key c.args.ver c.args.key.now) (value_of c.args.m.limit c.args.remote c.args.v.now) _ _ (leaf_key-size_lem c.args.ver c.args.key.now ∙ sym c.leaf_key_size-k.ensures) (length-value c.args.m.limit c.args.remote c.args.v.now ∙ sym c.calc_size-n.ensures) c.requires.v_in_bounds _ c.frame_len.ensures _ c.put_head.ensures)) _ c.put_value.ensures _ c.zeros.ensures
