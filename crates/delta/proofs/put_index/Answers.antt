-- `delta::put_index` meets its contract. Assumes nothing.
use native.Mathlib.Omega.{arith}
use mathlib.Core.Path.{sym, ◌∙◌}
use lib.ListN.{length}
use borrow.Author.Tests.{le-leb}
use Rattle.spans.proofs.Put.{stored_bytes}
use Rattle.numbers.specs.Number.{le}
use Rattle.numbers.proofs.Numbers.{length-le}
use Rattle.values.specs.Keys.{index_key}
use Rattle.delta.specs.Deltas.{index_frame}
use Rattle.values.proofs.Laws.{index_key-size_lem}
use Rattle.delta.proofs.Lengths.{index_key_most}
use Rattle.delta.proofs.Straight.{frame_head_room, frame-key-room, frame-val-room, frame-fits, frame-zeros-room, frame-end}
use Rattle.delta.proofs.put_index.Goals as goal

pub overflow_add-k : goal.overflow_add-k
overflow_add-k c = omega (arith, c.index_key_size-k.ensures, index_key_most (length c.args.key.now))

pub overflow_add-k-2 : goal.overflow_add-k-2
overflow_add-k-2 c = omega (arith, c.index_key_size-k.ensures, index_key_most (length c.args.key.now))

pub overflow_cast-k : goal.overflow_cast-k
overflow_cast-k c = omega (arith, c.index_key_size-k.ensures, index_key_most (length c.args.key.now))

pub put_head-requires : goal.put_head-requires
unfolding index_frame
put_head-requires c = record {
  delta_key_at_in_bounds = frame_head_room c.args.a.now c.args.at c.args.m 2 (index_key c.args.key.now) (le 8 c.args.page.0) _ _ (index_key-size_lem c.args.key.now ∙ sym c.index_key_size-k.ensures) (length-le 8 c.args.page.0) c.requires.page_in_bounds _ c.frame_len.ensures;
  v_bound = omega (arith, c.index_key_size-k.ensures, index_key_most (length c.args.key.now));
}

pub overflow_add-q : goal.overflow_add-q
unfolding index_frame
overflow_add-q c = omega (arith, frame-fits c.args.a.now c.args.at c.args.m 2 (index_key c.args.key.now) (le 8 c.args.page.0) _ _ (index_key-size_lem c.args.key.now ∙ sym c.index_key_size-k.ensures) (length-le 8 c.args.page.0) c.requires.page_in_bounds _ c.frame_len.ensures _ c.put_head.ensures _ (stored_bytes _ _ _ _ _ _ c.write_index_key-w.ensures (le-leb _ _ c.requires.key_len_bound) (frame-key-room c.args.a.now c.args.at c.args.m 2 (index_key c.args.key.now) (le 8 c.args.page.0) _ _ (index_key-size_lem c.args.key.now ∙ sym c.index_key_size-k.ensures) (length-le 8 c.args.page.0) c.requires.page_in_bounds _ c.frame_len.ensures _ c.put_head.ensures)), c.well_formed)

pub put_u64-requires : goal.put_u64-requires
unfolding index_frame
put_u64-requires c = rw (length-le 8 c.args.page.0) at (frame-val-room c.args.a.now c.args.at c.args.m 2 (index_key c.args.key.now) (le 8 c.args.page.0) _ _ (index_key-size_lem c.args.key.now ∙ sym c.index_key_size-k.ensures) (length-le 8 c.args.page.0) c.requires.page_in_bounds _ c.frame_len.ensures _ c.put_head.ensures _ (stored_bytes _ _ _ _ _ _ c.write_index_key-w.ensures (le-leb _ _ c.requires.key_len_bound) (frame-key-room c.args.a.now c.args.at c.args.m 2 (index_key c.args.key.now) (le 8 c.args.page.0) _ _ (index_key-size_lem c.args.key.now ∙ sym c.index_key_size-k.ensures) (length-le 8 c.args.page.0) c.requires.page_in_bounds _ c.frame_len.ensures _ c.put_head.ensures)))

pub overflow_add-e : goal.overflow_add-e
unfolding index_frame
overflow_add-e c = omega (arith, frame-fits c.args.a.now c.args.at c.args.m 2 (index_key c.args.key.now) (le 8 c.args.page.0) _ _ (index_key-size_lem c.args.key.now ∙ sym c.index_key_size-k.ensures) (length-le 8 c.args.page.0) c.requires.page_in_bounds _ c.frame_len.ensures _ c.put_head.ensures _ (stored_bytes _ _ _ _ _ _ c.write_index_key-w.ensures (le-leb _ _ c.requires.key_len_bound) (frame-key-room c.args.a.now c.args.at c.args.m 2 (index_key c.args.key.now) (le 8 c.args.page.0) _ _ (index_key-size_lem c.args.key.now ∙ sym c.index_key_size-k.ensures) (length-le 8 c.args.page.0) c.requires.page_in_bounds _ c.frame_len.ensures _ c.put_head.ensures)), c.well_formed)

pub zeros-requires : goal.zeros-requires
unfolding index_frame
zeros-requires c = frame-zeros-room c.args.a.now c.args.at c.args.m 2 (index_key c.args.key.now) (le 8 c.args.page.0) _ _ (index_key-size_lem c.args.key.now ∙ sym c.index_key_size-k.ensures) (length-le 8 c.args.page.0) c.requires.page_in_bounds _ c.frame_len.ensures _ c.put_head.ensures _ (stored_bytes _ _ _ _ _ _ c.write_index_key-w.ensures (le-leb _ _ c.requires.key_len_bound) (frame-key-room c.args.a.now c.args.at c.args.m 2 (index_key c.args.key.now) (le 8 c.args.page.0) _ _ (index_key-size_lem c.args.key.now ∙ sym c.index_key_size-k.ensures) (length-le 8 c.args.page.0) c.requires.page_in_bounds _ c.frame_len.ensures _ c.put_head.ensures)) _ c.put_u64.ensures

pub returns : goal.returns
unfolding index_frame
returns c = frame-end c.args.a.now c.args.at c.args.m 2 (index_key c.args.key.now) (le 8 c.args.page.0) _ _ (index_key-size_lem c.args.key.now ∙ sym c.index_key_size-k.ensures) (length-le 8 c.args.page.0) c.requires.page_in_bounds _ c.frame_len.ensures _ c.put_head.ensures _ (stored_bytes _ _ _ _ _ _ c.write_index_key-w.ensures (le-leb _ _ c.requires.key_len_bound) (frame-key-room c.args.a.now c.args.at c.args.m 2 (index_key c.args.key.now) (le 8 c.args.page.0) _ _ (index_key-size_lem c.args.key.now ∙ sym c.index_key_size-k.ensures) (length-le 8 c.args.page.0) c.requires.page_in_bounds _ c.frame_len.ensures _ c.put_head.ensures)) _ c.put_u64.ensures _ c.zeros.ensures
