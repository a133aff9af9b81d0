-- `merge::merge_kinds` meets its contract. Assumes nothing.
use mathlib.Core.Path.{sym, ◌∙◌}
use lib.Seq.{length-take-le}
use Rattle.merge.proofs.Answering.{left_sound, right_sound, are_leaves, are_indexes_lem, one-leaves, one-indexes, leaves_not, indexes_not, on-leaves, on-indexes, leaves_apart, indexes_apart, on_mixed, on_bad}
use Rattle.merge.proofs.merge_kinds.Goals as goal

pub slice_bounds-kinds_of-end : goal.slice_bounds-kinds_of-end
slice_bounds-kinds_of-end c = c.requires.next_in_bounds

pub slice_bounds-kinds_of-end-2 : goal.slice_bounds-kinds_of-end-2
slice_bounds-kinds_of-end-2 c = sym (length-take-le _ _ c.requires.next_in_bounds)

pub slice_bounds-meets-end : goal.slice_bounds-meets-end
slice_bounds-meets-end c = c.requires.next_in_bounds

pub slice_bounds-meets-end-2 : goal.slice_bounds-meets-end-2
slice_bounds-meets-end-2 c = sym (length-take-le _ _ c.requires.next_in_bounds)

pub merge_leaves-requires : goal.merge_leaves-requires
merge_leaves-requires c = record {
  next_in_bounds = c.requires.next_in_bounds;
  none_value = c.requires.none_value;
  sane = c.requires.sane;
  sound = (left_sound _ _ _ _ c.kinds_of-k.ensures (λ e. leaves_not (sym c.in-Leaves.is ∙ e)), right_sound _ _ _ _ c.kinds_of-k.ensures (λ e. leaves_not (sym c.in-Leaves.is ∙ e)));
  left_value = are_leaves _ _ _ _ c.kinds_of-k.ensures c.in-Leaves.is;
  right_value = sym c.meets-met.ensures ∙ c.if-met.true;
}

pub returns-then-met : goal.returns-then-met
returns-then-met c = let all = on-leaves c.args.a.now c.args.next c.args.m c.args.left c.args.right _ c.kinds_of-k.ensures _ c.meets-met.ensures c.in-Leaves.is c.if-met.true _ _ c.merge_leaves.ensures.value c.merge_leaves.ensures.a_after in record {
  value = all.0;
  a_after = all.1;
}

pub slice_bounds-apart-end : goal.slice_bounds-apart-end
slice_bounds-apart-end c = c.requires.next_in_bounds

pub slice_bounds-apart-end-in-Leaves : goal.slice_bounds-apart-end-in-Leaves
slice_bounds-apart-end-in-Leaves c = sym (length-take-le _ _ c.requires.next_in_bounds)

pub apart-requires : goal.apart-requires
apart-requires c = record {
  none_value = c.requires.none_value;
  sound = left_sound _ _ _ _ c.kinds_of-k.ensures (λ e. leaves_not (sym c.in-Leaves.is ∙ e));
  sound_2 = right_sound _ _ _ _ c.kinds_of-k.ensures (λ e. leaves_not (sym c.in-Leaves.is ∙ e));
  left_value = one-leaves _ _ _ _ c.kinds_of-k.ensures c.in-Leaves.is;
}

pub merge_indexes-requires : goal.merge_indexes-requires
merge_indexes-requires c = record {
  next_in_bounds = c.requires.next_in_bounds;
  none_value = c.requires.none_value;
  sound = (left_sound _ _ _ _ c.kinds_of-k.ensures (λ e. indexes_not (sym c.in-Indexes.is ∙ e)), right_sound _ _ _ _ c.kinds_of-k.ensures (λ e. indexes_not (sym c.in-Indexes.is ∙ e)));
  left_value = are_indexes_lem _ _ _ _ c.kinds_of-k.ensures c.in-Indexes.is;
  right_value = sym c.meets-met.ensures ∙ c.if-met-2.true;
}

pub returns-then-met-2 : goal.returns-then-met-2
returns-then-met-2 c = let all = on-indexes c.args.a.now c.args.next c.args.m c.args.left c.args.right _ c.kinds_of-k.ensures _ c.meets-met.ensures c.in-Indexes.is c.if-met-2.true _ _ c.merge_indexes.ensures.value c.merge_indexes.ensures.a_after in record {
  value = all.0;
  a_after = all.1;
}

pub slice_bounds-apart-end-in-Indexes : goal.slice_bounds-apart-end-in-Indexes
slice_bounds-apart-end-in-Indexes c = c.requires.next_in_bounds

pub slice_bounds-apart-end-in-Indexes-2 : goal.slice_bounds-apart-end-in-Indexes-2
slice_bounds-apart-end-in-Indexes-2 c = sym (length-take-le _ _ c.requires.next_in_bounds)

pub apart-requires-in-Indexes : goal.apart-requires-in-Indexes
apart-requires-in-Indexes c = record {
  none_value = c.requires.none_value;
  sound = left_sound _ _ _ _ c.kinds_of-k.ensures (λ e. indexes_not (sym c.in-Indexes.is ∙ e));
  sound_2 = right_sound _ _ _ _ c.kinds_of-k.ensures (λ e. indexes_not (sym c.in-Indexes.is ∙ e));
  left_value = one-indexes _ _ _ _ c.kinds_of-k.ensures c.in-Indexes.is;
}

pub returns-else-met : goal.returns-else-met
returns-else-met c = let all = leaves_apart c.args.a.now c.args.next c.args.m c.args.left c.args.right _ c.kinds_of-k.ensures _ c.meets-met.ensures c.in-Leaves.is c.if-met.false _ c.apart.ensures in record {
  value = all.0;
  a_after = all.1;
}

pub returns-else-met-2 : goal.returns-else-met-2
returns-else-met-2 c = let all = indexes_apart c.args.a.now c.args.next c.args.m c.args.left c.args.right _ c.kinds_of-k.ensures _ c.meets-met.ensures c.in-Indexes.is c.if-met-2.false _ c.apart-in-Indexes.ensures in record {
  value = all.0;
  a_after = all.1;
}

pub returns-in-Mixed : goal.returns-in-Mixed
returns-in-Mixed c = let all = on_mixed c.args.a.now c.args.next c.args.m c.args.left c.args.right _ c.kinds_of-k.ensures c.in-Mixed.is in record {
  value = all.0;
  a_after = all.1;
}

pub returns-in-Bad : goal.returns-in-Bad
returns-in-Bad c = let all = on_bad c.args.a.now c.args.next c.args.m c.args.left c.args.right _ c.kinds_of-k.ensures c.in-Bad.is in record {
  value = all.0;
  a_after = all.1;
}
