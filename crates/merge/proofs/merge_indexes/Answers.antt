-- `merge::merge_indexes` meets its contract. Assumes nothing.
use mathlib.Core.Path.{sym, ◌∙◌}
use mathlib.Core.List.{List}
use native.Mathlib.Omega.{arith}
use lib.ListN.{take}
use lib.Seq.{length-take-le}
use Rattle.build_image.specs.Image.{Borders}
use Rattle.build_sources.specs.Source.{Entry}
use Rattle.build_table.specs.Index.{index_answer, index_arena}
use Rattle.merge.proofs.Merging.{never_bad}
use Rattle.merge.proofs.Building.{opens_always, indexes-judged, indexes-held, indexes_rise, indexes-inside, indexes-told}
use Rattle.merge.proofs.merge_indexes.Goals as goal

pub slice_bounds-gather-end : goal.slice_bounds-gather-end
slice_bounds-gather-end c = c.requires.next_in_bounds

pub slice_bounds-gather-end-2 : goal.slice_bounds-gather-end-2
slice_bounds-gather-end-2 c = sym (length-take-le _ _ c.requires.next_in_bounds)

pub returns-in_default : goal.returns-in_default
returns-in_default c = absurd (never_bad _ _ _ c.requires.sound.0 c.requires.sound.1 (sym c.gather.ensures ∙ c.in_default.is))

pub slice_bounds-open_at-end : goal.slice_bounds-open_at-end
slice_bounds-open_at-end c = c.requires.next_in_bounds

pub slice_bounds-open_at-end-2 : goal.slice_bounds-open_at-end-2
slice_bounds-open_at-end-2 c = sym (length-take-le _ _ c.requires.next_in_bounds)

pub returns-in_default-open_at : goal.returns-in_default-open_at
returns-in_default-open_at c = absurd (opens_always _ _ c.requires.sound.0 (sym c.open_at.ensures ∙ c.in_default-open_at.is))

pub slice_bounds-open_at-end-3 : goal.slice_bounds-open_at-end-3
slice_bounds-open_at-end-3 c = c.requires.next_in_bounds

pub slice_bounds-open_at-end-4 : goal.slice_bounds-open_at-end-4
slice_bounds-open_at-end-4 c = sym (length-take-le _ _ c.requires.next_in_bounds)

pub returns-in_default-open_at-2 : goal.returns-in_default-open_at-2
returns-in_default-open_at-2 c = absurd (opens_always _ _ c.requires.sound.1 (sym c.open_at-2.ensures ∙ c.in_default-open_at-2.is))

pub build_indexes-requires : goal.build_indexes-requires
build_indexes-requires c = record {
  next_in_bounds = c.requires.next_in_bounds;
  judged = indexes-judged (take c.args.next c.args.a.now) c.args.left c.args.right c.requires.sound.0 c.requires.sound.1 _ _ (sym c.gather.ensures ∙ c.in-Some.is) c.args.none.now c.requires.none_value c.requires.right_value _ (sym c.open_at.ensures ∙ c.in-Some-open_at.is) _ (sym c.open_at-2.ensures ∙ c.in-Some-open_at-2.is) c.requires.left_value.0 c.requires.left_value.1;
  from_le_end = (omega arith, omega arith, omega arith);
  held = indexes-held (take c.args.next c.args.a.now) c.args.left c.args.right c.requires.sound.0 c.requires.sound.1 _ _ (sym c.gather.ensures ∙ c.in-Some.is) c.args.none.now c.requires.none_value c.requires.right_value _ (sym c.open_at.ensures ∙ c.in-Some-open_at.is) _ (sym c.open_at-2.ensures ∙ c.in-Some-open_at-2.is) c.requires.left_value.0 c.requires.left_value.1;
  count_value = indexes_rise (take c.args.next c.args.a.now) c.args.left c.args.right c.requires.sound.0 c.requires.sound.1 _ _ (sym c.gather.ensures ∙ c.in-Some.is) c.args.none.now c.requires.none_value c.requires.right_value _ (sym c.open_at.ensures ∙ c.in-Some-open_at.is) _ (sym c.open_at-2.ensures ∙ c.in-Some-open_at-2.is) c.requires.left_value.0 c.requires.left_value.1;
  count_value_2 = indexes-inside (take c.args.next c.args.a.now) c.args.left c.args.right c.requires.sound.0 c.requires.sound.1 _ _ (sym c.gather.ensures ∙ c.in-Some.is) c.args.none.now c.requires.none_value c.requires.right_value _ (sym c.open_at.ensures ∙ c.in-Some-open_at.is) _ (sym c.open_at-2.ensures ∙ c.in-Some-open_at-2.is) c.requires.left_value.0 c.requires.left_value.1;
}

pub returns : goal.returns
returns c = record {
  value = indexes-told (take c.args.next c.args.a.now) c.args.left c.args.right c.requires.sound.0 c.requires.sound.1 _ _ (sym c.gather.ensures ∙ c.in-Some.is) c.args.none.now c.requires.none_value c.requires.right_value _ (sym c.open_at.ensures ∙ c.in-Some-open_at.is) _ (sym c.open_at-2.ensures ∙ c.in-Some-open_at-2.is) c.requires.left_value.0 c.requires.left_value.1 (λ (b : Borders) (es : List Entry). index_answer c.args.a.now c.args.next c.args.m b es) _ c.build_indexes.ensures.value;
  a_after = indexes-told (take c.args.next c.args.a.now) c.args.left c.args.right c.requires.sound.0 c.requires.sound.1 _ _ (sym c.gather.ensures ∙ c.in-Some.is) c.args.none.now c.requires.none_value c.requires.right_value _ (sym c.open_at.ensures ∙ c.in-Some-open_at.is) _ (sym c.open_at-2.ensures ∙ c.in-Some-open_at-2.is) c.requires.left_value.0 c.requires.left_value.1 (λ (b : Borders) (es : List Entry). index_arena c.args.a.now c.args.next c.args.m b es) _ c.build_indexes.ensures.a_after;
}
