-- `merge::merge_leaves` meets its contract. Assumes nothing.
use mathlib.Core.Path.{sym, ◌∙◌}
use mathlib.Core.List.{List}
use lib.ListN.{take}
use lib.Seq.{length-take-le}
use Rattle.build_image.specs.Image.{Borders}
use Rattle.build_sources.specs.Source.{Entry}
use Rattle.build_table.specs.Leaf.{leaf_answer, leaf_arena}
use Rattle.merge.proofs.Merging.{never_bad}
use Rattle.merge.proofs.Building.{opens_always, leaves_ready, leaves-told}
use Rattle.merge.proofs.merge_leaves.Goals as goal

pub slice_bounds-gather-end : goal.slice_bounds-gather-end
slice_bounds-gather-end c = c.requires.next_in_bounds

pub slice_bounds-gather-end-2 : goal.slice_bounds-gather-end-2
slice_bounds-gather-end-2 c = sym (length-take-le _ _ c.requires.next_in_bounds)

pub returns-in_default : goal.returns-in_default
returns-in_default c = absurd (never_bad _ _ _ c.requires.sound.0 c.requires.sound.1 (sym c.gather.ensures ∙ c.in_default.is))

pub slice_bounds-open_at-end : goal.slice_bounds-open_at-end
slice_bounds-open_at-end c = c.requires.next_in_bounds

pub slice_bounds-open_at-end-2 : goal.slice_bounds-open_at-end-2
slice_bounds-open_at-end-2 c = sym (length-take-le _ _ c.requires.next_in_bounds)

pub returns-in_default-open_at : goal.returns-in_default-open_at
returns-in_default-open_at c = absurd (opens_always _ _ c.requires.sound.0 (sym c.open_at.ensures ∙ c.in_default-open_at.is))

pub slice_bounds-open_at-end-3 : goal.slice_bounds-open_at-end-3
slice_bounds-open_at-end-3 c = c.requires.next_in_bounds

pub slice_bounds-open_at-end-4 : goal.slice_bounds-open_at-end-4
slice_bounds-open_at-end-4 c = sym (length-take-le _ _ c.requires.next_in_bounds)

pub returns-in_default-open_at-2 : goal.returns-in_default-open_at-2
returns-in_default-open_at-2 c = absurd (opens_always _ _ c.requires.sound.1 (sym c.open_at-2.ensures ∙ c.in_default-open_at-2.is))

pub build_leaves-requires : goal.build_leaves-requires
build_leaves-requires c = record {
  next_in_bounds = c.requires.next_in_bounds;
  leaves = leaves_ready (take c.args.next c.args.a.now) c.args.left c.args.right c.requires.sound.0 c.requires.sound.1 _ _ (sym c.gather.ensures ∙ c.in-Some.is) c.args.none.now c.requires.none_value c.requires.right_value _ (sym c.open_at.ensures ∙ c.in-Some-open_at.is) _ (sym c.open_at-2.ensures ∙ c.in-Some-open_at-2.is) c.requires.left_value.0 c.requires.left_value.1;
  sane = c.requires.sane;
}

pub returns : goal.returns
returns c = record {
  value = leaves-told (take c.args.next c.args.a.now) c.args.left c.args.right c.requires.sound.0 c.requires.sound.1 _ _ (sym c.gather.ensures ∙ c.in-Some.is) c.args.none.now c.requires.none_value c.requires.right_value _ (sym c.open_at.ensures ∙ c.in-Some-open_at.is) _ (sym c.open_at-2.ensures ∙ c.in-Some-open_at-2.is) c.requires.left_value.0 c.requires.left_value.1 (λ (b : Borders) (es : List Entry). leaf_answer c.args.a.now c.args.next c.args.m b es) _ c.build_leaves.ensures.value;
  a_after = leaves-told (take c.args.next c.args.a.now) c.args.left c.args.right c.requires.sound.0 c.requires.sound.1 _ _ (sym c.gather.ensures ∙ c.in-Some.is) c.args.none.now c.requires.none_value c.requires.right_value _ (sym c.open_at.ensures ∙ c.in-Some-open_at.is) _ (sym c.open_at-2.ensures ∙ c.in-Some-open_at-2.is) c.requires.left_value.0 c.requires.left_value.1 (λ (b : Borders) (es : List Entry). leaf_arena c.args.a.now c.args.next c.args.m b es) _ c.build_leaves.ensures.a_after;
}
