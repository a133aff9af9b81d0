use mathlib.Core.Bool.{true}
use Prim.Native.Nat.{◌+◌, ◌-◌, ◌≤◌}
use Rattle.spans.specs.Span.{put}
use Rattle.spans.proofs.Writing.{Writing}
use Rattle.build_image.specs.Image.{old_slots}
use Rattle.build_image.specs.Sizes.{costs_of}
use Rattle.build_paging.specs.Cuts.{total}
use Rattle.build_history.specs.Runs.{these}
use Rattle.build_history.proofs.old_slots.Given as goal

abbrev pub invariant-loop : goal.invariant-loop
invariant-loop l = (Writing l.initial.a l.footing (put l.initial.a l.at (old_slots l.limit l.first (these l.list l.initial.a l.footing true l.initial.c l.n))) l.a l.to (old_slots l.limit l.off (these l.list l.initial.a l.footing true l.c (l.n - l.counter)))) × (l.off + total (costs_of l.limit (these l.list l.initial.a l.footing true l.c (l.n - l.counter))) ≤ 4294967295)
