use mathlib.Core.Bool.{true}
use Prim.Native.Nat.{◌+◌, ◌-◌, ◌≤◌}
use lib.ListN.{length}
use Rattle.spans.specs.Span.{put}
use Rattle.spans.proofs.Writing.{Writing}
use Rattle.build_image.specs.Image.{old_recs}
use Rattle.build_image.specs.Sizes.{remotes_len}
use Rattle.build_history.specs.Runs.{these}
use Rattle.build_history.proofs.old_recs.Given as goal

abbrev pub invariant-loop : goal.invariant-loop
invariant-loop l = (Writing l.initial.a l.footing (put l.initial.a l.at (old_recs l.limit l.remote (these l.list l.initial.a l.footing true l.initial.c l.n))) l.a l.to (old_recs l.limit l.next (these l.list l.initial.a l.footing true l.c (l.n - l.counter)))) × (l.next + remotes_len l.limit (these l.list l.initial.a l.footing true l.c (l.n - l.counter)) ≤ length l.initial.a)
