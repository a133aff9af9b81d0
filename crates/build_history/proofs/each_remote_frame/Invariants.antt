use Prim.Native.Nat.{◌-◌}
use Rattle.spans.specs.Span.{put}
use Rattle.spans.proofs.Writing.{Writing}
use Rattle.build_image.specs.Image.{remote_frames}
use Rattle.build_history.specs.Runs.{these}
use Rattle.build_history.proofs.each_remote_frame.Given as goal

abbrev pub invariant-loop : goal.invariant-loop
invariant-loop l = Writing l.initial.a l.footing (put l.initial.a l.at (remote_frames l.m (these l.list l.initial.a l.footing l.want l.initial.c l.n))) l.a l.to (remote_frames l.m (these l.list l.initial.a l.footing l.want l.c (l.n - l.counter)))
