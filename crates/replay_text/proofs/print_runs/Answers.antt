use Rattle.std.proofs.Common.{subst}
use Rattle.replay_text.proofs.Runs.{Told, told_short, told_long}
use Rattle.replay_text.proofs.print_runs.Goals as goal

pub loop-b-preserved-then-more-lt3 : goal.loop-b-preserved-then-more-lt3
loop-b-preserved-then-more-lt3 g c =
    let now = subst (Told _ _ c.args.s.now) c.in-Some.ensures.cases.0 c.loop-b.invariant in
    told_short _ _ _ _ c.in-Some.b.now c.in-Some.tail.now (rw (← c.run_of-more.ensures.count) c.if-more-lt3.true) now c.in_ok-print_byte.ensures

pub loop-b-preserved : goal.loop-b-preserved
loop-b-preserved g c =
    let now = subst (Told _ _ c.args.s.now) c.in-Some.ensures.cases.0 c.loop-b.invariant in
    told_long _ _ _ (g.W.Write.contents c.write.new.self) _ c.in-Some.b.now c.in-Some.tail.now c.run_of-more.result c.run_of-more.ensures.count c.if-more-lt3.false now c.in_ok-print_byte.ensures c.in_ok-write.ensures.bytes
