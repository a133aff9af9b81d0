use borrow.Author.Tests.{not-true}
use native.Mathlib.Omega.{arith}
use Rattle.build_heads.proofs.Locating.{unnamed, stays, run_small, settled-end, turned, turned-fits}
use Rattle.build_heads.proofs.settle.Goals as goal

pub returns-then-not-named : goal.returns-then-not-named
returns-then-not-named c = unnamed _ _ _ c.args.named _ (c.if-not-named.true)

pub returns-then-p-gt0 : goal.returns-then-p-gt0
returns-then-p-gt0 c = stays _ _ _ _ _ c.if-p-gt0.true

pub look_ahead-s-requires : goal.look_ahead-s-requires
look_ahead-s-requires c = (c.requires.sane.limit, c.requires.sane.budget)

pub returns-then-s-eq0 : goal.returns-then-s-eq0
returns-then-s-eq0 c = settled-end c.args.m _ _ _ c.requires.sane c.if-p-gt0.false _ c.look_ahead-s.ensures.run_value c.if-s-eq0.true

pub overflow_cast-s : goal.overflow_cast-s
overflow_cast-s c = let z = run_small c.args.m _ c.args.named c.args.p c.requires.sane c.if-p-gt0.false _ c.look_ahead-s.ensures.run_value in omega (arith, z)

pub overflow_add-end : goal.overflow_add-end
overflow_add-end c = let z = turned-fits c.args.m _ c.args.named c.args.p c.requires.sane c.if-p-gt0.false _ c.look_ahead-s.ensures.run_value c.if-s-eq0.false _ c.frame_len.ensures c.requires.c_bound in omega (arith, z)

pub overflow_add-result : goal.overflow_add-result
overflow_add-result c = let z = turned-fits c.args.m _ c.args.named c.args.p c.requires.sane c.if-p-gt0.false _ c.look_ahead-s.ensures.run_value c.if-s-eq0.false _ c.frame_len.ensures c.requires.c_bound in omega (arith, z)

pub returns : goal.returns
returns c = turned c.args.m _ _ _ c.requires.sane c.if-p-gt0.false _ c.look_ahead-s.ensures.run_value c.if-s-eq0.false _ c.frame_len.ensures
