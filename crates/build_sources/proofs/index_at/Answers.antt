use native.Mathlib.Omega.{arith}
use Rattle.build_sources.proofs.Lists.{index_short, index_long, index_cut, index_found}
use Rattle.build_sources.proofs.index_at.Goals as goal

pub returns-then-n-at : goal.returns-then-n-at
returns-then-n-at c = index_short c.args.s.now c.args.c (omega arith)

pub returns-then-n-at-lt2 : goal.returns-then-n-at-lt2
returns-then-n-at-lt2 c = index_short c.args.s.now c.args.c (omega arith)

pub returns-then-klen-gt-MAX_KEY : goal.returns-then-klen-gt-MAX_KEY
returns-then-klen-gt-MAX_KEY c = index_long c.args.s.now c.args.c _ c.read_u16_be-klen.ensures (omega arith) c.if-klen-gt-MAX_KEY.true

pub returns-then-n-at-2 : goal.returns-then-n-at-2
returns-then-n-at-2 c = index_cut c.args.s.now c.args.c c.read_u16_be-klen.result c.read_u16_be-klen.ensures (omega arith) c.if-klen-gt-MAX_KEY.false (omega arith)

pub returns : goal.returns
returns c = index_found c.args.s.now c.args.c c.read_u16_be-klen.result c.read_u16_be-klen.ensures (omega arith) c.if-klen-gt-MAX_KEY.false (omega arith) _ _ _ c.same_key-old.ensures c.new-v.ensures c.read_u64_be.ensures
