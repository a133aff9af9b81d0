-- `build_sweep::index_ent` meets its contract. Assumes nothing.
use native.Mathlib.Omega.{arith}
use Rattle.build_sweep.proofs.Ents.{index_few, index_long, index_cut, index_found}
use Rattle.build_sweep.proofs.index_ent.Goals as goal

pub returns-then-n-lt10 : goal.returns-then-n-lt10
returns-then-n-lt10 c = index_few c.args.s.now c.args.at (omega arith) (omega arith)

pub returns-then-klen-gt-MAX_KEY : goal.returns-then-klen-gt-MAX_KEY
returns-then-klen-gt-MAX_KEY c = index_long c.args.s.now c.args.at _ c.read_u16_be-klen.ensures (omega arith) c.if-klen-gt-MAX_KEY.true

pub returns-then-n-klen : goal.returns-then-n-klen
returns-then-n-klen c = index_cut c.args.s.now c.args.at c.read_u16_be-klen.result c.read_u16_be-klen.ensures (omega arith) c.if-klen-gt-MAX_KEY.false (omega arith)

pub returns : goal.returns
returns c = index_found c.args.s.now c.args.at c.read_u16_be-klen.result c.read_u16_be-klen.ensures (omega arith) c.if-klen-gt-MAX_KEY.false (omega arith)
