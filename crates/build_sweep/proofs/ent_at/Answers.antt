-- `build_sweep::ent_at` meets its contract. Assumes nothing.
use native.Mathlib.Omega.{arith}
use Rattle.build_sweep.proofs.Ents.{ent-few, ent-long, ent_cut, ent_big, ent_open, ent-found}
use Rattle.build_sweep.proofs.ent_at.Goals as goal

pub returns-then-n-lt18 : goal.returns-then-n-lt18
returns-then-n-lt18 c = ent-few c.args.s.now c.args.at (omega arith) (omega arith)

pub returns-then-klen-gt-MAX_KEY : goal.returns-then-klen-gt-MAX_KEY
returns-then-klen-gt-MAX_KEY c = ent-long c.args.s.now c.args.at _ c.read_u16_be-klen.ensures (omega arith) c.if-klen-gt-MAX_KEY.true

pub returns-then-n-klen : goal.returns-then-n-klen
returns-then-n-klen c = ent_cut c.args.s.now c.args.at c.read_u16_be-klen.result c.read_u16_be-klen.ensures (omega arith) c.if-klen-gt-MAX_KEY.false (omega arith)

pub returns-then-vlen-gt-MAX_VALUE : goal.returns-then-vlen-gt-MAX_VALUE
returns-then-vlen-gt-MAX_VALUE c = ent_big c.args.s.now c.args.at c.read_u16_be-klen.result c.read_u16_be-klen.ensures (omega arith) c.if-klen-gt-MAX_KEY.false _ c.read_u32_be-vlen.ensures (omega arith) c.if-vlen-gt-MAX_VALUE.true

pub returns-then-n-klen-2 : goal.returns-then-n-klen-2
returns-then-n-klen-2 c = ent_open c.args.s.now c.args.at c.read_u16_be-klen.result c.read_u16_be-klen.ensures (omega arith) c.if-klen-gt-MAX_KEY.false c.read_u32_be-vlen.result c.read_u32_be-vlen.ensures (omega arith) c.if-vlen-gt-MAX_VALUE.false (omega arith)

pub returns : goal.returns
returns c = ent-found c.args.s.now c.args.at c.read_u16_be-klen.result c.read_u16_be-klen.ensures (omega arith) c.if-klen-gt-MAX_KEY.false c.read_u32_be-vlen.result c.read_u32_be-vlen.ensures (omega arith) c.if-vlen-gt-MAX_VALUE.false (omega arith)
