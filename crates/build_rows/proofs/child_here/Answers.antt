-- `build_rows::child_here` meets its contract. Assumes nothing.
use native.Mathlib.Omega.{arith}
use Rattle.build_rows.proofs.Heads.{judged-slot, child-is}
use Rattle.build_rows.proofs.child_here.Goals as goal

pub key_here-k-requires : goal.key_here-k-requires
key_here-k-requires c = judged-slot c.args.s.now c.args.b 1 c.args.i (omega arith) c.requires.judged c.requires.i_lt_elems

pub overflow_add-k : goal.overflow_add-k
overflow_add-k c = omega (arith, (child-is c.args.s.now c.args.b c.args.i c.key_here-k.result (judged-slot c.args.s.now c.args.b 1 c.args.i (omega arith) c.requires.judged c.requires.i_lt_elems).rec c.requires.judged c.key_here-k.ensures (judged-slot c.args.s.now c.args.b 1 c.args.i (omega arith) c.requires.judged c.requires.i_lt_elems).read).0)

pub read_u64-requires : goal.read_u64-requires
read_u64-requires c = (child-is c.args.s.now c.args.b c.args.i c.key_here-k.result (judged-slot c.args.s.now c.args.b 1 c.args.i (omega arith) c.requires.judged c.requires.i_lt_elems).rec c.requires.judged c.key_here-k.ensures (judged-slot c.args.s.now c.args.b 1 c.args.i (omega arith) c.requires.judged c.requires.i_lt_elems).read).0

pub returns : goal.returns
returns c = λ r e. (child-is c.args.s.now c.args.b c.args.i c.key_here-k.result r c.requires.judged c.key_here-k.ensures e).1 c.read_u64.result c.read_u64.ensures
