-- `build_rows::old_here` meets its contract. Assumes nothing.
use native.Mathlib.Omega.{arith}
use Rattle.build_rows.proofs.Hands.{old-found, old-room, old-fits, old-is}
use Rattle.build_rows.proofs.old_here.Goals as goal

pub overflow_add-hand : goal.overflow_add-hand
overflow_add-hand c = omega (arith, (old-found c.args.s.now c.args.hand c.args.i c.requires.answers.0 c.requires.answers.1 c.requires.answers.2 c.requires.holds c.requires.i_lt_elems c.requires.answers.3).slot)

pub overflow_mul-i : goal.overflow_mul-i
overflow_mul-i c = omega (arith, (old-found c.args.s.now c.args.hand c.args.i c.requires.answers.0 c.requires.answers.1 c.requires.answers.2 c.requires.holds c.requires.i_lt_elems c.requires.answers.3).slot)

pub overflow_add-hand-2 : goal.overflow_add-hand-2
overflow_add-hand-2 c = omega (arith, (old-found c.args.s.now c.args.hand c.args.i c.requires.answers.0 c.requires.answers.1 c.requires.answers.2 c.requires.holds c.requires.i_lt_elems c.requires.answers.3).slot)

pub read_u32-requires : goal.read_u32-requires
read_u32-requires c = (old-found c.args.s.now c.args.hand c.args.i c.requires.answers.0 c.requires.answers.1 c.requires.answers.2 c.requires.holds c.requires.i_lt_elems c.requires.answers.3).slot

pub overflow_add-p : goal.overflow_add-p
overflow_add-p c = omega (arith, old-room c.args.s.now c.args.hand c.args.i c.requires.answers.2 (old-found c.args.s.now c.args.hand c.args.i c.requires.answers.0 c.requires.answers.1 c.requires.answers.2 c.requires.holds c.requires.i_lt_elems c.requires.answers.3) c.read_u32.result c.read_u32.ensures)

pub overflow_add-f : goal.overflow_add-f
overflow_add-f c = omega (arith, old-room c.args.s.now c.args.hand c.args.i c.requires.answers.2 (old-found c.args.s.now c.args.hand c.args.i c.requires.answers.0 c.requires.answers.1 c.requires.answers.2 c.requires.holds c.requires.i_lt_elems c.requires.answers.3) c.read_u32.result c.read_u32.ensures)

pub bounds-s-p : goal.bounds-s-p
bounds-s-p c = old-room c.args.s.now c.args.hand c.args.i c.requires.answers.2 (old-found c.args.s.now c.args.hand c.args.i c.requires.answers.0 c.requires.answers.1 c.requires.answers.2 c.requires.holds c.requires.i_lt_elems c.requires.answers.3) c.read_u32.result c.read_u32.ensures

pub overflow_add-p-2 : goal.overflow_add-p-2
overflow_add-p-2 c = omega (arith, old-room c.args.s.now c.args.hand c.args.i c.requires.answers.2 (old-found c.args.s.now c.args.hand c.args.i c.requires.answers.0 c.requires.answers.1 c.requires.answers.2 c.requires.holds c.requires.i_lt_elems c.requires.answers.3) c.read_u32.result c.read_u32.ensures)

pub bytes_here-requires : goal.bytes_here-requires
bytes_here-requires c = old-fits c.args.s.now c.args.hand c.args.i c.requires.answers.2 (old-found c.args.s.now c.args.hand c.args.i c.requires.answers.0 c.requires.answers.1 c.requires.answers.2 c.requires.holds c.requires.i_lt_elems c.requires.answers.3) c.read_u32.result c.read_u32.ensures

pub returns : goal.returns
returns c = λ p q r e. old-is c.args.s.now c.args.hand c.args.i r (old-found c.args.s.now c.args.hand c.args.i p q r c.requires.holds c.requires.i_lt_elems e) c.read_u32.result c.read_u32.ensures c.bytes_here.result c.bytes_here.ensures
