-- `build_rows::past_here` meets its contract. Assumes nothing.
use native.Mathlib.Omega.{arith}
use mathlib.Core.Path.{sym, ◌∙◌}
use Rattle.build_rows.proofs.Heads.{judged-slot, head_found}
use Rattle.build_rows.proofs.past_here.Goals as goal

pub key_here-k-requires : goal.key_here-k-requires
key_here-k-requires c = judged-slot c.args.s.now c.args.b 0 c.args.i (omega arith) c.requires.judged c.requires.i_lt_elems

pub overflow_add-at : goal.overflow_add-at
overflow_add-at c = omega (arith, (head_found c.args.s.now c.args.b c.args.i c.key_here-k.result (judged-slot c.args.s.now c.args.b 0 c.args.i (omega arith) c.requires.judged c.requires.i_lt_elems).rec c.requires.judged c.key_here-k.ensures (judged-slot c.args.s.now c.args.b 0 c.args.i (omega arith) c.requires.judged c.requires.i_lt_elems).read).value.flag)

pub bounds-s-at : goal.bounds-s-at
bounds-s-at c = (head_found c.args.s.now c.args.b c.args.i c.key_here-k.result (judged-slot c.args.s.now c.args.b 0 c.args.i (omega arith) c.requires.judged c.requires.i_lt_elems).rec c.requires.judged c.key_here-k.ensures (judged-slot c.args.s.now c.args.b 0 c.args.i (omega arith) c.requires.judged c.requires.i_lt_elems).read).value.flag

pub overflow_add-at-2 : goal.overflow_add-at-2
overflow_add-at-2 c = omega (arith, (head_found c.args.s.now c.args.b c.args.i c.key_here-k.result (judged-slot c.args.s.now c.args.b 0 c.args.i (omega arith) c.requires.judged c.requires.i_lt_elems).rec c.requires.judged c.key_here-k.ensures (judged-slot c.args.s.now c.args.b 0 c.args.i (omega arith) c.requires.judged c.requires.i_lt_elems).read).value.flag)

pub hist_here-requires : goal.hist_here-requires
hist_here-requires c = (head_found c.args.s.now c.args.b c.args.i c.key_here-k.result (judged-slot c.args.s.now c.args.b 0 c.args.i (omega arith) c.requires.judged c.requires.i_lt_elems).rec c.requires.judged c.key_here-k.ensures (judged-slot c.args.s.now c.args.b 0 c.args.i (omega arith) c.requires.judged c.requires.i_lt_elems).read).value.ref

pub returns : goal.returns
returns c = λ r e. c.hist_here.ensures ∙ sym (head_found c.args.s.now c.args.b c.args.i c.key_here-k.result r c.requires.judged c.key_here-k.ensures e).value.hist
