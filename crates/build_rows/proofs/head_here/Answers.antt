-- `build_rows::head_here` meets its contract. Assumes nothing.
use native.Mathlib.Omega.{arith}
use Prim.Native.Nat.{ℕ, ◌+◌}
use mathlib.Core.Path.{sym, ap, ◌∙◌, subst}
use lib.ListN.{get_or}
use Rattle.build_rows.specs.Fields.{BytesFit, bytes_at}
use Rattle.build_rows.proofs.Fields.{far_of}
use Rattle.build_rows.proofs.Heads.{judged-slot, head_found, head_is_lem}
use Rattle.build_rows.proofs.head_here.Goals as goal

pub key_here-k-requires : goal.key_here-k-requires
key_here-k-requires c = judged-slot c.args.s.now c.args.b 0 c.args.i (omega arith) c.requires.judged c.requires.i_lt_elems

pub overflow_add-at : goal.overflow_add-at
overflow_add-at c = omega (arith, (head_found c.args.s.now c.args.b c.args.i c.key_here-k.result (judged-slot c.args.s.now c.args.b 0 c.args.i (omega arith) c.requires.judged c.requires.i_lt_elems).rec c.requires.judged c.key_here-k.ensures (judged-slot c.args.s.now c.args.b 0 c.args.i (omega arith) c.requires.judged c.requires.i_lt_elems).read).value.flag)

pub bounds-s-at : goal.bounds-s-at
bounds-s-at c = (head_found c.args.s.now c.args.b c.args.i c.key_here-k.result (judged-slot c.args.s.now c.args.b 0 c.args.i (omega arith) c.requires.judged c.requires.i_lt_elems).rec c.requires.judged c.key_here-k.ensures (judged-slot c.args.s.now c.args.b 0 c.args.i (omega arith) c.requires.judged c.requires.i_lt_elems).read).value.flag

pub overflow_sub-result : goal.overflow_sub-result
overflow_sub-result c = (head_found c.args.s.now c.args.b c.args.i c.key_here-k.result (judged-slot c.args.s.now c.args.b 0 c.args.i (omega arith) c.requires.judged c.requires.i_lt_elems).rec c.requires.judged c.key_here-k.ensures (judged-slot c.args.s.now c.args.b 0 c.args.i (omega arith) c.requires.judged c.requires.i_lt_elems).read).long

pub overflow_add-at-2 : goal.overflow_add-at-2
overflow_add-at-2 c = omega (arith, (head_found c.args.s.now c.args.b c.args.i c.key_here-k.result (judged-slot c.args.s.now c.args.b 0 c.args.i (omega arith) c.requires.judged c.requires.i_lt_elems).rec c.requires.judged c.key_here-k.ensures (judged-slot c.args.s.now c.args.b 0 c.args.i (omega arith) c.requires.judged c.requires.i_lt_elems).read).value.flag)

pub hist_here-requires : goal.hist_here-requires
hist_here-requires c = (head_found c.args.s.now c.args.b c.args.i c.key_here-k.result (judged-slot c.args.s.now c.args.b 0 c.args.i (omega arith) c.requires.judged c.requires.i_lt_elems).rec c.requires.judged c.key_here-k.ensures (judged-slot c.args.s.now c.args.b 0 c.args.i (omega arith) c.requires.judged c.requires.i_lt_elems).read).value.ref

pub overflow_add-at-3 : goal.overflow_add-at-3
overflow_add-at-3 c = omega (arith, (head_found c.args.s.now c.args.b c.args.i c.key_here-k.result (judged-slot c.args.s.now c.args.b 0 c.args.i (omega arith) c.requires.judged c.requires.i_lt_elems).rec c.requires.judged c.key_here-k.ensures (judged-slot c.args.s.now c.args.b 0 c.args.i (omega arith) c.requires.judged c.requires.i_lt_elems).read).value.flag)

pub behind-requires : goal.behind-requires
behind-requires c = λ z. omega (arith, (head_found c.args.s.now c.args.b c.args.i c.key_here-k.result (judged-slot c.args.s.now c.args.b 0 c.args.i (omega arith) c.requires.judged c.requires.i_lt_elems).rec c.requires.judged c.key_here-k.ensures (judged-slot c.args.s.now c.args.b 0 c.args.i (omega arith) c.requires.judged c.requires.i_lt_elems).read).value.ref z)

pub bytes_here-requires : goal.bytes_here-requires
bytes_here-requires c = subst (λ (x : ℕ). BytesFit c.args.s.now (far_of (get_or c.args.s.now (c.key_here-k.result.at + c.key_here-k.result.len) 0)) x) (sym c.behind.ensures) (head_found c.args.s.now c.args.b c.args.i c.key_here-k.result (judged-slot c.args.s.now c.args.b 0 c.args.i (omega arith) c.requires.judged c.requires.i_lt_elems).rec c.requires.judged c.key_here-k.ensures (judged-slot c.args.s.now c.args.b 0 c.args.i (omega arith) c.requires.judged c.requires.i_lt_elems).read).value.fits

pub returns : goal.returns
returns c = λ r e. head_is_lem c.args.s.now c.key_here-k.result r c.hist_here.result c.bytes_here.result (head_found c.args.s.now c.args.b c.args.i c.key_here-k.result r c.requires.judged c.key_here-k.ensures e) c.hist_here.ensures (c.bytes_here.ensures ∙ ap (bytes_at c.args.s.now (far_of (get_or c.args.s.now (c.key_here-k.result.at + c.key_here-k.result.len) 0))) c.behind.ensures)
