-- `pages::old_ver` meets its contract. Assumes nothing.
use native.Mathlib.Omega.{arith}
use mathlib.Core.Path.{ap, ◌∙◌}
use Prim.Native.Nat.{ℕ, ◌+◌}
use Rattle.values.specs.Keys.{ver_in}
use Rattle.pages.proofs.InHand.{held-old}
use Rattle.pages.proofs.old_ver.Goals as goal

pub overflow_add-hand : goal.overflow_add-hand
overflow_add-hand c = omega (arith, (held-old c.args.s.now c.args.hand c.args.i c.requires.held c.requires.i_lt_elems).slot, c.well_formed)

pub overflow_mul-i : goal.overflow_mul-i
overflow_mul-i c = omega (arith, (held-old c.args.s.now c.args.hand c.args.i c.requires.held c.requires.i_lt_elems).slot, c.well_formed)

pub overflow_add-hand-2 : goal.overflow_add-hand-2
overflow_add-hand-2 c = omega (arith, (held-old c.args.s.now c.args.hand c.args.i c.requires.held c.requires.i_lt_elems).slot, c.well_formed)

pub read_u32-n-requires : goal.read_u32-n-requires
read_u32-n-requires c = omega (arith, (held-old c.args.s.now c.args.hand c.args.i c.requires.held c.requires.i_lt_elems).slot)

pub overflow_add-hand-3 : goal.overflow_add-hand-3
overflow_add-hand-3 c = let o = held-old c.args.s.now c.args.hand c.args.i c.requires.held c.requires.i_lt_elems in
    omega (arith, o.place, o.ver, c.read_u32-n.ensures, c.well_formed)

pub ver_at-requires : goal.ver_at-requires
ver_at-requires c = let o = held-old c.args.s.now c.args.hand c.args.i c.requires.held c.requires.i_lt_elems in
    omega (arith, o.place, o.ver, c.read_u32-n.ensures)

pub returns : goal.returns
returns c = c.ver_at.ensures ∙ ap (λ (n : ℕ). ver_in c.args.s.now (c.args.hand.at + n)) c.read_u32-n.ensures
