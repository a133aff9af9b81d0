-- `delta::key_in` meets its contract. Assumes nothing.
use native.Mathlib.Omega.{arith}
use mathlib.Core.Path.{sym, ◌∙◌}
use lib.ListN.{take}
use borrow.Author.Tests.{le-leb, lt-leb, eq-eqb, ne_eqb}
use lib.Seq.{length-take-le}
use Rattle.records.proofs.Places.{key-place}
use Rattle.delta.specs.Read.{key_in}
use Rattle.delta.proofs.key_in.Goals as goal

pub slice_bounds-key_at-end : goal.slice_bounds-key_at-end
slice_bounds-key_at-end c = sym (length-take-le c.args.d.val_at c.args.s.now c.requires)

pub returns-in_err-k : goal.returns-in_err-k
unfolding key_in
returns-in_err-k c = c.from_residual.ensures ∙ simp (← c.key_at.ensures, c.in_err-k.was)

pub returns-then-k-gt-MAX_KEY : goal.returns-then-k-gt-MAX_KEY
unfolding key_in
returns-then-k-gt-MAX_KEY c = simp (← c.key_at.ensures, c.in_ok-k.was, lt-leb _ _ c.if-k-gt-MAX_KEY.true)

pub overflow_add-k : goal.overflow_add-k
overflow_add-k c = omega (arith, (key-place (take c.args.d.val_at c.args.s.now) c.args.d.key_at c.args.kind c.in_ok-k.k.ver_at c.in_ok-k.k.rest_at c.in_ok-k.k.rest_len (sym c.key_at.ensures ∙ c.in_ok-k.was)).rest, length-take-le c.args.d.val_at c.args.s.now c.requires, c.well_formed)

pub returns-then-k-d : goal.returns-then-k-d
unfolding key_in
returns-then-k-d c = simp (← c.key_at.ensures, c.in_ok-k.was, le-leb _ _ c.if-k-gt-MAX_KEY.false, ne_eqb _ _ c.if-k-d.true)

pub returns : goal.returns
unfolding key_in
returns c = simp (← c.key_at.ensures, c.in_ok-k.was, le-leb _ _ c.if-k-gt-MAX_KEY.false, eq-eqb _ _ c.if-k-d.false)
