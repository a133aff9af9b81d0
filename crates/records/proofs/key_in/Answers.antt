-- `records::key_in` meets its contract. Assumes nothing.
use native.Mathlib.Omega.{arith}
use mathlib.Core.Path.{sym, ◌∙◌}
use borrow.Author.Tests.{le-leb, lt-leb}
use Rattle.records.specs.Records.{key_in}
use Rattle.records.proofs.Inside.{ends, place_inside}
use Rattle.records.proofs.key_in.Goals as goal

pub slice_bounds-key_at-end : goal.slice_bounds-key_at-end
slice_bounds-key_at-end c = sym (ends c.args.s.now c.args.b c.requires)

pub returns-in_err-k : goal.returns-in_err-k
unfolding key_in
returns-in_err-k c = c.from_residual.ensures ∙ simp (← c.key_at.ensures, c.in_err-k.was)

pub overflow_add-b : goal.overflow_add-b
overflow_add-b c = let k = place_inside c.args.s.now c.args.b c.args.at c.in_ok-k.k.ver_at c.in_ok-k.k.rest_at c.in_ok-k.k.rest_len c.requires (sym c.key_at.ensures ∙ c.in_ok-k.was) in
    omega (arith, k.rest, c.requires.slots, c.requires.records, c.requires.payload, c.requires.arena, c.requires.prefix, c.well_formed)

pub returns-then-b-k-gt-MAX_KEY : goal.returns-then-b-k-gt-MAX_KEY
unfolding key_in
returns-then-b-k-gt-MAX_KEY c = simp (← c.key_at.ensures, c.in_ok-k.was, lt-leb _ _ c.if-b-k-gt-MAX_KEY.true)

pub returns : goal.returns
unfolding key_in
returns c = simp (← c.key_at.ensures, c.in_ok-k.was, le-leb _ _ c.if-b-k-gt-MAX_KEY.false)
