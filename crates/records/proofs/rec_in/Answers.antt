-- `records::rec_in` meets its contract. Assumes nothing.
use native.Mathlib.Omega.{arith}
use mathlib.Core.Path.{sym, ◌∙◌}
use borrow.Author.Tests.{le-leb, lt-leb, eq-eqb, ne_eqb}
use Rattle.records.specs.Records.{rec_in}
use Rattle.records.proofs.Inside.{KeyInside, key-inside}
use Rattle.records.proofs.rec_in.Goals as goal
use Rattle.records.proofs.rec_in.Goals.{In_ok-k}

pub returns-in_err-k : goal.returns-in_err-k
unfolding rec_in
returns-in_err-k c = c.from_residual.ensures ∙ simp (← c.key_in.ensures, c.in_err-k.was)

key : (c : In_ok-k) → KeyInside c.args.b c.in_ok-k.k.ver_at c.in_ok-k.k.rest_at c.in_ok-k.k.rest_len
key c = key-inside c.args.s.now c.args.b c.args.p c.in_ok-k.k.ver_at c.in_ok-k.k.rest_at c.in_ok-k.k.rest_len c.requires (sym c.key_in.ensures ∙ c.in_ok-k.was)

pub overflow_add-q : goal.overflow_add-q
overflow_add-q c = omega (arith, (key (goal.at.overflow_add-q c).In_ok-k).rest, c.requires, c.well_formed)

pub overflow_add-q-then-b-eq-INDEX : goal.overflow_add-q-then-b-eq-INDEX
overflow_add-q-then-b-eq-INDEX c = omega (arith, (key (goal.at.overflow_add-q-then-b-eq-INDEX c).In_ok-k).rest, c.requires.payload, c.requires.arena, c.well_formed)

pub returns-then-b-q : goal.returns-then-b-q
unfolding rec_in
returns-then-b-q c = simp (← c.key_in.ensures, c.in_ok-k.was, eq-eqb _ _ c.if-b-eq-INDEX.true, lt-leb _ _ c.if-b-q.true)

pub overflow_add-result : goal.overflow_add-result
overflow_add-result c = omega (arith, (key (goal.at.overflow_add-result c).In_ok-k).rest, c.requires.payload, c.requires.arena, c.well_formed)

pub returns-then-b-eq-INDEX : goal.returns-then-b-eq-INDEX
unfolding rec_in
returns-then-b-eq-INDEX c = simp (← c.key_in.ensures, c.in_ok-k.was, eq-eqb _ _ c.if-b-eq-INDEX.true, le-leb _ _ c.if-b-q.false)

pub returns-in_err-val : goal.returns-in_err-val
unfolding rec_in
returns-in_err-val c = c.from_residual-in_err-val.ensures ∙ simp (← c.key_in.ensures, c.in_ok-k.was, ne_eqb _ _ c.if-b-eq-INDEX.false, ← c.val_in.ensures, c.in_err-val.was)

pub returns : goal.returns
unfolding rec_in
returns c = simp (← c.key_in.ensures, c.in_ok-k.was, ne_eqb _ _ c.if-b-eq-INDEX.false, ← c.val_in.ensures, c.in_ok-val.was)
