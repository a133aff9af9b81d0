-- `frames::BaseHeader::at` meets its contract. Assumes nothing.
use native.Mathlib.Omega.{arith}
use Prim.Native.Nat.{◌+◌}
use mathlib.Core.Path.{◌≡◌, ap, sym, ◌∙◌}
use mathlib.Core.Bool.{true, false}
use borrow.Author.Tests.{le-leb, lt-leb, eq-eqb, ne_eqb}
use Rattle.frames.specs.declared.BaseHeader.{BaseHeader}
use Rattle.frames.specs.Layout.{box_len, base_fields, base_ok, page_at}
use Rattle.frames.proofs.Frames.{framed}
use Rattle.frames.proofs.BaseHeader.at.Goals as goal

pub returns-in_err-h : goal.returns-in_err-h
unfolding page_at
returns-in_err-h c = c.from_residual.ensures ∙ simp (← c.at.ensures, c.in_err-h.was)

pub returns-then-h-ne-BASE : goal.returns-then-h-ne-BASE
unfolding page_at
returns-then-h-ne-BASE c = simp (← c.at.ensures, c.in_ok-h.was, ne_eqb _ _ c.if-h-ne-BASE.true)

pub returns-then-h-lt-HDR_LEN : goal.returns-then-h-lt-HDR_LEN
unfolding page_at
returns-then-h-lt-HDR_LEN c = simp (← c.at.ensures, c.in_ok-h.was, eq-eqb _ _ c.if-h-ne-BASE.false, lt-leb _ _ c.if-h-lt-HDR_LEN.true)

pub overflow_add-at : goal.overflow_add-at
overflow_add-at c = omega (arith, (framed c.args.s.now c.args.a c.in_ok-h.h (sym c.at.ensures ∙ c.in_ok-h.was)).room, c.well_formed)

pub fields-b-requires : goal.fields-b-requires
fields-b-requires c = omega (arith, (framed c.args.s.now c.args.a c.in_ok-h.h (sym c.at.ensures ∙ c.in_ok-h.was)).room, c.well_formed)

pub returns-then-ok : goal.returns-then-ok
unfolding page_at
returns-then-ok c = let o : base_ok c.in_ok-h.h (base_fields c.args.s.now (c.args.a.0 + box_len)) ≡ true = ap (λ (b : BaseHeader). base_ok c.in_ok-h.h b) (sym c.fields-b.ensures) ∙ sym c.ok.ensures ∙ c.if-ok.true in
    simp (← c.at.ensures, c.in_ok-h.was, eq-eqb _ _ c.if-h-ne-BASE.false, le-leb _ _ c.if-h-lt-HDR_LEN.false, o, c.fields-b.ensures)

pub returns-else-ok : goal.returns-else-ok
unfolding page_at
returns-else-ok c = let o : base_ok c.in_ok-h.h (base_fields c.args.s.now (c.args.a.0 + box_len)) ≡ false = ap (λ (b : BaseHeader). base_ok c.in_ok-h.h b) (sym c.fields-b.ensures) ∙ sym c.ok.ensures ∙ c.if-ok.false in
    simp (← c.at.ensures, c.in_ok-h.was, eq-eqb _ _ c.if-h-ne-BASE.false, le-leb _ _ c.if-h-lt-HDR_LEN.false, o)
