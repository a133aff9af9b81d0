-- `frames::BoxHeader::at` meets its contract. Assumes nothing.
use native.Mathlib.Omega.{arith}
use Prim.Native.Nat.{◌+◌}
use mathlib.Core.Path.{◌≡◌, ap, sym, ◌∙◌}
use mathlib.Core.Bool.{true, false}
use lib.ListN.{length}
use lib.Dec.{leb}
use borrow.Author.Tests.{leb-true}
use Rattle.frames.specs.declared.BoxHeader.{BoxHeader}
use Rattle.frames.specs.Layout.{box_len, box_fields, box_ok, box_at}
use Rattle.frames.proofs.BoxHeader.at.Goals as goal

pub fields-h-requires : goal.fields-h-requires
fields-h-requires c = leb-true (c.args.a.0 + box_len) (length c.args.s.now) (sym c.room.ensures ∙ c.if-room.true)

pub ok-requires : goal.ok-requires
ok-requires c = omega (arith, leb-true (c.args.a.0 + box_len) (length c.args.s.now) (sym c.room.ensures ∙ c.if-room.true), c.well_formed)

pub returns-then-ok : goal.returns-then-ok
unfolding box_at
returns-then-ok c = let s = c.args.s.now in
    let at = c.args.a.0 in
    let b1 : leb (at + box_len) (length s) ≡ true = sym c.room.ensures ∙ c.if-room.true in
    let b2 : box_ok (box_fields s at) at (length s) ≡ true = ap (λ (h : BoxHeader). box_ok h at (length s)) (sym c.fields-h.ensures) ∙ sym c.ok.ensures ∙ c.if-ok.true in
    simp (b1, b2, c.fields-h.ensures)

pub returns-else-ok : goal.returns-else-ok
unfolding box_at
returns-else-ok c = let s = c.args.s.now in
    let at = c.args.a.0 in
    let b1 : leb (at + box_len) (length s) ≡ true = sym c.room.ensures ∙ c.if-room.true in
    let b2 : box_ok (box_fields s at) at (length s) ≡ false = ap (λ (h : BoxHeader). box_ok h at (length s)) (sym c.fields-h.ensures) ∙ sym c.ok.ensures ∙ c.if-ok.false in
    simp (b1, b2)

pub returns-else-room : goal.returns-else-room
unfolding box_at
returns-else-room c = let b1 : leb (c.args.a.0 + box_len) (length c.args.s.now) ≡ false = sym c.room.ensures ∙ c.if-room.false in
    simp b1
