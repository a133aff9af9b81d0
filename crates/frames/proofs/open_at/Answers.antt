-- `frames::open_at` meets its contract. Assumes nothing.
use Rattle.std.proofs.Common.{Some}
use native.Mathlib.Omega.{arith}
use Prim.Native.Nat.{◌+◌}
use mathlib.Core.Path.{◌≡◌, sym, ◌∙◌}
use lib.ListN.{length}
use borrow.Author.Tests.{leb-true}
use Rattle.frames.specs.Layout.{slots_at, page_at, open_at}
use Rattle.frames.proofs.Frames.{page_sizes}
use Rattle.frames.proofs.Judged.{plain-page}
use Rattle.frames.proofs.open_at.Goals as goal
use Rattle.frames.proofs.open_at.Goals.{Then-plain}

pub fields-x-requires : goal.fields-x-requires
fields-x-requires c = omega (arith, leb-true (c.args.a.0 + slots_at) (length c.args.s.now) (sym c.room.ensures ∙ c.if-room.true))

pub overflow_add-at : goal.overflow_add-at
overflow_add-at c = omega (arith, leb-true (c.args.a.0 + slots_at) (length c.args.s.now) (sym c.room.ensures ∙ c.if-room.true), c.well_formed)

pub fields-h-requires : goal.fields-h-requires
fields-h-requires c = omega (arith, leb-true (c.args.a.0 + slots_at) (length c.args.s.now) (sym c.room.ensures ∙ c.if-room.true))

pub plain-requires : goal.plain-requires
plain-requires c = omega (arith, leb-true (c.args.a.0 + slots_at) (length c.args.s.now) (sym c.room.ensures ∙ c.if-room.true), c.well_formed)

-- a page that `plain` lets pass is read

page : (c : Then-plain) → page_at c.args.s.now c.args.a ≡ Some (c.fields-x.result, c.fields-h.result)
page c = plain-page c.args.s.now c.args.a _ _ (sym c.room.ensures ∙ c.if-room.true) c.fields-x.ensures c.fields-h.ensures (c.plain.ensures c.if-plain.true)

pub body_of-requires : goal.body_of-requires
body_of-requires c =
    let z = page_sizes c.args.s.now c.args.a _ _ (page (goal.at.body_of-requires c).Then-plain) in
    record { payload_size_bound = omega (arith, z, c.well_formed); size_bound = omega (arith, z, c.well_formed); hi_len_bound = omega (arith, z, c.well_formed) }

pub returns-then-plain : goal.returns-then-plain
unfolding open_at
returns-then-plain c = simp (page (goal.at.returns-then-plain c).Then-plain, c.body_of.ensures)

pub returns : goal.returns
returns c = c.any_at.ensures
