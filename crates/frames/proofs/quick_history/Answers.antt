-- `frames::quick_history` meets its contract. Assumes nothing.
use native.Mathlib.Omega.{arith}
use Prim.Native.Nat.{◌+◌}
use mathlib.Core.Path.{sym, ◌∙◌}
use lib.ListN.{length}
use borrow.Author.Tests.{leb-true}
use Rattle.frames.specs.Layout.{slots_at}
use Rattle.frames.proofs.Frames.{page_sizes}
use Rattle.frames.proofs.Judged.{plain-page, history_open, bad_open}
use Rattle.frames.proofs.quick_history.Goals as goal

pub fields-x-requires : goal.fields-x-requires
fields-x-requires c = omega (arith, leb-true (c.args.a.0 + slots_at) (length c.args.s.now) (sym c.room.ensures ∙ c.if-room.true))

pub overflow_add-at : goal.overflow_add-at
overflow_add-at c = omega (arith, leb-true (c.args.a.0 + slots_at) (length c.args.s.now) (sym c.room.ensures ∙ c.if-room.true), c.well_formed)

pub fields-h-requires : goal.fields-h-requires
fields-h-requires c = omega (arith, leb-true (c.args.a.0 + slots_at) (length c.args.s.now) (sym c.room.ensures ∙ c.if-room.true))

pub history-requires : goal.history-requires
history-requires c = omega (arith, leb-true (c.args.a.0 + slots_at) (length c.args.s.now) (sym c.room.ensures ∙ c.if-room.true), c.well_formed)

pub body_of-requires : goal.body_of-requires
body_of-requires c = record { payload_size_bound = omega (arith, page_sizes c.args.s.now c.args.a _ _ (plain-page c.args.s.now c.args.a _ _ (sym c.room.ensures ∙ c.if-room.true) c.fields-x.ensures c.fields-h.ensures (c.history.ensures c.if-history.true).0), c.well_formed); size_bound = omega (arith, page_sizes c.args.s.now c.args.a _ _ (plain-page c.args.s.now c.args.a _ _ (sym c.room.ensures ∙ c.if-room.true) c.fields-x.ensures c.fields-h.ensures (c.history.ensures c.if-history.true).0), c.well_formed); hi_len_bound = omega (arith, page_sizes c.args.s.now c.args.a _ _ (plain-page c.args.s.now c.args.a _ _ (sym c.room.ensures ∙ c.if-room.true) c.fields-x.ensures c.fields-h.ensures (c.history.ensures c.if-history.true).0), c.well_formed) }

pub returns-then-history : goal.returns-then-history
returns-then-history c = λ b e. history_open c.args.s.now c.args.a b _ _ (plain-page c.args.s.now c.args.a _ _ (sym c.room.ensures ∙ c.if-room.true) c.fields-x.ensures c.fields-h.ensures (c.history.ensures c.if-history.true).0) (c.history.ensures c.if-history.true).1 _ c.body_of.ensures e

pub returns-else-history : goal.returns-else-history
returns-else-history c = λ b e. bad_open b e

pub returns-else-room : goal.returns-else-room
returns-else-room c = λ b e. bad_open b e
