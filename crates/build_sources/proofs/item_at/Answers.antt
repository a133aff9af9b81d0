use native.Mathlib.Omega.{arith}
use mathlib.Core.Path.{sym, ◌∙◌}
use lib.ListN.{length}
use Rattle.build_sources.proofs.Paged.{item_found, no_prefix, no_rest, no_value, no_key, no_length, room-sum}
use Rattle.build_sources.proofs.item_at.Goals as goal

pub returns-then-not-room : goal.returns-then-not-room
returns-then-not-room c = no_prefix _ _ _ _ _ _ _ _ (sym c.room.ensures ∙ c.if-not-room.true)

pub returns-then-not-room-2 : goal.returns-then-not-room-2
returns-then-not-room-2 c = no_rest _ _ _ _ _ _ _ _ (sym c.room.ensures ∙ c.if-not-room.false) (sym c.room-2.ensures ∙ c.if-not-room-2.true)

pub returns-then-not-room-3 : goal.returns-then-not-room-3
returns-then-not-room-3 c = no_value _ _ _ _ _ _ _ _ (sym c.room.ensures ∙ c.if-not-room.false) (sym c.room-2.ensures ∙ c.if-not-room-2.false) (sym c.room-3.ensures ∙ c.if-not-room-3.true)

pub overflow_add-pre : goal.overflow_add-pre
overflow_add-pre c = omega (arith, room-sum c.args.c.pre.at c.args.c.pre.len c.args.rest.at c.args.rest.len (length c.args.footing.now) (sym c.room.ensures ∙ c.if-not-room.false) (sym c.room-2.ensures ∙ c.if-not-room-2.false))

pub returns-then-pre-rest-gt-MAX_KEY : goal.returns-then-pre-rest-gt-MAX_KEY
returns-then-pre-rest-gt-MAX_KEY c = no_key _ _ _ _ _ _ _ _ (sym c.room.ensures ∙ c.if-not-room.false) (sym c.room-2.ensures ∙ c.if-not-room-2.false) (sym c.room-3.ensures ∙ c.if-not-room-3.false) c.if-pre-rest-gt-MAX_KEY.true

pub returns-then-value-gt-MAX_VALUE : goal.returns-then-value-gt-MAX_VALUE
returns-then-value-gt-MAX_VALUE c = no_length _ _ _ _ _ _ _ _ (sym c.room.ensures ∙ c.if-not-room.false) (sym c.room-2.ensures ∙ c.if-not-room-2.false) (sym c.room-3.ensures ∙ c.if-not-room-3.false) c.if-pre-rest-gt-MAX_KEY.false c.if-value-gt-MAX_VALUE.true

pub returns : goal.returns
returns c = item_found _ _ _ _ _ _ _ _ (sym c.room.ensures ∙ c.if-not-room.false) (sym c.room-2.ensures ∙ c.if-not-room-2.false) (sym c.room-3.ensures ∙ c.if-not-room-3.false) c.if-pre-rest-gt-MAX_KEY.false c.if-value-gt-MAX_VALUE.false _ c.same_key-old.ensures
