-- `pages::head_at` meets its contract. Assumes nothing.
use native.Mathlib.Omega.{arith}
use mathlib.Core.Path.{refl, sym, ◌∙◌}
use Rattle.records.specs.Records.{rec_at}
use Rattle.records.proofs.Inside.{slot-inside, val_no}
use Rattle.records.proofs.Quick.{quick_is, short_head, slot-rec}
use Rattle.pages.proofs.head_at.Goals as goal

pub returns-in_err-p : goal.returns-in_err-p
unfolding rec_at
returns-in_err-p c = c.from_residual.ensures ∙ simp (← c.slot_at.ensures, c.in_err-p.was)

pub quick_key-n-requires : goal.quick_key-n-requires
quick_key-n-requires c = record {
  inside = c.requires.inside;
  kind_value = c.requires.kind_value;
  p_lt_end = omega (arith, slot-inside c.args.s.now c.args.b c.args.i c.in_ok-p.p (sym c.slot_at.ensures ∙ c.in_ok-p.was));
}

pub overflow_add-p : goal.overflow_add-p
overflow_add-p c = omega (arith, (c.quick_key-n.ensures c.if-n-ne0.true).inside, c.requires.inside.payload, c.requires.inside.arena, c.well_formed)

pub overflow_add-p-then-n-ne0 : goal.overflow_add-p-then-n-ne0
overflow_add-p-then-n-ne0 c = omega (arith, (c.quick_key-n.ensures c.if-n-ne0.true).inside, c.requires.inside.payload, c.requires.inside.arena, c.well_formed)

pub overflow_add-result : goal.overflow_add-result
overflow_add-result c = omega (arith, (c.quick_key-n.ensures c.if-n-ne0.true).inside, c.requires.inside.payload, c.requires.inside.arena, c.well_formed)

pub overflow_add-result-in-Some : goal.overflow_add-result-in-Some
overflow_add-result-in-Some c = omega (arith, (c.quick_key-n.ensures c.if-n-ne0.true).inside, c.requires.inside.payload, c.requires.inside.arena, c.well_formed)

pub overflow_add-result-in-Some-2 : goal.overflow_add-result-in-Some-2
overflow_add-result-in-Some-2 c = omega (arith, (c.quick_key-n.ensures c.if-n-ne0.true).inside, (c.quick_key-n.ensures c.if-n-ne0.true).long, c.requires.inside.payload, c.requires.inside.arena, c.well_formed)

pub overflow_sub-result : goal.overflow_sub-result
overflow_sub-result c = omega (arith, (c.quick_key-n.ensures c.if-n-ne0.true).long)

pub returns-in-Some : goal.returns-in-Some
returns-in-Some c = sym (sym (slot-rec c.args.s.now c.args.b c.args.i c.in_ok-p.p (sym c.slot_at.ensures ∙ c.in_ok-p.was)) ∙ short_head c.args.s.now c.args.b c.in_ok-p.p c.quick_key-n.result c.in-Some.val.hist c.in-Some.val.val_at c.in-Some.val.val_len c.in-Some.val.remote c.in-Some.val.next c.requires.kind_value (c.quick_key-n.ensures c.if-n-ne0.true) (quick_is _ c.quick_value.ensures c.in-Some.is (val_no _ _ _ _ _)))

pub head_by-requires : goal.head_by-requires
head_by-requires c = (omega (arith, c.requires.inside.payload, c.requires.inside.arena), omega (arith, c.requires.inside.prefix, c.requires.inside.slots, c.requires.inside.records, c.requires.inside.payload))

pub returns : goal.returns
returns c = c.head_by.ensures c.args.b c.requires.kind_value refl refl ∙ slot-rec c.args.s.now c.args.b c.args.i c.in_ok-p.p (sym c.slot_at.ensures ∙ c.in_ok-p.was)
