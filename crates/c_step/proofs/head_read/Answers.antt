-- `c_step::head_read` meets its contract. Assumes nothing.
use native.Mathlib.Omega.{arith}
use mathlib.Core.Path.{sym, ◌∙◌}
use Rattle.records.proofs.Inside.{val_no, slot-inside}
use Rattle.records.proofs.Quick.{quick_is, short_head, slot-rec}
use Rattle.c_steps.proofs.Ways.{rec_none}
use Rattle.c_steps.proofs.Heading.{leaf_kind, leaf_inside, head_ahead}
use Rattle.c_step.proofs.head_read.Goals as goal

pub slot_at-requires : goal.slot_at-requires
slot_at-requires c = leaf_inside c.args.s.now c.args.w c.in_ok-b.b (sym c.body_of.ensures ∙ c.in_ok-b.was)

pub quick_key-n-requires : goal.quick_key-n-requires
quick_key-n-requires c = let o = sym c.body_of.ensures ∙ c.in_ok-b.was in
    record {
      inside = leaf_inside c.args.s.now c.args.w c.in_ok-b.b o;
      kind_value = leaf_kind c.args.s.now c.args.w c.in_ok-b.b o;
      p_lt_end = (slot-inside c.args.s.now c.in_ok-b.b c.args.w.pos c.in_ok-p.p (sym c.slot_at.ensures ∙ c.in_ok-p.was)).1;
    }

pub quick_value-requires : goal.quick_value-requires
quick_value-requires c = let o = sym c.body_of.ensures ∙ c.in_ok-b.was in
    record {
      inside = leaf_inside c.args.s.now c.args.w c.in_ok-b.b o;
      kind_value = leaf_kind c.args.s.now c.args.w c.in_ok-b.b o;
    }

pub returns : goal.returns
returns c = let o = sym c.body_of.ensures ∙ c.in_ok-b.was in
    let q = sym (slot-rec c.args.s.now c.in_ok-b.b c.args.w.pos c.in_ok-p.p (sym c.slot_at.ensures ∙ c.in_ok-p.was)) ∙ short_head c.args.s.now c.in_ok-b.b c.in_ok-p.p _ c.in_ok-val.val.hist c.in_ok-val.val.val_at c.in_ok-val.val.val_len c.in_ok-val.val.remote c.in_ok-val.val.next (leaf_kind c.args.s.now c.args.w c.in_ok-b.b o) (c.quick_key-n.ensures c.if-n-eq0.false) (quick_is _ c.quick_value.ensures c.in_ok-val.was (val_no _ _ _ _ _)) in
    λ r e. head_ahead c.args.s.now c.args.w c.in_ok-b.b o c.requires c.if-w-eq0.false c.if-w-eq-INDEX.false r (q ∙ e)
