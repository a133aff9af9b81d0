-- `c_steps::plains` meets its contract. Assumes nothing.
use Rattle.std.proofs.Common.{Some, None}
use native.Mathlib.Omega.{arith}
use mathlib.Core.Path.{◌≡◌, sym, ◌∙◌}
use Rattle.records.proofs.Quick.{quick_is}
use Rattle.walks.specs.Walk.{moved_of}
use Rattle.c_steps.proofs.Heading.{heading_begin, heading_next, plains_none, plains_are, leaf_kind, leaf_inside, leaf_below, leaf_ver}
use Rattle.c_steps.proofs.Ways.{rec_none}
use Rattle.c_steps.proofs.plains.Goals as goal

pub returns-then-w-eq-INDEX : goal.returns-then-w-eq-INDEX
returns-then-w-eq-INDEX c = record { plains = rw c.heads_read.ensures (plains_none _ _ _ _ _); count_lt_fit = rw c.heads_read.ensures (λ r z. absurd (rec_none r z)) }

pub returns-in_default : goal.returns-in_default
returns-in_default c = record { plains = rw c.heads_read-in_default.ensures (plains_none _ _ _ _ _); count_lt_fit = rw c.heads_read-in_default.ensures (λ r z. absurd (rec_none r z)) }

pub loop-n-init : goal.loop-n-init
loop-n-init c = heading_begin c.args.s.now c.args.w c.args.out.now c.args.first c.args.room c.in-Some.b c.least-most.result (sym c.body_of.ensures ∙ c.in-Some.is) c.if-w-eq-INDEX.false c.requires.left_value (omega (arith, c.least-most.ensures.upper_bound, c.requires.fit_le_room.0)) c.least-most.ensures.upper_bound_2

pub quick_head-requires : goal.quick_head-requires
quick_head-requires c = record {
  inside = leaf_inside c.args.s.now c.args.w c.in-Some.b c.loop-n.invariant.body;
  kind_value = leaf_kind c.args.s.now c.args.w c.in-Some.b c.loop-n.invariant.body;
}

pub returns-in_default-quick_head : goal.returns-in_default-quick_head
returns-in_default-quick_head c = record { plains = rw c.heads_read-in_default-quick_head.ensures (plains_are _ _ _ _ _ _ _ _ _ _ _ _ _ c.loop-n.invariant None (λ r z. absurd (rec_none r z))); count_lt_fit = rw c.heads_read-in_default-quick_head.ensures (λ r z. absurd (rec_none r z)) }

pub returns-then-r-ne0 : goal.returns-then-r-ne0
returns-then-r-ne0 c = record { plains = rw c.heads_read-then-r-ne0.ensures (plains_are _ _ _ _ _ _ _ _ _ _ _ _ _ c.loop-n.invariant (Some c.in-Some-quick_head.r) (λ r z. (omega arith, quick_is (Some r) c.quick_head.ensures (c.in-Some-quick_head.is ∙ z) (rec_none r)))); count_lt_fit = rw c.heads_read-then-r-ne0.ensures (λ r z. omega (arith, c.least-most.ensures.upper_bound)) }

pub tell_rec-requires : goal.tell_rec-requires
tell_rec-requires c = record {
  k_in_bounds = omega (arith, c.loop-n.invariant.fills.place, c.loop-n.invariant.fills.long, c.least-most.ensures.upper_bound, c.requires.fit_le_room.1);
  ver_at_in_bounds = leaf_ver c.args.s.now c.args.w c.in-Some.b c.loop-n.invariant.body c.loop-n.pos c.in-Some-quick_head.r (quick_is (Some c.in-Some-quick_head.r) c.quick_head.ensures c.in-Some-quick_head.is (rec_none c.in-Some-quick_head.r));
}

pub onward-pos-requires : goal.onward-pos-requires
onward-pos-requires c = omega (arith, leaf_below c.args.s.now c.args.w c.in-Some.b c.loop-n.invariant.body c.loop-n.pos c.in-Some-quick_head.r (quick_is (Some c.in-Some-quick_head.r) c.quick_head.ensures c.in-Some-quick_head.is (rec_none c.in-Some-quick_head.r)), c.well_formed)

pub overflow_add-at : goal.overflow_add-at
overflow_add-at c = omega (arith, c.loop-n.invariant.fills.place, c.least-most.ensures.upper_bound, c.requires.fit_le_room.1, c.well_formed)

pub loop-n-preserved : goal.loop-n-preserved
unfolding moved_of
loop-n-preserved c = heading_next _ _ _ _ _ _ _ _ _ _ _ _ _ c.loop-n.invariant c.in-Some-quick_head.r (omega arith) (quick_is (Some c.in-Some-quick_head.r) c.quick_head.ensures c.in-Some-quick_head.is (rec_none c.in-Some-quick_head.r)) c.if-r-ne0.false c.onward-pos.ensures c.tell_rec.ensures

pub returns : goal.returns
returns c = let e : c.loop-n.n ≡ c.least-most.result = omega arith in
    record { plains = rw (c.heads_read-2.ensures, sym e) (plains_are _ _ _ _ _ _ _ _ _ _ _ _ _ c.loop-n.invariant None (λ r z. absurd (rec_none r z))); count_lt_fit = rw c.heads_read-2.ensures (λ r z. absurd (rec_none r z)) }
