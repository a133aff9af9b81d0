-- `build_pen::ahead` meets its contract. Assumes nothing.
use native.Mathlib.Omega.{arith}
use borrow.Author.Tests.{not-true, not-false}
use mathlib.Core.Path.{sym, ◌∙◌}
use Prim.Native.Nat.{◌-◌}
use Rattle.build_pen.proofs.Peering.{peer_begin, peer_end, peer_past, peer_key, peer_val, peer_less, peer_skip, peer_fits, peer_full, peer_remote, peer_turn}
use Rattle.build_pen.proofs.ahead.Goals as goal

pub loop-at-init : goal.loop-at-init
loop-at-init c = peer_begin _ _ _ _ _ _ c.requires.limit_le_max_limit.0 c.requires.limit_le_max_limit.1 c.requires.well c.requires.blen_in_bounds

pub record_at-i-requires : goal.record_at-i-requires
record_at-i-requires c = record {
  well = c.loop-at.invariant.well;
  at_in_bounds = c.loop-at-test.true;
}

pub past-next-requires : goal.past-next-requires
past-next-requires c = omega (arith, peer_past _ _ _ _ _ _ _ _ _ _ _ _ c.loop-at.invariant c.loop-at-test.true _ c.record_at-i.ensures)

pub same_key-requires : goal.same_key-requires
same_key-requires c = peer_key _ _ _ _ _ _ _ _ _ _ _ _ c.loop-at.invariant c.loop-at-test.true _ c.record_at-i.ensures

pub overflow_cast-i : goal.overflow_cast-i
overflow_cast-i c = let z = peer_val _ _ _ _ _ _ _ _ _ _ _ _ c.loop-at.invariant c.loop-at-test.true _ c.record_at-i.ensures in omega arith

pub overflow_add-s : goal.overflow_add-s
overflow_add-s c = let z = peer_fits _ _ _ _ _ _ _ _ _ _ _ _ c.loop-at.invariant c.loop-at-test.true _ c.record_at-i.ensures (sym c.same_key.ensures ∙ c.if-same_key.true) _ c.calc_size.ensures in omega arith

pub overflow_add-s-then-same_key : goal.overflow_add-s-then-same_key
overflow_add-s-then-same_key c = let z = peer_fits _ _ _ _ _ _ _ _ _ _ _ _ c.loop-at.invariant c.loop-at-test.true _ c.record_at-i.ensures (sym c.same_key.ensures ∙ c.if-same_key.true) _ c.calc_size.ensures in omega arith

pub returns-then-not-takes : goal.returns-then-not-takes
returns-then-not-takes c = peer_full _ _ _ _ _ _ _ _ _ _ _ _ c.loop-at.invariant c.loop-at-test.true _ c.record_at-i.ensures (sym c.same_key.ensures ∙ c.if-same_key.true) _ c.calc_size.ensures (sym c.takes.ensures ∙ c.if-not-takes.true)

pub overflow_add-n : goal.overflow_add-n
overflow_add-n c = let v = c.loop-at.invariant.looks in omega (arith, v.many, v.small)

pub overflow_add-t : goal.overflow_add-t
overflow_add-t c = let v = c.loop-at.invariant.looks in let z = peer_fits _ _ _ _ _ _ _ _ _ _ _ _ c.loop-at.invariant c.loop-at-test.true _ c.record_at-i.ensures (sym c.same_key.ensures ∙ c.if-same_key.true) _ c.calc_size.ensures in omega (arith, v.small)

pub remote_len-f-requires : goal.remote_len-f-requires
remote_len-f-requires c = peer_val _ _ _ _ _ _ _ _ _ _ _ _ c.loop-at.invariant c.loop-at-test.true _ c.record_at-i.ensures

pub overflow_add-f : goal.overflow_add-f
overflow_add-f c = let v = c.loop-at.invariant.looks in let z = peer_remote _ _ _ _ _ _ _ _ _ _ _ _ c.loop-at.invariant c.loop-at-test.true _ c.record_at-i.ensures (sym c.same_key.ensures ∙ c.if-same_key.true) _ c.calc_size.ensures _ c.remote_len-f.ensures in omega (arith, v.many, v.small, v.away)

pub loop-at-smaller-then-same_key : goal.loop-at-smaller-then-same_key
loop-at-smaller-then-same_key c = rw c.past-next.ensures (peer_less _ _ _ _ _ _ _ _ _ _ _ _ c.loop-at.invariant c.loop-at-test.true _ c.record_at-i.ensures)

pub loop-at-preserved-then-same_key : goal.loop-at-preserved-then-same_key
loop-at-preserved-then-same_key c = rw c.past-next.ensures (peer_turn _ _ _ _ _ _ _ _ _ _ _ _ c.loop-at.invariant c.loop-at-test.true _ c.record_at-i.ensures (sym c.same_key.ensures ∙ c.if-same_key.true) _ c.calc_size.ensures _ c.remote_len-f.ensures (sym c.takes.ensures ∙ c.if-not-takes.false))

pub loop-at-smaller : goal.loop-at-smaller
loop-at-smaller c = rw c.past-next.ensures (peer_less _ _ _ _ _ _ _ _ _ _ _ _ c.loop-at.invariant c.loop-at-test.true _ c.record_at-i.ensures)

pub loop-at-preserved : goal.loop-at-preserved
loop-at-preserved c = rw c.past-next.ensures (peer_skip _ _ _ _ _ _ _ _ _ _ _ _ c.loop-at.invariant c.loop-at-test.true _ c.record_at-i.ensures (sym c.same_key.ensures ∙ c.if-same_key.false))

pub returns : goal.returns
returns c = peer_end _ _ _ _ _ _ _ _ _ _ _ _ c.loop-at.invariant c.loop-at-test.false
