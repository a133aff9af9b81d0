use mathlib.Core.Bool.{true, false}
use native.Mathlib.Omega.{arith}
use mathlib.Core.Path.{refl, sym, ◌∙◌}
use borrow.Author.Tests.{not-true, not-false}
use Rattle.build_sources.proofs.Sourced.{one, no_one}
use Rattle.build_history.proofs.Ahead.{look_begin, look_end, look_full, look_turn, look_fits, look_remote, fewer}
use Rattle.build_history.proofs.look_ahead.Goals as goal

pub loop-i-init : goal.loop-i-init
loop-i-init c = look_begin _ _ _ _ _ c.requires.0 c.requires.1

pub returns-in_default : goal.returns-in_default
returns-in_default c = let all = look_end _ _ _ _ _ _ _ _ _ c.loop-i.invariant (no_one _ _ _ _ _ _ refl c.next_of-st.ensures c.in_default.is) in record {
  run_value = all.0;
  skipped = all.1;
}

pub overflow_cast-i : goal.overflow_cast-i
overflow_cast-i c = let g = (one _ _ _ _ _ _ refl c.next_of-st.ensures _ _ c.in-Some.is).placed.vsmall in omega arith

pub overflow_add-s : goal.overflow_add-s
overflow_add-s c = let z = look_fits _ _ _ _ _ _ _ _ _ c.loop-i.invariant _ _ (one _ _ _ _ _ _ refl c.next_of-st.ensures _ _ c.in-Some.is) _ c.calc_size.ensures in omega arith

pub overflow_add-s-in-loop-i : goal.overflow_add-s-in-loop-i
overflow_add-s-in-loop-i c = let z = look_fits _ _ _ _ _ _ _ _ _ c.loop-i.invariant _ _ (one _ _ _ _ _ _ refl c.next_of-st.ensures _ _ c.in-Some.is) _ c.calc_size.ensures in omega arith

pub returns-then-not-takes : goal.returns-then-not-takes
returns-then-not-takes c = let all = look_full _ _ _ _ _ _ _ _ _ c.loop-i.invariant _ _ (one _ _ _ _ _ _ refl c.next_of-st.ensures _ _ c.in-Some.is) _ c.calc_size.ensures (sym c.takes.ensures ∙ c.if-not-takes.true) in record {
  run_value = all.0;
  skipped = all.1;
}

pub overflow_add-n : goal.overflow_add-n
overflow_add-n c = let v = c.loop-i.invariant in omega (arith, v.many, v.small)

pub overflow_add-t : goal.overflow_add-t
overflow_add-t c = let v = c.loop-i.invariant in let z = look_fits _ _ _ _ _ _ _ _ _ v _ _ (one _ _ _ _ _ _ refl c.next_of-st.ensures _ _ c.in-Some.is) _ c.calc_size.ensures in omega (arith, v.small)

pub remote_len-f-requires : goal.remote_len-f-requires
remote_len-f-requires c = (one _ _ _ _ _ _ refl c.next_of-st.ensures _ _ c.in-Some.is).placed.vsmall

pub overflow_add-f : goal.overflow_add-f
overflow_add-f c = let v = c.loop-i.invariant in let z = look_remote _ _ _ _ _ _ _ _ _ v _ _ (one _ _ _ _ _ _ refl c.next_of-st.ensures _ _ c.in-Some.is) _ c.calc_size.ensures _ c.remote_len-f.ensures in omega (arith, v.many, v.small, v.away)

pub loop-i-smaller : goal.loop-i-smaller
loop-i-smaller c = fewer _ _ _ _ _ _ (one _ _ _ _ _ _ refl c.next_of-st.ensures _ _ c.in-Some.is)

pub loop-i-preserved : goal.loop-i-preserved
loop-i-preserved c = look_turn _ _ _ _ _ _ _ _ _ c.loop-i.invariant _ _ (one _ _ _ _ _ _ refl c.next_of-st.ensures _ _ c.in-Some.is) _ c.calc_size.ensures _ c.remote_len-f.ensures (sym c.takes.ensures ∙ c.if-not-takes.false)
