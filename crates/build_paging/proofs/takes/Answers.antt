use native.Mathlib.Omega.{arith}
use Prim.Native.Nat.{◌+◌, ◌-◌}
use borrow.Author.Tests.{eq-eqb, ne_eqb, lt-leb}
use Rattle.spans.proofs.Tests.{leb_same}
use Rattle.build_paging.specs.Cuts.{fits}
use Rattle.build_paging.proofs.takes.Goals as goal

pub returns-then-count-eq0 : goal.returns-then-count-eq0
unfolding fits
returns-then-count-eq0 c = rw (eq-eqb _ _ c.if-count-eq0.true)

pub returns-then-budget-s : goal.returns-then-budget-s
unfolding fits
returns-then-budget-s c = rw (ne_eqb _ _ c.if-count-eq0.false, lt-leb (c.args.size + c.args.s) c.args.budget (omega arith))

pub returns : goal.returns
unfolding fits
returns c = rw (ne_eqb _ _ c.if-count-eq0.false) (leb_same c.args.size (c.args.budget - c.args.s) (c.args.size + c.args.s) c.args.budget (λ h. omega arith) (λ h. omega arith))
