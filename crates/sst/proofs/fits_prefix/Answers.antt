use Prim.Native.Nat.{ℕ}
use mathlib.Core.Path.{sym, ap, ◌∙◌}
use mathlib.Core.List.{List}
use Rattle.order.specs.Order.{starts_with}
use Rattle.sst.specs.Search.{fits_prefix}
use Rattle.sst.proofs.Opens.{fits_none}
use Rattle.sst.proofs.fits_prefix.Goals as goal

pub returns-then-b-eq0 : goal.returns-then-b-eq0
returns-then-b-eq0 c = sym (fits_none c.args.s.now c.args.b c.args.probe.now c.requires c.if-b-eq0.true)

pub returns : goal.returns
unfolding fits_prefix
returns c = c.starts_with.ensures ∙ ap (λ (p : List ℕ). starts_with p c.args.probe.now) c.prefix_of.ensures
