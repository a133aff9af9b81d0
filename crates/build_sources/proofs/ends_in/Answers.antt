-- `build_sources::ends_in` meets its contract. Assumes nothing.
use Rattle.std.specs.declared.cmp.Ordering.{Ordering}
use mathlib.Core.Path.{ap, ap₂, ◌∙◌}
use mathlib.Core.Bool.{Bool, not, ◌&&◌}
use Rattle.order.specs.Order.{is_less}
use Rattle.order.specs.Bounds.{below_by, below_hi}
use Rattle.build_sources.proofs.ends_in.Goals as goal

pub returns : goal.returns
unfolding below_hi
returns c = ap₂ (λ (x y : Bool). not x && y) (c.is_less.ensures ∙ ap is_less c.compare_with-low.ensures) (c.below_by.ensures ∙ ap (λ (o : Ordering). below_by o c.args.hi.now) c.compare_with-high.ensures)
