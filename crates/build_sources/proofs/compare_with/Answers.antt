-- `build_sources::compare_with` meets its contract. Assumes nothing.
use mathlib.Core.Path.{ap, ◌∙◌}
use mathlib.Core.List.{List}
use Prim.Native.Nat.{ℕ}
use Rattle.order.specs.Order.{cmp_bytes}
use Rattle.build_sources.proofs.Judging.{key_of_lem}
use Rattle.build_sources.proofs.compare_with.Goals as goal

pub returns-then-i : goal.returns-then-i
returns-then-i c = c.compare_in.ensures ∙ ap (λ (k : List ℕ). cmp_bytes k c.args.x.now) (key_of_lem _ _ _ _ c.if-i.true)

pub returns : goal.returns
returns c = c.compare_in-2.ensures ∙ ap (λ (k : List ℕ). cmp_bytes k c.args.x.now) (key_of_lem _ _ _ _ c.if-i.false)
