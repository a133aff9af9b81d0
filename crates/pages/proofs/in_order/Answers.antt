-- `pages::in_order` meets its contract. Assumes nothing.
use mathlib.Core.Path.{◌≡◌}
use Rattle.spans.specs.Span.{part, part_or}
use Rattle.spans.proofs.Part.{part_or_in}
use Rattle.pages.specs.Sound.{in_order}
use Rattle.pages.proofs.in_order.Goals as goal

pub returns-then-kind-i : goal.returns-then-kind-i
unfolding in_order
returns-then-kind-i c = simp c.if-kind-i.true

pub returns : goal.returns
unfolding in_order
returns c = let l : part_or c.args.s.now c.args.la c.args.ln ≡ part c.args.s.now c.args.la c.args.ln = part_or_in c.args.s.now c.args.la c.args.ln c.requires.0 in
    let r : part_or c.args.s.now c.args.ra c.args.rn ≡ part c.args.s.now c.args.ra c.args.rn = part_or_in c.args.s.now c.args.ra c.args.rn c.requires.1 in
    simp (c.if-kind-i.false, c.is_less.ensures, c.compare.ensures, c.part_of.ensures, c.part_of-2.ensures, l, r)
