-- `build_sweep::key_of` meets its contract. Assumes nothing.
use native.Mathlib.Nat.{add-sub_cancel_left}
use Rattle.spans.specs.Span.{part}
use Rattle.spans.proofs.Part.{part_or_in}
use Rattle.build_sweep.proofs.key_of.Goals as goal

pub returns : goal.returns
unfolding part
returns c = simp (part_or_in c.args.s.now c.args.at c.args.n c.requires, add-sub_cancel_left)
