-- `build_pen::bytes_of` meets its contract. Assumes nothing.
use native.Mathlib.Nat.{add-sub_cancel_left}
use Rattle.spans.specs.Span.{part}
use Rattle.build_pen.proofs.bytes_of.Goals as goal

pub returns : goal.returns
unfolding part
returns c = simp add-sub_cancel_left
