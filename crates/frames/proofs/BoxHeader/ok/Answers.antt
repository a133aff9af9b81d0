-- `frames::BoxHeader::ok` meets its contract. Assumes nothing.
use native.Mathlib.Omega.{arith}
use Rattle.frames.specs.Layout.{box_ok}
use Rattle.frames.proofs.BoxHeader.ok.Goals as goal

pub overflow_add-result : goal.overflow_add-result
overflow_add-result c = omega (arith, c.frame_len.ensures, c.requires, c.struct_known-13-1.given)

pub returns : goal.returns
unfolding box_ok
returns c = simp c.frame_len.ensures
