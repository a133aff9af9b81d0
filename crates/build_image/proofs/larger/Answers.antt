use native.Mathlib.Omega.{arith}
use Rattle.std.proofs.lemmas.Bool.Decides.{nat_tests}
use Rattle.build_image.specs.Call.{larger}
use Rattle.build_image.proofs.larger.Goals as goal

pub returns : goal.returns
unfolding larger
returns c = grind (arith, nat_tests)
