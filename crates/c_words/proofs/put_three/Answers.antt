-- `c_words::put_three` meets its contract. Assumes nothing.
use native.Mathlib.Omega.{arith}
use Prim.Native.Nat.{◌+◌}
use mathlib.Core.Path.{sym}
use lib.ListN.{set, length-set}
use Rattle.c_words.proofs.Laws.{put_three}
use Rattle.c_words.proofs.put_three.Goals as goal

pub returns : goal.returns
returns c = sym (put_three _ _ _ _ _)
