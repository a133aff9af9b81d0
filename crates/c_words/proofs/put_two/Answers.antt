-- `c_words::put_two` meets its contract. Assumes nothing.
use native.Mathlib.Omega.{arith}
use mathlib.Core.Path.{sym}
use lib.ListN.{length-set}
use Rattle.c_words.proofs.Changed.{put_two}
use Rattle.c_words.proofs.put_two.Goals as goal

pub returns : goal.returns
returns c = sym (put_two _ _ _ _)
