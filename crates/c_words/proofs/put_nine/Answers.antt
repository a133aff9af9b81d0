-- `c_words::put_nine` meets its contract. Assumes nothing.
use mathlib.Core.Path.{refl}
use Rattle.spans.proofs.Put.{put_chain}
use Rattle.c_words.proofs.put_nine.Goals as goal

pub returns : goal.returns
returns c = put_chain _ c.args.k _ _ (put_chain _ c.args.k _ _ c.put_three.ensures c.put_three-2.ensures refl) c.put_three-3.ensures refl
