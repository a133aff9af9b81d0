-- `c_words::store_each` meets its contract. Assumes nothing.
use mathlib.Core.Path.{refl}
use Rattle.spans.proofs.Put.{put_chain}
use Rattle.c_words.proofs.store_each.Goals as goal

pub returns : goal.returns
returns c = put_chain _ c.args.k _ _ (put_chain _ c.args.k _ _ c.store_three.ensures c.store_three-2.ensures refl) c.store_three-3.ensures refl
