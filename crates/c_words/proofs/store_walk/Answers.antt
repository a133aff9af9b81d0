-- `c_words::store_walk` meets its contract. Assumes nothing.
use mathlib.Core.Path.{refl}
use Rattle.spans.proofs.Put.{put_chain}
use Rattle.c_words.specs.Words.{written}
use Rattle.c_words.proofs.store_walk.Goals as goal

pub returns : goal.returns
unfolding written
returns c = put_chain _ 0 _ _ (put_chain _ 0 _ _ (put_chain _ 0 _ _ (put_chain _ 0 _ _ c.store_sheet.ensures c.store_three.ensures refl) c.store_two.ensures refl) c.store_sheet-2.ensures refl) c.store_three-2.ensures refl
