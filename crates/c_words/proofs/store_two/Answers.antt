-- `c_words::store_two` meets its contract. Assumes nothing.
use mathlib.Core.Path.{refl}
use mathlib.Core.List.{[], ◌∷◌}
use Rattle.spans.proofs.Put.{put_chain}
use Rattle.c_words.proofs.store_two.Goals as goal

pub returns : goal.returns
returns c = put_chain _ c.args.k (c.args.a ∷ []) (c.args.b ∷ []) c.store.ensures c.store-2.ensures refl
