-- `c_words::store_five` meets its contract. Assumes nothing.
use mathlib.Core.Path.{refl}
use mathlib.Core.List.{[], ◌∷◌}
use Rattle.spans.proofs.Put.{put_chain}
use Rattle.c_words.proofs.store_five.Goals as goal

pub returns : goal.returns
returns c = put_chain _ c.args.k (c.args.a ∷ c.args.b ∷ c.args.c ∷ c.args.d ∷ []) (c.args.e ∷ []) (put_chain _ c.args.k (c.args.a ∷ c.args.b ∷ c.args.c ∷ []) (c.args.d ∷ []) (put_chain _ c.args.k (c.args.a ∷ c.args.b ∷ []) (c.args.c ∷ []) (put_chain _ c.args.k (c.args.a ∷ []) (c.args.b ∷ []) c.store.ensures c.store-2.ensures refl) c.store-3.ensures refl) c.store-4.ensures refl) c.store-5.ensures refl
