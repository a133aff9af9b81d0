-- `c_words::put_on` meets its contract. Assumes nothing.
use mathlib.Core.Path.{refl, ◌∙◌}
use Rattle.spans.proofs.Put.{put_chain}
use Rattle.c_words.proofs.Changed.{on_changed}
use Rattle.c_words.proofs.put_on.Goals as goal

pub returns : goal.returns
returns c = put_chain _ 6 _ _ c.put_two.ensures c.put_two-2.ensures refl ∙ on_changed c.args.walk.now c.requires c.args.pos c.args.heads c.args.key
