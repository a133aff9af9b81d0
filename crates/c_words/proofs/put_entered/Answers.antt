-- `c_words::put_entered` meets its contract. Assumes nothing.
use mathlib.Core.Path.{refl, ◌∙◌}
use Rattle.spans.proofs.Put.{put_chain}
use Rattle.c_words.proofs.Changed.{entered_changed}
use Rattle.c_words.proofs.put_entered.Goals as goal

pub returns : goal.returns
returns c = put_chain _ 10 _ _ (put_chain _ 10 _ _ c.put_three.ensures c.put_three-2.ensures refl) c.put_two.ensures refl ∙ entered_changed c.args.walk.now c.requires c.args.older
