-- `c_words::put_older` meets its contract. Assumes nothing.
use mathlib.Core.Path.{◌∙◌}
use Rattle.c_words.proofs.Changed.{older_changed}
use Rattle.c_words.proofs.put_older.Goals as goal

pub returns : goal.returns
returns c = c.put_two.ensures ∙ older_changed c.args.walk.now c.requires c.args.slot c.args.left
