-- `c_words::store_end` meets its contract. Assumes nothing.
use Rattle.c_words.specs.Words.{written}
use Rattle.c_words.proofs.store_end.Goals as goal

pub returns : goal.returns
unfolding written
returns c = c.store_each.ensures
