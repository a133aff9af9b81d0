-- `c_words::walk_in` meets its contract. Assumes nothing.
use Rattle.c_words.specs.Words.{walk_in}
use Rattle.c_words.proofs.walk_in.Goals as goal

pub returns : goal.returns
unfolding walk_in
returns c = simp (c.sheet_in.ensures, c.word.ensures, c.word-2.ensures, c.word-3.ensures, c.word-4.ensures, c.word-5.ensures, c.older_in.ensures)
