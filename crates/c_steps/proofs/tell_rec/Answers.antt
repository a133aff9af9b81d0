-- `c_steps::tell_rec` meets its contract. Assumes nothing.
use Rattle.walks.specs.Walk.{item_of}
use Rattle.c_steps.proofs.tell_rec.Goals as goal

pub returns : goal.returns
unfolding item_of
returns c = rw (← c.ver_at-v.ensures) c.put_nine.ensures
