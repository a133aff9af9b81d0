-- `frames::plain` meets its contract. Assumes nothing.
use Rattle.frames.proofs.Judged.{plain_ok}
use Rattle.frames.proofs.plain.Goals as goal

pub any_base-requires : goal.any_base-requires
any_base-requires c = c.requires

pub returns : goal.returns
returns c = plain_ok c.args.x c.args.h c.args.at c.args.len _ c.any_base.ensures
