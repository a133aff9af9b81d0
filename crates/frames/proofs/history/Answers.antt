-- `frames::history` meets its contract. Assumes nothing.
use Rattle.frames.proofs.Judged.{history_ok_lem}
use Rattle.frames.proofs.history.Goals as goal

pub any_base-requires : goal.any_base-requires
any_base-requires c = c.requires

pub returns : goal.returns
returns c = history_ok_lem c.args.x c.args.h c.args.at c.args.len _ c.any_base.ensures
