-- `frames::any_base` meets its contract. Assumes nothing.
use Rattle.frames.proofs.Judged.{any_base_ok}
use Rattle.frames.proofs.any_base.Goals as goal

pub returns : goal.returns
returns c = any_base_ok c.args.x c.args.h c.args.at c.args.len _ _ c.front.ensures c.frame_len.ensures
