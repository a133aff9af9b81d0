-- `frames::put_page` meets its contract. Assumes nothing.
use Rattle.frames.proofs.Stores.{put-heads}
use Rattle.frames.proofs.put_page.Goals as goal

pub returns : goal.returns
returns c = put-heads _ _ _ _ _ _ c.put_box.ensures c.put_base.ensures
