-- `build_index::key_len` meets its contract. Assumes nothing.
use Rattle.build_image.specs.Image.{index_key_len}
use Rattle.build_index.proofs.key_len.Goals as goal

pub returns : goal.returns
unfolding index_key_len
returns c = c.index_key_size.ensures
