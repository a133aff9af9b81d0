-- `build_heads::key_len` meets its contract. Assumes nothing.
use Rattle.build_image.specs.Sizes.{key_len}
use Rattle.build_heads.proofs.key_len.Goals as goal

pub returns : goal.returns
unfolding key_len
returns c = c.leaf_key_size.ensures
