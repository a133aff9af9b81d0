-- `build_sweep::is_newer` meets its contract. Assumes nothing.
use Rattle.build_sweep.proofs.Ents.{newer_is}
use Rattle.build_sweep.proofs.is_newer.Goals as goal

pub returns : goal.returns
returns c = newer_is _ _ _ _ _ _ _ _ _ _ c.newer.ensures c.new-v.ensures c.new-w.ensures c.read_u64_be.ensures c.read_u32_be.ensures c.read_u64_be-2.ensures c.read_u32_be-2.ensures
