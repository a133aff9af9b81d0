use Rattle.build_heads.proofs.HeadPass.{remote_none, remote-one}
use Rattle.build_heads.proofs.remote_step.Goals as goal

pub returns-then-i : goal.returns-then-i
returns-then-i c = remote_none _ _ _ _ c.if-i.true

pub returns : goal.returns
returns c = remote-one _ _ _ _ c.if-i.false _ c.remote_len.ensures
