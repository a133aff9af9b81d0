use Rattle.build_history.proofs.Passes.{frames_none}
use Rattle.build_history.proofs.remote_frames.Goals as goal

pub returns-then-len-eq0 : goal.returns-then-len-eq0
returns-then-len-eq0 c = frames_none _ _ _ _ _ c.requires.len_value c.if-len-eq0.true

pub each_remote_frame-requires : goal.each_remote_frame-requires
each_remote_frame-requires c = record {
  footing_le_at = c.requires.footing_le_at;
  n_in_bounds = c.requires.n_in_bounds;
}

pub returns : goal.returns
returns c = c.each_remote_frame.ensures
