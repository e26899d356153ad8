use Rattle.s_select_keeps.proofs.Frames.{frame_is_given}
use Rattle.s_select_keeps.proofs.laws.frames_are_given_back.Goals as goal

pub returns : goal.returns
returns c = frame_is_given
