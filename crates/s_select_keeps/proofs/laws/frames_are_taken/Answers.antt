use Rattle.s_select_keeps.proofs.Frames.{frame_is_taken, stack_is_exceeded}
use Rattle.s_select_keeps.proofs.laws.frames_are_taken.Goals as goal

pub returns-clause-taken : goal.returns-clause-taken
returns-clause-taken c = frame_is_taken

pub returns-clause-exceeded : goal.returns-clause-exceeded
returns-clause-exceeded c = stack_is_exceeded
