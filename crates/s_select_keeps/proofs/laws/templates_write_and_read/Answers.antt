use Rattle.s_select_keeps.proofs.Streams.{put_is_done, get_is_done}
use Rattle.s_select_keeps.proofs.laws.templates_write_and_read.Goals as goal

pub returns-clause-output : goal.returns-clause-output
returns-clause-output c = put_is_done

pub returns-clause-input : goal.returns-clause-input
returns-clause-input c = get_is_done
