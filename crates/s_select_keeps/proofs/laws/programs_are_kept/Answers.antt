use Rattle.s_select_keeps.proofs.Kept.{program_is_kept}
use Rattle.s_select_keeps.proofs.laws.programs_are_kept.Goals as goal

pub returns : goal.returns
returns c = program_is_kept c.programs_run.ensures
