use Rattle.s_select_keeps.proofs.Programs as lemma
use Rattle.s_select_keeps.proofs.laws.programs_stand.Goals as goal

pub returns : goal.returns
returns c = lemma.laid_program_stands
