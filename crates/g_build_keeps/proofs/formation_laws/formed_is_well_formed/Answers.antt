use Rattle.g_build_keeps.proofs.FormationLemmas.{formed_is_well_formed}
use Rattle.g_build_keeps.proofs.formation_laws.formed_is_well_formed.Goals as goal

pub returns : goal.returns
returns c = formed_is_well_formed
