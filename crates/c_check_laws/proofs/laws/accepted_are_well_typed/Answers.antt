use Rattle.c_check_laws.proofs.lemmas.Accepted.{accepted_typed}
use Rattle.c_check_laws.proofs.laws.accepted_are_well_typed.Goals as goal

pub returns : goal.returns
returns c = accepted_typed (record { widths = c.alignment_is_width.ensures; members = c.member_is_within.ensures })
