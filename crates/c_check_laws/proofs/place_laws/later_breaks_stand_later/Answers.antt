use Rattle.c_check_laws.proofs.Reported.{later_breaks_stand_later}
use Rattle.c_check_laws.proofs.place_laws.later_breaks_stand_later.Goals as goal

pub returns : goal.returns
returns c = later_breaks_stand_later
