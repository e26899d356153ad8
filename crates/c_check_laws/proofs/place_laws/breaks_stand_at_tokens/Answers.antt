use Rattle.c_check_laws.proofs.Reported.{breaks_stand_at_tokens}
use Rattle.c_check_laws.proofs.place_laws.breaks_stand_at_tokens.Goals as goal

pub returns : goal.returns
returns c = breaks_stand_at_tokens
