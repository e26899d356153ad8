use Rattle.c_type.proofs.Good.{member_is_within}
use Rattle.c_type.proofs.laws.member_is_within.Goals as goal

pub returns : goal.returns
returns c = member_is_within
