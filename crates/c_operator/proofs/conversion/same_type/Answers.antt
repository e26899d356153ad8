use Rattle.c_check_def.proofs.lemmas.SameType.{same_type-is}
use Rattle.c_operator.proofs.conversion.same_type.Goals as goal

pub returns : goal.returns
returns c = same_type-is c.is_same.result c.args.s.now c.args.t.now c.is_same.ensures
