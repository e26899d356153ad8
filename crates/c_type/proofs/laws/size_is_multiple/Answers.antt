use Rattle.c_type.proofs.Good.{size_is_multiple}
use Rattle.c_type.proofs.laws.size_is_multiple.Goals as goal

pub returns : goal.returns
returns c = size_is_multiple
