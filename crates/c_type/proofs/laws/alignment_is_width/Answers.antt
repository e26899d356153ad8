use Rattle.c_type.proofs.Order.{alignment_is_width}
use Rattle.c_type.proofs.laws.alignment_is_width.Goals as goal

pub returns : goal.returns
returns c = alignment_is_width
