use Rattle.c_mean.proofs.Pointers.{pointers_move_within, only_pointers_move}
use Rattle.c_mean.proofs.operation_laws.pointers_move_within.Goals as goal

pub returns-clause-within : goal.returns-clause-within
returns-clause-within c = pointers_move_within

pub returns-clause-pointers : goal.returns-clause-pointers
returns-clause-pointers c = only_pointers_move
