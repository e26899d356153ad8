-- A list of nodes is read back in one way.
use Rattle.g_arena_def.proofs.OneLambda.{one_lambda}
use Rattle.g_arena_def.proofs.laws.flat_is_of_one_lambda.Goals as goal

pub returns : goal.returns
returns c = one_lambda
