use Rattle.g_build_keeps.proofs.FunctionNumbers.{numbers_count_nodes, numbers_are_few}
use Rattle.g_build_keeps.proofs.number_laws.numbers_count_nodes.Goals as goal

pub returns-clause-nodes : goal.returns-clause-nodes
returns-clause-nodes c = numbers_count_nodes c.programs_are_by_number.ensures.lambdas

pub returns-clause-values : goal.returns-clause-values
returns-clause-values c = numbers_are_few c.programs_are_by_number.ensures.lambdas
