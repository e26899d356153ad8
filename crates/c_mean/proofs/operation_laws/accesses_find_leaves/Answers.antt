use Rattle.c_mean.proofs.Accesses.{loads_find_leaves, stores_find_leaves}
use Rattle.c_mean.proofs.operation_laws.accesses_find_leaves.Goals as goal

pub returns-clause-loads : goal.returns-clause-loads
returns-clause-loads c = loads_find_leaves

pub returns-clause-stores : goal.returns-clause-stores
returns-clause-stores c = stores_find_leaves
