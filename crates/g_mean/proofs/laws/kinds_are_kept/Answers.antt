use Rattle.g_mean.proofs.lemmas.Kinds.{regions_keep_kinds, nodes_keep_kinds, maps_keep_kinds, applied_keeps_kinds, lambdas_keep_kinds}
use Rattle.g_mean.proofs.laws.kinds_are_kept.Goals as goal

pub returns-clause-region : goal.returns-clause-region
returns-clause-region c = regions_keep_kinds

pub returns-clause-node : goal.returns-clause-node
returns-clause-node c = nodes_keep_kinds

pub returns-clause-map : goal.returns-clause-map
returns-clause-map c = maps_keep_kinds

pub returns-clause-calls : goal.returns-clause-calls
returns-clause-calls c = applied_keeps_kinds

pub returns-clause-lambda : goal.returns-clause-lambda
returns-clause-lambda c = lambdas_keep_kinds
