use Rattle.g_mean.proofs.lemmas.Redirects.{redirected_regions_refine, replaced_nodes_refine}
use Rattle.g_mean.proofs.lemmas.Splices.{spliced_regions_refine}
use Rattle.g_mean.proofs.laws.changed_regions_refine.Goals as goal

pub returns-clause-spliced : goal.returns-clause-spliced
returns-clause-spliced c = spliced_regions_refine

pub returns-clause-redirected : goal.returns-clause-redirected
returns-clause-redirected c = redirected_regions_refine

pub returns-clause-replaced : goal.returns-clause-replaced
returns-clause-replaced c = replaced_nodes_refine
