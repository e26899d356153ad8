use Rattle.g_mean.proofs.lemmas.Edits.{edits_replace}
use Rattle.g_mean.proofs.lemmas.Exchange.{edits_keep_meaning, edits_keep_complete}
use Rattle.g_mean.proofs.laws.edits_replace.Goals as goal

pub returns-clause-same : goal.returns-clause-same
returns-clause-same c = edits_replace

pub returns-clause-meaning : goal.returns-clause-meaning
returns-clause-meaning c = edits_keep_meaning

pub returns-clause-complete : goal.returns-clause-complete
returns-clause-complete c = edits_keep_complete
