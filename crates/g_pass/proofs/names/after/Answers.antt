use Rattle.std.proofs.lemmas.Bool.Decides.{Decides-eqb}
use Rattle.std.proofs.lemmas.Slice.Eq.{strip_prefix_is}
use Rattle.g_pass.proofs.Letters.{if_some, if_none}
use Rattle.g_pass.proofs.names.after.Goals as goal

pub returns-clause-some : goal.returns-clause-some
returns-clause-some c = if_some _ _ c.strip_prefix.result (strip_prefix_is Decides-eqb c.args.text.now c.args.beginning.now c.strip_prefix.result c.strip_prefix.ensures.cases)

pub returns-clause-none : goal.returns-clause-none
returns-clause-none c = if_none _ _ c.strip_prefix.result (strip_prefix_is Decides-eqb c.args.text.now c.args.beginning.now c.strip_prefix.result c.strip_prefix.ensures.cases)
