use Rattle.std.proofs.Common.{sym, ◌∙◌}
use Rattle.g_graph.specs.Ids.{region_ids}
use Rattle.g_graph.proofs.lemmas.Unique.{each_once}
use Rattle.g_graph.proofs.unique.numbers_fit.Goals as goal

pub returns : goal.returns
returns c = c.region_fits.ensures ∙ sym (each_once c.args.next (region_ids c.args.body.now))
