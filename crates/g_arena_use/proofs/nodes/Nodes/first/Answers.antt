-- The first of the list is that of the slots that are there.
use Rattle.std.proofs.Common.{None, ap, ◌∙◌}
use Rattle.cell_lists.specs.Lists.{first_or}
use Rattle.g_arena_use.specs.Plain.{live_from}
use Rattle.g_arena_use.proofs.SlotLemmas.{first_there}
use Rattle.g_arena_use.proofs.nodes.Nodes.first.Goals as goal

pub returns-clause-there : goal.returns-clause-there
returns-clause-there c = first_there c.args.self.now c.first.result (c.first.ensures ∙ ap (first_or None) (c.self.invariant.order ∙ ap (live_from 0) c.self.view_is))
