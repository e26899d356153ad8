-- The last of the list is that of the slots that are there.
use Rattle.std.proofs.Common.{None, ap, ◌∙◌}
use Rattle.cell_lists.specs.Lists.{last_or}
use Rattle.g_arena_use.specs.Plain.{live_from}
use Rattle.g_arena_use.proofs.SlotLemmas.{last_there}
use Rattle.g_arena_use.proofs.nodes.Nodes.last.Goals as goal

pub returns-clause-there : goal.returns-clause-there
returns-clause-there c = last_there c.args.self.now c.last.result (c.last.ensures ∙ ap (last_or None) (c.self.invariant.order ∙ ap (live_from 0) c.self.view_is))
