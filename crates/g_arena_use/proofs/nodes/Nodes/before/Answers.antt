-- The slot is in the list of those that are there.
use Rattle.std.proofs.Common.{None, ap, ◌∙◌}
use Rattle.cell_lists.specs.Lists.{before_in}
use Rattle.g_arena_use.specs.Plain.{live_from}
use Rattle.g_arena_use.proofs.SlotLemmas.{before_there}
use Rattle.g_arena_use.proofs.NodeLemmas.{listed}
use Rattle.g_arena_use.proofs.nodes.Nodes.before.Goals as goal

pub before-found-requires : goal.before-found-requires
before-found-requires c = (0, listed c.self.inside.slots.items c.self.inside.order c.args.self.now c.args.at c.self.invariant.order c.self.view_is c.requires.inside c.requires.live)

pub returns-clause-slot : goal.returns-clause-slot
returns-clause-slot c =
    c.before-found.ensures 0 (listed c.self.inside.slots.items c.self.inside.order c.args.self.now c.args.at c.self.invariant.order c.self.view_is c.requires.inside c.requires.live)
    ∙ ap (before_in None c.args.at) (c.self.invariant.order ∙ ap (live_from 0) c.self.view_is)

pub returns-clause-there : goal.returns-clause-there
returns-clause-there c =
    before_there c.args.self.now c.args.at c.before-found.result
    (c.before-found.ensures 0 (listed c.self.inside.slots.items c.self.inside.order c.args.self.now c.args.at c.self.invariant.order c.self.view_is c.requires.inside c.requires.live)
    ∙ ap (before_in None c.args.at) (c.self.invariant.order ∙ ap (live_from 0) c.self.view_is))
