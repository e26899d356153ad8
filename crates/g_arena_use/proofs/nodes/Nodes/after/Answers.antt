-- The slot is in the list of those that are there.
use Rattle.std.proofs.Common.{ap, ◌∙◌}
use Rattle.cell_lists.specs.Lists.{after_in}
use Rattle.g_arena_use.specs.Plain.{live_from}
use Rattle.g_arena_use.proofs.SlotLemmas.{after_there}
use Rattle.g_arena_use.proofs.NodeLemmas.{listed}
use Rattle.g_arena_use.proofs.nodes.Nodes.after.Goals as goal

pub after-requires : goal.after-requires
after-requires c = (0, listed c.self.inside.slots.items c.self.inside.order c.args.self.now c.args.at c.self.invariant.order c.self.view_is c.requires.inside c.requires.live)

pub returns-clause-slot : goal.returns-clause-slot
returns-clause-slot c =
    c.after.ensures 0 (listed c.self.inside.slots.items c.self.inside.order c.args.self.now c.args.at c.self.invariant.order c.self.view_is c.requires.inside c.requires.live)
    ∙ ap (after_in c.args.at) (c.self.invariant.order ∙ ap (live_from 0) c.self.view_is)

pub returns-clause-there : goal.returns-clause-there
returns-clause-there c =
    after_there c.args.self.now c.args.at c.after.result
    (c.after.ensures 0 (listed c.self.inside.slots.items c.self.inside.order c.args.self.now c.args.at c.self.invariant.order c.self.view_is c.requires.inside c.requires.live)
    ∙ ap (after_in c.args.at) (c.self.invariant.order ∙ ap (live_from 0) c.self.view_is))
