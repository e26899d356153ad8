-- The slot of the node goes with those in its regions.
use Rattle.std.proofs.Common.{ap, sym, ◌∙◌}
use Rattle.std.specs.Prelude.{is_none}
use Rattle.g_arena_def.specs.Edits.{nodes_without, node_removed}
use Rattle.g_arena_use.specs.Seen.{nodes_seen}
use Rattle.g_arena_use.proofs.SeenLemmas.{slot_is}
use Rattle.g_arena_use.proofs.ChangeLemmas.{no_node}
use Rattle.g_arena.specs.Seen.{arena_seen}
use Rattle.g_arena.proofs.ShownLemmas.{shown}
use Rattle.g_arena.proofs.arena.Arena.remove_node.Goals as goal

pub returns-in_default-clause-removed : goal.returns-in_default-clause-removed
returns-in_default-clause-removed g c = absurd (no_node c.self.inside.args c.self.inside.nodes c.self.inside.inputs c.self.inside.results c.args.self.now (shown c.self.inside c.args.self.now c.self.invariant c.self.view_is) c.args.node c.requires.0 c.in_default.ensures.slot c.requires.1)

pub go_with-requires-clause-placed : goal.go_with-requires-clause-placed
go_with-requires-clause-placed g c = record { args = c.self.inside.args; indexed = c.self.invariant.indexed; gone = c.self.invariant.gone }

pub go_with-requires-clause-there : goal.go_with-requires-clause-there
go_with-requires-clause-there g c =
    let s = slot_is c.args.node c.self.inside.nodes c.in-Some.root (sym c.in-Some.ensures.slot) in
    record { inside = s.inside; live = ap is_none s.live }

pub invariant_of-self : goal.invariant_of-self
invariant_of-self g c = record { indexed = c.go_with.ensures.indexed c.self.inside.args c.self.invariant.indexed; gone = c.go_with.ensures.gone }

pub returns-clause-removed : goal.returns-clause-removed
returns-clause-removed g c =
    let s = slot_is c.args.node c.self.inside.nodes c.in-Some.root (sym c.in-Some.ensures.slot) in
    (λ i. record (arena_seen c.self.inside) {
      body = record { args = c.self.inside.args; results = c.go_with.ensures.body i };
      nodes = (c.go_with.ensures.seen ∙ ap (λ n. nodes_without n (nodes_seen c.self.inside.inputs.lists c.self.inside.results.lists c.self.inside.nodes)) s.own) i;
    })
    ∙ ap (node_removed c.args.node) c.self.view_is
