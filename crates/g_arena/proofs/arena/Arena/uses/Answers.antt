-- The uses are counted in the inputs and in the results.
use Rattle.std.proofs.Common.{sym, refl, ◌∙◌, arith}
use Rattle.g_arena_use.proofs.ReadLemmas.{kind_same, no_kind, uses_counted}
use Rattle.g_arena.proofs.ShownLemmas.{shown}
use Rattle.g_arena.proofs.arena.Arena.uses.Goals as goal

pub overflow_add-count : goal.overflow_add-count
overflow_add-count g c = omega (arith, c.count-inputs.ensures.most, c.count-results.ensures.most, c.self.invariant.indexed.room)

pub returns-clause-kind : goal.returns-clause-kind
returns-clause-kind g c = kind_same c.self.inside.args c.self.inside.nodes c.self.inside.inputs c.self.inside.results c.args.self.now (shown c.self.inside c.args.self.now c.self.invariant c.self.view_is) c.args.home c.args.of ∙ sym c.in-Some.ensures

pub returns-clause-count : goal.returns-clause-count
returns-clause-count g c = uses_counted c.self.inside.args c.self.inside.nodes c.self.inside.inputs c.self.inside.results c.args.self.now (shown c.self.inside c.args.self.now c.self.invariant c.self.view_is) c.args.home c.args.of _ c.count-inputs.result c.count-results.result c.count-inputs.ensures.value c.count-results.ensures.value refl

pub unreachable-requires : goal.unreachable-requires
unreachable-requires g c = no_kind c.self.inside.args c.self.inside.nodes c.self.inside.inputs c.self.inside.results c.args.self.now (shown c.self.inside c.args.self.now c.self.invariant c.self.view_is) c.args.home c.args.of c.in-None.ensures c.requires
