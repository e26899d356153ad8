-- The result is in the list of its region.
use Rattle.std.proofs.Common.{List, length, ap, sym, ◌∙◌, arith}
use Rattle.std.specs.Prelude.{slice_get}
use Rattle.g_graph.specs.declared.op.Origin.{Origin}
use Rattle.g_arena_use.proofs.ReadLemmas.{list_in, no_result, result_some}
use Rattle.g_arena.proofs.ShownLemmas.{shown}
use Rattle.g_arena.proofs.arena.Arena.result.Goals as goal

pub list-requires : goal.list-requires
list-requires g c = (list_in c.self.inside.args c.self.inside.nodes c.self.inside.inputs c.self.inside.results c.args.self.now (shown c.self.inside c.args.self.now c.self.invariant c.self.view_is) c.args.home c.args.index c.in-Some.list c.in-Some.ensures c.requires).0

pub origin_at-requires : goal.origin_at-requires
origin_at-requires g c =
    let there = list_in c.self.inside.args c.self.inside.nodes c.self.inside.inputs c.self.inside.results c.args.self.now (shown c.self.inside c.args.self.now c.self.invariant c.self.view_is) c.args.home c.args.index c.in-Some.list c.in-Some.ensures c.requires in
    omega (arith, there.1, ap (λ (os : List Origin). length os) c.list.ensures)

pub returns-clause-origin : goal.returns-clause-origin
returns-clause-origin g c =
    result_some c.self.inside.args c.self.inside.nodes c.self.inside.inputs c.self.inside.results c.args.self.now (shown c.self.inside c.args.self.now c.self.invariant c.self.view_is) c.args.home c.args.index c.in-Some.list c.in-Some.ensures
    ∙ ap (λ (os : List Origin). slice_get os c.args.index) (sym c.list.ensures) ∙ c.origin_at.ensures

pub unreachable-requires : goal.unreachable-requires
unreachable-requires g c = no_result c.self.inside.args c.self.inside.nodes c.self.inside.inputs c.self.inside.results c.args.self.now (shown c.self.inside c.args.self.now c.self.invariant c.self.view_is) c.args.home c.args.index c.in-None.ensures c.requires
