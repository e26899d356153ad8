-- The first cell that holds a use is the first that holds its number.
use Rattle.g_arena_use.proofs.NameLemmas.{number_in, first_held, first_not}
use Rattle.g_arena_use.proofs.use_index.UseIndex.first.Goals as goal

pub first-requires : goal.first-requires
first-requires c = number_in c.self.inside.names c.self.inside.index c.args.self.now (record { is = c.self.invariant; seen = c.self.view_is }) c.args.held c.in-Some.key c.in-Some.ensures

pub returns : goal.returns
returns c = first_held c.self.inside.names c.self.inside.index c.args.self.now (record { is = c.self.invariant; seen = c.self.view_is }) c.args.held c.in-Some.key _ c.in-Some.ensures c.first.ensures

pub returns-in_default : goal.returns-in_default
returns-in_default c = first_not c.self.inside.names c.self.inside.index c.args.self.now (record { is = c.self.invariant; seen = c.self.view_is }) c.args.held c.in_default.ensures
