-- As many cells hold a use as hold its number.
use Rattle.g_arena_use.proofs.NameLemmas.{number_in, count_held, count_not}
use Rattle.g_arena_use.proofs.use_index.UseIndex.count.Goals as goal

pub count-requires : goal.count-requires
count-requires c = number_in c.self.inside.names c.self.inside.index c.args.self.now (record { is = c.self.invariant; seen = c.self.view_is }) c.args.held c.in-Some.key c.in-Some.ensures

pub returns : goal.returns
returns c = count_held c.self.inside.names c.self.inside.index c.args.self.now (record { is = c.self.invariant; seen = c.self.view_is }) c.args.held c.in-Some.key _ c.in-Some.ensures c.count.ensures

pub returns-in_default : goal.returns-in_default
returns-in_default c = count_not c.self.inside.names c.self.inside.index c.args.self.now (record { is = c.self.invariant; seen = c.self.view_is }) c.args.held c.in_default.ensures
