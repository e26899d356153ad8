-- A cell that loses its number loses its use.
use Rattle.g_arena_use.proofs.NameLemmas.{cell_in, clear_held}
use Rattle.g_arena_use.proofs.use_index.UseIndex.clear.Goals as goal

pub clear-requires : goal.clear-requires
clear-requires c = cell_in c.self.inside.names c.self.inside.index c.args.self.now (record { is = c.self.invariant; seen = c.self.view_is }) c.args.cell c.requires

pub invariant_of-self : goal.invariant_of-self
invariant_of-self c = (clear_held c.self.inside.names c.self.inside.index c.args.self.now (record { is = c.self.invariant; seen = c.self.view_is }) c.args.cell _ c.requires c.clear.ensures).is

pub returns : goal.returns
returns c = (clear_held c.self.inside.names c.self.inside.index c.args.self.now (record { is = c.self.invariant; seen = c.self.view_is }) c.args.cell _ c.requires c.clear.ensures).seen
