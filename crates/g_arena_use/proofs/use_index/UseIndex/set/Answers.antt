-- A cell comes to hold the number of a use, so the use.
use Rattle.g_arena_use.proofs.NameLemmas.{cell_in, number_in, number_there, set_held}
use Rattle.g_arena_use.proofs.use_index.UseIndex.set.Goals as goal

pub set-requires : goal.set-requires
set-requires c = record {
  cell_in = cell_in c.self.inside.names c.self.inside.index c.args.self.now (record { is = c.self.invariant; seen = c.self.view_is }) c.args.cell c.requires.cell_in;
  key_in = number_in c.self.inside.names c.self.inside.index c.args.self.now (record { is = c.self.invariant; seen = c.self.view_is }) c.args.held c.in-Some.key c.in-Some.ensures;
}

pub invariant_of-self : goal.invariant_of-self
invariant_of-self c = (set_held c.self.inside.names c.self.inside.index c.args.self.now (record { is = c.self.invariant; seen = c.self.view_is }) c.args.cell c.in-Some.key c.args.held _ c.requires.cell_in c.in-Some.ensures c.set.ensures).is

pub returns : goal.returns
returns c = (set_held c.self.inside.names c.self.inside.index c.args.self.now (record { is = c.self.invariant; seen = c.self.view_is }) c.args.cell c.in-Some.key c.args.held _ c.requires.cell_in c.in-Some.ensures c.set.ensures).seen

pub returns-in_default : goal.returns-in_default
returns-in_default c = absurd (number_there c.self.inside.names c.self.inside.index c.args.self.now (record { is = c.self.invariant; seen = c.self.view_is }) c.args.held c.in_default.ensures c.requires.named)
