-- A cell that gives its number gives its use.
use Rattle.g_arena_use.proofs.NameLemmas.{cell_in, key_free, move_held}
use Rattle.g_arena_use.proofs.use_index.UseIndex.move_use.Goals as goal

pub move_key-requires : goal.move_key-requires
move_key-requires c = record {
  from_in = cell_in c.self.inside.names c.self.inside.index c.args.self.now (record { is = c.self.invariant; seen = c.self.view_is }) c.args.from c.requires.from_in;
  to_in = cell_in c.self.inside.names c.self.inside.index c.args.self.now (record { is = c.self.invariant; seen = c.self.view_is }) c.args.to c.requires.to_in;
  free = key_free c.self.inside.names c.self.inside.index c.args.self.now (record { is = c.self.invariant; seen = c.self.view_is }) c.args.to c.requires.free;
}

pub invariant_of-self : goal.invariant_of-self
invariant_of-self c = (move_held c.self.inside.names c.self.inside.index c.args.self.now (record { is = c.self.invariant; seen = c.self.view_is }) c.args.from c.args.to _ c.requires.from_in c.requires.to_in c.move_key.ensures).is

pub returns : goal.returns
returns c = (move_held c.self.inside.names c.self.inside.index c.args.self.now (record { is = c.self.invariant; seen = c.self.view_is }) c.args.from c.args.to _ c.requires.from_in c.requires.to_in c.move_key.ensures).seen
