-- A cell that comes to hold a key is in no list before, and in the key's list then.
use Rattle.cell_lists.proofs.KeyLemmas.{list_in, cell_in_lists, is_free, put_kept}
use Rattle.cell_lists.proofs.index.InvertedIndex.put.Goals as goal

pub push_last-requires : goal.push_last-requires
push_last-requires c = record {
  list_in = list_in c.self.inside.keys.items c.self.inside.lists c.args.self.now (record { is = c.self.invariant; seen = c.self.view_is }) c.args.key c.requires.key_in;
  cell_in = cell_in_lists c.self.inside.keys.items c.self.inside.lists c.args.self.now (record { is = c.self.invariant; seen = c.self.view_is }) c.args.cell c.requires.cell_in;
  free = is_free c.self.inside.keys.items c.self.inside.lists c.args.self.now (record { is = c.self.invariant; seen = c.self.view_is }) c.args.cell c.requires.free;
}

pub invariant_of-self : goal.invariant_of-self
invariant_of-self c =
    (put_kept c.self.inside.keys.items c.self.inside.lists c.args.self.now (record { is = c.self.invariant; seen = c.self.view_is }) c.args.cell c.args.key _
    c.requires.cell_in c.requires.key_in c.requires.free c.push_last.ensures).is

pub returns : goal.returns
returns c =
    (put_kept c.self.inside.keys.items c.self.inside.lists c.args.self.now (record { is = c.self.invariant; seen = c.self.view_is }) c.args.cell c.args.key _
    c.requires.cell_in c.requires.key_in c.requires.free c.push_last.ensures).seen
