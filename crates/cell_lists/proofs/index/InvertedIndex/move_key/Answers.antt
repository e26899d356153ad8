-- A cell gives its key to one that holds none, which stands in its place in the key's list then.
use Rattle.std.proofs.Common.{Some}
use Rattle.cell_lists.proofs.KeyLemmas.{cell_in, cell_in_lists, is_free, at_read, listed, move_kept}
use Rattle.cell_lists.proofs.index.InvertedIndex.move_key.Goals as goal

pub replace-requires : goal.replace-requires
replace-requires c = record {
  listed =
      listed c.self.inside.keys.items c.self.inside.lists c.self.invariant c.args.from c.in-Some.key
      (at_read c.self.inside.keys.items c.args.from c.index.result.now (Some c.in-Some.key)
      (cell_in c.self.inside.keys.items c.self.inside.lists c.args.self.now (record { is = c.self.invariant; seen = c.self.view_is }) c.args.from c.requires.from_in) c.index.ensures c.in-Some.is);
  cell_in = cell_in_lists c.self.inside.keys.items c.self.inside.lists c.args.self.now (record { is = c.self.invariant; seen = c.self.view_is }) c.args.to c.requires.to_in;
  free = is_free c.self.inside.keys.items c.self.inside.lists c.args.self.now (record { is = c.self.invariant; seen = c.self.view_is }) c.args.to c.requires.free;
}

pub invariant_of-self : goal.invariant_of-self
invariant_of-self c =
    (move_kept c.self.inside.keys.items c.self.inside.lists c.args.self.now (record { is = c.self.invariant; seen = c.self.view_is }) c.args.from c.args.to c.in-Some.key _ c.requires.from_in
    c.requires.to_in
    (at_read c.self.inside.keys.items c.args.from c.index.result.now (Some c.in-Some.key)
    (cell_in c.self.inside.keys.items c.self.inside.lists c.args.self.now (record { is = c.self.invariant; seen = c.self.view_is }) c.args.from c.requires.from_in) c.index.ensures c.in-Some.is)
    c.requires.free c.replace.ensures).is

pub returns : goal.returns
returns c =
    (move_kept c.self.inside.keys.items c.self.inside.lists c.args.self.now (record { is = c.self.invariant; seen = c.self.view_is }) c.args.from c.args.to c.in-Some.key _ c.requires.from_in
    c.requires.to_in
    (at_read c.self.inside.keys.items c.args.from c.index.result.now (Some c.in-Some.key)
    (cell_in c.self.inside.keys.items c.self.inside.lists c.args.self.now (record { is = c.self.invariant; seen = c.self.view_is }) c.args.from c.requires.from_in) c.index.ensures c.in-Some.is)
    c.requires.free c.replace.ensures).seen
