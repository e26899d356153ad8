-- A cell that loses its key is in the key's list before, and in none then.
use Rattle.std.proofs.Common.{Some}
use Rattle.cell_lists.proofs.KeyLemmas.{cell_in, at_read, listed, clear_kept}
use Rattle.cell_lists.proofs.index.InvertedIndex.clear.Goals as goal

pub remove-requires : goal.remove-requires
remove-requires c =
    listed c.self.inside.keys.items c.self.inside.lists c.self.invariant c.args.cell c.in-Some.field-0
    (at_read c.self.inside.keys.items c.args.cell c.index.result.now (Some c.in-Some.field-0)
    (cell_in c.self.inside.keys.items c.self.inside.lists c.args.self.now (record { is = c.self.invariant; seen = c.self.view_is }) c.args.cell c.requires) c.index.ensures c.in-Some.is)

pub invariant_of-self : goal.invariant_of-self
invariant_of-self c =
    (clear_kept c.self.inside.keys.items c.self.inside.lists c.args.self.now (record { is = c.self.invariant; seen = c.self.view_is }) c.args.cell _ c.requires c.remove.ensures).is

pub returns : goal.returns
returns c =
    (clear_kept c.self.inside.keys.items c.self.inside.lists c.args.self.now (record { is = c.self.invariant; seen = c.self.view_is }) c.args.cell _ c.requires c.remove.ensures).seen
