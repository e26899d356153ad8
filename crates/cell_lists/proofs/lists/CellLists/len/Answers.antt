-- What is stored of a list is what its cells ask.
use Rattle.std.proofs.Common.{ap}
use Rattle.cell_lists.specs.declared.links.Ends.{Ends}
use Rattle.cell_lists.proofs.StoreLemmas.{ends_read, distinct_read}
use Rattle.cell_lists.proofs.lists.CellLists.len.Goals as goal

pub returns-clause-value : goal.returns-clause-value
returns-clause-value c =
    ap (λ (e : Ends). e.len) (ends_read c.self.inside.links.items c.self.inside.lists.items _ c.args.list _ c.self.view_is c.self.invariant c.requires c.index.ensures)

pub returns-clause-distinct : goal.returns-clause-distinct
returns-clause-distinct c =
    distinct_read c.self.inside.links.items c.self.inside.lists.items c.args.self.now c.args.list _ c.self.view_is c.self.invariant c.requires c.index.ensures
