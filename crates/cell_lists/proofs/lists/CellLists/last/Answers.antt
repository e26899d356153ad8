-- What is stored of a list is what its cells ask.
use Rattle.std.proofs.Common.{ap}
use Rattle.cell_lists.specs.declared.links.Ends.{Ends}
use Rattle.cell_lists.proofs.StoreLemmas.{ends_read}
use Rattle.cell_lists.proofs.lists.CellLists.last.Goals as goal

pub returns : goal.returns
returns c =
    ap (λ (e : Ends). e.last) (ends_read c.self.inside.links.items c.self.inside.lists.items _ c.args.list _ c.self.view_is c.self.invariant c.requires c.index.ensures)
