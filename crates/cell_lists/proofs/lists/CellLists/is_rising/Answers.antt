-- What is stored of a list is what its cells ask.
use Rattle.std.proofs.Common.{ap, eqb}
use Rattle.cell_lists.specs.declared.links.Ends.{Ends}
use Rattle.cell_lists.proofs.StoreLemmas.{ends_read}
use Rattle.cell_lists.proofs.lists.CellLists.is_rising.Goals as goal

pub returns : goal.returns
returns c =
    ap (λ (e : Ends). eqb e.falls 0) (ends_read c.self.inside.links.items c.self.inside.lists.items _ c.args.list _ c.self.view_is c.self.invariant c.requires c.index.ensures)
