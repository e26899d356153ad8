use Rattle.std.proofs.Common.{sym, ◌∙◌}
use Rattle.std.specs.Prelude.{is_some}
use Rattle.g_graph.proofs.lemmas.Change.{some_here}
use Rattle.g_graph.proofs.can_change.+can_change.Goals as goal

pub region_can_change-returns-then-can_change : goal.region_can_change-returns-then-can_change
region_can_change-returns-then-can_change g t c =
    some_here (λ r. is_some (g.C.CanChange.changed c.args.test.now r)) c.args.region.now (sym c.can_change.ensures ∙ c.if-can_change.true)
