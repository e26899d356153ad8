use Rattle.std.proofs.Common.{◌≡◌, drop}
use Rattle.c_typed.specs.StmtViews.{elements_of}
use Rattle.g_build_def.specs.Statements.{elements_made}
use Rattle.g_build_expression.specs.Work.{made}
use Rattle.g_build.proofs.declaration.store_elements.Given as goal

abbrev pub invariant-loop-element : goal.invariant-loop-element
invariant-loop-element l =
    made l.b (elements_made l.number (elements_of (drop l.element-index l.elements)) l.b.point)
    ≡ made l.initial.b (elements_made l.number (elements_of l.elements) l.initial.b.point)
