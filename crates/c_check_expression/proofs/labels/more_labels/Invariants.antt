use Rattle.std.proofs.Common.{◌≡◌, take}
use Rattle.c_ast.specs.Statements.{labels_tree}
use Rattle.c_check_def.specs.Statements.{more_labels}
use Rattle.c_check_expression.proofs.labels.more_labels.Given as goal

abbrev pub invariant-loop-x : goal.invariant-loop-x
invariant-loop-x v =
    let done = more_labels v.fn.labels (labels_tree (take v.x-index v.more)) v.fn.state in
    (v.all ≡ done.0) × (v.state ≡ done.1)
