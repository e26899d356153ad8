use Rattle.std.proofs.Common.{◌≡◌, ◌++◌, take}
use Rattle.c_ast.specs.Productions as l
use Rattle.c_ast.specs.Nodes.{many}
use Rattle.c_ast.specs.Expressions.{expr_tree, next, dimensions as dimension_trees}
use Rattle.c_check_def.specs.Expressions.{more_arguments, more_expressions, dimensions}
use Rattle.c_check_state.specs.Frames.{KeepsDeclarations}
use Rattle.c_check_expression.proofs.+expression.Given as goal

abbrev pub invariant-arguments::more_arguments-loop-part : goal.invariant-arguments::more_arguments-loop-part
invariant-arguments::more_arguments-loop-part v =
    let done = more_arguments (many l.MoreAssigns (next expr_tree) (take v.part-index v.more)) v.fn.state in
    (v.all.items ≡ v.fn.before.items ++ done.0) × (v.state ≡ done.1) × KeepsDeclarations v.fn.state v.state

abbrev pub invariant-commas::more_expressions-loop-part : goal.invariant-commas::more_expressions-loop-part
invariant-commas::more_expressions-loop-part v =
    let done = more_expressions v.fn.first (many l.MoreAssigns (next expr_tree) (take v.part-index v.more)) v.fn.state in
    (v.all ≡ done.0) × (v.state ≡ done.1) × KeepsDeclarations v.fn.state v.state

abbrev pub invariant-type_names::dimensions-loop-d : goal.invariant-type_names::dimensions-loop-d
invariant-type_names::dimensions-loop-d v =
    let done = dimensions (dimension_trees (take v.d-index v.ds)) v.fn.state in
    (v.sizes.items ≡ done.0) × (v.state ≡ done.1) × KeepsDeclarations v.fn.state v.state
