use Rattle.std.proofs.Common.{◌≡◌, take}
use Rattle.c_ast.specs.Statements.{items_tree, stmts_tree, groups_tree}
use Rattle.c_typed.specs.StmtViews.{items_of, groups_of}
use Rattle.c_check_def.specs.Declarators.{items_joined}
use Rattle.c_check_def.specs.Statements.{next_group, items, groups}
use Rattle.c_check_statement.specs.Parts.{jumps_of}
use Rattle.c_check_statement.proofs.+statement.Given as goal

abbrev pub invariant-blocks::items-loop-x : goal.invariant-blocks::items-loop-x
invariant-blocks::items-loop-x v =
    let done = items (jumps_of v.jumps v.gives) (items_tree (take v.x-index v.xs)) v.fn.state in
    (items_of v.out.items ≡ items_joined (items_of v.fn.out.items) done.0) × (v.state ≡ done.1)

abbrev pub invariant-blocks::statements-loop-x : goal.invariant-blocks::statements-loop-x
invariant-blocks::statements-loop-x v =
    let done = items (jumps_of v.jumps v.gives) (stmts_tree (take v.x-index v.xs)) v.fn.state in
    (items_of v.out.items ≡ items_joined (items_of v.fn.out.items) done.0) × (v.state ≡ done.1)

abbrev pub invariant-switches::groups-loop-x : goal.invariant-switches::groups-loop-x
invariant-switches::groups-loop-x v =
    let done = groups (jumps_of v.jumps v.gives) (groups_tree (take v.x-index v.xs)) v.fn.state in
    (v.labels ≡ next_group done.0.labels) × (groups_of v.out.items ≡ done.0.groups) × (v.state ≡ done.1)
