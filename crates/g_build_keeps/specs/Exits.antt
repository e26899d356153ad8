-- How a statement ends, by the jumps that leave it.
use Rattle.std.specs.Prelude.{◌≡◌, List, true}
use Rattle.val_core.specs.Answers.{Answer, Gives}
use Rattle.c_typed.specs.Typed.{StmtTree, ItemTrees, VariableTree}
use Rattle.c_mean.specs.State.{State}
use Rattle.c_mean.specs.Expressions.{Context}
use Rattle.c_mean.specs.Statements.{Flow, normal, broke, continued, returned, Flowed, stmt_run, items_run}
use Rattle.g_build_def.specs.Exits.{Exits, stmt_exits, items_exits}

-- one of these jumps, or none
abbrev pub Allows : Exits → Flow → Type 0
Allows e normal = Unit {0}
Allows e broke = e.breaks ≡ true
Allows e continued = e.continues ≡ true
Allows e (returned v) = e.returns ≡ true

abbrev pub EndsBy : Exits → Answer Flowed → Type 0
EndsBy e a = Gives (λ x. Allows e x.flow) a

-- A statement ends normally, or by a jump that stands in it and leaves it,
abbrev pub StatementsEndByTheirExits : Type 0
StatementsEndByTheirExits = (c : Context) (vs : List VariableTree) (a : StmtTree) (s : State) → EndsBy (stmt_exits a) (stmt_run c vs a s)

-- and so does a list of items.
abbrev pub ItemsEndByTheirExits : Type 0
ItemsEndByTheirExits = (c : Context) (vs : List VariableTree) (is : ItemTrees) (s : State) → EndsBy (items_exits is) (items_run c vs is s)
