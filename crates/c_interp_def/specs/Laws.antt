-- What a part of a program does is what the tasks do that it comes to.
use Rattle.std.specs.Prelude.{◌≡◌, ℕ, List, [], ◌++◌, map, length, Option, None, Some}
use Rattle.val_core.specs.Answers.{Answer, Cut, then_on}
use Rattle.c_type.specs.Trees.{TypeTree}
use Rattle.c_typed.specs.Typed.{expr, ExprTrees, place, PlaceFormTree, FormTree, ElementTrees, StmtTree, loop, do_while, ItemTrees, GroupTrees, ProgramTree}
use Rattle.c_mean.specs.Statements.{normal, continued}
use Rattle.c_interp_def.specs.Configurations.{Configuration, Reached}
use Rattle.c_interp_def.specs.ExprTasks.{ExprTask, evaluate, locate, drop_each, pass_each, form_tasks, place_tasks, dropped_tasks, passed_tasks, expr_task_run}
use Rattle.c_interp_def.specs.StmtTasks.{Task, of_expr, run_stmt, run_items, run_groups, run_turns, begin_elements, stmt_tasks, items_tasks, groups_tasks, elements_tasks, turns_tasks, again_tasks, again_run, stmt_task_run, tasks_run, variables}

-- no jump is on its way
abbrev pub normally : Configuration → Reached
normally x = record { flow = normal; at = x }

abbrev pub of_exprs : List ExprTask → List Task
of_exprs ts = map of_expr ts

-- tasks after others are done before them
abbrev pub TasksAppend : Type 0
TasksAppend = (p : ProgramTree) (n : ℕ) (ts us : List Task) (r : Reached) → tasks_run p n (ts ++ us) r ≡ then_on (tasks_run p n us r) (tasks_run p n ts)

abbrev pub ExpressionExpands : Type 0
ExpressionExpands =
    (p : ProgramTree) (n : ℕ) (t : TypeTree) (f : FormTree) (x : Configuration) →
    expr_task_run p n (evaluate (expr t f)) x ≡ tasks_run p n (of_exprs (form_tasks x.frame.slots t f)) (normally x)

abbrev pub PlaceExpands : Type 0
PlaceExpands =
    (p : ProgramTree) (n : ℕ) (t : TypeTree) (f : PlaceFormTree) (x : Configuration) →
    expr_task_run p n (locate (place t f)) x ≡ tasks_run p n (of_exprs (place_tasks f)) (normally x)

abbrev pub DroppedExpand : Type 0
DroppedExpand =
    (p : ProgramTree) (n : ℕ) (es : ExprTrees) (x : Configuration) →
    expr_task_run p n (drop_each es) x ≡ tasks_run p n (of_exprs (dropped_tasks es)) (normally x)

abbrev pub PassedExpand : Type 0
PassedExpand =
    (p : ProgramTree) (n : ℕ) (es : ExprTrees) (x : Configuration) →
    expr_task_run p n (pass_each es) x ≡ tasks_run p n (of_exprs (passed_tasks es)) (normally x)

abbrev pub StatementExpands : Type 0
StatementExpands =
    (p : ProgramTree) (n : ℕ) (a : StmtTree) (x : Configuration) → stmt_task_run p n (run_stmt a) x ≡ tasks_run p n (stmt_tasks n a) (normally x)

abbrev pub ItemsExpand : Type 0
ItemsExpand =
    (p : ProgramTree) (n : ℕ) (is : ItemTrees) (x : Configuration) →
    stmt_task_run p n (run_items is) x ≡ tasks_run p n (items_tasks (variables p n x) (length x.frame.slots) is) (normally x)

abbrev pub GroupsExpand : Type 0
GroupsExpand =
    (p : ProgramTree) (n : ℕ) (gs : GroupTrees) (x : Configuration) → stmt_task_run p n (run_groups gs) x ≡ tasks_run p n (groups_tasks gs) (normally x)

abbrev pub ElementsExpand : Type 0
ElementsExpand =
    (p : ProgramTree) (n k : ℕ) (es : ElementTrees) (x : Configuration) →
    stmt_task_run p n (begin_elements k es) x ≡ tasks_run p n (elements_tasks k es) (normally x)

-- where no turn is left, the run is cut
abbrev pub tasks_or_cut : ProgramTree → (bound : ℕ) → Option (List Task) → Reached → Answer Reached
tasks_or_cut p n None r = Cut []
tasks_or_cut p n (Some ts) r = tasks_run p n ts r

abbrev pub IsLoop : StmtTree → Type 0
IsLoop (loop d step a) = Unit {0}
IsLoop (do_while a e) = Unit {0}
IsLoop a = ⊥

abbrev pub TurnsExpand : Type 0
TurnsExpand =
    (p : ProgramTree) (n k : ℕ) (a : StmtTree) (x : Configuration) → IsLoop a →
    stmt_task_run p n (run_turns k a) x ≡ tasks_or_cut p n (turns_tasks k a) (normally x)

-- after a turn that ended normally or by `continue` the loop goes on
abbrev pub AgainExpands : Type 0
AgainExpands =
    (p : ProgramTree) (n k : ℕ) (a : StmtTree) (x : Configuration) → IsLoop a →
    (again_run p n k a normal x ≡ tasks_run p n (again_tasks k a) (normally x)) × (again_run p n k a continued x ≡ tasks_run p n (again_tasks k a) (normally x))
