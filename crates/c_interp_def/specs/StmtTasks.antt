-- What is left to do of statements and calls (ISO/IEC 9899:2011, 6.8, 6.9.1), as tasks. A jump passes over them until one is
-- its own.
use Rattle.std.specs.Prelude.{ℕ, zero, suc, ◌==◌, if◌then◌else◌, List, [], ◌∷◌, ◌++◌, length, slice_get, Option, None, Some}
use Rattle.val_core.specs.declared.values.Value.{Value}
use Rattle.val_core.specs.declared.values.Value.TheVariants.{Bad}
use Rattle.val_core.specs.Memory.{store}
use Rattle.val_core.specs.Answers.{Answer, Returned, Cut, Undefined, then_on, on_number, on_defined}
use Rattle.val_core.specs.Within.{Given}
use Rattle.c_type.specs.Trees.{TypeTree}
use Rattle.c_typed.specs.Typed as tree
use Rattle.c_typed.specs.Typed.{ExprTree, OptionalExpr, no_expr, some_expr, ElementTrees, no_elements, value_then, characters_then, InitialTree, no_initial, initial_value, initial_elements, StmtTree, ItemTrees, no_items, stmt_then, declare_then, GroupTrees, no_groups, group_then, VariableTree, ProgramTree}
use Rattle.c_typed.specs.WellTyped.{type_of}
use Rattle.c_typed.specs.Objects.{object_number, access_width}
use Rattle.c_mean.specs.State.{holds, object, State, with_memory, used, bytes_into}
use Rattle.c_mean.specs.Expressions.{back_from, branched, expr_run}
use Rattle.c_mean.specs.Statements.{Flow, normal, broke, continued, returned, Flowed, goes_on, past, after_turn, optional_step, loop_run, do_run, in_scope, out_of_scope, newest_written, characters_stored, elements_run, zeros, chosen_groups, groups_done, stmt_run, items_run, groups_runs}
use Rattle.c_mean.specs.Run.{objects_of, ended}
use Rattle.c_interp_def.specs.Configurations.{Frame, Configuration, Reached, reaches, state_of, gives_value, goes_on_at, flows_on, on_operand, variables_of}
use Rattle.c_interp_def.specs.ExprTasks.{ExprTask, evaluate, discard, context, expr_task_run}

-- what is done where no jump is on its way
pub data StmtTask : Type 0 where
  run_stmt : StmtTree → StmtTask
  run_items : ItemTrees → StmtTask
  run_groups : GroupTrees → StmtTask
  -- an `if`, and a `switch`, whose condition is the newest operand
  branch : StmtTree → StmtTask
  select : StmtTree → StmtTask
  -- a loop with its turns left, and with its condition as the newest operand
  run_turns : (turns : ℕ) → StmtTree → StmtTask
  turn_if : (turns : ℕ) → StmtTree → StmtTask
  -- a jump begins, or a return with the newest operand
  jump : Flow → StmtTask
  return_it : StmtTask
  -- the variable of this number comes into scope; it begins with the newest operand, as a value or as the object of this number
  enter : (variable : ℕ) → StmtTask
  begin_slot : StmtTask
  begin_object : (number : ℕ) → TypeTree → StmtTask
  clear_object : (number : ℕ) → StmtTask
  begin_elements : (number : ℕ) → ElementTrees → StmtTask
  begin_element : (number offset : ℕ) → TypeTree → StmtTask
  begin_characters : (number offset : ℕ) → List ℕ → StmtTask

-- what is done also where a jump is on its way
pub data Handler : Type 0 where
  end_switch : Handler
  again : (turns : ℕ) → StmtTree → Handler
  end_scope : (count : ℕ) → Handler
  end_call : Handler

pub data Task : Type 0 where
  of_expr : ExprTask → Task
  of_stmt : StmtTask → Task
  handler : Handler → Task

-- ---- what each does

abbrev pub entered : List VariableTree → (variable : ℕ) → Option VariableTree → State → Option State
entered vs k None s = None
entered vs k (Some v) s = Some (in_scope s (if v.is_object then object (object_number vs k) else holds Bad))

-- where the call ends, the caller goes on with its value
abbrev pub returned_to : List Frame → List Value → Given (Option Value) → Answer Reached
returned_to [] vs g = Undefined []
returned_to (f ∷ fs) vs g =
    let x : Configuration = record { frame = f; callers = fs; operands = vs; memory = g.memory; input = g.input } in
    then_on (back_from (state_of x) g) (gives_value x)

module _ (p : ProgramTree) (n : ℕ) where
  abbrev pub variables : Configuration → List VariableTree
  variables x = variables_of p x.frame.function

  abbrev pub object_at : Configuration → (number : ℕ) → Value
  object_at x k = (context p n x).addresses.local k

  abbrev pub body_of : Configuration → StmtTree → State → Answer Flowed
  body_of x a = stmt_run (context p n x) (variables x) a

  -- a turn of a loop that has asked its condition
  abbrev pub turn_run : Configuration → (turns : ℕ) → (condition step : OptionalExpr) → StmtTree → State → Answer Flowed
  turn_run x zero d step a s = Cut []
  turn_run x (suc k) d step a s =
      then_on (body_of x a s) (λ r. after_turn r.flow r.state (λ u. then_on (optional_step (context p n x) step u) (loop_run k (context p n x) d step (body_of x a))))

  abbrev pub branch_run : StmtTree → Configuration → Answer Reached
  branch_run (tree.if_else e a b) x =
      on_operand x (λ v y. branched (type_of e) v (then_on (body_of y a (state_of y)) (flows_on y)) (then_on (body_of y b (state_of y)) (flows_on y)))
  branch_run a x = Undefined []

  abbrev pub groups_run : GroupTrees → Configuration → Answer Reached
  groups_run gs x = then_on (groups_done 0 (groups_runs (context p n x) (variables x) gs) (state_of x)) (flows_on x)

  abbrev pub select_run : StmtTree → Configuration → Answer Reached
  select_run (tree.switch e gs) x = on_operand x (λ v y. on_number v (λ w. groups_run (chosen_groups w gs) y))
  select_run a x = Undefined []

  abbrev pub turns_run : (turns : ℕ) → StmtTree → Configuration → Answer Reached
  turns_run k (tree.loop d step a) x = then_on (loop_run k (context p n x) d step (body_of x a) (state_of x)) (flows_on x)
  turns_run k (tree.do_while a e) x = then_on (do_run k (context p n x) e (body_of x a) (state_of x)) (flows_on x)
  turns_run k a x = Undefined []

  abbrev pub asked_run : (turns : ℕ) → StmtTree → Configuration → Answer Reached
  asked_run k (tree.loop (some_expr e) step a) x =
      on_operand x (λ v y. branched (type_of e) v (then_on (turn_run y k (some_expr e) step a (state_of y)) (flows_on y)) (reaches normal y))
  asked_run k (tree.do_while a e) x =
      on_operand x (λ v y. branched (type_of e) v (then_on (do_run k (context p n y) e (body_of y a) (state_of y)) (flows_on y)) (reaches normal y))
  asked_run k a x = Undefined []

  abbrev pub again_run : (turns : ℕ) → StmtTree → Flow → Configuration → Answer Reached
  again_run k (tree.loop d step a) f x =
      then_on (after_turn f (state_of x) (λ u. then_on (optional_step (context p n x) step u) (loop_run k (context p n x) d step (body_of x a)))) (flows_on x)
  again_run k (tree.do_while a e) f x =
      then_on
      (after_turn f (state_of x) (λ t.
      then_on (expr_run (context p n x) e t) (λ y. branched (type_of e) y.value (do_run k (context p n x) e (body_of x a) y.state) (goes_on y.state))))
      (flows_on x)
  again_run k a f x = Undefined []

  abbrev pub stmt_task_run : StmtTask → Configuration → Answer Reached
  stmt_task_run (run_stmt a) x = then_on (stmt_run (context p n x) (variables x) a (state_of x)) (flows_on x)
  stmt_task_run (run_items is) x = then_on (items_run (context p n x) (variables x) is (state_of x)) (flows_on x)
  stmt_task_run (run_groups gs) x = groups_run gs x
  stmt_task_run (branch a) x = branch_run a x
  stmt_task_run (select a) x = select_run a x
  stmt_task_run (run_turns k a) x = turns_run k a x
  stmt_task_run (turn_if k a) x = asked_run k a x
  stmt_task_run (jump f) x = reaches f x
  stmt_task_run return_it x = on_operand x (λ v y. used v (λ w. reaches (returned (Some w)) y))
  stmt_task_run (enter k) x = on_defined (entered (variables x) k (slice_get (variables x) k) (state_of x)) (goes_on_at x)
  stmt_task_run begin_slot x = on_operand x (λ v y. used v (λ w. goes_on_at y (newest_written (state_of y) w)))
  stmt_task_run (begin_object k t) x =
      on_operand x (λ v y. used v (λ w. on_defined (store (access_width t) (object_at y k) w y.memory) (λ m. goes_on_at y (with_memory (state_of y) m))))
  stmt_task_run (clear_object k) x = on_defined (zeros (object_at x k) x.memory) (λ m. goes_on_at x (with_memory (state_of x) m))
  stmt_task_run (begin_elements k es) x = then_on (elements_run (context p n x) (object_at x k) es (state_of x)) (goes_on_at x)
  stmt_task_run (begin_element k o t) x =
      on_operand x (λ v y. used v (λ w. on_defined (store (access_width t) (bytes_into (object_at y k) o) w y.memory) (λ m. goes_on_at y (with_memory (state_of y) m))))
  stmt_task_run (begin_characters k o cs) x =
      on_defined (characters_stored (object_at x k) o cs x.memory) (λ m. goes_on_at x (with_memory (state_of x) m))

  abbrev pub handler_run : Handler → Flow → Configuration → Answer Reached
  handler_run end_switch f x = then_on (past (record { flow = f; state = state_of x })) (flows_on x)
  handler_run (again k a) f x = again_run k a f x
  handler_run (end_scope count) f x = then_on (out_of_scope count (record { flow = f; state = state_of x })) (flows_on x)
  handler_run end_call f x =
      then_on (ended (x.frame.function == p.main) x.frame.first (length (objects_of p.structs (variables x))) (record { flow = f; state = state_of x }))
      (returned_to x.callers x.operands)

  abbrev pub unless_jump : (Configuration → Answer Reached) → Flow → Configuration → Answer Reached
  unless_jump next normal x = next x
  unless_jump next f x = reaches f x

  abbrev pub task_run : Task → Reached → Answer Reached
  task_run (of_expr t) r = unless_jump (expr_task_run p n t) r.flow r.at
  task_run (of_stmt t) r = unless_jump (stmt_task_run t) r.flow r.at
  task_run (handler h) r = handler_run h r.flow r.at

  -- all that is left, of which the last task is done first
  abbrev pub tasks_run : List Task → Reached → Answer Reached
  tasks_run [] r = Returned r []
  tasks_run (t ∷ ts) r = then_on (tasks_run ts r) (task_run t)

-- ---- what a part of a program comes to, as tasks of which the last is done first

abbrev pub optional_tasks : OptionalExpr → List Task
optional_tasks no_expr = []
optional_tasks (some_expr e) = of_expr discard ∷ of_expr (evaluate e) ∷ []

abbrev pub stmt_tasks : (bound : ℕ) → StmtTree → List Task
stmt_tasks n tree.null = []
stmt_tasks n (tree.value e) = of_expr discard ∷ of_expr (evaluate e) ∷ []
stmt_tasks n (tree.block is) = of_stmt (run_items is) ∷ []
stmt_tasks n (tree.if_else e a b) = of_stmt (branch (tree.if_else e a b)) ∷ of_expr (evaluate e) ∷ []
stmt_tasks n (tree.loop d step a) = handler end_switch ∷ of_stmt (run_turns n (tree.loop d step a)) ∷ []
stmt_tasks n (tree.do_while a e) = handler end_switch ∷ of_stmt (run_turns n (tree.do_while a e)) ∷ []
stmt_tasks n tree.break = of_stmt (jump broke) ∷ []
stmt_tasks n tree.continue = of_stmt (jump continued) ∷ []
stmt_tasks n (tree.return_value e) = of_stmt return_it ∷ of_expr (evaluate e) ∷ []
stmt_tasks n tree.return_none = of_stmt (jump (returned None)) ∷ []
stmt_tasks n (tree.switch e gs) = handler end_switch ∷ of_stmt (select (tree.switch e gs)) ∷ of_expr (evaluate e) ∷ []

abbrev pub value_tasks : InitialTree → List Task
value_tasks (initial_value e) = of_stmt begin_slot ∷ of_expr (evaluate e) ∷ []
value_tasks i = []

abbrev pub object_tasks : (number : ℕ) → InitialTree → List Task
object_tasks k no_initial = []
object_tasks k (initial_value e) = of_stmt (begin_object k (type_of e)) ∷ of_expr (evaluate e) ∷ []
object_tasks k (initial_elements es) = of_stmt (begin_elements k es) ∷ of_stmt (clear_object k) ∷ []

abbrev pub initial_tasks : List VariableTree → (variable : ℕ) → Option VariableTree → InitialTree → List Task
initial_tasks vs k None i = []
initial_tasks vs k (Some v) i = if v.is_object then object_tasks (object_number vs k) i else value_tasks i

abbrev pub items_tasks : List VariableTree → (in_scope : ℕ) → ItemTrees → List Task
items_tasks vs n no_items = []
items_tasks vs n (stmt_then a is) = of_stmt (run_items is) ∷ of_stmt (run_stmt a) ∷ []
items_tasks vs n (declare_then d is) =
    handler (end_scope n) ∷ of_stmt (run_items is) ∷ (initial_tasks vs d.variable (slice_get vs d.variable) d.initial ++ of_stmt (enter d.variable) ∷ [])

abbrev pub groups_tasks : GroupTrees → List Task
groups_tasks no_groups = []
groups_tasks (group_then cases d is gs) = of_stmt (run_groups gs) ∷ of_stmt (run_items is) ∷ []

abbrev pub elements_tasks : (number : ℕ) → ElementTrees → List Task
elements_tasks k no_elements = []
elements_tasks k (value_then o e es) = of_stmt (begin_elements k es) ∷ of_stmt (begin_element k o (type_of e)) ∷ of_expr (evaluate e) ∷ []
elements_tasks k (characters_then o cs es) = of_stmt (begin_elements k es) ∷ of_stmt (begin_characters k o cs) ∷ []

-- a turn of this loop, where one is left
abbrev pub turn_tasks : (turns : ℕ) → (loop body : StmtTree) → Option (List Task)
turn_tasks zero l a = None
turn_tasks (suc k) l a = Some (handler (again k l) ∷ of_stmt (run_stmt a) ∷ [])

-- the turns of a loop
abbrev pub turns_tasks : (turns : ℕ) → StmtTree → Option (List Task)
turns_tasks k (tree.loop no_expr step a) = turn_tasks k (tree.loop no_expr step a) a
turns_tasks k (tree.loop (some_expr e) step a) = Some (of_stmt (turn_if k (tree.loop (some_expr e) step a)) ∷ of_expr (evaluate e) ∷ [])
turns_tasks k (tree.do_while a e) = turn_tasks k (tree.do_while a e) a
turns_tasks k a = None

-- after a turn, where the loop goes on
abbrev pub again_tasks : (turns : ℕ) → StmtTree → List Task
again_tasks k (tree.loop d step a) = of_stmt (run_turns k (tree.loop d step a)) ∷ optional_tasks step
again_tasks k (tree.do_while a e) = of_stmt (turn_if k (tree.do_while a e)) ∷ of_expr (evaluate e) ∷ []
again_tasks k a = []
