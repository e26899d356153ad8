-- What a statement, a declaration or a loop does is what the tasks do that it comes to.
use Rattle.std.proofs.Common.{◌≡◌, ℕ, zero, suc, ◌-◌, ◌≤◌, Bool, true, false, if◌then◌else◌, List, [], ◌∷◌, length, slice_get, Option, None, Some, unwrap_or, refl, sym, ap, ◌∙◌, arith}
use Rattle.std.specs.Option.{IfSome}
use Rattle.val_core.specs.declared.values.Value.{Value}
use Rattle.val_core.specs.declared.values.Value.TheVariants.{Bad}
use Rattle.val_core.specs.Memory.{Memory, store}
use Rattle.val_core.specs.Answers.{Answer, Returned, Cut, then_on, on_number, on_defined}
use Rattle.val_core.proofs.lemmas.Answers.{then_associates, then_nothing}
use Rattle.c_typed.specs.Typed as tree
use Rattle.c_typed.specs.Typed.{ExprTree, OptionalExpr, no_expr, some_expr, ElementTrees, no_elements, value_then, characters_then, InitialTree, no_initial, initial_value, initial_elements, StmtTree, ItemTrees, no_items, stmt_then, declare_then, GroupTrees, no_groups, group_then, VariableTree, ProgramTree}
use Rattle.c_typed.specs.WellTyped.{type_of}
use Rattle.c_typed.specs.Objects.{object_number, access_width}
use Rattle.c_mean.specs.State.{State, Valued, holds, object, with_memory, used, bytes_into}
use Rattle.c_mean.specs.Expressions.{Context, branched, expr_run}
use Rattle.c_mean.specs.Statements.{Flow, normal, broke, continued, returned, Flowed, flows, goes_on, if_normal, past, after_turn, optional_step, loop_run, do_run, in_scope, out_of_scope, newest_written, characters_stored, elements_run, zeros, value_begun, object_begun, begun, declared, has_case, from_case, from_default, group_count, chosen_groups, groups_done, items_run, groups_runs}
use Rattle.c_interp_def.specs.Configurations.{Configuration, Reached, state_of, with_state, gives_value, goes_on_at, flows_on, context_of}
use Rattle.c_interp_def.specs.ExprTasks.{evaluate, discard}
use Rattle.c_interp_def.specs.StmtTasks.{Task, of_expr, of_stmt, handler, StmtTask, run_stmt, run_items, run_groups, branch, select, run_turns, turn_if, return_it, enter, begin_slot, begin_object, begin_elements, begin_element, end_switch, again, end_scope, entered, variables, body_of, turn_run, stmt_task_run, unless_jump, task_run, tasks_run, initial_tasks, object_tasks, value_tasks, items_tasks, again_tasks}
use Rattle.c_interp_def.specs.Laws.{normally, TasksAppend, StatementExpands, ItemsExpand, GroupsExpand, ElementsExpand, TurnsExpand, AgainExpands}
use Rattle.c_interp_def.proofs.Steps.{on, both, two, used-then, used-on, number-then, number-on, defined-then, branched-then}

pub tasks-append : TasksAppend
tasks-append p n [] us r = sym (then_nothing (tasks_run p n us r))
tasks-append p n (t ∷ ts) us r =
    ap (λ a. then_on a (task_run p n t)) (tasks-append p n ts us r) ∙ then_associates (tasks_run p n us r) (tasks_run p n ts) (task_run p n t)

-- a value that is used and may then be stored
stored-then : {A B : Type 0} (v : Value) (o : Value → Option Memory) (f : Memory → Answer A) (g : A → Answer B) → then_on (used v (λ w. on_defined (o w) f)) g
    ≡ used v (λ w. on_defined (o w) (λ m. then_on (f m) g))
stored-then v o f g =
    used-then v (λ w. on_defined (o w) f) g
    ∙ used-on v (λ w. then_on (on_defined (o w) f) g) (λ w. on_defined (o w) (λ m. then_on (f m) g)) (λ w. defined-then (o w) f g)

-- ---- groups of a `switch`

-- the second groups are the last of the first, and are done where those before them are passed over
record Follows (c : Context) (vs : List VariableTree) (gs hs : GroupTrees) : Type 0 where
  count : group_count hs ≤ group_count gs
  same : (s : State) → groups_done (group_count gs - group_count hs) (groups_runs c vs gs) s ≡ groups_done 0 (groups_runs c vs hs) s

follows-itself : (c : Context) (vs : List VariableTree) (gs : GroupTrees) → Follows c vs gs gs
follows-itself c vs gs =
    let none : group_count gs - group_count gs ≡ 0 = omega arith in
    record { count = omega arith; same = λ s. ap (λ k. groups_done k (groups_runs c vs gs) s) none }

follows-later : (c : Context) (vs : List VariableTree) (cases : List ℕ) (d : Bool) (is : ItemTrees) (gs hs : GroupTrees) → Follows c vs gs hs → Follows c vs (group_then cases d is gs) hs
follows-later c vs cases d is gs hs h =
    let le : group_count hs ≤ group_count gs = h.count in
    let one_more : suc (group_count gs) - group_count hs ≡ suc (group_count gs - group_count hs) = omega arith in
    record { count = omega arith; same = λ s. ap (λ k. groups_done k (groups_runs c vs (group_then cases d is gs)) s) one_more ∙ h.same s }

later-case : (c : Context) (vs : List VariableTree) (cases : List ℕ) (d : Bool) (is : ItemTrees) (gs : GroupTrees) (o : Option GroupTrees) → IfSome o (Follows c vs gs) →
    IfSome o (Follows c vs (group_then cases d is gs))
later-case c vs cases d is gs None h = h
later-case c vs cases d is gs (Some hs) h = follows-later c vs cases d is gs hs h

this-case : (c : Context) (vs : List VariableTree) (cases : List ℕ) (d : Bool) (is : ItemTrees) (gs : GroupTrees) (w : ℕ) (b : Bool) → IfSome (from_case w gs) (Follows c vs gs) →
    IfSome (if b then Some (group_then cases d is gs) else from_case w gs) (Follows c vs (group_then cases d is gs))
this-case c vs cases d is gs w true h = follows-itself c vs (group_then cases d is gs)
this-case c vs cases d is gs w false h = later-case c vs cases d is gs (from_case w gs) h

case-follows : (c : Context) (vs : List VariableTree) (w : ℕ) (gs : GroupTrees) → IfSome (from_case w gs) (Follows c vs gs)
case-follows c vs w no_groups = tt
case-follows c vs w (group_then cases d is gs) = this-case c vs cases d is gs w (has_case w cases) (case-follows c vs w gs)

default-follows : (c : Context) (vs : List VariableTree) (gs : GroupTrees) → Follows c vs gs (from_default gs)
default-follows c vs no_groups = follows-itself c vs no_groups
default-follows c vs (group_then cases true is gs) = follows-itself c vs (group_then cases true is gs)
default-follows c vs (group_then cases false is gs) = follows-later c vs cases false is gs (from_default gs) (default-follows c vs gs)

either-follows : (c : Context) (vs : List VariableTree) (gs hs : GroupTrees) (o : Option GroupTrees) → IfSome o (Follows c vs gs) → Follows c vs gs hs → Follows c vs gs (unwrap_or o hs)
either-follows c vs gs hs None h d = d
either-follows c vs gs hs (Some k) h d = h

chosen-follows : (c : Context) (vs : List VariableTree) (w : ℕ) (gs : GroupTrees) → Follows c vs gs (chosen_groups w gs)
chosen-follows c vs w gs = either-follows c vs gs (from_default gs) (from_case w gs) (case-follows c vs w gs) (default-follows c vs gs)

-- ---- statements

module _ (p : ProgramTree) (n : ℕ) where
  abbrev ctx : Configuration → Context
  ctx x = context_of p n x.frame

  abbrev vars : Configuration → List VariableTree
  vars x = variables p n x

  abbrev done : StmtTask → Reached → Answer Reached
  done t r = task_run p n (of_stmt t) r

  abbrev all_done : List Task → Configuration → Answer Reached
  all_done ts x = tasks_run p n ts (normally x)

  switch-law : (x : Configuration) (e : ExprTree) (gs : GroupTrees) → stmt_task_run p n (run_stmt (tree.switch e gs)) x
      ≡ all_done (handler end_switch ∷ of_stmt (select (tree.switch e gs)) ∷ of_expr (evaluate e) ∷ []) x
  switch-law x e gs =
      let run : Answer Valued = expr_run (ctx x) e (state_of x) in
      let end : Reached → Answer Reached = task_run p n (handler end_switch) in
      let chosen : State → ℕ → Answer Flowed = λ s w. groups_done (group_count gs - group_count (chosen_groups w gs)) (groups_runs (ctx x) (vars x) gs) s in
      let from : State → ℕ → Answer Flowed = λ s w. groups_done 0 (groups_runs (ctx x) (vars x) (chosen_groups w gs)) s in
      then_associates run (λ r. on_number r.value (λ w. then_on (chosen r.state w) past)) (flows_on x)
      ∙ on run
      (λ r. then_on (on_number r.value (λ w. then_on (chosen r.state w) past)) (flows_on x))
      (λ r. then_on (then_on (gives_value x r) (done (select (tree.switch e gs)))) end)
      (λ r.
      number-then r.value (λ w. then_on (chosen r.state w) past) (flows_on x)
      ∙ number-on r.value (λ w. then_on (then_on (chosen r.state w) past) (flows_on x)) (λ w. then_on (then_on (from r.state w) (flows_on x)) end)
      (λ w.
      ap (λ a. then_on (then_on a past) (flows_on x)) ((chosen-follows (ctx x) (vars x) w gs).same r.state)
      ∙ both (from r.state w) past (flows_on x) (flows_on x) end (λ f. refl))
      ∙ sym (number-then r.value (λ w. then_on (from r.state w) (flows_on x)) end))
      ∙ sym (two run (gives_value x) (done (select (tree.switch e gs))) end)

  loop-ends : (x : Configuration) (a : Answer Flowed) → then_on (then_on a past) (flows_on x) ≡ then_on (then_on a (flows_on x)) (task_run p n (handler end_switch))
  loop-ends x a = both a past (flows_on x) (flows_on x) (task_run p n (handler end_switch)) (λ f. refl)

  -- ---- items

  items-skipped : (x : Configuration) (is : ItemTrees) (f : Flow) (s : State) → then_on (if_normal f s (items_run (ctx x) (vars x) is)) (flows_on x)
      ≡ unless_jump p n (stmt_task_run p n (run_items is)) f (with_state x s)
  items-skipped x is normal s = refl
  items-skipped x is broke s = refl
  items-skipped x is continued s = refl
  items-skipped x is (returned v) s = refl

  groups-skipped : (x : Configuration) (gs : GroupTrees) (f : Flow) (s : State) → then_on (if_normal f s (groups_done 0 (groups_runs (ctx x) (vars x) gs))) (flows_on x)
      ≡ unless_jump p n (stmt_task_run p n (run_groups gs)) f (with_state x s)
  groups-skipped x gs normal s = refl
  groups-skipped x gs broke s = refl
  groups-skipped x gs continued s = refl
  groups-skipped x gs (returned v) s = refl

  -- a value variable begins
  value-begins : (x : Configuration) (i : InitialTree) (s : State) → all_done (value_tasks i) (with_state x s) ≡ then_on (value_begun (ctx x) i s) (goes_on_at x)
  value-begins x no_initial s = refl
  value-begins x (initial_elements es) s = refl
  value-begins x (initial_value e) s =
      both (expr_run (ctx x) e s) (gives_value (with_state x s)) (done begin_slot) (λ r. used r.value (λ v. Returned (newest_written r.state v) [])) (goes_on_at x)
      (λ r. sym (used-then r.value (λ v. Returned (newest_written r.state v) []) (goes_on_at x)))

  -- an object begins
  object-begins : (x : Configuration) (k : ℕ) (i : InitialTree) (s : State) → all_done (object_tasks k i) (with_state x s)
      ≡ then_on (object_begun (ctx x) ((ctx x).addresses.local k) i s) (goes_on_at x)
  object-begins x k no_initial s = refl
  object-begins x k (initial_value e) s =
      let a : Value = (ctx x).addresses.local k in
      let stored : Valued → Answer State = λ r. used r.value (λ v. on_defined (store (access_width (type_of e)) a v r.state.memory) (λ m. Returned (with_memory r.state m) [])) in
      both (expr_run (ctx x) e s) (gives_value (with_state x s)) (done (begin_object k (type_of e))) stored (goes_on_at x)
      (λ r. sym (stored-then r.value (λ v. store (access_width (type_of e)) a v r.state.memory) (λ m. Returned (with_memory r.state m) []) (goes_on_at x)))
  object-begins x k (initial_elements es) s =
      let a : Value = (ctx x).addresses.local k in
      defined-then (zeros a s.memory) (λ m. goes_on_at (with_state x s) (with_memory s m)) (done (begin_elements k es))
      ∙ sym (defined-then (zeros a s.memory) (λ m. elements_run (ctx x) a es (with_memory s m)) (goes_on_at x))

  kind-begins : (x : Configuration) (k : ℕ) (b : Bool) (i : InitialTree) (s : State) →
      all_done (if b then object_tasks k i else value_tasks i) (with_state x (in_scope s (if b then object k else holds Bad))) ≡ then_on (begun (ctx x) b k i s) (goes_on_at x)
  kind-begins x k false i s = value-begins x i (in_scope s (holds Bad))
  kind-begins x k true i s = object-begins x k i (in_scope s (object k))

  declared-law : (x : Configuration) (k : ℕ) (o : Option VariableTree) (i : InitialTree) →
      then_on (on_defined (entered (vars x) k o (state_of x)) (goes_on_at x)) (tasks_run p n (initial_tasks (vars x) k o i)) ≡ then_on (declared (ctx x) (vars x) k o i (state_of x)) (goes_on_at x)
  declared-law x k None i = refl
  declared-law x k (Some v) i = kind-begins x (object_number (vars x) k) v.is_object i (state_of x)

  declare-law : (x : Configuration) (d : tree.DeclarationTree) (is : ItemTrees) → stmt_task_run p n (run_items (declare_then d is)) x
      ≡ all_done (items_tasks (vars x) (length x.frame.slots) (declare_then d is)) x
  declare-law x d is =
      let k : ℕ = d.variable in
      let o : Option VariableTree = slice_get (vars x) k in
      let begins : Answer State = declared (ctx x) (vars x) k o d.initial (state_of x) in
      let end : Reached → Answer Reached = task_run p n (handler (end_scope (length x.frame.slots))) in
      let leaves : Flowed → Answer Flowed = out_of_scope (length x.frame.slots) in
      then_associates begins (λ t. then_on (items_run (ctx x) (vars x) is t) leaves) (flows_on x)
      ∙ on begins
      (λ t. then_on (then_on (items_run (ctx x) (vars x) is t) leaves) (flows_on x))
      (λ t. then_on (then_on (goes_on_at x t) (done (run_items is))) end)
      (λ t. both (items_run (ctx x) (vars x) is t) leaves (flows_on x) (flows_on x) end (λ f. refl))
      ∙ sym (two begins (goes_on_at x) (done (run_items is)) end)
      ∙ ap (λ a. then_on (then_on a (done (run_items is))) end)
      (sym (declared-law x k o d.initial) ∙ sym (tasks-append p n (initial_tasks (vars x) k o d.initial) (of_stmt (enter k) ∷ []) (normally x)))

pub statement-expands : StatementExpands
statement-expands p n tree.null x = refl
statement-expands p n (tree.value e) x =
    both (expr_run (ctx p n x) e (state_of x)) (λ r. goes_on r.state) (flows_on x) (gives_value x) (task_run p n (of_expr discard)) (λ r. refl)
statement-expands p n (tree.block is) x = refl
statement-expands p n (tree.if_else e a b) x =
    both (expr_run (ctx p n x) e (state_of x)) (λ r. branched (type_of e) r.value (body_of p n x a r.state) (body_of p n x b r.state)) (flows_on x) (gives_value x)
    (done p n (branch (tree.if_else e a b)))
    (λ r. branched-then (type_of e) r.value (body_of p n x a r.state) (body_of p n x b r.state) (flows_on x))
statement-expands p n (tree.loop d step a) x = loop-ends p n x (loop_run n (ctx p n x) d step (body_of p n x a) (state_of x))
statement-expands p n (tree.do_while a e) x = loop-ends p n x (do_run n (ctx p n x) e (body_of p n x a) (state_of x))
statement-expands p n tree.break x = refl
statement-expands p n tree.continue x = refl
statement-expands p n (tree.return_value e) x =
    both (expr_run (ctx p n x) e (state_of x)) (λ r. used r.value (λ v. flows r.state (returned (Some v)))) (flows_on x) (gives_value x) (done p n return_it)
    (λ r. used-then r.value (λ v. flows r.state (returned (Some v))) (flows_on x))
statement-expands p n tree.return_none x = refl
statement-expands p n (tree.switch e gs) x = switch-law p n x e gs

pub items-expand : ItemsExpand
items-expand p n no_items x = refl
items-expand p n (stmt_then a is) x =
    both (body_of p n x a (state_of x)) (λ r. if_normal r.flow r.state (items_run (ctx p n x) (vars p n x) is)) (flows_on x) (flows_on x) (done p n (run_items is))
    (λ r. items-skipped p n x is r.flow r.state)
items-expand p n (declare_then d is) x = declare-law p n x d is

pub groups-expand : GroupsExpand
groups-expand p n no_groups x = refl
groups-expand p n (group_then cases d is gs) x =
    both (items_run (ctx p n x) (vars p n x) is (state_of x)) (λ r. if_normal r.flow r.state (groups_done 0 (groups_runs (ctx p n x) (vars p n x) gs))) (flows_on x) (flows_on x)
    (done p n (run_groups gs)) (λ r. groups-skipped p n x gs r.flow r.state)

pub elements-expand : ElementsExpand
elements-expand p n k no_elements x = refl
elements-expand p n k (value_then o e es) x =
    let run : Answer Valued = expr_run (ctx p n x) e (state_of x) in
    let a : Value = (ctx p n x).addresses.local k in
    let into : Valued → Value → Option Memory = λ r v. store (access_width (type_of e)) (bytes_into a o) v r.state.memory in
    let rest : Valued → Memory → Answer State = λ r m. elements_run (ctx p n x) a es (with_memory r.state m) in
    then_associates run (λ r. used r.value (λ v. on_defined (into r v) (rest r))) (goes_on_at x)
    ∙ on run
    (λ r. then_on (used r.value (λ v. on_defined (into r v) (rest r))) (goes_on_at x))
    (λ r. then_on (then_on (gives_value x r) (done p n (begin_element k o (type_of e)))) (done p n (begin_elements k es)))
    (λ r.
    stored-then r.value (into r) (rest r) (goes_on_at x)
    ∙ sym (stored-then r.value (into r) (λ m. goes_on_at x (with_memory r.state m)) (done p n (begin_elements k es))))
    ∙ sym (two run (gives_value x) (done p n (begin_element k o (type_of e))) (done p n (begin_elements k es)))
elements-expand p n k (characters_then o cs es) x =
    let a : Value = (ctx p n x).addresses.local k in
    defined-then (characters_stored a o cs x.memory) (λ m. elements_run (ctx p n x) a es (with_memory (state_of x) m)) (goes_on_at x)
    ∙ sym (defined-then (characters_stored a o cs x.memory) (λ m. goes_on_at x (with_memory (state_of x) m)) (done p n (begin_elements k es)))

-- ---- loops

asked-law : (p : ProgramTree) (n k : ℕ) (x : Configuration) (e : ExprTree) (step : OptionalExpr) (a : StmtTree) → stmt_task_run p n (run_turns k (tree.loop (some_expr e) step a)) x
    ≡ tasks_run p n (of_stmt (turn_if k (tree.loop (some_expr e) step a)) ∷ of_expr (evaluate e) ∷ []) (normally x)
asked-law p n zero x e step a =
    both (expr_run (ctx p n x) e (state_of x)) (λ r. branched (type_of e) r.value (Cut []) (goes_on r.state)) (flows_on x) (gives_value x) (done p n (turn_if zero (tree.loop (some_expr e) step a)))
    (λ r. branched-then (type_of e) r.value (Cut []) (goes_on r.state) (flows_on x))
asked-law p n (suc k) x e step a =
    both (expr_run (ctx p n x) e (state_of x)) (λ r. branched (type_of e) r.value (turn_run p n x (suc k) (some_expr e) step a r.state) (goes_on r.state)) (flows_on x) (gives_value x)
    (done p n (turn_if (suc k) (tree.loop (some_expr e) step a)))
    (λ r. branched-then (type_of e) r.value (turn_run p n x (suc k) (some_expr e) step a r.state) (goes_on r.state) (flows_on x))

pub turns-expand : TurnsExpand
turns-expand p n zero (tree.loop no_expr step a) x h = refl
turns-expand p n (suc k) (tree.loop no_expr step a) x h =
    both (body_of p n x a (state_of x)) (λ r. after_turn r.flow r.state (λ u. then_on (optional_step (ctx p n x) step u) (loop_run k (ctx p n x) no_expr step (body_of p n x a)))) (flows_on x)
    (flows_on x)
    (task_run p n (handler (again k (tree.loop no_expr step a)))) (λ r. refl)
turns-expand p n k (tree.loop (some_expr e) step a) x h = asked-law p n k x e step a
turns-expand p n zero (tree.do_while a e) x h = refl
turns-expand p n (suc k) (tree.do_while a e) x h =
    both (body_of p n x a (state_of x)) (λ r. after_turn r.flow r.state
    (λ t. then_on (expr_run (ctx p n x) e t) (λ y. branched (type_of e) y.value (do_run k (ctx p n x) e (body_of p n x a) y.state) (goes_on y.state)))) (flows_on x) (flows_on x)
    (task_run p n (handler (again k (tree.do_while a e)))) (λ r. refl)
turns-expand p n k tree.null x h = absurd h
turns-expand p n k (tree.value e) x h = absurd h
turns-expand p n k (tree.block is) x h = absurd h
turns-expand p n k (tree.if_else e a b) x h = absurd h
turns-expand p n k tree.break x h = absurd h
turns-expand p n k tree.continue x h = absurd h
turns-expand p n k (tree.return_value e) x h = absurd h
turns-expand p n k tree.return_none x h = absurd h
turns-expand p n k (tree.switch e gs) x h = absurd h

stepped-law : (p : ProgramTree) (n k : ℕ) (x : Configuration) (d step : OptionalExpr) (a : StmtTree) →
    then_on (then_on (optional_step (ctx p n x) step (state_of x)) (loop_run k (ctx p n x) d step (body_of p n x a))) (flows_on x) ≡ tasks_run p n (again_tasks k (tree.loop d step a)) (normally x)
stepped-law p n k x d no_expr a = refl
stepped-law p n k x d (some_expr e) a =
    let run : Answer Valued = expr_run (ctx p n x) e (state_of x) in
    two run (λ r. Returned r.state []) (loop_run k (ctx p n x) d (some_expr e) (body_of p n x a)) (flows_on x)
    ∙ sym (two run (gives_value x) (task_run p n (of_expr discard)) (done p n (run_turns k (tree.loop d (some_expr e) a))))

asked-again : (p : ProgramTree) (n k : ℕ) (x : Configuration) (a : StmtTree) (e : ExprTree) →
    then_on (then_on (expr_run (ctx p n x) e (state_of x)) (λ y. branched (type_of e) y.value (do_run k (ctx p n x) e (body_of p n x a) y.state) (goes_on y.state))) (flows_on x)
    ≡ tasks_run p n (again_tasks k (tree.do_while a e)) (normally x)
asked-again p n k x a e =
    both (expr_run (ctx p n x) e (state_of x)) (λ y. branched (type_of e) y.value (do_run k (ctx p n x) e (body_of p n x a) y.state) (goes_on y.state)) (flows_on x) (gives_value x)
    (done p n (turn_if k (tree.do_while a e)))
    (λ r. branched-then (type_of e) r.value (do_run k (ctx p n x) e (body_of p n x a) r.state) (goes_on r.state) (flows_on x))

pub again-expands : AgainExpands
again-expands p n k (tree.loop d step a) x h = (stepped-law p n k x d step a, stepped-law p n k x d step a)
again-expands p n k (tree.do_while a e) x h = (asked-again p n k x a e, asked-again p n k x a e)
again-expands p n k tree.null x h = absurd h
again-expands p n k (tree.value e) x h = absurd h
again-expands p n k (tree.block is) x h = absurd h
again-expands p n k (tree.if_else e a b) x h = absurd h
again-expands p n k tree.break x h = absurd h
again-expands p n k tree.continue x h = absurd h
again-expands p n k (tree.return_value e) x h = absurd h
again-expands p n k tree.return_none x h = absurd h
again-expands p n k (tree.switch e gs) x h = absurd h
