-- Steps of what is known at once, and of a task that is done once another one was put.
use Rattle.std.proofs.Common.{Vec, Global, ◌≡◌, ℕ, suc, ◌==◌, Bool, true, false, if◌then◌else◌, List, [], ◌∷◌, ◌++◌, length, refl, sym, ap, ◌∙◌, subst, append_assoc}
use Rattle.std.specs.Prelude.{Option, None, Some, slice_set, Result, Ok, Err}
use Rattle.std.proofs.lemmas.Bool.{eqb-true}
use Rattle.val_core.specs.declared.values.Value.{Value}
use Rattle.val_core.specs.declared.values.Value.TheVariants.{Num, At, Bad}
use Rattle.val_core.specs.Memory.{Memory, store}
use Rattle.val_core.specs.Answers.{Answer, Returned, Cut, Exited, Undefined, before, then_on, on_defined}
use Rattle.val_core.proofs.lemmas.Answers.{then_associates, then_on_given, then_nothing}
use Rattle.c_type.specs.Trees.{TypeTree}
use Rattle.c_typed.specs.Typed as tree
use Rattle.c_typed.specs.Typed.{ExprTree, expr, assign, OptionalExpr, some_expr, PlaceTree, StmtTree, ItemTrees, no_items, stmt_then, ProgramTree}
use Rattle.c_typed.specs.WellTyped.{type_of}
use Rattle.c_typed.specs.StmtViews.{items_of}
use Rattle.c_typed.specs.declared.statement.Item.{Item}
use Rattle.c_typed.specs.Objects.{access_width}
use Rattle.c_mean.specs.State as state
use Rattle.c_mean.specs.State.{holds, gives, used, truth}
use Rattle.c_mean.specs.Expressions.{Context, at_address, address_of, spot_written, branched, expr_run}
use Rattle.c_mean.specs.Statements as mean
use Rattle.c_mean.specs.Statements.{normal}
use Rattle.c_mean.specs.Run.{heard_as}
use Rattle.c_interp_store.specs.Operators.{used_value}
use Rattle.c_interp_def.specs.Configurations.{Configuration, Reached, reaches, state_of, gives_value, with_operands}
use Rattle.c_interp_def.specs.ExprTasks as task
use Rattle.c_interp_def.specs.ExprTasks.{context, expr_task_run}
use Rattle.c_interp_def.specs.StmtTasks as stmt
use Rattle.c_interp_def.specs.StmtTasks.{of_expr, of_stmt, handler, optional_tasks, turn_tasks, again_tasks, stmt_task_run, task_run, tasks_run}
use Rattle.c_interp_def.proofs.StmtLaws.{statement-expands, items-expand, turns-expand}
use Rattle.c_interp_def.specs.declared.task.Task.{Task as Left}
use Rattle.c_interp_def.specs.declared.task.Slot.{Slot}
use Rattle.c_interp_def.specs.declared.task.Flow.{Flow}
use Rattle.c_interp_def.specs.declared.task.Flow.TheVariants.{Normal, Returned as JumpedBack}
use Rattle.c_interp_answer.specs.TaskViews.{task_of, tasks_of, slots_of, flow_of}
use Rattle.c_interp_answer.specs.declared.assignment.Assignment.{Assignment}
use Rattle.c_interp_answer.specs.Answered.{IsValue, IsAddress, IsWritten, HasTruth, IsTruth}
use Rattle.c_interp.specs.declared.stop.Stop.{Stop}
use Rattle.c_interp.specs.declared.stop.Stop.TheVariants as stop
use Rattle.c_interp.specs.declared.machine.Machine.{Machine}
use Rattle.c_interp.specs.Machines.{config_of, reached_of, IsHeld}
use Rattle.c_interp.specs.Known.{Knows}
use Rattle.c_interp.specs.Steps.{IsEnd, IsStopped, IsDone, IsStep, nothing_run, tasks_do, give_run, return_run, store_run, with_memory, with_frame_slots, turns_do}
use Rattle.c_interp.proofs.Steps.{with_tasks, tasks-last, moved, same_step, done_at_once, nothing_step}
use Rattle.c_interp.proofs.StmtSteps.{with_slots, with_flow, flow_step}
use Rattle.c_interp.proofs.Statements.{asked-while}

-- ---- a task that is done once another one was put

end-then : (a b : Answer Reached) (next : Reached → Answer Reached) → IsEnd a b → IsEnd (then_on a next) b
end-then a b next h rest j o = ap (λ c. heard_as j (before o c)) (then_associates a next rest) ∙ h (λ r. then_on (next r) rest) j o

pub stopped-then : (status : ℕ) (s : Stop) (a : Answer Reached) (next : Reached → Answer Reached) → IsStopped status s a → IsStopped status s (then_on a next)
stopped-then status stop.Exit a next h = end-then a (Exited [] status) next h
stopped-then status stop.Cut a next h = end-then a (Cut []) next h
stopped-then status stop.Undefined a next h = end-then a (Undefined []) next h
stopped-then status stop.ReadFault a next h = h
stopped-then status stop.WriteFault a next h = h
stopped-then status stop.NoMemory a next h = tt

pub put_then : (p : ProgramTree) (n : ℕ) (r : Result Unit Stop) (old new : Machine) (many : Vec Left Global) (t : Left) (run : Configuration → Answer Reached) →
    many.items ≡ old.tasks.items ++ t ∷ [] → IsStep p n r (with_tasks old many) new run → IsStep p n r old new (λ x. then_on (run x) (task_run p n (task_of t)))
put_then p n (Ok u) old new many t run pushed step =
    λ m held.
    let held' : IsHeld p (with_tasks old many) m = record { store = held.store; counts = held.counts } in
    let d : IsDone p n (with_tasks old many) new (λ i. run (config_of old m i)) = step m held' in
    let next : Reached → Answer Reached = task_run p n (task_of t) in
    record {
      put = task_of t ∷ d.put;
      tasks = d.tasks ∙ ap (λ l. l ++ d.put) (ap tasks_of pushed ∙ tasks-last old.tasks.items t) ∙ append_assoc (tasks_of old.tasks.items) (task_of t ∷ []) d.put;
      memory = d.memory;
      held = d.held;
      same = λ i rest j o.
          ap (λ c. heard_as j (before o c)) (then_associates (run (config_of old m i)) next rest)
          ∙ d.same i (λ r. then_on (next r) rest) j o
          ∙ ap (λ c. heard_as j (before o c)) (sym (then_associates (tasks_run p n d.put (reached_of new d.memory i)) next rest));
    }
put_then p n (Err s) old new many t run pushed step =
    λ m held i.
    let held' : IsHeld p (with_tasks old many) m = record { store = held.store; counts = held.counts } in
    stopped-then new.status s (run (config_of old m i)) (task_run p n (task_of t)) (step m held' i)

-- no jump is on its way any more
pub flows_then : (p : ProgramTree) (n : ℕ) (r : Result Unit Stop) (old new : Machine) (f : Flow) (run : Configuration → Answer Reached) → IsStep p n r (with_flow old f) new run → IsStep p n r old new run
flows_then p n r old new f run step =
    moved p n r old (with_flow old f) new run run refl (λ m held. (m, record { store = held.store; counts = held.counts }, λ i. refl)) step

-- ---- values and addresses that are known

pub known_step : (p : ProgramTree) (n : ℕ) (r : Result Unit Stop) (old new : Machine) (e : ExprTree) (v : Value) → Knows p n old (λ c s. IsValue c e s (Some v)) →
    IsStep p n r old new (give_run (Some v)) → IsStep p n r old new (expr_task_run p n (task.evaluate e))
known_step p n r old new e v known step =
    same_step p n r old new (expr_task_run p n (task.evaluate e)) (give_run (Some v)) (λ m i held. ap (λ a. then_on a (gives_value (config_of old m i))) (known m i held)) step

pub located_step : (p : ProgramTree) (n : ℕ) (r : Result Unit Stop) (old new : Machine) (q : PlaceTree) (a : Value) → Knows p n old (λ c s. IsAddress c q s (Some a)) →
    IsStep p n r old new (give_run (Some a)) → IsStep p n r old new (expr_task_run p n (task.locate q))
located_step p n r old new q a known step =
    same_step p n r old new (expr_task_run p n (task.locate q)) (give_run (Some a))
    (λ m i held. ap (λ z. then_on (then_on z (λ y. address_of y.spot y.state)) (gives_value (config_of old m i))) (known m i held)) step

-- ---- assignments of which the value is dropped

-- a number becomes that of a variable
pub written-moves : (p : ProgramTree) (n : ℕ) (old : Machine) (slots : Vec Slot Global) (e : ExprTree) (w : Assignment) (m : Memory) (i : List ℕ) → IsHeld p old m →
    Knows p n old (λ c s. IsWritten c e s (Some w)) → slots_of slots.items ≡ slice_set (slots_of old.slots.items) w.slot (holds (Num w.word)) →
    tasks_do p n (optional_tasks (some_expr e)) (config_of old m i) ≡ reaches normal (config_of (with_slots old slots) m i)
written-moves p n old slots e w m i held known set =
    let x : Configuration = config_of old m i in
    ap (λ a. then_on (then_on a (gives_value x)) (task_run p n (of_expr task.discard))) (known m i held)
    ∙ ap (λ q. reaches normal (with_frame_slots x q)) (sym set)

dropped-stored : (p : ProgramTree) (n : ℕ) (t : TypeTree) (at v : Value) (o : Option Memory) (x : Configuration) →
    then_on (then_on (on_defined o (λ m. gives (state.with_memory (state_of x) m) v)) (gives_value x)) (task_run p n (of_expr task.discard)) ≡ on_defined o (λ m. reaches normal (with_memory x m))
dropped-stored p n t at v None x = refl
dropped-stored p n t at v (Some m) x = refl

dropped-store : (p : ProgramTree) (n : ℕ) (t : TypeTree) (at v : Value) (x : Configuration) →
    then_on (then_on (used v (λ w. spot_written t (at_address at) w (state_of x))) (gives_value x)) (task_run p n (of_expr task.discard)) ≡ store_run t at (used_value v) x
dropped-store p n t at Bad x = refl
dropped-store p n t at (Num w) x = dropped-stored p n t at (Num w) (store (access_width t) at (Num w) x.memory) x
dropped-store p n t at (At b o) x = dropped-stored p n t at (At b o) (store (access_width t) at (At b o) x.memory) x

-- a known value is stored at a known address
pub stored-at : (p : ProgramTree) (n : ℕ) (old : Machine) (t : TypeTree) (q : PlaceTree) (a : ExprTree) (at v : Value) (m : Memory) (i : List ℕ) → IsHeld p old m →
    Knows p n old (λ c s. IsAddress c q s (Some at)) → Knows p n old (λ c s. IsValue c a s (Some v)) →
    tasks_do p n (optional_tasks (some_expr (expr t (assign q a)))) (config_of old m i) ≡ store_run t at (used_value v) (config_of old m i)
stored-at p n old t q a at v m i held place value =
    let x : Configuration = config_of old m i in
    let c : Context = context p n x in
    ap
    (λ z. then_on (then_on (then_on z (λ y. then_on (expr_run c a y.state) (λ d. used d.value (λ b. spot_written t y.spot b d.state)))) (gives_value x)) (task_run p n (of_expr task.discard)))
    (place m i held)
    ∙ ap (λ z. then_on (then_on (then_on z (λ d. used d.value (λ b. spot_written t (at_address at) b d.state))) (gives_value x)) (task_run p n (of_expr task.discard))) (value m i held)
    ∙ dropped-store p n t at v x

-- ---- conditions that are known

by-truth : {A : Type 0} (t : TypeTree) (v : Value) (d : Bool) (a b : Answer A) → truth t v ≡ Some d → branched t v a b ≡ (if d then a else b)
by-truth t v d a b h = ap (λ o. on_defined o (λ x. if x then a else b)) h

-- an `if` whose condition is known
decided-if : (p : ProgramTree) (n : ℕ) (e : ExprTree) (a b : StmtTree) (d : Bool) (x : Configuration) → HasTruth (context p n x) e (state_of x) d →
    stmt_task_run p n (stmt.run_stmt (tree.if_else e a b)) x ≡ (if d then stmt_task_run p n (stmt.run_stmt a) x else stmt_task_run p n (stmt.run_stmt b) x)
decided-if p n e a b d x (v, is, h) =
    statement-expands p n (tree.if_else e a b) x
    ∙ ap (λ z. then_on (then_on z (gives_value x)) (task_run p n (of_stmt (stmt.branch (tree.if_else e a b))))) is
    ∙ by-truth (type_of e) v d (stmt_task_run p n (stmt.run_stmt a) x) (stmt_task_run p n (stmt.run_stmt b) x) h

pub if-chosen : (p : ProgramTree) (n : ℕ) (l : StmtTree) (e : ExprTree) (a b chosen : StmtTree) (d : Bool) (x : Configuration) → l ≡ tree.if_else e a b → HasTruth (context p n x) e (state_of x) d →
    (if d then a else b) ≡ chosen → stmt_task_run p n (stmt.run_stmt l) x ≡ stmt_task_run p n (stmt.run_stmt chosen) x
if-chosen p n l e a b chosen d x is known picks =
    ap (λ s. stmt_task_run p n (stmt.run_stmt s) x) is
    ∙ decided-if p n e a b d x known
    ∙ pick d
    ∙ ap (λ s. stmt_task_run p n (stmt.run_stmt s) x) picks
  where
    pick : (d : Bool) → (if d then stmt_task_run p n (stmt.run_stmt a) x else stmt_task_run p n (stmt.run_stmt b) x) ≡ stmt_task_run p n (stmt.run_stmt (if d then a else b)) x
    pick true = refl
    pick false = refl

pub if_step : (p : ProgramTree) (n : ℕ) (r : Result Unit Stop) (old new : Machine) (l : StmtTree) (e : ExprTree) (a b chosen : StmtTree) (d : Bool) → l ≡ tree.if_else e a b →
    Knows p n old (λ c s. IsTruth c e s (Some d)) → (if d then a else b) ≡ chosen →
    IsStep p n r old new (tasks_do p n (of_stmt (stmt.run_stmt chosen) ∷ [])) → IsStep p n r old new (stmt_task_run p n (stmt.run_stmt l))
if_step p n r old new l e a b chosen d is known picks step =
    same_step p n r old new (stmt_task_run p n (stmt.run_stmt l)) (tasks_do p n (of_stmt (stmt.run_stmt chosen) ∷ []))
    (λ m i held. if-chosen p n l e a b chosen d (config_of old m i) is (known m i held) picks) step

-- an `if` whose condition is evaluated first
pub if_put : (p : ProgramTree) (n : ℕ) (r : Result Unit Stop) (old new : Machine) (l : StmtTree) (e : ExprTree) (a b : StmtTree) → l ≡ tree.if_else e a b →
    IsStep p n r old new (λ x. then_on (expr_task_run p n (task.evaluate e) x) (task_run p n (of_stmt (stmt.branch l)))) → IsStep p n r old new (stmt_task_run p n (stmt.run_stmt l))
if_put p n r old new l e a b is step =
    same_step p n r old new (stmt_task_run p n (stmt.run_stmt l)) (λ x. then_on (expr_task_run p n (task.evaluate e) x) (task_run p n (of_stmt (stmt.branch l))))
    (λ m i held.
    let x : Configuration = config_of old m i in
    ap (λ s. stmt_task_run p n (stmt.run_stmt s) x) is
    ∙ statement-expands p n (tree.if_else e a b) x
    ∙ ap (λ s. then_on (expr_task_run p n (task.evaluate e) x) (task_run p n (of_stmt (stmt.branch s)))) (sym is))
    step

-- ---- returns

pub return_known_step : (p : ProgramTree) (n : ℕ) (r : Result Unit Stop) (old new : Machine) (e : ExprTree) (v : Value) → Knows p n old (λ c s. IsValue c e s (Some v)) →
    IsStep p n r old new (return_run v) → IsStep p n r old new (stmt_task_run p n (stmt.run_stmt (tree.return_value e)))
return_known_step p n r old new e v known step =
    same_step p n r old new (stmt_task_run p n (stmt.run_stmt (tree.return_value e))) (return_run v)
    (λ m i held.
    let x : Configuration = config_of old m i in
    statement-expands p n (tree.return_value e) x
    ∙ ap (λ z. then_on (then_on z (gives_value x)) (task_run p n (of_stmt stmt.return_it))) (known m i held)
    ∙ used-returns v x)
    step
  where
    used-returns : (v : Value) (x : Configuration) → used v (λ w. reaches (mean.returned (Some w)) x) ≡ return_run v x
    used-returns Bad x = refl
    used-returns (Num w) x = refl
    used-returns (At b o) x = refl

pub return_put : (p : ProgramTree) (n : ℕ) (r : Result Unit Stop) (old new : Machine) (e : ExprTree) →
    IsStep p n r old new (λ x. then_on (expr_task_run p n (task.evaluate e) x) (task_run p n (of_stmt stmt.return_it))) → IsStep p n r old new (stmt_task_run p n (stmt.run_stmt (tree.return_value e)))
return_put p n r old new e step =
    same_step p n r old new (stmt_task_run p n (stmt.run_stmt (tree.return_value e))) (λ x. then_on (expr_task_run p n (task.evaluate e) x) (task_run p n (of_stmt stmt.return_it)))
    (λ m i held. statement-expands p n (tree.return_value e) (config_of old m i)) step

-- ---- loops

-- the tasks of a turn, of which one is left
pub turn_step : (p : ProgramTree) (n : ℕ) (r : Result Unit Stop) (old new : Machine) (k j : ℕ) (l a : StmtTree) → k ≡ suc j →
    IsStep p n r old new (λ x. then_on (stmt_task_run p n (stmt.run_stmt a) x) (task_run p n (handler (stmt.again j l)))) → IsStep p n r old new (turns_do p n (turn_tasks k l a))
turn_step p n r old new k j l a is step =
    same_step p n r old new (turns_do p n (turn_tasks k l a)) (λ x. then_on (stmt_task_run p n (stmt.run_stmt a) x) (task_run p n (handler (stmt.again j l))))
    (λ m i held. ap (λ q. turns_do p n (turn_tasks q l a) (config_of old m i)) is) step

-- a loop whose condition is known
known-turns : (p : ProgramTree) (n k : ℕ) (e : ExprTree) (step : OptionalExpr) (a : StmtTree) (d : Bool) (x : Configuration) → HasTruth (context p n x) e (state_of x) d →
    let l : StmtTree = tree.loop (some_expr e) step a in stmt_task_run p n (stmt.run_turns k l) x ≡ (if d then turns_do p n (turn_tasks k l a) x else reaches normal x)
known-turns p n k e step a d x (v, is, h) =
    let l : StmtTree = tree.loop (some_expr e) step a in
    turns-expand p n k l x tt
    ∙ ap (λ z. then_on (then_on z (gives_value x)) (task_run p n (of_stmt (stmt.turn_if k l)))) is
    ∙ asked-while p n k e step a (with_operands x (v ∷ x.operands))
    ∙ by-truth (type_of e) v d (turns_do p n (turn_tasks k l a) x) (reaches normal x) h

pub turns-known : (p : ProgramTree) (n k : ℕ) (l : StmtTree) (e : ExprTree) (s : OptionalExpr) (a : StmtTree) (d : Bool) (x : Configuration) → l ≡ tree.loop (some_expr e) s a →
    HasTruth (context p n x) e (state_of x) d → stmt_task_run p n (stmt.run_turns k l) x ≡ (if d then turns_do p n (turn_tasks k l a) x else reaches normal x)
turns-known p n k l e s a d x is known =
    ap (λ z. stmt_task_run p n (stmt.run_turns k z) x) is
    ∙ known-turns p n k e s a d x known
    ∙ ap (λ z. if d then turns_do p n (turn_tasks k z a) x else reaches normal x) (sym is)

pub while_true : (p : ProgramTree) (n : ℕ) (r : Result Unit Stop) (old new : Machine) (k : ℕ) (l : StmtTree) (e : ExprTree) (s : OptionalExpr) (a : StmtTree) → l ≡ tree.loop (some_expr e) s a →
    Knows p n old (λ c z. IsTruth c e z (Some true)) → IsStep p n r old new (turns_do p n (turn_tasks k l a)) → IsStep p n r old new (stmt_task_run p n (stmt.run_turns k l))
while_true p n r old new k l e s a is known step =
    same_step p n r old new (stmt_task_run p n (stmt.run_turns k l)) (turns_do p n (turn_tasks k l a))
    (λ m i held. turns-known p n k l e s a true (config_of old m i) is (known m i held)) step

pub while_false : (p : ProgramTree) (n : ℕ) (u : Unit) (old : Machine) (k : ℕ) (l : StmtTree) (e : ExprTree) (s : OptionalExpr) (a : StmtTree) → old.flow ≡ Normal → l ≡ tree.loop (some_expr e) s a →
    Knows p n old (λ c z. IsTruth c e z (Some false)) → IsStep p n (Ok u) old old (stmt_task_run p n (stmt.run_turns k l))
while_false p n u old k l e s a flow is known m held =
    done_at_once p n old old (λ i. stmt_task_run p n (stmt.run_turns k l) (config_of old m i)) m refl held
    (λ i. let x : Configuration = config_of old m i in turns-known p n k l e s a false x is (known m i held) ∙ ap (λ f. reaches (flow_of f) x) (sym flow))

pub turns-asked : (p : ProgramTree) (n k : ℕ) (l : StmtTree) (e : ExprTree) (s : OptionalExpr) (a : StmtTree) (x : Configuration) → l ≡ tree.loop (some_expr e) s a →
    stmt_task_run p n (stmt.run_turns k l) x ≡ tasks_do p n (of_stmt (stmt.turn_if k l) ∷ of_expr (task.evaluate e) ∷ []) x
turns-asked p n k l e s a x is =
    ap (λ z. stmt_task_run p n (stmt.run_turns k z) x) is
    ∙ turns-expand p n k (tree.loop (some_expr e) s a) x tt
    ∙ ap (λ z. tasks_do p n (of_stmt (stmt.turn_if k z) ∷ of_expr (task.evaluate e) ∷ []) x) (sym is)

-- a loop whose condition is evaluated first
pub while_put : (p : ProgramTree) (n : ℕ) (r : Result Unit Stop) (old new : Machine) (k : ℕ) (l : StmtTree) (e : ExprTree) (s : OptionalExpr) (a : StmtTree) → l ≡ tree.loop (some_expr e) s a →
    IsStep p n r old new (tasks_do p n (of_stmt (stmt.turn_if k l) ∷ of_expr (task.evaluate e) ∷ [])) → IsStep p n r old new (stmt_task_run p n (stmt.run_turns k l))
while_put p n r old new k l e s a is step =
    same_step p n r old new (stmt_task_run p n (stmt.run_turns k l)) (tasks_do p n (of_stmt (stmt.turn_if k l) ∷ of_expr (task.evaluate e) ∷ []))
    (λ m i held. turns-asked p n k l e s a (config_of old m i) is) step

-- ---- items

stays : (p : ProgramTree) (n : ℕ) (f : mean.Flow) (x : Configuration) → task_run p n (of_stmt (stmt.run_items no_items)) (record { flow = f; at = x }) ≡ reaches f x
stays p n mean.normal x = refl
stays p n mean.broke x = refl
stays p n mean.continued x = refl
stays p n (mean.returned v) x = refl

-- no items are left after a statement
nothing-left : (p : ProgramTree) (n : ℕ) (a : Answer Reached) → then_on a (task_run p n (of_stmt (stmt.run_items no_items))) ≡ a
nothing-left p n a =
    then_on_given a (task_run p n (of_stmt (stmt.run_items no_items))) (λ r. Returned r []) (λ r o e. stays p n r.flow r.at) ∙ then_nothing a

pub none-left : (is : List Item) → length is ≡ 0 → items_of is ≡ no_items
none-left [] h = refl
none-left (i ∷ is) h = absurd cc

pub is-zero : (n : ℕ) → (n == 0) ≡ true → n ≡ 0
is-zero n h = eqb-true n 0 h

-- there are no items
pub no_items_step : (p : ProgramTree) (n : ℕ) (u : Unit) (old : Machine) (is : List Item) → old.flow ≡ Normal → length is ≡ 0 → IsStep p n (Ok u) old old (stmt_task_run p n (stmt.run_items (items_of is)))
no_items_step p n u old is flow none =
    same_step p n (Ok u) old old (stmt_task_run p n (stmt.run_items (items_of is))) nothing_run
    (λ m i held. ap (λ l. stmt_task_run p n (stmt.run_items l) (config_of old m i)) (none-left is none)) (nothing_step p n u old flow)

pub last_item : (p : ProgramTree) (n : ℕ) (r : Result Unit Stop) (old new : Machine) (a : StmtTree) (is : ItemTrees) → is ≡ no_items →
    IsStep p n r old new (stmt_task_run p n (stmt.run_stmt a)) → IsStep p n r old new (tasks_do p n (of_stmt (stmt.run_items is) ∷ of_stmt (stmt.run_stmt a) ∷ []))
last_item p n r old new a is none step =
    same_step p n r old new (tasks_do p n (of_stmt (stmt.run_items is) ∷ of_stmt (stmt.run_stmt a) ∷ [])) (stmt_task_run p n (stmt.run_stmt a))
    (λ m i held.
    let x : Configuration = config_of old m i in
    ap (λ q. then_on (stmt_task_run p n (stmt.run_stmt a) x) (task_run p n (of_stmt (stmt.run_items q)))) none ∙ nothing-left p n (stmt_task_run p n (stmt.run_stmt a) x))
    step

pub first_item : (p : ProgramTree) (n : ℕ) (r : Result Unit Stop) (old new : Machine) (all : ItemTrees) (a : StmtTree) (is : ItemTrees) → all ≡ stmt_then a is →
    IsStep p n r old new (tasks_do p n (of_stmt (stmt.run_items is) ∷ of_stmt (stmt.run_stmt a) ∷ [])) → IsStep p n r old new (stmt_task_run p n (stmt.run_items all))
first_item p n r old new all a is e step =
    same_step p n r old new (stmt_task_run p n (stmt.run_items all)) (tasks_do p n (of_stmt (stmt.run_items is) ∷ of_stmt (stmt.run_stmt a) ∷ []))
    (λ m i held.
    let x : Configuration = config_of old m i in
    ap (λ q. stmt_task_run p n (stmt.run_items q) x) e ∙ items-expand p n (stmt_then a is) x)
    step

pub picks-true : (d : Bool) (a b : StmtTree) → d ≡ true → (if d then a else b) ≡ a
picks-true true a b e = refl
picks-true false a b e = absurd cc

pub picks-false : (d : Bool) (a b : StmtTree) → d ≡ false → (if d then a else b) ≡ b
picks-false false a b e = refl
picks-false true a b e = absurd cc

pub truth-is : (p : ProgramTree) (n : ℕ) (old : Machine) (e : ExprTree) (d d' : Bool) → d ≡ d' → Knows p n old (λ c s. IsTruth c e s (Some d)) → Knows p n old (λ c s. IsTruth c e s (Some d'))
truth-is p n old e d d' same known m i held = subst (HasTruth (context p n (config_of old m i)) e (state_of (config_of old m i))) same (known m i held)

pub returned_step : (p : ProgramTree) (n : ℕ) (u : Unit) (old : Machine) (v w : Value) → used_value v ≡ Some w → IsStep p n (Ok u) old (with_flow old (JumpedBack (Some w))) (return_run v)
returned_step p n u old v w is = flow_step p n u old (JumpedBack (Some w)) (return_run v) (λ x. ap (λ o. on_defined o (λ z. reaches (mean.returned (Some z)) x)) is)

-- a loop goes on by these tasks, where no jump is on its way any more
pub again_by : (p : ProgramTree) (n : ℕ) (r : Result Unit Stop) (old new : Machine) (k : ℕ) (l z : StmtTree) (run : Configuration → Answer Reached) → l ≡ z →
    ((x : Configuration) → tasks_do p n (again_tasks k z) x ≡ run x) → IsStep p n r (with_flow old Normal) new run → IsStep p n r old new (tasks_do p n (again_tasks k l))
again_by p n r old new k l z run is does step =
    flows_then p n r old new Normal (tasks_do p n (again_tasks k l))
    (same_step p n r (with_flow old Normal) new (tasks_do p n (again_tasks k l)) run
    (λ m i held. let x : Configuration = config_of old m i in ap (λ q. tasks_do p n (again_tasks k q) x) is ∙ does x) step)
