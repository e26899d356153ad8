-- What tasks of statements do: parts that become tasks, loops, jumps, and variables that begin.
use Rattle.std.proofs.Common.{Vec, Global, ◌≡◌, ℕ, suc, zero, Bool, true, false, List, [], ◌∷◌, refl, sym, ap, ◌∙◌}
use Rattle.std.specs.Prelude.{Option, None, Some, option_map, Ok, Err}
use Rattle.std.proofs.lemmas.Bool.{false≢true}
use Rattle.val_core.specs.declared.values.Value.{Value}
use Rattle.val_core.specs.declared.values.Value.TheVariants.{Num, At, Bad}
use Rattle.val_core.specs.Memory.{Memory, store, cleared_at}
use Rattle.val_core.specs.Answers.{Answer, Undefined, then_on, on_defined}
use Rattle.c_type.specs.Trees.{TypeTree}
use Rattle.c_typed.specs.Typed as tree
use Rattle.c_typed.specs.Typed.{ExprTree, expr, PlaceTree, place, StmtTree, VariableTree, ProgramTree}
use Rattle.c_typed.specs.WellTyped.{type_of}
use Rattle.c_typed.specs.Objects.{access_width}
use Rattle.c_mean.specs.State as state
use Rattle.c_mean.specs.State.{State, used}
use Rattle.c_mean.specs.Expressions.{branched}
use Rattle.c_mean.specs.Statements.{Flow, Flowed, normal, broke, returned, after_turn, optional_step, loop_run, zeros, in_scope}
use Rattle.c_interp_store.specs.Operators.{used_value}
use Rattle.c_interp_def.specs.Configurations.{Configuration, Reached, reaches, state_of, goes_on_at, flows_on, on_top, with_operands}
use Rattle.c_interp_def.specs.ExprTasks.{evaluate, locate, expr_tasks, place_tasks_of, context, expr_task_run}
use Rattle.c_interp_def.specs.StmtTasks.{Task, handler, again, run_turns, turn_if, entered, turn_tasks, again_run, turn_run, body_of, stmt_task_run, task_run, tasks_run}
use Rattle.c_interp_def.specs.Laws.{normally, of_exprs, IsLoop}
use Rattle.c_interp_def.proofs.ExprLaws.{expression-expands, place-expands}
use Rattle.c_interp_def.proofs.Steps.{both}
use Rattle.c_interp_def.specs.declared.task.Flow.TheVariants.{Normal}
use Rattle.c_interp_def.specs.declared.task.Task.{Task as Left}
use Rattle.c_interp_answer.specs.TaskViews.{tasks_of, IsTurn}
use Rattle.c_interp.specs.declared.stop.Stop.TheVariants as stop
use Rattle.c_interp.specs.declared.machine.Machine.{Machine}
use Rattle.c_interp.specs.Machines.{config_of}
use Rattle.c_interp.specs.Steps.{IsStep, store_run, is_loop, turns_do, asked_do, slot_begun}
use Rattle.c_interp.proofs.Steps.{with_tasks, put_step, end-cut}

-- ---- parts of a program

pub expr-expands : (p : ProgramTree) (n : ℕ) (e : ExprTree) (x : Configuration) → expr_task_run p n (evaluate e) x ≡ tasks_run p n (of_exprs (expr_tasks x.frame.slots e)) (normally x)
expr-expands p n (expr t f) x = expression-expands p n t f x

pub place-located : (p : ProgramTree) (n : ℕ) (q : PlaceTree) (x : Configuration) → expr_task_run p n (locate q) x ≡ tasks_run p n (of_exprs (place_tasks_of q)) (normally x)
place-located p n (place t f) x = place-expands p n t f x

-- ---- loops

pub loops : (a : StmtTree) → is_loop a ≡ true → IsLoop a
loops (tree.loop d step a) e = tt
loops (tree.do_while a c) e = tt
loops tree.null e = absurd (false≢true e)
loops (tree.value c) e = absurd (false≢true e)
loops (tree.block is) e = absurd (false≢true e)
loops (tree.if_else c a b) e = absurd (false≢true e)
loops tree.break e = absurd (false≢true e)
loops tree.continue e = absurd (false≢true e)
loops (tree.return_value c) e = absurd (false≢true e)
loops tree.return_none e = absurd (false≢true e)
loops (tree.switch c gs) e = absurd (false≢true e)

-- what is no loop has no turns
pub no-turns : (p : ProgramTree) (n k : ℕ) (a : StmtTree) (x : Configuration) → is_loop a ≡ false → stmt_task_run p n (run_turns k a) x ≡ Undefined []
no-turns p n k (tree.loop d step a) x e = absurd (false≢true (sym e))
no-turns p n k (tree.do_while a c) x e = absurd (false≢true (sym e))
no-turns p n k tree.null x e = refl
no-turns p n k (tree.value c) x e = refl
no-turns p n k (tree.block is) x e = refl
no-turns p n k (tree.if_else c a b) x e = refl
no-turns p n k tree.break x e = refl
no-turns p n k tree.continue x e = refl
no-turns p n k (tree.return_value c) x e = refl
no-turns p n k tree.return_none x e = refl
no-turns p n k (tree.switch c gs) x e = refl

pub not-again : (p : ProgramTree) (n k : ℕ) (a : StmtTree) (f : Flow) (x : Configuration) → is_loop a ≡ false → again_run p n k a f x ≡ Undefined []
not-again p n k (tree.loop d step a) f x e = absurd (false≢true (sym e))
not-again p n k (tree.do_while a c) f x e = absurd (false≢true (sym e))
not-again p n k tree.null f x e = refl
not-again p n k (tree.value c) f x e = refl
not-again p n k (tree.block is) f x e = refl
not-again p n k (tree.if_else c a b) f x e = refl
not-again p n k tree.break f x e = refl
not-again p n k tree.continue f x e = refl
not-again p n k (tree.return_value c) f x e = refl
not-again p n k tree.return_none f x e = refl
not-again p n k (tree.switch c gs) f x e = refl

-- a jump that is not `continue` leaves the loop
pub leaves-broke : (p : ProgramTree) (n k : ℕ) (a : StmtTree) (x : Configuration) → is_loop a ≡ true → again_run p n k a broke x ≡ reaches broke x
leaves-broke p n k (tree.loop d step a) x e = refl
leaves-broke p n k (tree.do_while a c) x e = refl
leaves-broke p n k tree.null x e = absurd (false≢true e)
leaves-broke p n k (tree.value c) x e = absurd (false≢true e)
leaves-broke p n k (tree.block is) x e = absurd (false≢true e)
leaves-broke p n k (tree.if_else c a b) x e = absurd (false≢true e)
leaves-broke p n k tree.break x e = absurd (false≢true e)
leaves-broke p n k tree.continue x e = absurd (false≢true e)
leaves-broke p n k (tree.return_value c) x e = absurd (false≢true e)
leaves-broke p n k tree.return_none x e = absurd (false≢true e)
leaves-broke p n k (tree.switch c gs) x e = absurd (false≢true e)

pub leaves-returned : (p : ProgramTree) (n k : ℕ) (a : StmtTree) (v : Option Value) (x : Configuration) → is_loop a ≡ true → again_run p n k a (returned v) x ≡ reaches (returned v) x
leaves-returned p n k (tree.loop d step a) v x e = refl
leaves-returned p n k (tree.do_while a c) v x e = refl
leaves-returned p n k tree.null v x e = absurd (false≢true e)
leaves-returned p n k (tree.value c) v x e = absurd (false≢true e)
leaves-returned p n k (tree.block is) v x e = absurd (false≢true e)
leaves-returned p n k (tree.if_else c a b) v x e = absurd (false≢true e)
leaves-returned p n k tree.break v x e = absurd (false≢true e)
leaves-returned p n k tree.continue v x e = absurd (false≢true e)
leaves-returned p n k (tree.return_value c) v x e = absurd (false≢true e)
leaves-returned p n k tree.return_none v x e = absurd (false≢true e)
leaves-returned p n k (tree.switch c gs) v x e = absurd (false≢true e)

-- a turn was put
pub turn_put : (p : ProgramTree) (n : ℕ) (u : Unit) (old : Machine) (many : Vec Left Global) (o : Option (List Task)) (left : Bool) (run : Configuration → Answer Reached) → old.flow ≡ Normal → left ≡ true →
    IsTurn o (tasks_of old.tasks.items) (tasks_of many.items) left → ((x : Configuration) → run x ≡ turns_do p n o x) → IsStep p n (Ok u) old (with_tasks old many) run
turn_put p n u old many None left run e is turn does = absurd (false≢true (sym turn ∙ is))
turn_put p n u old many (Some ts) left run e is turn does = put_step p n u old many ts run e turn.1 (λ m i. does (config_of old m i))

-- no turn is left
pub turn_cut : (p : ProgramTree) (n : ℕ) (old new : Machine) (o : Option (List Task)) (few many : List Task) (left : Bool) (run : Configuration → Answer Reached) → left ≡ false →
    IsTurn o few many left → ((x : Configuration) → run x ≡ turns_do p n o x) → IsStep p n (Err stop.Cut) old new run
turn_cut p n old new None few many left run is turn does m held i = end-cut (run (config_of old m i)) (does (config_of old m i))
turn_cut p n old new (Some ts) few many left run is turn does m held i = absurd (false≢true (sym is ∙ turn.0))

-- a turn of a loop that has asked its condition
pub turn-expands : (p : ProgramTree) (n k : ℕ) (e : ExprTree) (step : tree.OptionalExpr) (a : StmtTree) (y : Configuration) →
    then_on (turn_run p n y k (tree.some_expr e) step a (state_of y)) (flows_on y) ≡ turns_do p n (turn_tasks k (tree.loop (tree.some_expr e) step a) a) y
turn-expands p n zero e step a y = refl
turn-expands p n (suc k) e step a y =
    let body : State → Answer Flowed = body_of p n y a in
    both (body (state_of y))
    (λ r. after_turn r.flow r.state (λ u. then_on (optional_step (context p n y) step u) (loop_run k (context p n y) (tree.some_expr e) step body)))
    (flows_on y) (flows_on y) (task_run p n (handler (again k (tree.loop (tree.some_expr e) step a)))) (λ r. refl)

on_top-same : (vs : List Value) (f g : Value → List Value → Answer Reached) → ((v : Value) (us : List Value) → f v us ≡ g v us) → on_top vs f ≡ on_top vs g
on_top-same [] f g h = refl
on_top-same (v ∷ vs) f g h = h v vs

pub asked-while : (p : ProgramTree) (n k : ℕ) (e : ExprTree) (step : tree.OptionalExpr) (a : StmtTree) (x : Configuration) →
    stmt_task_run p n (turn_if k (tree.loop (tree.some_expr e) step a)) x ≡ asked_do (type_of e) (turns_do p n (turn_tasks k (tree.loop (tree.some_expr e) step a) a)) x
asked-while p n k e step a x =
    on_top-same x.operands
    (λ v vs. let y : Configuration = with_operands x vs in branched (type_of e) v (then_on (turn_run p n y k (tree.some_expr e) step a (state_of y)) (flows_on y)) (reaches normal y))
    (λ v vs. let y : Configuration = with_operands x vs in branched (type_of e) v (turns_do p n (turn_tasks k (tree.loop (tree.some_expr e) step a) a) y) (reaches normal y))
    (λ v vs. let y : Configuration = with_operands x vs in ap (λ b. branched (type_of e) v b (reaches normal y)) (turn-expands p n k e step a y))

-- ---- variables that begin

pub entered-is : (vs : List VariableTree) (k : ℕ) (o : Option VariableTree) (s : State) → entered vs k o s ≡ option_map (in_scope s) (slot_begun vs k o)
entered-is vs k None s = refl
entered-is vs k (Some v) s = refl

pub store-begins : (t : TypeTree) (a v : Value) (y : Configuration) →
    used v (λ w. on_defined (store (access_width t) a w y.memory) (λ m. goes_on_at y (state.with_memory (state_of y) m))) ≡ store_run t a (used_value v) y
store-begins t a Bad y = refl
store-begins t a (Num w) y = refl
store-begins t a (At b o) y = refl

pub zeros-are : (a : Value) (m : Memory) → zeros a m ≡ cleared_at a m
zeros-are (At b o) m = refl
zeros-are (Num w) m = refl
zeros-are Bad m = refl
