-- What a call comes to, and the whole run, as far as it is heard: calls that are active are no part of that.
use Rattle.std.specs.Prelude.{◌≡◌, ℕ, suc, List, [], ◌∷◌, ◌++◌, drop, length, slice_get, Option, None, Some}
use Rattle.val_core.specs.Memory.{Memory, BlockShape}
use Rattle.val_core.specs.Objects.{opened, address_in}
use Rattle.val_core.specs.Events.{Event}
use Rattle.val_core.specs.Answers.{Answer, Cut, Undefined, before, then_on, on_defined}
use Rattle.c_typed.specs.Typed.{FunctionTree, ProgramTree}
use Rattle.c_typed.specs.WellTyped.{params_of}
use Rattle.c_mean.specs.Run.{objects_of, params_in_scope, params_stored, first_memory, heard_as, run}
use Rattle.c_interp_def.specs.Configurations.{Configuration, Reached, object_sizes}
use Rattle.c_interp_def.specs.ExprTasks.{call, end_program, newest, expr_task_run}
use Rattle.c_interp_def.specs.StmtTasks.{Task, of_expr, of_stmt, handler, run_items, end_call, tasks_run}
use Rattle.c_interp_def.specs.Laws.{normally}

-- the same is heard of two answers, whatever was done before them
abbrev pub IsHeardAs : {A B : Type 0} → Answer A → Answer B → Type 0
IsHeardAs a b = (i : List ℕ) (o : List Event) → heard_as i (before o a) ≡ heard_as i (before o b)

-- ---- calls

-- the tasks of a function that was called
abbrev pub call_tasks : FunctionTree → List Task
call_tasks f = handler end_call ∷ of_stmt (run_items f.body) ∷ []

-- the caller waits, the objects have their blocks, and calls may nest so deep
abbrev pub in_call : Configuration → (function count depth : ℕ) → FunctionTree → Memory → Configuration
in_call x f count k fn m = record {
  frame = record { function = f; first = length x.memory; depth = k; slots = params_in_scope 0 (params_of fn) (newest count x.operands) };
  callers = x.frame ∷ x.callers;
  operands = drop count x.operands;
  memory = m;
  input = x.input;
}

-- the memory as the call begins, where the arguments could be stored
abbrev pub call_memory : ProgramTree → Configuration → (count : ℕ) → FunctionTree → Option Memory
call_memory p x count fn =
    let objects : List BlockShape = objects_of p.structs fn.variables in
    params_stored (address_in (length x.memory) (object_sizes p fn.variables)) 0 (params_of fn) (newest count x.operands) (x.memory ++ opened objects)

abbrev pub call_entered : ProgramTree → (bound : ℕ) → Configuration → (function count depth : ℕ) → Option FunctionTree → Answer Reached
call_entered p n x f count k None = Undefined []
call_entered p n x f count k (Some fn) = on_defined (call_memory p x count fn) (λ m. tasks_run p n (call_tasks fn) (normally (in_call x f count k fn m)))

abbrev pub CallIsCut : Type 0
CallIsCut = (p : ProgramTree) (n f count : ℕ) (x : Configuration) → x.frame.depth ≡ 0 → expr_task_run p n (call f count) x ≡ Cut []

-- what follows on a call follows on what its tasks come to
abbrev pub CallEnters : Type 0
CallEnters =
    (p : ProgramTree) (n f count k : ℕ) (x : Configuration) (rest : Reached → Answer Reached) → x.frame.depth ≡ suc k →
    IsHeardAs (then_on (expr_task_run p n (call f count) x) rest) (then_on (call_entered p n x f count k (slice_get p.functions f)) rest)

-- ---- the run

-- no function runs yet
abbrev pub at_start : ProgramTree → (bound : ℕ) → (input : List ℕ) → Configuration
at_start p n i = record {
  frame = record { function = p.main; first = 0; depth = suc n; slots = [] };
  callers = [];
  operands = [];
  memory = first_memory p;
  input = i;
}

abbrev pub program_tasks : ProgramTree → List Task
program_tasks p = of_expr end_program ∷ of_expr (call p.main 0) ∷ []

abbrev pub RunIsTasks : Type 0
RunIsTasks = (p : ProgramTree) (n : ℕ) (i : List ℕ) → IsHeardAs (run n p i) (tasks_run p n (program_tasks p) (normally (at_start p n i)))
