-- Steps of which the task is a part: operands that were taken before it, and tasks that come after it.
use Rattle.std.proofs.Common.{Vec, Global, ◌≡◌, ℕ, ◌<◌, List, [], ◌∷◌, ◌++◌, map, reverse, length, vec_len, refl, sym, ap, ◌∙◌, subst, arith}
use Rattle.std.specs.Prelude.{Result, Ok, Err}
use Rattle.std.proofs.lemmas.List.{append-nil, reverse-append}
use Rattle.val_core.specs.declared.values.Value.{Value}
use Rattle.val_core.specs.Memory.{Memory}
use Rattle.val_core.specs.Answers.{Answer, Returned, Cut, Exited, Undefined, then_on, before}
use Rattle.c_typed.specs.Typed.{ProgramTree}
use Rattle.c_mean.specs.Run.{heard_as}
use Rattle.c_interp_store.specs.declared.store.Store.{Store}
use Rattle.c_interp_store.specs.Holding.{Opened, Holds}
use Rattle.c_mean.specs.Statements.{normal}
use Rattle.c_interp_def.specs.Configurations.{Configuration, Reached, reaches, with_operands}
use Rattle.c_interp_def.specs.Laws.{normally}
use Rattle.c_interp_def.specs.CallLaws.{IsHeardAs}
use Rattle.c_interp_def.specs.declared.task.Task.{Task as Left}
use Rattle.c_interp_def.specs.StmtTasks.{Task, tasks_run}
use Rattle.c_interp_answer.specs.TaskViews.{task_of, tasks_of, flow_of}
use Rattle.c_interp.specs.declared.stop.Stop.{Stop}
use Rattle.c_interp.specs.declared.stop.Stop.TheVariants as stop
use Rattle.c_interp.specs.declared.machine.Machine.{Machine}
use Rattle.c_interp.specs.Machines.{config_of, reached_of, opened_in, opened_by, IsHeld}
use Rattle.c_interp_def.specs.declared.task.Flow.TheVariants.{Normal}
use Rattle.c_interp.specs.Steps.{IsEnd, IsStopped, IsDone, IsStep, nothing_run}
use Rattle.c_interp.proofs.Heard.{heard-equal}

pub end-undefined : (a : Answer Reached) → a ≡ Undefined [] → IsEnd a (Undefined [])
end-undefined a e rest = heard-equal (then_on a rest) (Undefined []) (ap (λ c. then_on c rest) e)

pub end-cut : (a : Answer Reached) → a ≡ Cut [] → IsEnd a (Cut [])
end-cut a e rest = heard-equal (then_on a rest) (Cut []) (ap (λ c. then_on c rest) e)

pub end-exit : (a : Answer Reached) (status : ℕ) → a ≡ Exited [] status → IsEnd a (Exited [] status)
end-exit a status e rest = heard-equal (then_on a rest) (Exited [] status) (ap (λ c. then_on c rest) e)

-- ---- what is stopped or done by an equation

pub stopped-same : (status : ℕ) (s : Stop) (a b : Answer Reached) → a ≡ b → IsStopped status s b → IsStopped status s a
stopped-same status s a b e h = let P : Answer Reached → Type 0 = IsStopped status s in subst P (sym e) h

pub done-same : (p : ProgramTree) (n : ℕ) (old new : Machine) (a b : List ℕ → Answer Reached) → ((i : List ℕ) → a i ≡ b i) → IsDone p n old new b → IsDone p n old new a
done-same p n old new a b e d = record {
  put = d.put;
  tasks = d.tasks;
  memory = d.memory;
  held = d.held;
  same = λ i rest j o. ap (λ c. heard_as j (before o (then_on c rest))) (e i) ∙ d.same i rest j o;
}

pub done_by : (p : ProgramTree) (n : ℕ) (old new : Machine) (a : List ℕ → Answer Reached) (put : List Task) (m : Memory) →
    tasks_of new.tasks.items ≡ tasks_of old.tasks.items ++ put → IsHeld p new m → ((i : List ℕ) → a i ≡ tasks_run p n put (reached_of new m i)) → IsDone p n old new a
done_by p n old new a put m tasks held same = record {
  put = put;
  tasks = tasks;
  memory = m;
  held = held;
  same = λ i rest j o. ap (λ c. heard_as j (before o (then_on c rest))) (same i);
}

-- no task was put
pub done_at_once : (p : ProgramTree) (n : ℕ) (old new : Machine) (a : List ℕ → Answer Reached) (m : Memory) →
    new.tasks ≡ old.tasks → IsHeld p new m → ((i : List ℕ) → a i ≡ Returned (reached_of new m i) []) → IsDone p n old new a
done_at_once p n old new a m tasks held same =
    done_by p n old new a [] m (ap (λ ts. tasks_of ts.items) tasks ∙ sym (append-nil (tasks_of old.tasks.items))) held same

pub undefined_step : (p : ProgramTree) (n : ℕ) (old new : Machine) (run : Configuration → Answer Reached) →
    ((m : Memory) (i : List ℕ) → IsHeld p old m → run (config_of old m i) ≡ Undefined []) → IsStep p n (Err stop.Undefined) old new run
undefined_step p n old new run e m held i = end-undefined (run (config_of old m i)) (e m i held)

-- a step of a task that does the same
pub same_step : (p : ProgramTree) (n : ℕ) (r : Result Unit Stop) (old new : Machine) (run run' : Configuration → Answer Reached) →
    ((m : Memory) (i : List ℕ) → IsHeld p old m → run (config_of old m i) ≡ run' (config_of old m i)) → IsStep p n r old new run' → IsStep p n r old new run
same_step p n (Ok u) old new run run' e step =
    λ m held.
    done-same p n old new (λ i. run (config_of old m i)) (λ i. run' (config_of old m i)) (λ i. e m i held) (step m held)
same_step p n (Err s) old new run run' e step = λ m held i. stopped-same new.status s (run (config_of old m i)) (run' (config_of old m i)) (e m i held) (step m held i)

-- the blocks of the calls of a machine, of which the newest stands first
abbrev pub calls_in : Machine → List Opened
calls_in m = opened_in m.frame ∷ reverse (map opened_by m.callers.items)

-- ---- operands that were taken

abbrev pub with_ops : Machine → Vec Value Global → Machine
with_ops m vs = record { tasks = m.tasks; operands = vs; frame = m.frame; slots = m.slots; callers = m.callers; flow = m.flow; store = m.store; status = m.status; spare = m.spare }

abbrev pub with_tasks : Machine → Vec Left Global → Machine
with_tasks m ts = record { tasks = ts; operands = m.operands; frame = m.frame; slots = m.slots; callers = m.callers; flow = m.flow; store = m.store; status = m.status; spare = m.spare }

-- the newest operands first
pub newest-one : (few many : List Value) (v : Value) → many ≡ few ++ v ∷ [] → reverse many ≡ v ∷ reverse few
newest-one few many v e = ap reverse e ∙ reverse-append few (v ∷ [])

pub newest-two : (few many : List Value) (a b : Value) → many ≡ few ++ (a ∷ b ∷ []) → reverse many ≡ b ∷ a ∷ reverse few
newest-two few many a b e = ap reverse e ∙ reverse-append few (a ∷ b ∷ [])

pub newest-three : (few many : List Value) (a b c : Value) → many ≡ few ++ (a ∷ b ∷ c ∷ []) → reverse many ≡ c ∷ b ∷ a ∷ reverse few
newest-three few many a b c e = ap reverse e ∙ reverse-append few (a ∷ b ∷ c ∷ [])

-- a task that takes operands, and what it does with them, on a machine that has them no more
pub taken : (p : ProgramTree) (n : ℕ) (r : Result Unit Stop) (old new : Machine) (few : Vec Value Global) (vs : List Value) (run run' : Configuration → Answer Reached) →
    reverse old.operands.items ≡ vs ++ reverse few.items →
    ((m : Memory) (i : List ℕ) → IsHeld p old m → run (with_operands (config_of old m i) (vs ++ reverse few.items)) ≡ run' (config_of (with_ops old few) m i)) →
    IsStep p n r (with_ops old few) new run' → IsStep p n r old new run
taken p n (Ok u) old new few vs run run' e does step =
    λ m held.
    let held' : IsHeld p (with_ops old few) m = record { store = held.store; counts = held.counts } in
    let d : IsDone p n (with_ops old few) new (λ i. run' (config_of (with_ops old few) m i)) = step m held' in
    record {
      put = d.put;
      tasks = d.tasks;
      memory = d.memory;
      held = d.held;
      same = λ i rest j o.
          ap (λ xs. heard_as j (before o (then_on (run (with_operands (config_of old m i) xs)) rest))) e
          ∙ ap (λ c. heard_as j (before o (then_on c rest))) (does m i held)
          ∙ d.same i rest j o;
    }
taken p n (Err s) old new few vs run run' e does step =
    λ m held i.
    let held' : IsHeld p (with_ops old few) m = record { store = held.store; counts = held.counts } in
    stopped-same new.status s (run (config_of old m i)) (run' (config_of (with_ops old few) m i))
    (ap (λ xs. run (with_operands (config_of old m i) xs)) e ∙ does m i held) (step m held' i)

-- ---- operands that are not there

short-one : (vs : List Value) → length vs < 1 → vs ≡ []
short-one [] h = refl
short-one (v ∷ vs) h = absurd (omega arith)

pub none_taken : (p : ProgramTree) (n : ℕ) (old new : Machine) (run : Configuration → Answer Reached) → vec_len old.operands ≡ 0 →
    ((x : Configuration) → run (with_operands x []) ≡ Undefined []) → IsStep p n (Err stop.Undefined) old new run
none_taken p n old new run h e =
    undefined_step p n old new run
    (λ m i held. ap (λ xs. run (with_operands (config_of old m i) (reverse xs))) (short-one old.operands.items (omega (arith, h, old.operands.ok.0))) ∙ e (config_of old m i))

none_of_two : (vs : List Value) → length vs < 2 → (run : Configuration → Answer Reached) (x : Configuration) → run (with_operands x []) ≡ Undefined [] →
    ((v : Value) → run (with_operands x (v ∷ [])) ≡ Undefined []) → run (with_operands x (reverse vs)) ≡ Undefined []
none_of_two [] h run x e f = e
none_of_two (v ∷ []) h run x e f = f v
none_of_two (v ∷ w ∷ vs) h run x e f = absurd (omega arith)

none_of_three : (vs : List Value) → length vs < 3 → (run : Configuration → Answer Reached) (x : Configuration) → run (with_operands x []) ≡ Undefined [] →
    ((v : Value) → run (with_operands x (v ∷ [])) ≡ Undefined []) → ((v w : Value) → run (with_operands x (v ∷ w ∷ [])) ≡ Undefined []) → run (with_operands x (reverse vs)) ≡ Undefined []
none_of_three [] h run x e f g = e
none_of_three (v ∷ []) h run x e f g = f v
none_of_three (v ∷ w ∷ []) h run x e f g = g w v
none_of_three (v ∷ w ∷ u ∷ vs) h run x e f g = absurd (omega arith)

pub two_not_taken : (p : ProgramTree) (n : ℕ) (old new : Machine) (run : Configuration → Answer Reached) → length old.operands.items < 2 →
    ((x : Configuration) → run (with_operands x []) ≡ Undefined []) → ((x : Configuration) (v : Value) → run (with_operands x (v ∷ [])) ≡ Undefined []) → IsStep p n (Err stop.Undefined) old new run
two_not_taken p n old new run h e f = undefined_step p n old new run (λ m i held. none_of_two old.operands.items h run (config_of old m i) (e (config_of old m i)) (f (config_of old m i)))

pub three_not_taken : (p : ProgramTree) (n : ℕ) (old new : Machine) (run : Configuration → Answer Reached) → length old.operands.items < 3 →
    ((x : Configuration) → run (with_operands x []) ≡ Undefined []) → ((x : Configuration) (v : Value) → run (with_operands x (v ∷ [])) ≡ Undefined []) →
    ((x : Configuration) (v w : Value) → run (with_operands x (v ∷ w ∷ [])) ≡ Undefined []) → IsStep p n (Err stop.Undefined) old new run
three_not_taken p n old new run h e f g =
    undefined_step p n old new run
    (λ m i held. none_of_three old.operands.items h run (config_of old m i) (e (config_of old m i)) (f (config_of old m i)) (g (config_of old m i)))

-- ---- other changes before a step

-- a machine that has moved before it does what is left of the task
pub moved : (p : ProgramTree) (n : ℕ) (r : Result Unit Stop) (old mid new : Machine) (run run' : Configuration → Answer Reached) → mid.tasks ≡ old.tasks →
    ((m : Memory) → IsHeld p old m → (k : Memory) × IsHeld p mid k × ((i : List ℕ) → run (config_of old m i) ≡ run' (config_of mid k i))) →
    IsStep p n r mid new run' → IsStep p n r old new run
moved p n (Ok u) old mid new run run' tasks at step =
    λ m held.
    let (k, held', does) = at m held in
    let d : IsDone p n mid new (λ i. run' (config_of mid k i)) = step k held' in
    record {
      put = d.put;
      tasks = d.tasks ∙ ap (λ ts. tasks_of ts.items ++ d.put) tasks;
      memory = d.memory;
      held = d.held;
      same = λ i rest j o. ap (λ c. heard_as j (before o (then_on c rest))) (does i) ∙ d.same i rest j o;
    }
moved p n (Err s) old mid new run run' tasks at step =
    λ m held i.
    let (k, held', does) = at m held in
    stopped-same new.status s (run (config_of old m i)) (run' (config_of mid k i)) (does i) (step k held' i)

-- the run ends so where the same is heard of it
pub stopped-heard : (status : ℕ) (s : Stop) (a b : Answer Reached) (next : Reached → Answer Reached) → ((rest : Reached → Answer Reached) → IsHeardAs (then_on a rest) (then_on b (λ r. then_on (next r) rest))) →
    IsStopped status s b → IsStopped status s a
stopped-heard status stop.Exit a b next e h = λ rest j o. e rest j o ∙ h (λ r. then_on (next r) rest) j o
stopped-heard status stop.Cut a b next e h = λ rest j o. e rest j o ∙ h (λ r. then_on (next r) rest) j o
stopped-heard status stop.Undefined a b next e h = λ rest j o. e rest j o ∙ h (λ r. then_on (next r) rest) j o
stopped-heard status stop.ReadFault a b next e h = h
stopped-heard status stop.WriteFault a b next e h = h
stopped-heard status stop.NoMemory a b next e h = tt

-- a machine that has moved before it does what is heard as what is left of the task
pub moved_heard : (p : ProgramTree) (n : ℕ) (r : Result Unit Stop) (old mid new : Machine) (run run' : Configuration → Answer Reached) →
    ((m : Memory) → IsHeld p old m →
    (k : Memory) × (mid.tasks ≡ old.tasks) × IsHeld p mid k × ((i : List ℕ) (rest : Reached → Answer Reached) → IsHeardAs (then_on (run (config_of old m i)) rest) (then_on (run' (config_of mid k i)) rest))) →
    IsStep p n r mid new run' → IsStep p n r old new run
moved_heard p n (Ok u) old mid new run run' at step =
    λ m held.
    let (k, tasks, held', does) = at m held in
    let d : IsDone p n mid new (λ i. run' (config_of mid k i)) = step k held' in
    record {
      put = d.put;
      tasks = d.tasks ∙ ap (λ ts. tasks_of ts.items ++ d.put) tasks;
      memory = d.memory;
      held = d.held;
      same = λ i rest j o. does i rest j o ∙ d.same i rest j o;
    }
moved_heard p n (Err s) old mid new run run' at step =
    λ m held i.
    let (k, tasks, held', does) = at m held in
    stopped-heard new.status s (run (config_of old m i)) (run' (config_of mid k i)) (λ r. Returned r []) (does i) (step k held' i)

pub nothing_step : (p : ProgramTree) (n : ℕ) (u : Unit) (m : Machine) → m.flow ≡ Normal → IsStep p n (Ok u) m m nothing_run
nothing_step p n u m e k held = done_at_once p n m m (λ i. nothing_run (config_of m k i)) k refl held (λ i. ap (λ f. reaches (flow_of f) (config_of m k i)) (sym e))

pub tasks-last : (few : List Left) (t : Left) → tasks_of (few ++ t ∷ []) ≡ tasks_of few ++ task_of t ∷ []
tasks-last [] t = refl
tasks-last (x ∷ few) t = ap (λ ts. task_of x ∷ ts) (tasks-last few t)

-- tasks that were put
pub put_step : (p : ProgramTree) (n : ℕ) (u : Unit) (old : Machine) (many : Vec Left Global) (ts : List Task) (run : Configuration → Answer Reached) → old.flow ≡ Normal →
    tasks_of many.items ≡ tasks_of old.tasks.items ++ ts → ((m : Memory) (i : List ℕ) → run (config_of old m i) ≡ tasks_run p n ts (normally (config_of old m i))) →
    IsStep p n (Ok u) old (with_tasks old many) run
put_step p n u old many ts run e tasks does m held =
    let held' : IsHeld p (with_tasks old many) m = record { store = held.store; counts = held.counts } in
    done_by p n old (with_tasks old many) (λ i. run (config_of old m i)) ts m tasks held'
    (λ i. does m i ∙ ap (λ f. tasks_run p n ts (record { flow = flow_of f; at = config_of old m i })) (sym e))

-- ---- a memory that is changed

abbrev pub with_store : Machine → Store → Machine
with_store m s = record { tasks = m.tasks; operands = m.operands; frame = m.frame; slots = m.slots; callers = m.callers; flow = m.flow; store = s; status = m.status; spare = m.spare }

pub changed_step : (p : ProgramTree) (n : ℕ) (u : Unit) (old : Machine) (s : Store) (run : Configuration → Answer Reached) → old.flow ≡ Normal →
    ((m : Memory) → IsHeld p old m → (k : Memory) × Holds s (calls_in old) k × ((i : List ℕ) → run (config_of old m i) ≡ reaches normal (config_of old k i))) →
    IsStep p n (Ok u) old (with_store old s) run
changed_step p n u old s run e changes m held =
    let (k, holds, does) = changes m held in
    let held' : IsHeld p (with_store old s) k = record { store = holds; counts = held.counts } in
    done_at_once p n old (with_store old s) (λ i. run (config_of old m i)) k refl held' (λ i. does i ∙ ap (λ f. reaches (flow_of f) (config_of old k i)) (sym e))
