-- A task that is done at once after the step that put it.
use Rattle.std.proofs.Common.{Vec, Global, ◌≡◌, ℕ, List, [], ◌∷◌, ◌++◌, append_assoc, refl, sym, ap, ap₂, ◌∙◌}
use Rattle.std.specs.Prelude.{Result, Ok, Err}
use Rattle.val_core.specs.Memory.{Memory}
use Rattle.val_core.specs.Answers.{Answer, before, then_on}
use Rattle.val_core.proofs.lemmas.Answers.{then_associates}
use Rattle.c_typed.specs.Typed.{ProgramTree}
use Rattle.c_mean.specs.Run.{heard_as}
use Rattle.c_interp_def.specs.Configurations.{Configuration, Reached}
use Rattle.c_interp_def.specs.CallLaws.{IsHeardAs}
use Rattle.c_interp_def.specs.StmtTasks.{Task, task_run, tasks_run}
use Rattle.c_interp_def.proofs.StmtLaws.{tasks-append}
use Rattle.c_interp_def.specs.declared.task.Task.{Task as Left}
use Rattle.c_interp_answer.specs.TaskViews.{task_of, tasks_of, flow_of}
use Rattle.c_interp.specs.declared.stop.Stop.{Stop}
use Rattle.c_interp.specs.declared.machine.Machine.{Machine}
use Rattle.c_interp.specs.Machines.{config_of, reached_of, IsHeld}
use Rattle.c_interp.specs.Steps.{IsDone, IsStep, task_from}
use Rattle.c_interp.proofs.Steps.{with_tasks, tasks-last, stopped-heard}

-- ---- the last of the tasks that were put

abbrev head-or : {A : Type 0} → A → List A → A
head-or z [] = z
head-or z (v ∷ vs) = v

abbrev tail-of : {A : Type 0} → List A → List A
tail-of [] = []
tail-of (v ∷ vs) = vs

-- what stands before the last one
pub split-last : {A : Type 0} (xs : List A) (y : A) (ys few : List A) (t : A) → xs ++ y ∷ ys ≡ few ++ t ∷ [] → (zs : List A) × (y ∷ ys ≡ zs ++ t ∷ []) × (few ≡ xs ++ zs)
split-last [] y ys few t e = (few, e, refl)
split-last (x ∷ []) y ys [] t e = absurd cc
split-last (x ∷ z ∷ xs) y ys [] t e = absurd cc
split-last (x ∷ xs) y ys (f ∷ few) t e =
    let (zs, last, same) = split-last xs y ys few t (ap tail-of e) in
    (zs, last, ap₂ (λ a l. a ∷ l) (sym (ap (head-or x) e)) same)

-- ---- a task is put, a step puts more, and the newest of all is done

module _ (p : ProgramTree) (n : ℕ) (u : Unit) (r : Result Unit Stop) (old mid new : Machine) (many few : Vec Left Global) (first t : Left) (run : Configuration → Answer Reached)
    (pushed : many.items ≡ old.tasks.items ++ first ∷ []) (step : IsStep p n (Ok u) (with_tasks old many) mid run) (newest : mid.tasks.items ≡ few.items ++ t ∷ []) where
  -- the step, and then the first task
  abbrev both : Configuration → Answer Reached
  both x = then_on (run x) (task_run p n (task_of first))

  held-there : (m : Memory) → IsHeld p old m → IsHeld p (with_tasks old many) m
  held-there m held = record { store = held.store; counts = held.counts }

  abbrev done : (m : Memory) → IsHeld p old m → IsDone p n (with_tasks old many) mid (λ i. run (config_of old m i))
  done m held = step m (held-there m held)

  abbrev put : (m : Memory) → IsHeld p old m → List Task
  put m held = task_of first ∷ (done m held).put

  split : (m : Memory) (held : IsHeld p old m) → (zs : List Task) × (put m held ≡ zs ++ task_of t ∷ []) × (tasks_of few.items ≡ tasks_of old.tasks.items ++ zs)
  split m held =
      let d : IsDone p n (with_tasks old many) mid (λ i. run (config_of old m i)) = done m held in
      split-last (tasks_of old.tasks.items) (task_of first) d.put (tasks_of few.items) (task_of t)
      (sym (d.tasks ∙ ap (λ l. l ++ d.put) (ap tasks_of pushed ∙ tasks-last old.tasks.items first) ∙ append_assoc (tasks_of old.tasks.items) (task_of first ∷ []) d.put)
      ∙ ap tasks_of newest ∙ tasks-last few.items t)

  -- what is heard is what is heard of the newest task, and then of those before it
  heard-next : (m : Memory) (held : IsHeld p old m) (i : List ℕ) (rest : Reached → Answer Reached) →
      IsHeardAs (then_on (both (config_of old m i)) rest) (then_on (task_run p n (task_of t) (reached_of mid (done m held).memory i)) (λ q. then_on (tasks_run p n (split m held).0 q) rest))
  heard-next m held i rest j o =
      let d : IsDone p n (with_tasks old many) mid (λ i. run (config_of old m i)) = done m held in
      let zs : List Task = (split m held).0 in
      let at : Reached = reached_of mid d.memory i in
      let heard : Answer Reached → Answer Reached = λ a. then_on a rest in
      let next : Reached → Answer Reached = task_run p n (task_of first) in
      ap (λ c. heard_as j (before o c)) (then_associates (run (config_of old m i)) next rest)
      ∙ d.same i (λ q. then_on (next q) rest) j o
      ∙ ap (λ c. heard_as j (before o c)) (sym (then_associates (tasks_run p n d.put at) next rest))
      ∙ ap (λ ts. heard_as j (before o (heard (tasks_run p n ts at)))) (split m held).1
      ∙ ap (λ c. heard_as j (before o (heard c))) (tasks-append p n zs (task_of t ∷ []) at)
      ∙ ap (λ c. heard_as j (before o c)) (then_associates (task_run p n (task_of t) at) (tasks_run p n zs) rest)

  pub next_step : IsStep p n r (with_tasks mid few) new (task_from p n (task_of t) (flow_of mid.flow)) → IsStep p n r old new both
  next_step = by r
    where
      by : (r : Result Unit Stop) → IsStep p n r (with_tasks mid few) new (task_from p n (task_of t) (flow_of mid.flow)) → IsStep p n r old new both
      by (Ok v) last = λ m held.
          let d : IsDone p n (with_tasks old many) mid (λ i. run (config_of old m i)) = done m held in
          let zs : List Task = (split m held).0 in
          let held' : IsHeld p (with_tasks mid few) d.memory = record { store = d.held.store; counts = d.held.counts } in
          let e : IsDone p n (with_tasks mid few) new (λ i. task_from p n (task_of t) (flow_of mid.flow) (config_of mid d.memory i)) = last d.memory held' in
          record {
            put = zs ++ e.put;
            tasks = e.tasks ∙ ap (λ l. l ++ e.put) (split m held).2 ∙ append_assoc (tasks_of old.tasks.items) zs e.put;
            memory = e.memory;
            held = e.held;
            same = λ i rest j o.
                heard-next m held i rest j o
                ∙ e.same i (λ q. then_on (tasks_run p n zs q) rest) j o
                ∙ ap (λ c. heard_as j (before o c))
                (sym (then_associates (tasks_run p n e.put (reached_of new e.memory i)) (tasks_run p n zs) rest) ∙ ap (λ c. then_on c rest) (sym (tasks-append p n zs e.put (reached_of new e.memory i))));
          }
      by (Err s) last = λ m held i.
          let d : IsDone p n (with_tasks old many) mid (λ i. run (config_of old m i)) = done m held in
          let zs : List Task = (split m held).0 in
          let held' : IsHeld p (with_tasks mid few) d.memory = record { store = d.held.store; counts = d.held.counts } in
          stopped-heard new.status s (both (config_of old m i)) (task_run p n (task_of t) (reached_of mid d.memory i)) (tasks_run p n zs) (λ rest. heard-next m held i rest) (last d.memory held' i)
