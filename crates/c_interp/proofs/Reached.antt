-- Where a run of the code has come to after some tasks, and how it ends there.
use Rattle.std.proofs.Common.{Vec, Global, vec_len, ◌≡◌, ℕ, ◌+◌, ◌≤◌, true, false, List, [], ◌∷◌, ◌++◌, length, take, refl, sym, ap, ap₂, ◌∙◌, subst, append_assoc, arith}
use Rattle.std.specs.Prelude.{Option, None, Some, Result, Ok, Err, IsErr, MatchResult}
use Rattle.std.proofs.lemmas.Bool.{false≢true}
use Rattle.std.proofs.lemmas.List.{length-append}
use Rattle.val_core.specs.Memory.{Memory}
use Rattle.val_core.specs.Events.{Event, output}
use Rattle.val_core.specs.Answers.{Answer, Cut, Exited, Undefined, before, then_on}
use Rattle.val_core.proofs.lemmas.Events.{output_appends}
use Rattle.cc_io.specs.Faults.{Increased}
use Rattle.cc_io.specs.Sink.{append}
use Rattle.cc_io.proofs.lemmas.Sink.{append-none, append-append}
use Rattle.cc_io.specs.Source.{prepend, IsAtEnd}
use Rattle.cc_io.proofs.lemmas.Prepends.{prepend-none, prepend-twice}
use Rattle.c_typed.specs.Typed.{ProgramTree}
use Rattle.c_mean.specs.Run as run
use Rattle.c_mean.specs.Run.{heard, heard_as, taken, first_memory}
use Rattle.c_interp_def.specs.Configurations.{Reached}
use Rattle.c_interp_def.specs.StmtTasks.{task_run, tasks_run}
use Rattle.c_interp_def.specs.CallLaws.{IsHeardAs, program_tasks}
use Rattle.c_interp_def.proofs.StmtLaws.{tasks-append}
use Rattle.c_interp_def.proofs.CallProofs.{run-is-tasks}
use Rattle.c_interp_def.specs.declared.task.Task.{Task}
use Rattle.c_interp_answer.specs.TaskViews.{task_of, tasks_of, flow_of}
use Rattle.c_interp.specs.declared.stop.Ending.{Ending}
use Rattle.c_interp.specs.declared.stop.Ending.TheVariants as ending
use Rattle.c_interp.specs.declared.stop.Stop.{Stop}
use Rattle.c_interp.specs.declared.stop.Stop.TheVariants as stop
use Rattle.c_interp.specs.declared.machine.Machine.{Machine}
use Rattle.c_interp.specs.Interpreted.{Streams, IsLeft, IsSomeRun, IsPart, HasEnded}
use Rattle.c_interp.specs.Machines.{config_of, reached_of, IsHeld}
use Rattle.c_interp.specs.Steps.{task_from}
use Rattle.c_interp.specs.Ports.{Port, IsDoneAt, IsStoppedAt, AreLeft}
use Rattle.c_interp.specs.Begun.{HasBegun, HasStopped}
use Rattle.c_interp.proofs.Steps.{with_tasks, tasks-last}
use Rattle.c_interp.proofs.Heard.{heard-after, heard-once, taken-append, heard_with, heard-exit, heard-cut, heard-undefined, heard-returned, written-first}

pub record IsReached (p : ProgramTree) (n : ℕ) (first : Port) (m : Machine) (now : Port) : Type 0 where
  pub memory : Memory
  pub is_held : IsHeld p m memory
  pub did : List Event
  pub bytes : List ℕ
  pub count : taken did ≡ length bytes
  pub held : now.held ≡ append first.held (output did)
  pub left : first.left ≡ prepend bytes now.left
  pub at_end : now.closed ≡ true → IsAtEnd now.left
  pub to : (rest : List ℕ) → (now.closed ≡ true → rest ≡ []) →
      IsHeardAs (run.run n p (bytes ++ rest)) (before did (tasks_run p n (tasks_of m.tasks.items) (reached_of m memory rest)))

pub reached_first : (p : ProgramTree) (n : ℕ) (m : Machine) (now : Port) → now.closed ≡ false → HasBegun p n m → IsReached p n now m now
reached_first p n m now open_ b = record {
  memory = first_memory p;
  is_held = b.held;
  did = [];
  bytes = [];
  count = refl;
  held = sym (append-none now.held);
  left = prepend-none now.left;
  at_end = λ e. absurd (false≢true (sym open_ ∙ e));
  to = λ rest e i o.
      run-is-tasks p n rest i o
      ∙ ap (λ r. heard_as i (before o (tasks_run p n (program_tasks p) r))) (sym (b.at rest))
      ∙ ap (λ ts. heard_as i (before o (tasks_run p n ts (reached_of m (first_memory p) rest)))) (sym b.tasks);
}

-- ---- one task more

-- the last task is done first
last-first : (p : ProgramTree) (n : ℕ) (many few : List Task) (t : Task) (r : Reached) → many ≡ few ++ t ∷ [] →
    tasks_run p n (tasks_of many) r ≡ then_on (task_run p n (task_of t) r) (tasks_run p n (tasks_of few))
last-first p n many few t r e =
    ap (λ ts. tasks_run p n (tasks_of ts) r) e
    ∙ ap (λ ts. tasks_run p n ts r) (tasks-last few t)
    ∙ tasks-append p n (tasks_of few) (task_of t ∷ []) r

pub reached_more : (p : ProgramTree) (n : ℕ) (first : Port) (m : Machine) (few : Vec Task Global) (t : Task) (new : Machine) (now last : Port) →
    IsReached p n first m now → m.tasks.items ≡ few.items ++ t ∷ [] →
    ((k : Memory) → IsHeld p (with_tasks m few) k → IsDoneAt p n (with_tasks m few) new (λ i. task_from p n (task_of t) (flow_of m.flow) (config_of (with_tasks m few) k i)) now last) →
    IsReached p n first new last
reached_more p n first m few t new now last r e step =
    let held' : IsHeld p (with_tasks m few) r.memory = record { store = r.is_held.store; counts = r.is_held.counts } in
    let d : IsDoneAt p n (with_tasks m few) new (λ i. task_from p n (task_of t) (flow_of m.flow) (config_of (with_tasks m few) r.memory i)) now last = step r.memory held' in
    let rest_run : Reached → Answer Reached = tasks_run p n (tasks_of few.items) in
    record {
      memory = d.memory;
      is_held = d.is_held;
      did = r.did ++ d.did;
      bytes = r.bytes ++ d.bytes;
      count = taken-append r.did d.did ∙ ap₂ (λ a b. a + b) r.count d.count ∙ sym (length-append r.bytes d.bytes);
      held = d.held ∙ ap (λ h. append h (output d.did)) r.held ∙ append-append first.held (output r.did) (output d.did)
          ∙ ap (append first.held) (sym (output_appends r.did d.did));
      left = r.left ∙ ap (prepend r.bytes) d.left ∙ prepend-twice r.bytes d.bytes last.left;
      at_end = d.at_end;
      to = λ rest closed i o.
          let input : List ℕ = d.bytes ++ rest in
          let none_left : now.closed ≡ true → input ≡ [] = λ c. ap₂ (λ a b. a ++ b) (d.stays c).1 (closed (d.stays c).0) in
          ap (λ l. heard_as i (before o (run.run n p l))) (append_assoc r.bytes d.bytes rest)
          ∙ r.to input none_left i o
          ∙ ap (λ a. heard_as i (before o (before r.did a))) (last-first p n m.tasks.items few.items t (reached_of m r.memory input) e)
          ∙ heard-after r.did (then_on (task_run p n (task_of t) (reached_of m r.memory input)) rest_run)
          (before d.did (then_on (tasks_run p n d.put (reached_of new d.memory rest)) rest_run)) (d.same rest closed rest_run) i o
          ∙ heard-once r.did d.did (then_on (tasks_run p n d.put (reached_of new d.memory rest)) rest_run) i o
          ∙ ap (λ a. heard_as i (before o (before (r.did ++ d.did) a)))
          (sym (tasks-append p n (tasks_of few.items) d.put (reached_of new d.memory rest)) ∙ ap (λ ts. tasks_run p n ts (reached_of new d.memory rest)) (sym d.tasks));
    }

-- ---- the input

-- the known rest of the input
abbrev pub known : Option (List ℕ) → List ℕ
known None = []
known (Some bytes) = bytes

is-known : (left : Option (List ℕ)) → IsLeft left (known left)
is-known None = tt
is-known (Some bytes) = refl

at-end-known : (left : Option (List ℕ)) → IsAtEnd left → known left ≡ []
at-end-known None h = refl
at-end-known (Some bytes) h = h

is-input : (left left' : Option (List ℕ)) (taken : List ℕ) → left ≡ prepend taken left' → IsLeft left (taken ++ known left')
is-input left None taken e = rw e tt
is-input left (Some bytes) taken e = rw e refl

abbrev pub streams : Port → Streams
streams p = record { held = p.held; left = p.left }

-- ---- the end

heard-to : (p : ProgramTree) (n : ℕ) (first : Port) (m : Machine) (now : Port) (r : IsReached p n first m now) →
    heard n p (r.bytes ++ known now.left) ≡ heard_as (r.bytes ++ known now.left) (before r.did (tasks_run p n (tasks_of m.tasks.items) (reached_of m r.memory (known now.left))))
heard-to p n first m now r = r.to (known now.left) (λ c. at-end-known now.left (r.at_end c)) (r.bytes ++ known now.left) []

-- what was heard so far ended so
some-run : (p : ProgramTree) (n : ℕ) (first : Port) (m : Machine) (now last : Port) (r : IsReached p n first m now) (e : run.Ending) → AreLeft now last →
    heard n p (r.bytes ++ known now.left) ≡ heard_with (output r.did) (known now.left) e → IsSomeRun n p e (streams first) (streams last)
some-run p n first m now last r e same is = (
  r.bytes ++ known now.left,
  is-input first.left now.left r.bytes r.left,
  record {
    ending = ap (λ h. h.ending) is;
    output = same.held ∙ r.held ∙ ap (λ h. append first.held h.output) (sym is);
    taken = r.bytes;
    rest = r.left ∙ ap (prepend r.bytes) (sym same.left);
    unread = let P : Option (List ℕ) → Type 0 = λ l. IsLeft l ((heard n p (r.bytes ++ known now.left)).rest) in
        subst P (sym same.left) (let Q : List ℕ → Type 0 = IsLeft now.left in subst Q (sym (ap (λ h. h.rest) is)) (is-known now.left));
  },
)

-- the run was given up
pub part : (p : ProgramTree) (n : ℕ) (first : Port) (m : Machine) (now last : Port) (r : IsReached p n first m now) → AreLeft now last → IsPart n p (streams first) (streams last)
part p n first m now last r same =
    let input : List ℕ = r.bytes ++ known now.left in
    let more : Answer Reached = tasks_run p n (tasks_of m.tasks.items) (reached_of m r.memory (known now.left)) in (
      input,
      is-input first.left now.left r.bytes r.left,
      record {
        written = length (output r.did);
        output = same.held ∙ r.held
            ∙ ap (append first.held) (sym (ap (λ h. take (length (output r.did)) h.output) (heard-to p n first m now r) ∙ written-first input r.did more));
        taken = r.bytes;
        rest = r.left ∙ ap (prepend r.bytes) (sym same.left);
      },
    )

left-itself : (now : Port) → AreLeft now now
left-itself now = record { held = refl; left = refl }

pub part_here : (p : ProgramTree) (n : ℕ) (first : Port) (m : Machine) (now : Port) → IsReached p n first m now → IsPart n p (streams first) (streams now)
part_here p n first m now r = part p n first m now now r (left-itself now)

-- no task is left
pub all_done : (p : ProgramTree) (n : ℕ) (first : Port) (m : Machine) (now : Port) → IsReached p n first m now → m.tasks.items ≡ [] →
    IsSomeRun n p run.undefined (streams first) (streams now)
all_done p n first m now r e =
    some-run p n first m now now r run.undefined (left-itself now)
    (heard-to p n first m now r
    ∙ ap (λ ts. heard_as (r.bytes ++ known now.left) (before r.did (tasks_run p n (tasks_of ts) (reached_of m r.memory (known now.left))))) e
    ∙ heard-returned r.did r.bytes (known now.left) (reached_of m r.memory (known now.left)) r.count)

module _ (p : ProgramTree) (n : ℕ) (first : Port) (m : Machine) (few : Vec Task Global) (t : Task) (now last : Port) (r : IsReached p n first m now) (popped : m.tasks.items ≡ few.items ++ t ∷ []) (same : AreLeft now last) where
  abbrev here : List ℕ
  here = known now.left

  -- what the task comes to that is done now
  abbrev this : Answer Reached
  this = task_run p n (task_of t) (reached_of m r.memory here)

  heard-then : (a : Answer Reached) → ((rest : Reached → Answer Reached) → IsHeardAs (then_on this rest) a) → heard n p (r.bytes ++ here) ≡ heard_as (r.bytes ++ here) (before r.did a)
  heard-then a is =
      heard-to p n first m now r
      ∙ ap (λ b. heard_as (r.bytes ++ here) (before r.did b)) (last-first p n m.tasks.items few.items t (reached_of m r.memory here) popped)
      ∙ is (tasks_run p n (tasks_of few.items)) (r.bytes ++ here) r.did

  -- how a run ends where the task ends so
  abbrev EndsAs : (reads writes : Type 0) → Ending → Type 0
  EndsAs reads writes (ending.Exit status) = IsStoppedAt reads writes status stop.Exit this
  EndsAs reads writes ending.Cut = IsStoppedAt reads writes 0 stop.Cut this
  EndsAs reads writes ending.Undefined = IsStoppedAt reads writes 0 stop.Undefined this
  EndsAs reads writes ending.ReadFault = reads
  EndsAs reads writes ending.WriteFault = writes

  ended : (reads writes : Type 0) (e : Ending) → EndsAs reads writes e → HasEnded n p (streams first) (streams last) reads writes e
  ended reads writes (ending.Exit status) is =
      some-run p n first m now last r (run.exit status) same (heard-then (Exited [] status) is ∙ heard-exit Reached r.did r.bytes here status r.count)
  ended reads writes ending.Cut is = some-run p n first m now last r run.cut same (heard-then (Cut []) is ∙ heard-cut Reached r.did r.bytes here r.count)
  ended reads writes ending.Undefined is =
      some-run p n first m now last r run.undefined same (heard-then (Undefined []) is ∙ heard-undefined Reached r.did r.bytes here r.count)
  ended reads writes ending.ReadFault is = (is, part p n first m now last r same)
  ended reads writes ending.WriteFault is = (is, part p n first m now last r same)

  -- how the task ends, by why the step did not go on
  stopped-by : (reads writes : Type 0) (status : ℕ) (s z : Stop) → s ≡ z → IsStoppedAt reads writes status s this → IsStoppedAt reads writes status z this
  stopped-by reads writes status s z e h = let P : Stop → Type 0 = λ q. IsStoppedAt reads writes status q this in subst P e h

  pub stopped-run : (reads writes : Type 0) (status : ℕ) (s : Stop) (e : Ending) → HasStopped s status e → IsStoppedAt reads writes status s this → HasEnded n p (streams first) (streams last) reads writes e
  stopped-run reads writes status s e why h = by e why
    where
      by : (e : Ending) → HasStopped s status e → HasEnded n p (streams first) (streams last) reads writes e
      by (ending.Exit k) why =
          ended reads writes (ending.Exit k) (let P : ℕ → Type 0 = λ j. IsStoppedAt reads writes j stop.Exit this in subst P (sym why.1) (stopped-by reads writes status s stop.Exit why.0 h))
      by ending.Cut why = ended reads writes ending.Cut (stopped-by reads writes status s stop.Cut why h)
      by ending.Undefined why = ended reads writes ending.Undefined (stopped-by reads writes status s stop.Undefined why h)
      by ending.ReadFault why = ended reads writes ending.ReadFault (stopped-by reads writes status s stop.ReadFault why h)
      by ending.WriteFault why = ended reads writes ending.WriteFault (stopped-by reads writes status s stop.WriteFault why h)

-- how a run ends where a step did not go on
pub ended_by : {X : Type 0} (p : ProgramTree) (n : ℕ) (first : Port) (m : Machine) (few : Vec Task Global) (t : Task) (now last : Port) (reads writes : Type 0) (status : ℕ) (s : Stop) (q : Result Ending X) →
    IsReached p n first m now → m.tasks.items ≡ few.items ++ t ∷ [] →
    AreLeft now last × ((k : Memory) → IsHeld p (with_tasks m few) k → (i : List ℕ) → IsStoppedAt reads writes status s (task_from p n (task_of t) (flow_of m.flow) (config_of (with_tasks m few) k i))) →
    MatchResult q (HasStopped s status) (λ x. s ≡ stop.NoMemory) → MatchResult q (HasEnded n p (streams first) (streams last) reads writes) (λ x. IsPart n p (streams first) (streams last))
ended_by p n first m few t now last reads writes status s (Ok e) r popped step is =
    let held' : IsHeld p (with_tasks m few) r.memory = record { store = r.is_held.store; counts = r.is_held.counts } in
    stopped-run p n first m few t now last r popped step.0 reads writes status s e is (step.1 r.memory held' (known now.left))
ended_by p n first m few t now last reads writes status s (Err x) r popped step is = part p n first m now last r step.0

-- nothing was done
pub nothing_done : (p : ProgramTree) (n : ℕ) (s : Streams) → IsPart n p s s
nothing_done p n s = (
  known s.left,
  is-known s.left,
  record { written = 0; output = sym (append-none s.held); taken = []; rest = prepend-none s.left },
)

-- no task was there
no-tasks : (ts : List Task) → length ts ≡ 0 → ts ≡ []
no-tasks [] h = refl
no-tasks (t ∷ ts) h = absurd (omega arith)

pub none_left : (ts : Vec Task Global) → vec_len ts ≡ 0 → ts.items ≡ []
none_left ts h = no-tasks ts.items (omega (arith, h, ts.ok.0))

-- ---- counts of faults

pub increased-earlier : (first now last : ℕ) → first ≤ now → Increased now last → Increased first last
increased-earlier first now last up h = omega (arith, up, h)

pub ended_weaker : {X : Type 0} (p : ProgramTree) (n : ℕ) (first last : Streams) (reads reads' writes writes' : Type 0) (q : Result Ending X) → (reads → reads') → (writes → writes') →
    MatchResult q (HasEnded n p first last reads writes) (λ x. IsPart n p first last) → MatchResult q (HasEnded n p first last reads' writes') (λ x. IsPart n p first last)
ended_weaker p n first last reads reads' writes writes' (Ok (ending.Exit status)) r w h = h
ended_weaker p n first last reads reads' writes writes' (Ok ending.Cut) r w h = h
ended_weaker p n first last reads reads' writes writes' (Ok ending.Undefined) r w h = h
ended_weaker p n first last reads reads' writes writes' (Ok ending.ReadFault) r w h = (r h.0, h.1)
ended_weaker p n first last reads reads' writes writes' (Ok ending.WriteFault) r w h = (w h.0, h.1)
ended_weaker p n first last reads reads' writes writes' (Err x) r w h = h

pub nothing_ended : {X : Type 0} (p : ProgramTree) (n : ℕ) (s : Streams) (reads writes : Type 0) (q : Result Ending X) → IsErr q → MatchResult q (HasEnded n p s s reads writes) (λ x. IsPart n p s s)
nothing_ended p n s reads writes (Ok e) h = absurd (false≢true h)
nothing_ended p n s reads writes (Err x) h = nothing_done p n s
