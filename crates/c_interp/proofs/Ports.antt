-- Steps at the input and the output, and steps over which a jump passes.
use Rattle.std.proofs.Common.{Vec, Global, ◌≡◌, ℕ, ◌%◌, ◌-◌, ◌^◌, inl, inr, true, List, [], ◌∷◌, ◌++◌, ◌<◌, length, take, vec_len, reverse, arith, refl, sym, ap, ◌∙◌, subst}
use Rattle.std.specs.Prelude.{Option, None, Some, Result, Ok, Err}
use Rattle.std.proofs.lemmas.Bool.{false≢true}
use Rattle.std.proofs.lemmas.List.{append-nil, take_all}
use Rattle.std.proofs.lemmas.Option.{none-some, same_Some}
use Rattle.val_core.specs.declared.values.Value.{Value}
use Rattle.val_core.specs.declared.values.Value.TheVariants.{Num, At, Bad}
use Rattle.val_core.specs.Memory.{Memory}
use Rattle.val_core.specs.Events.{wrote, took}
use Rattle.val_core.specs.Answers.{Answer, Returned, before, then_on, on_defined}
use Rattle.cc_io.specs.Sink.{append}
use Rattle.cc_io.proofs.lemmas.Sink.{append-none}
use Rattle.cc_io.specs.Source.{IsAtEnd}
use Rattle.cc_io.proofs.lemmas.Prepends.{prepend-none}
use Rattle.c_type.specs.Trees.{TypeTree}
use Rattle.c_typed.specs.declared.operator.UnaryOp.TheVariants as unary_op
use Rattle.c_typed.specs.Typed.{ProgramTree}
use Rattle.c_mean.specs.Statements as stmt
use Rattle.c_mean.specs.Run.{heard_as}
use Rattle.c_interp_def.specs.Configurations.{Configuration, Reached, reaches, with_operands}
use Rattle.c_interp_def.specs.ExprTasks as e
use Rattle.c_interp_def.specs.ExprTasks.{read_byte, write_byte, end_program, unary, expr_task_run}
use Rattle.c_interp_def.specs.StmtTasks as s
use Rattle.c_interp_def.specs.StmtTasks.{of_expr, of_stmt}
use Rattle.c_interp_def.specs.declared.task.Flow.{Flow}
use Rattle.c_interp_def.specs.declared.task.Flow.TheVariants.{Normal, Broke, Continued, Returned as JumpedBack}
use Rattle.c_interp_answer.specs.TaskViews.{tasks_of, flow_of}
use Rattle.c_interp.specs.declared.stop.Stop.{Stop}
use Rattle.c_interp.specs.declared.stop.Stop.TheVariants as stop
use Rattle.c_interp.specs.declared.machine.Machine.{Machine}
use Rattle.c_interp.specs.Machines.{config_of, IsHeld}
use Rattle.c_interp.specs.Steps.{IsStopped, IsDone, IsStep, task_from, number}
use Rattle.c_interp.specs.Ports.{Port, IsReceived, IsDoneAt, IsStoppedAt, IsStepAt, IsByte}
use Rattle.c_interp.proofs.Steps.{with_ops, done_at_once, end-undefined, newest-one}
use Rattle.c_interp.proofs.StmtSteps.{on-number}

-- ---- a jump passes over a task

pub skipped-expr : (p : ProgramTree) (n : ℕ) (t : e.ExprTask) (f : Flow) (x : Configuration) → (f ≡ Normal → ⊥) → task_from p n (of_expr t) (flow_of f) x ≡ reaches (flow_of f) x
skipped-expr p n t Normal x h = absurd (h refl)
skipped-expr p n t Broke x h = refl
skipped-expr p n t Continued x h = refl
skipped-expr p n t (JumpedBack v) x h = refl

pub skipped-stmt : (p : ProgramTree) (n : ℕ) (t : s.StmtTask) (f : Flow) (x : Configuration) → (f ≡ Normal → ⊥) → task_from p n (of_stmt t) (flow_of f) x ≡ reaches (flow_of f) x
skipped-stmt p n t Normal x h = absurd (h refl)
skipped-stmt p n t Broke x h = refl
skipped-stmt p n t Continued x h = refl
skipped-stmt p n t (JumpedBack v) x h = refl

-- the machine stays as it is
pub stays_step : (p : ProgramTree) (n : ℕ) (u : Unit) (m : Machine) (run : Configuration → Answer Reached) → ((x : Configuration) → run x ≡ reaches (flow_of m.flow) x) → IsStep p n (Ok u) m m run
stays_step p n u m run h k held = done_at_once p n m m (λ i. run (config_of m k i)) k refl held (λ i. h (config_of m k i))

-- ---- a step that neither reads nor writes

stopped_at : (reads writes : Type 0) (status : ℕ) (r : Stop) (a : Answer Reached) → IsStopped status r a → IsStoppedAt reads writes status r a
stopped_at reads writes status stop.Exit a h = h
stopped_at reads writes status stop.Cut a h = h
stopped_at reads writes status stop.Undefined a h = h
stopped_at reads writes status stop.ReadFault a h = absurd h
stopped_at reads writes status stop.WriteFault a h = absurd h
stopped_at reads writes status stop.NoMemory a h = h

pub quiet_at : (p : ProgramTree) (n : ℕ) (r : Result Unit Stop) (old new : Machine) (run : Configuration → Answer Reached) (now : Port) (reads writes : Type 0) →
    (now.closed ≡ true → IsAtEnd now.left) → IsStep p n r old new run → IsStepAt p n r old new run now now reads writes
quiet_at p n (Ok u) old new run now reads writes at_end step =
    λ m held.
    let d : IsDone p n old new (λ i. run (config_of old m i)) = step m held in
    record {
      put = d.put;
      tasks = d.tasks;
      memory = d.memory;
      is_held = d.held;
      did = [];
      bytes = [];
      count = refl;
      held = sym (append-none now.held);
      left = prepend-none now.left;
      at_end = at_end;
      stays = λ c. (c, refl);
      same = λ input closed rest. d.same input rest;
    }
quiet_at p n (Err r) old new run now reads writes at_end step =
    (record { held = refl; left = refl }, λ m held i. stopped_at reads writes new.status r (run (config_of old m i)) (step m held i))

-- a step of a task that does the same
pub at_same : (p : ProgramTree) (n : ℕ) (r : Result Unit Stop) (old new : Machine) (run run' : Configuration → Answer Reached) (first last : Port) (reads writes : Type 0) →
    ((x : Configuration) → run x ≡ run' x) → IsStepAt p n r old new run' first last reads writes → IsStepAt p n r old new run first last reads writes
at_same p n (Ok u) old new run run' first last reads writes e step =
    λ m held.
    let d : IsDoneAt p n old new (λ i. run' (config_of old m i)) first last = step m held in
    record {
      put = d.put;
      tasks = d.tasks;
      memory = d.memory;
      is_held = d.is_held;
      did = d.did;
      bytes = d.bytes;
      count = d.count;
      held = d.held;
      left = d.left;
      at_end = d.at_end;
      stays = d.stays;
      same = λ input closed rest j o. ap (λ c. heard_as j (before o (then_on c rest))) (e (config_of old m (d.bytes ++ input))) ∙ d.same input closed rest j o;
    }
at_same p n (Err r) old new run run' first last reads writes e step =
    (step.0, λ m held i. same-stop reads writes new.status r (run (config_of old m i)) (run' (config_of old m i)) (e (config_of old m i)) (step.1 m held i))
  where
    same-stop : (reads writes : Type 0) (status : ℕ) (r : Stop) (a b : Answer Reached) → a ≡ b → IsStoppedAt reads writes status r b → IsStoppedAt reads writes status r a
    same-stop reads writes status r a b e h = let P : Answer Reached → Type 0 = IsStoppedAt reads writes status r in subst P (sym e) h

-- ---- a byte is read

-- the machine with this operand
abbrev pub word_at_end : ℕ
word_at_end = 2 ^ 32 - 1

more-operands : (p : ProgramTree) (old : Machine) (many : Vec Value Global) (m : Memory) → IsHeld p old m → IsHeld p (with_ops old many) m
more-operands p old many m held = record { store = held.store; counts = held.counts }

pub read_end : (p : ProgramTree) (n : ℕ) (u : Unit) (old : Machine) (many : Vec Value Global) (first last : Port) (reads writes : Type 0) → old.flow ≡ Normal →
    many.items ≡ old.operands.items ++ Num word_at_end ∷ [] → last.held ≡ first.held → IsReceived None first last →
    IsStepAt p n (Ok u) old (with_ops old many) (expr_task_run p n read_byte) first last reads writes
read_end p n u old many first last reads writes flow pushed same got m held = record {
  put = [];
  tasks = sym (append-nil (tasks_of old.tasks.items));
  memory = m;
  is_held = more-operands p old many m held;
  did = [];
  bytes = [];
  count = refl;
  held = same ∙ sym (append-none first.held);
  left = sym got.0 ∙ prepend-none last.left;
  at_end = λ c. got.1;
  stays = λ c. (got.2, refl);
  same = λ input closed rest j o.
      ap (λ i. heard_as j (before o (then_on (expr_task_run p n read_byte (config_of old m i)) rest))) (closed got.2)
      ∙ ap (λ vs. heard_as j (before o (rest (at vs (flow_of Normal) [])))) (sym (newest-one old.operands.items many.items (Num word_at_end) pushed))
      ∙ ap (λ f. heard_as j (before o (rest (at (reverse many.items) (flow_of f) [])))) (sym flow)
      ∙ ap (λ i. heard_as j (before o (rest (at (reverse many.items) (flow_of old.flow) i)))) (sym (closed got.2));
}
  where
    at : List Value → stmt.Flow → List ℕ → Reached
    at vs f i = record { flow = f; at = with_operands (config_of old m i) vs }

pub read_one : (p : ProgramTree) (n : ℕ) (u : Unit) (old : Machine) (many : Vec Value Global) (byte : ℕ) (first last : Port) (reads writes : Type 0) → old.flow ≡ Normal →
    many.items ≡ old.operands.items ++ Num byte ∷ [] → last.held ≡ first.held → IsReceived (Some byte) first last →
    IsStepAt p n (Ok u) old (with_ops old many) (expr_task_run p n read_byte) first last reads writes
read_one p n u old many byte first last reads writes flow pushed same got m held = record {
  put = [];
  tasks = sym (append-nil (tasks_of old.tasks.items));
  memory = m;
  is_held = more-operands p old many m held;
  did = took byte ∷ [];
  bytes = byte ∷ [];
  count = refl;
  held = same ∙ sym (append-none first.held);
  left = got.0;
  at_end = λ c. absurd (false≢true (sym got.2 ∙ c));
  stays = λ c. absurd (false≢true (sym got.1 ∙ c));
  same = λ input closed rest j o.
      ap (λ vs. heard_as j (before o (before (took byte ∷ []) (rest (at vs (flow_of Normal) input))))) (sym (newest-one old.operands.items many.items (Num byte) pushed))
      ∙ ap (λ f. heard_as j (before o (before (took byte ∷ []) (rest (at (reverse many.items) (flow_of f) input))))) (sym flow);
}
  where
    at : List Value → stmt.Flow → List ℕ → Reached
    at vs f i = record { flow = f; at = with_operands (config_of old m i) vs }

-- ---- a byte is written

pub write_one : (p : ProgramTree) (n : ℕ) (u : Unit) (old : Machine) (many : Vec Value Global) (few : List Value) (w byte : ℕ) (first last : Port) (reads writes : Type 0) → old.flow ≡ Normal →
    byte ≡ w % 256 → old.operands.items ≡ few ++ Num w ∷ [] → many.items ≡ few ++ Num byte ∷ [] →
    last.held ≡ append first.held (byte ∷ []) → last.left ≡ first.left → last.closed ≡ first.closed → (first.closed ≡ true → IsAtEnd first.left) →
    IsStepAt p n (Ok u) old (with_ops old many) (expr_task_run p n write_byte) first last reads writes
write_one p n u old many few w byte first last reads writes flow is popped pushed wrote_is left closed at_end m held = record {
  put = [];
  tasks = sym (append-nil (tasks_of old.tasks.items));
  memory = m;
  is_held = more-operands p old many m held;
  did = wrote byte ∷ [];
  bytes = [];
  count = refl;
  held = wrote_is;
  left = sym left ∙ prepend-none last.left;
  at_end = λ c. let P : Option (List ℕ) → Type 0 = IsAtEnd in subst P (sym left) (at_end (sym closed ∙ c));
  stays = λ c. (closed ∙ c, refl);
  same = λ input end rest j o.
      ap (λ vs. heard_as j (before o (then_on (expr_task_run p n write_byte (with_operands (config_of old m input) vs)) rest))) (newest-one few old.operands.items (Num w) popped)
      ∙ ap (λ b. heard_as j (before o (before (wrote b ∷ []) (rest (at (Num b ∷ reverse few) (flow_of Normal) input))))) (sym is)
      ∙ ap (λ vs. heard_as j (before o (before (wrote byte ∷ []) (rest (at vs (flow_of Normal) input))))) (sym (newest-one few many.items (Num byte) pushed))
      ∙ ap (λ f. heard_as j (before o (before (wrote byte ∷ []) (rest (at (reverse many.items) (flow_of f) input))))) (sym flow);
}
  where
    at : List Value → stmt.Flow → List ℕ → Reached
    at vs f i = record { flow = f; at = with_operands (config_of old m i) vs }

-- `putchar` as an operator writes a byte too
pub put-writes : (p : ProgramTree) (n : ℕ) (t u : TypeTree) (x : Configuration) → expr_task_run p n (unary unary_op.Put t u) x ≡ expr_task_run p n write_byte x
put-writes p n t u x = by x.operands
  where
    by : (vs : List Value) → expr_task_run p n (unary unary_op.Put t u) (with_operands x vs) ≡ expr_task_run p n write_byte (with_operands x vs)
    by [] = refl
    by (Num w ∷ vs) = refl
    by (At b o ∷ vs) = refl
    by (Bad ∷ vs) = refl

pub exit-ends : (p : ProgramTree) (n : ℕ) (t u : TypeTree) (x : Configuration) → expr_task_run p n (unary unary_op.Exit t u) x ≡ expr_task_run p n end_program x
exit-ends p n t u x = by x.operands
  where
    by : (vs : List Value) → expr_task_run p n (unary unary_op.Exit t u) (with_operands x vs) ≡ expr_task_run p n end_program (with_operands x vs)
    by [] = refl
    by (Num w ∷ vs) = refl
    by (At b o ∷ vs) = refl
    by (Bad ∷ vs) = refl

-- ---- the newest operand as a byte

number-is : (v : Value) (w : ℕ) → number v ≡ Some w → v ≡ Num w
number-is (Num u) w e = ap Num (same_Some u w e)
number-is (At b o) w e = absurd (none-some w e)
number-is Bad w e = absurd (none-some w e)

-- an operand was there
pub last-number : (old few : List Value) (v : Value) (w : ℕ) → old ≡ few ++ v ∷ [] → number v ≡ Some w → old ≡ few ++ Num w ∷ []
last-number old few v w e is = e ∙ ap (λ u. few ++ u ∷ []) (number-is v w is)

-- it was not, or is no number
pub byte_stopped : (p : ProgramTree) (n : ℕ) (r : Stop) (old new : Machine) (few : List Value) (now : Port) (reads writes : Type 0) → IsByte (Err r) old.operands.items few →
    IsStepAt p n (Err r) old new (expr_task_run p n write_byte) now now reads writes
byte_stopped p n stop.Undefined old new few now reads writes h = (record { held = refl; left = refl }, λ m held i. by m i h)
  where
    by : (m : Memory) (i : List ℕ) → IsByte (Err stop.Undefined) old.operands.items few → IsStopped new.status stop.Undefined (expr_task_run p n write_byte (config_of old m i))
    by m i (inl e) =
        end-undefined (expr_task_run p n write_byte (config_of old m i)) (ap (λ vs. expr_task_run p n write_byte (with_operands (config_of old m i) (reverse vs))) e)
    by m i (inr (fewer, v, e, none)) =
        let wrote_of : ℕ → Answer Reached = λ w. Returned (record { flow = stmt.normal; at = with_operands (config_of old m i) (Num (w % 256) ∷ reverse fewer) }) (wrote (w % 256) ∷ []) in
        end-undefined (expr_task_run p n write_byte (config_of old m i))
        (ap (λ vs. expr_task_run p n write_byte (with_operands (config_of old m i) vs)) (newest-one fewer old.operands.items v e)
        ∙ on-number v wrote_of ∙ ap (λ o. on_defined o wrote_of) none)
byte_stopped p n stop.NoMemory old new few now reads writes h = (record { held = refl; left = refl }, λ m held i. tt)
byte_stopped p n stop.Exit old new few now reads writes h = absurd h
byte_stopped p n stop.Cut old new few now reads writes h = absurd h
byte_stopped p n stop.ReadFault old new few now reads writes h = absurd h
byte_stopped p n stop.WriteFault old new few now reads writes h = absurd h

no-values : (vs : List Value) → length vs ≡ 0 → vs ≡ []
no-values [] h = refl
no-values (v ∷ vs) h = absurd (omega arith)

pub none-there : (vs : Vec Value Global) → vec_len vs ≡ 0 → vs.items ≡ []
none-there vs h = no-values vs.items (omega (arith, h, vs.ok.0))

-- a piece of one byte is written whole
pub one_written : (before after : Option (List ℕ)) (count byte : ℕ) (piece : List ℕ) → piece ≡ byte ∷ [] → (0 < length piece → 0 < count) → after ≡ append before (take count piece) → after ≡ append before (byte ∷ [])
one_written before after count byte piece e some is =
    let size : length piece ≡ 1 = ap length e in
    let whole : take count piece ≡ piece = take_all count piece (omega (arith, size, some)) in
    is ∙ ap (append before) (whole ∙ e)
