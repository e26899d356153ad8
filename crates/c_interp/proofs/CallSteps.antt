-- A call that begins, and one that ends.
use Rattle.std.proofs.Common.{Vec, Global, ◌≡◌, ℕ, suc, ◌+◌, ◌-◌, ◌<◌, ◌==◌, add-one, List, [], ◌∷◌, ◌++◌, inl, inr, length, map, drop, reverse, vec_len, arith, refl, sym, ap, ◌∙◌, subst}
use Rattle.std.specs.Prelude.{Option, None, Some, slice_get, Result, Ok, Err}
use Rattle.std.proofs.lemmas.List.{map-append, reverse-append}
use Rattle.val_core.specs.declared.values.Value.{Value}
use Rattle.val_core.specs.Memory.{Memory, closed}
use Rattle.val_core.specs.Answers.{Answer, before, then_on, on_defined}
use Rattle.c_typed.specs.Typed.{FunctionTree, ProgramTree}
use Rattle.c_mean.specs.Expressions.{value_or_none}
use Rattle.c_mean.specs.Statements.{Flow, normal}
use Rattle.c_mean.specs.Run.{objects_of, value_at_end, Heard, heard_as}
use Rattle.c_interp_store.specs.declared.store.Store.{Store}
use Rattle.c_interp_store.specs.Holding.{Opened, Holds}
use Rattle.c_interp_def.specs.Configurations as def
use Rattle.c_interp_def.specs.Configurations.{Configuration, Reached, variables_in, variables_of}
use Rattle.c_interp_def.specs.ExprTasks.{call, expr_task_run}
use Rattle.c_interp_def.specs.StmtTasks.{handler, end_call, returned_to, handler_run, task_run, tasks_run}
use Rattle.c_interp_def.specs.declared.task.Task.TheVariants as left
use Rattle.c_interp_def.specs.declared.task.Handler.TheVariants.{EndCall}
use Rattle.c_interp_def.specs.Laws.{normally}
use Rattle.c_interp_def.specs.CallLaws.{IsHeardAs, call_tasks, in_call, call_memory, call_entered}
use Rattle.c_interp_def.proofs.CallProofs.{call-is-cut, call-enters}
use Rattle.c_interp_def.specs.declared.task.Flow.TheVariants.{Normal}
use Rattle.c_interp_def.specs.declared.task.Task.{Task as Left}
use Rattle.c_interp_answer.specs.TaskViews.{flow_of}
use Rattle.c_interp_def.specs.declared.task.Slot.{Slot}
use Rattle.c_interp.specs.declared.frame.Frame.{Frame}
use Rattle.c_interp.specs.declared.frame.Active.{Active}
use Rattle.c_interp.specs.declared.stop.Stop.{Stop}
use Rattle.c_interp.specs.declared.stop.Stop.TheVariants as stop
use Rattle.c_interp.specs.declared.machine.Machine.{Machine}
use Rattle.c_interp.specs.Machines.{frame_with, frame_of, opened_in, opened_by, Counted, counted_in, counted_by, AreCounted, config_of, IsHeld}
use Rattle.c_interp.specs.Steps.{IsStep, tasks_do, give_run}
use Rattle.c_interp.specs.Calls.{BeginsCall, IsFrame, waiting, HasEntered, IsEntered, IsBegunCall, IsEnded}
use Rattle.c_interp.proofs.Steps.{with_tasks, end-cut, undefined_step, moved, moved_heard}
use Rattle.c_interp.proofs.AtOnce.{put_then}
use Rattle.c_interp.proofs.Next.{next_step}

-- one more at the end is the first of all
pub newest_mapped : {X : Type 0} (g : Active → X) (fs : List Active) (f : Active) → reverse (map g (fs ++ f ∷ [])) ≡ g f ∷ reverse (map g fs)
newest_mapped g fs f = ap reverse (map-append g fs (f ∷ [])) ∙ reverse-append (map g fs) (g f ∷ [])

waits : {X : Type 0} (g : Active → X) (many few : List Active) (f : Active) → many ≡ few ++ f ∷ [] → reverse (map g many) ≡ g f ∷ reverse (map g few)
waits g many few f e = ap (λ fs. reverse (map g fs)) e ∙ newest_mapped g few f

-- ---- a call that begins

-- what is heard of it is what is heard of this
entered-as : (p : ProgramTree) (n f count : ℕ) (old : Machine) (m : Memory) (i : List ℕ) (o : Option FunctionTree) (rest : Reached → Answer Reached) (k : ℕ) → old.frame.depth ≡ suc k →
    slice_get p.functions f ≡ o →
    IsHeardAs (then_on (expr_task_run p n (call f count) (config_of old m i)) rest) (then_on (call_entered p n (config_of old m i) f count k o) rest)
entered-as p n f count old m i o rest k depth there j q =
    call-enters p n f count k (config_of old m i) rest depth j q
    ∙ ap (λ g. heard_as j (before q (then_on (call_entered p n (config_of old m i) f count k g) rest))) there

pub call_cut : (p : ProgramTree) (n f count : ℕ) (old new : Machine) → old.frame.depth ≡ 0 → IsStep p n (Err stop.Cut) old new (expr_task_run p n (call f count))
call_cut p n f count old new e m held i = end-cut (expr_task_run p n (call f count) (config_of old m i)) (call-is-cut p n f count (config_of old m i) e)

pub call_of_none : (p : ProgramTree) (n f count k : ℕ) (old new : Machine) → old.frame.depth ≡ suc k → slice_get p.functions f ≡ None →
    IsStep p n (Err stop.Undefined) old new (expr_task_run p n (call f count))
call_of_none p n f count k old new depth there m held i rest j o = entered-as p n f count old m i None rest k depth there j o

pub call_undefined : (p : ProgramTree) (n f count k : ℕ) (old new : Machine) (fn : FunctionTree) → old.frame.depth ≡ suc k → slice_get p.functions f ≡ Some fn →
    ((m : Memory) → IsHeld p old m → call_memory p (config_of old m []) count fn ≡ None) → IsStep p n (Err stop.Undefined) old new (expr_task_run p n (call f count))
call_undefined p n f count k old new fn depth there none m held i rest j o =
    entered-as p n f count old m i (Some fn) rest k depth there j o
    ∙ ap (λ g. heard_as j (before o (then_on (on_defined g (λ s. tasks_run p n (call_tasks fn) (normally (in_call (config_of old m i) f count k fn s)))) rest))) (none m held)

abbrev reached_at : def.Frame → List def.Frame → List Value → Flow → Memory → List ℕ → Reached
reached_at f fs vs flow m i = record { flow = flow; at = record { frame = f; callers = fs; operands = vs; memory = m; input = i } }

-- the caller waits
callers-are : {X : Type 0} (g : Active → X) (p : ProgramTree) (f count : ℕ) (fn : FunctionTree) (active : Active) (old mid new : Machine) (m : Memory) →
    BeginsCall p f count fn old mid active m → HasEntered active mid new → reverse (map g new.callers.items) ≡ g (waiting old) ∷ reverse (map g old.callers.items)
callers-are g p f count fn active old mid new m b h =
    ap (λ fs. reverse (map g fs)) h.callers ∙ newest_mapped g mid.callers.items (waiting mid)
    ∙ ap (λ c. g (record { frame = c; slots = mid.slots }) ∷ reverse (map g mid.callers.items)) b.caller
    ∙ ap (λ c. g (record { frame = old.frame; slots = c }) ∷ reverse (map g mid.callers.items)) b.slots
    ∙ ap (λ cs. g (waiting old) ∷ reverse (map g cs.items)) b.callers

-- the call was entered, and there its tasks are done
call_entered_step : (p : ProgramTree) (n f count : ℕ) (r : Result Unit Stop) (old mid at new : Machine) (fn : FunctionTree) (active : Active) → old.frame.depth ≡ suc (old.frame.depth - 1) →
    slice_get p.functions f ≡ Some fn → ((m : Memory) → IsHeld p old m → BeginsCall p f count fn old mid active m) → HasEntered active mid at →
    IsStep p n r at new (tasks_do p n (call_tasks fn)) → IsStep p n r old new (expr_task_run p n (call f count))
call_entered_step p n f count r old mid at new fn active depth there begins h step =
    moved_heard p n r old at new (expr_task_run p n (call f count)) (tasks_do p n (call_tasks fn))
    (λ m held.
    let b : BeginsCall p f count fn old mid active m = begins m held in
    let x : List ℕ → Configuration = config_of old m in
    let is_function : active.frame.function ≡ f = ap (λ g. g.function) b.frame in
    let objects : active.frame.objects.count ≡ length (objects_of p.structs (variables_of p active.frame.function)) =
    b.counted ∙ ap (λ o. length (objects_of p.structs (variables_in o))) (sym there) ∙ ap (λ g. length (objects_of p.structs (variables_of p g))) (sym is_function) in
    let opened : opened_in at.frame ∷ reverse (map opened_by at.callers.items) ≡ opened_by active ∷ opened_in old.frame ∷ reverse (map opened_by old.callers.items) =
    ap (λ g. opened_in g ∷ reverse (map opened_by at.callers.items)) h.frame_is
    ∙ ap (λ os. opened_by active ∷ os) (callers-are opened_by p f count fn active old mid at m b h) in
    let counted : counted_in at.frame ∷ reverse (map counted_by at.callers.items) ≡ counted_by active ∷ counted_in old.frame ∷ reverse (map counted_by old.callers.items) =
    ap (λ g. counted_in g ∷ reverse (map counted_by at.callers.items)) h.frame_is
    ∙ ap (λ cs. counted_by active ∷ cs) (callers-are counted_by p f count fn active old mid at m b h) in
    let holds : Store → List Opened → Type 0 = λ s os. Holds s os b.memory in
    let callers : List def.Frame = frame_of (waiting old) ∷ reverse (map frame_of old.callers.items) in
    let now : def.Frame = frame_with at.frame at.slots.items in (
      b.memory,
      h.tasks ∙ b.tasks,
      record {
        store = let P : List Opened → Type 0 = holds at.store in
            subst P (sym opened) (let Q : Store → Type 0 = λ s. holds s (opened_by active ∷ opened_in old.frame ∷ reverse (map opened_by old.callers.items)) in subst Q (sym h.store) b.held);
        counts = let P : List Counted → Type 0 = AreCounted p in subst P (sym counted) (objects, held.counts);
      },
      λ i rest j o.
          let to : Reached → Answer Reached = tasks_run p n (call_tasks fn) in
          let heard_at : Reached → Heard = λ q. heard_as j (before o (then_on (to q) rest)) in
          entered-as p n f count old m i (Some fn) rest (old.frame.depth - 1) depth there j o
          ∙ ap (λ g. heard_as j (before o (then_on (on_defined g (λ s. to (normally (in_call (x i) f count (old.frame.depth - 1) fn s)))) rest))) b.stored
          ∙ ap (λ g. heard_at (reached_at g callers (drop count (reverse old.operands.items)) normal b.memory i)) (sym b.frame)
          ∙ ap (λ g. heard_at (reached_at (frame_with g active.slots.items) callers (drop count (reverse old.operands.items)) normal b.memory i)) (sym h.frame_is)
          ∙ ap (λ g. heard_at (reached_at (frame_with at.frame g.items) callers (drop count (reverse old.operands.items)) normal b.memory i)) (sym h.slots_are)
          ∙ ap (λ fs. heard_at (reached_at now fs (drop count (reverse old.operands.items)) normal b.memory i)) (sym (callers-are frame_of p f count fn active old mid at m b h))
          ∙ ap (λ vs. heard_at (reached_at now (reverse (map frame_of at.callers.items)) vs normal b.memory i))
          (sym b.operands ∙ ap (λ vs. reverse vs.items) (sym h.operands)),
    ))
    step

-- ---- a call that ends

-- the machine with the caller of the newest call
abbrev pub back_in : Machine → Active → (slots : Vec Slot Global) → Vec Active Global → Store → (spare : Vec Slot Global) → Machine
back_in m caller slots few s spare =
    record { tasks = m.tasks; operands = m.operands; frame = caller.frame; slots = slots; callers = few; flow = Normal; store = s; status = m.status; spare = spare }

pub end_call_done : (p : ProgramTree) (n : ℕ) (r : Result Unit Stop) (old new : Machine) (caller : Active) (slots : Vec Slot Global) (few : Vec Active Global) (s : Store) (spare : Vec Slot Global) (value : Value) →
    slots ≡ caller.slots →
    old.callers.items ≡ few.items ++ caller ∷ [] → value ≡ value_or_none (value_at_end (old.frame.function == p.main) (flow_of old.flow)) →
    ((calls : List Opened) (m : Memory) → Holds old.store (opened_in old.frame ∷ calls) m → Holds s calls (closed old.frame.objects.first old.frame.objects.count m)) →
    IsStep p n r (back_in old caller slots few s spare) new (give_run (Some value)) → IsStep p n r old new (handler_run p n end_call (flow_of old.flow))
end_call_done p n r old new caller slots few s spare value same popped is closes step =
    moved p n r old (back_in old caller slots few s spare) new (handler_run p n end_call (flow_of old.flow)) (give_run (Some value)) refl
    (λ m held.
    let first : ℕ = old.frame.objects.first in
    let counts : (old.frame.objects.count ≡ length (objects_of p.structs (variables_of p old.frame.function))) × AreCounted p (counted_by caller ∷ reverse (map counted_by few.items)) =
    let P : List Counted → Type 0 = λ cs. AreCounted p (counted_in old.frame ∷ cs) in subst P (waits counted_by old.callers.items few.items caller popped) held.counts in
    let k : Memory = closed first (length (objects_of p.structs (variables_of p old.frame.function))) m in
    let holds : Holds s (opened_by caller ∷ reverse (map opened_by few.items)) k =
    let P : ℕ → Type 0 = λ c. Holds s (opened_by caller ∷ reverse (map opened_by few.items)) (closed first c m) in
    subst P counts.0 (closes (opened_by caller ∷ reverse (map opened_by few.items)) m
    (let Q : List Opened → Type 0 = λ os. Holds old.store (opened_in old.frame ∷ os) m in subst Q (waits opened_by old.callers.items few.items caller popped) held.store)) in (
      k,
      record { store = holds; counts = counts.1 },
      λ i.
          ap (λ fs. returned_to fs (reverse old.operands.items) (record { value = value_at_end (old.frame.function == p.main) (flow_of old.flow); memory = k; input = i })) (waits frame_of old.callers.items few.items caller popped)
          ∙ ap (λ q. give_run (Some (value_or_none (value_at_end (old.frame.function == p.main) (flow_of old.flow)))) (config_of (back_in old caller q few s spare) k i)) (sym same)
          ∙ ap (λ v. give_run (Some v) (config_of (back_in old caller slots few s spare) k i)) (sym is),
    ))
    step

no-items : (fs : List Active) → length fs ≡ 0 → fs ≡ []
no-items [] h = refl
no-items (f ∷ fs) h = absurd (omega arith)

-- no caller waits
pub end_call_of_none : (p : ProgramTree) (n : ℕ) (old new : Machine) → vec_len old.callers ≡ 0 → IsStep p n (Err stop.Undefined) old new (handler_run p n end_call (flow_of old.flow))
end_call_of_none p n old new none =
    let e : old.callers.items ≡ [] = no-items old.callers.items (omega (arith, none, old.callers.ok.0)) in
    undefined_step p n old new (handler_run p n end_call (flow_of old.flow))
    (λ m i held. ap (λ fs. returned_to (reverse (map frame_of fs)) (reverse old.operands.items)
    (record { value = value_at_end (old.frame.function == p.main) (flow_of old.flow); memory = closed old.frame.objects.first (length (objects_of p.structs (variables_of p old.frame.function))) m; input = i })) e)

-- ---- how a call goes on, once its frame is known or is not

pub call_begun_step : (p : ProgramTree) (n f count : ℕ) (r : Result Unit Stop) (old mid new : Machine) (fn : FunctionTree) (active : Active) → old.frame.depth ≡ suc (old.frame.depth - 1) →
    slice_get p.functions f ≡ Some fn → IsFrame p f count fn old mid (Ok active) → IsBegunCall p n active fn mid new r → IsStep p n r old new (expr_task_run p n (call f count))
call_begun_step p n f count r old mid new fn active depth there begins (inl out) =
    let P : Result Unit Stop → Type 0 = λ q. IsStep p n q old new (expr_task_run p n (call f count)) in subst P (sym out) (λ m held i. tt)
call_begun_step p n f count r old mid new fn active depth there begins (inr (at, h, step)) =
    call_entered_step p n f count r old mid at new fn active depth there begins h step

pub call_not_begun : (p : ProgramTree) (n f count : ℕ) (s : Stop) (old mid new : Machine) (fn : FunctionTree) → old.frame.depth ≡ suc (old.frame.depth - 1) → slice_get p.functions f ≡ Some fn →
    IsFrame p f count fn old mid (Err s) → IsStep p n (Err s) old new (expr_task_run p n (call f count))
call_not_begun p n f count stop.Undefined old mid new fn depth there h = call_undefined p n f count (old.frame.depth - 1) old new fn depth there h
call_not_begun p n f count stop.NoMemory old mid new fn depth there h = λ m held i. tt
call_not_begun p n f count stop.Exit old mid new fn depth there h = λ m held i. absurd (h m held)
call_not_begun p n f count stop.Cut old mid new fn depth there h = λ m held i. absurd (h m held)
call_not_begun p n f count stop.ReadFault old mid new fn depth there h = λ m held i. absurd (h m held)
call_not_begun p n f count stop.WriteFault old mid new fn depth there h = λ m held i. absurd (h m held)

-- a depth that is left is one more than another
pub one-deeper : (d : ℕ) → 0 < d → d ≡ suc (d - 1)
one-deeper d h = let e : d ≡ (d - 1) + 1 = omega arith in e ∙ add-one (d - 1)

-- a call with its variables
abbrev pub active_of : Frame → Vec Slot Global → Active
active_of f slots = record { frame = f; slots = slots }

-- ---- a body that is run once the end of its call was put

pub ended_step : (p : ProgramTree) (n : ℕ) (u : Unit) (r : Result Unit Stop) (old mid new : Machine) (many : Vec Left Global) (run : Configuration → Answer Reached) → many.items ≡ old.tasks.items ++ left.Handler EndCall ∷ [] →
    IsStep p n (Ok u) (with_tasks old many) mid run → IsEnded p n mid new r → IsStep p n r old new (λ x. then_on (run x) (task_run p n (handler end_call)))
ended_step p n u (Ok v) old mid new many run pushed step (inl same) =
    put_then p n (Ok v) old new many (left.Handler EndCall) run pushed (let P : Machine → Type 0 = λ z. IsStep p n (Ok u) (with_tasks old many) z run in subst P (sym same) step)
ended_step p n u (Err s) old mid new many run pushed step (inl same) = absurd same
ended_step p n u r old mid new many run pushed step (inr (few, newest, last)) =
    next_step p n u r old mid new many few.tasks (left.Handler EndCall) (left.Handler EndCall) run pushed step newest last

-- a call that did not begin, since memory is out
pub not_entered : (p : ProgramTree) (n : ℕ) (active : Active) (fn : FunctionTree) (s : Stop) (old mid new : Machine) → IsEntered active old mid (Err s) → IsBegunCall p n active fn old new (Err s)
not_entered p n active fn stop.NoMemory old mid new h = inl refl
not_entered p n active fn stop.Exit old mid new h = absurd h
not_entered p n active fn stop.Cut old mid new h = absurd h
not_entered p n active fn stop.Undefined old mid new h = absurd h
not_entered p n active fn stop.ReadFault old mid new h = absurd h
not_entered p n active fn stop.WriteFault old mid new h = absurd h
