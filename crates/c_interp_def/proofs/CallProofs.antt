-- What is heard of a call is what is heard of its tasks.
use Rattle.std.proofs.Common.{◌≡◌, ℕ, suc, ◌+◌, ◌%◌, ◌==◌, List, [], ◌∷◌, ◌++◌, drop, length, slice_get, Option, None, Some, refl, sym, ap, ap₂, ◌∙◌, arith}
use Rattle.val_core.specs.declared.values.Value.{Value}
use Rattle.val_core.specs.declared.values.Value.TheVariants.{Num, At, Bad}
use Rattle.val_core.specs.Memory.{Memory}
use Rattle.val_core.specs.Objects.{address_in}
use Rattle.val_core.specs.Events.{Event, wrote, took, met, output, beneath, called}
use Rattle.val_core.specs.Answers.{Answer, Returned, Cut, Exited, Undefined, before, then_on, on_number, on_defined, active}
use Rattle.val_core.specs.Within.{Given}
use Rattle.val_core.proofs.lemmas.Answers.{added, before-is, before_twice, then_associates}
use Rattle.val_core.proofs.lemmas.Events.{output_appends, called_keeps_output}
use Rattle.c_typed.specs.Typed.{VariableTree, FunctionTree, ProgramTree}
use Rattle.c_typed.specs.WellTyped.{params_of}
use Rattle.c_mean.specs.Expressions.{Context, back_from, value_or_none}
use Rattle.c_mean.specs.Statements.{Flowed, items_run}
use Rattle.c_mean.specs.Run.{objects_of, params_in_scope, ended, function_run, nested, global_address, first_memory, finished, Ending, exit, cut, undefined, Heard, taken, heard_as}
use Rattle.c_interp_def.specs.Configurations.{Configuration, Reached, state_of, with_operands, gives_value, flows_on, variables_in, variables_of, object_sizes, context_of}
use Rattle.c_interp_def.specs.ExprTasks.{call, end_program, newest, expr_task_run}
use Rattle.c_interp_def.specs.StmtTasks.{of_expr, handler, end_call, task_run, tasks_run}
use Rattle.c_interp_def.specs.Laws.{normally}
use Rattle.c_interp_def.specs.CallLaws.{IsHeardAs, call_tasks, in_call, call_memory, call_entered, CallIsCut, CallEnters, at_start, RunIsTasks}
use Rattle.c_interp_def.proofs.Steps.{defined-then, defined-on}

-- ---- what is heard

taken-append : (o p : List Event) → taken (o ++ p) ≡ taken o + taken p
taken-append [] p = omega arith
taken-append (wrote b ∷ o) p = taken-append o p
taken-append (took b ∷ o) p = let h = taken-append o p in omega (arith, h)
taken-append (met s ∷ o) p = taken-append o p

taken-beneath : (f : ℕ) (o : List Event) → taken (beneath f o) ≡ taken o
taken-beneath f [] = refl
taken-beneath f (wrote b ∷ o) = taken-beneath f o
taken-beneath f (took b ∷ o) = ap (λ k. suc k) (taken-beneath f o)
taken-beneath f (met s ∷ o) = taken-beneath f o

-- two lists of events of which the same is heard
record SameEvents (o q : List Event) : Type 0 where
  written : output o ≡ output q
  bytes : taken o ≡ taken q

more-events : (o q r : List Event) → SameEvents o q → SameEvents (o ++ r) (q ++ r)
more-events o q r h = record {
  written = output_appends o r ∙ ap (λ l. l ++ output r) h.written ∙ sym (output_appends q r);
  bytes = taken-append o r ∙ ap (λ k. k + taken r) h.bytes ∙ sym (taken-append q r);
}

after-events : (o q r : List Event) → SameEvents q r → SameEvents (o ++ q) (o ++ r)
after-events o q r h = record {
  written = output_appends o q ∙ ap (λ l. output o ++ l) h.written ∙ sym (output_appends o r);
  bytes = taken-append o q ∙ ap (λ k. taken o + k) h.bytes ∙ sym (taken-append o r);
}

called-events : (f : ℕ) (o : List Event) → SameEvents (called f o) o
called-events f o = record { written = called_keeps_output f o; bytes = taken-beneath f o }

abbrev heard_with : List ℕ → Ending → List ℕ → ℕ → Heard
heard_with i e w t = record { output = w; rest = drop t i; ending = e }

same-added : {A : Type 0} (i : List ℕ) (o q : List Event) (a : Answer A) → SameEvents o q → heard_as i (added o a) ≡ heard_as i (added q a)
same-added i o q (Returned x r) h = let k = more-events o q r h in ap₂ (heard_with i undefined) k.written k.bytes
same-added i o q (Cut r) h = let k = more-events o q r h in ap₂ (heard_with i cut) k.written k.bytes
same-added i o q (Exited r s) h = let k = more-events o q r h in ap₂ (heard_with i (exit s)) k.written k.bytes
same-added i o q (Undefined r) h = let k = more-events o q r h in ap₂ (heard_with i undefined) k.written k.bytes

same-before : {A : Type 0} (i : List ℕ) (o q : List Event) (a : Answer A) → SameEvents o q → heard_as i (before o a) ≡ heard_as i (before q a)
same-before i o q a h = ap (heard_as i) (before-is o a) ∙ same-added i o q a h ∙ sym (ap (heard_as i) (before-is q a))

abbrev cut_in : (A : Type 0) → List Event → Answer A
cut_in A o = Cut o

abbrev exit_in : (A : Type 0) → List Event → ℕ → Answer A
exit_in A o s = Exited o s

abbrev undefined_in : (A : Type 0) → List Event → Answer A
undefined_in A o = Undefined o

-- what ended is heard as it is, with the same events
cut-same : (A B : Type 0) (i : List ℕ) (o e q : List Event) → SameEvents e q → heard_as i (before o (cut_in A e)) ≡ heard_as i (before o (cut_in B q))
cut-same A B i o e q h =
    let k = after-events o e q h in
    ap (heard_as i) (before-is o (cut_in A e)) ∙ ap₂ (heard_with i cut) k.written k.bytes ∙ sym (ap (heard_as i) (before-is o (cut_in B q)))

exit-same : (A B : Type 0) (i : List ℕ) (o e q : List Event) (s : ℕ) → SameEvents e q → heard_as i (before o (exit_in A e s)) ≡ heard_as i (before o (exit_in B q s))
exit-same A B i o e q s h =
    let k = after-events o e q h in
    ap (heard_as i) (before-is o (exit_in A e s)) ∙ ap₂ (heard_with i (exit s)) k.written k.bytes ∙ sym (ap (heard_as i) (before-is o (exit_in B q s)))

undefined-same : (A B : Type 0) (i : List ℕ) (o e q : List Event) → SameEvents e q → heard_as i (before o (undefined_in A e)) ≡ heard_as i (before o (undefined_in B q))
undefined-same A B i o e q h =
    let k = after-events o e q h in
    ap (heard_as i) (before-is o (undefined_in A e)) ∙ ap₂ (heard_with i undefined) k.written k.bytes ∙ sym (ap (heard_as i) (before-is o (undefined_in B q)))

same-itself : (e : List Event) → SameEvents e e
same-itself e = record { written = refl; bytes = refl }

-- an active call is heard as its body
active-then : {A B : Type 0} (f : ℕ) (a : Answer A) (next : A → Answer B) → IsHeardAs (then_on (active f a) next) (then_on a next)
active-then {A} {B} f (Returned x e) next i o =
    ap (heard_as i) (before_twice o (called f e) (next x)) ∙ same-before i (o ++ called f e) (o ++ e) (next x) (after-events o (called f e) e (called-events f e))
    ∙ sym (ap (heard_as i) (before_twice o e (next x)))
active-then {A} {B} f (Cut e) next i o = cut-same B B i o (called f e) e (called-events f e)
active-then {A} {B} f (Exited e s) next i o = exit-same B B i o (called f e) e s (called-events f e)
active-then {A} {B} f (Undefined e) next i o = undefined-same B B i o (called f e) e (called-events f e)

-- what follows is heard as what is heard of it at each result
then-heard : {A B C : Type 0} (a : Answer A) (f : A → Answer B) (g : A → Answer C) → ((x : A) → IsHeardAs (f x) (g x)) → IsHeardAs (then_on a f) (then_on a g)
then-heard {A} {B} {C} (Returned x e) f g h i o = ap (heard_as i) (before_twice o e (f x)) ∙ h x i (o ++ e) ∙ sym (ap (heard_as i) (before_twice o e (g x)))
then-heard {A} {B} {C} (Cut e) f g h i o = cut-same B C i o e e (same-itself e)
then-heard {A} {B} {C} (Exited e s) f g h i o = exit-same B C i o e e s (same-itself e)
then-heard {A} {B} {C} (Undefined e) f g h i o = undefined-same B C i o e e (same-itself e)

-- ---- calls

module _ (p : ProgramTree) (n f count k : ℕ) (x : Configuration) where
  abbrev given : List Value
  given = newest count x.operands

  -- the caller goes on with what the function gives
  abbrev back : Given (Option Value) → Answer Reached
  back g = then_on (back_from (state_of x) g) (gives_value (with_operands x (drop count x.operands)))

  abbrev body : Answer (Given (Option Value))
  body = function_run p n (nested p (global_address p) n k) (global_address p) (f == p.main) (slice_get p.functions f) given x.memory x.input

  -- the body with these variables, and what follows on it
  abbrev run_with : FunctionTree → List VariableTree → Memory → Answer Reached
  run_with fn vs m =
      then_on
      (items_run (record { bound = n; calls = nested p (global_address p) n k; addresses = record { local = address_in (length x.memory) (object_sizes p vs); global = global_address p } }) vs fn.body
      (record { slots = params_in_scope 0 (params_of fn) given; memory = m; input = x.input }))
      (λ q. then_on (ended (f == p.main) (length x.memory) (length (objects_of p.structs vs)) q) back)

  body-law : (o : Option FunctionTree) → slice_get p.functions f ≡ o →
      then_on (function_run p n (nested p (global_address p) n k) (global_address p) (f == p.main) o given x.memory x.input) back ≡ call_entered p n x f count k o
  body-law None e = refl
  body-law (Some fn) e =
      let stored : Option Memory = call_memory p x count fn in
      let c : Context = record {
        bound = n;
        calls = nested p (global_address p) n k;
        addresses = record
            { local = address_in (length x.memory) (object_sizes p fn.variables); global = global_address p };
      } in
      let began : Memory → Answer Flowed = λ m. items_run c fn.variables fn.body (record { slots = params_in_scope 0 (params_of fn) given; memory = m; input = x.input }) in
      let ends : Flowed → Answer (Given (Option Value)) = ended (f == p.main) (length x.memory) (length (objects_of p.structs fn.variables)) in
      let tasks : Memory → Answer Reached = λ m. tasks_run p n (call_tasks fn) (normally (in_call x f count k fn m)) in
      defined-then stored (λ m. then_on (began m) ends) back
      ∙ defined-on stored (λ m. then_on (then_on (began m) ends) back) tasks
      (λ m.
      let y : Configuration = in_call x f count k fn m in
      then_associates (began m) ends back
      ∙ sym (ap (λ vs. run_with fn vs m) (ap variables_in e))
      ∙ sym (then_associates (items_run (context_of p n y.frame) (variables_of p f) fn.body (state_of y)) (flows_on y) (task_run p n (handler end_call))))

  call-law : (rest : Reached → Answer Reached) → x.frame.depth ≡ suc k →
      IsHeardAs (then_on (expr_task_run p n (call f count) x) rest) (then_on (call_entered p n x f count k (slice_get p.functions f)) rest)
  call-law rest e i o =
      ap (λ d. heard_as i (before o (then_on (then_on (nested p (global_address p) n d f given x.memory x.input) back) rest))) e
      ∙ ap (λ a. heard_as i (before o a)) (then_associates (active f body) back rest)
      ∙ active-then f body (λ g. then_on (back g) rest) i o
      ∙ ap (λ a. heard_as i (before o a)) (sym (then_associates body back rest) ∙ ap (λ a. then_on a rest) (body-law (slice_get p.functions f) refl))

pub call-is-cut : CallIsCut
call-is-cut p n f count x e =
    ap (λ d. then_on (nested p (global_address p) n d f (newest count x.operands) x.memory x.input) (back p n f count 0 x)) e

pub call-enters : CallEnters
call-enters p n f count k x rest e = call-law p n f count k x rest e

-- ---- the run

last-value : (v : Option Value) → IsHeardAs {A = Given (Option Value)} {B = Reached} (on_defined v (λ u. on_number u (λ w. Exited [] (w % 256))))
    (on_number (value_or_none v) (λ w. Exited [] (w % 256)))
last-value None i o = undefined-same (Given (Option Value)) Reached i o [] [] (same-itself [])
last-value (Some (Num w)) i o = exit-same (Given (Option Value)) Reached i o [] [] (w % 256) (same-itself [])
last-value (Some (At b q)) i o = undefined-same (Given (Option Value)) Reached i o [] [] (same-itself [])
last-value (Some Bad) i o = undefined-same (Given (Option Value)) Reached i o [] [] (same-itself [])

pub run-is-tasks : RunIsTasks
run-is-tasks p n input i o =
    let x : Configuration = at_start p n input in
    let main : Answer (Given (Option Value)) = nested p (global_address p) n (suc n) p.main [] (first_memory p) input in
    let end : Reached → Answer Reached = task_run p n (of_expr end_program) in
    then-heard main finished (λ g. then_on (back p n p.main 0 0 x g) end) (λ g. last-value g.value) i o
    ∙ ap (λ a. heard_as i (before o a)) (sym (then_associates main (back p n p.main 0 0 x) end))
