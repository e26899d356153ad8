-- What was heard of a run is what it did.
use Rattle.std.proofs.Common.{◌≡◌, ◌≢◌, ℕ, ◌%◌, List, [], ◌++◌, drop, Option, None, Some, refl, ap, subst, ◌∙◌}
use Rattle.std.proofs.lemmas.List.{take-append-drop}
use Rattle.val_core.specs.declared.values.Value.{Value}
use Rattle.val_core.specs.declared.values.Value.TheVariants.{Num, At, Bad}
use Rattle.val_core.specs.Events.{output, IsPrefixOf}
use Rattle.val_core.specs.Answers.{Answer, Returned, Cut, Exited, Undefined, on_number, on_defined, events, IsUndefined, Gives}
use Rattle.val_core.specs.Within.{Given}
use Rattle.val_core.proofs.lemmas.Events.{prefix-self, prefix-output}
use Rattle.val_core.proofs.lemmas.Answers.{gives-then}
use Rattle.c_typed.specs.Typed.{ProgramTree}
use Rattle.c_mean.specs.Run.{call_run, global_address, first_memory, finished, run, cut, undefined, taken, heard_as}
use Rattle.c_mean.specs.RunLaws.{Extends, taken_bytes, TakesInput, HearsAnswer, HeardIsRun, HeardIsUndefined, HeardExtends}
use Rattle.c_mean.proofs.ExtendRuns.{runs_extend}
use Rattle.c_mean.proofs.TakenExpressions.{of_given}
use Rattle.c_mean.proofs.TakenRuns.{runs_take_input}

abbrev Never : Given (Option Value) → Type 0
Never x = ⊥

number-ends : (v : Value) → Gives Never (on_number {A = Given (Option Value)} v (λ w. Exited [] (w % 256)))
number-ends (Num w) = tt
number-ends (At b o) = tt
number-ends Bad = tt

value-ends : (v : Option Value) → Gives Never (on_defined {A = Given (Option Value)} v (λ x. on_number x (λ w. Exited [] (w % 256))))
value-ends None = tt
value-ends (Some v) = number-ends v

given-any : {A : Type 0} (a : Answer A) → Gives (λ x. Unit {0}) a
given-any (Returned x o) = tt
given-any (Cut o) = tt
given-any (Exited o s) = tt
given-any (Undefined o) = tt

run-ends : (n : ℕ) (p : ProgramTree) (i : List ℕ) → Gives Never (run n p i)
run-ends n p i =
    let main = call_run p (global_address p) n p.main [] (first_memory p) i in
    gives-then (λ x. Unit {0}) Never main finished (given-any main) (λ g u. value-ends g.value)

left-over : {A : Type 0} (rest : A → List ℕ) (i : List ℕ) (a : Answer A) → TakesInput rest i a → taken_bytes (events a) ++ drop (taken (events a)) i ≡ i
left-over rest i (Returned x o) h = ap (λ l. l ++ drop (taken o) i) h.0 ∙ take-append-drop (taken o) i
left-over rest i (Cut o) h = ap (λ l. l ++ drop (taken o) i) h ∙ take-append-drop (taken o) i
left-over rest i (Exited o s) h = ap (λ l. l ++ drop (taken o) i) h ∙ take-append-drop (taken o) i
left-over rest i (Undefined o) h = ap (λ l. l ++ drop (taken o) i) h ∙ take-append-drop (taken o) i

hears : (rest : Given (Option Value) → List ℕ) (i : List ℕ) (a : Answer (Given (Option Value))) → TakesInput rest i a → Gives Never a → HearsAnswer i a (heard_as i a)
hears rest i (Returned x o) h k = absurd k
hears rest i (Cut o) h k = (refl, left-over rest i (Cut o) h, refl)
hears rest i (Exited o s) h k = (refl, left-over rest i (Exited o s) h, refl)
hears rest i (Undefined o) h k = (refl, left-over rest i (Undefined o) h, refl)

pub heard_is_run : HeardIsRun
heard_is_run n p i = hears of_given i (run n p i) (runs_take_input n p i) (run-ends n p i)

same-undefined : (i : List ℕ) (a : Answer (Given (Option Value))) → Gives Never a → (IsUndefined a → (heard_as i a).ending ≡ undefined) × ((heard_as i a).ending ≡ undefined → IsUndefined a)
same-undefined i (Returned x o) k = absurd k
same-undefined i (Cut o) k = (λ h. absurd h, λ e. cc)
same-undefined i (Exited o s) k = (λ h. absurd h, λ e. cc)
same-undefined i (Undefined o) k = (λ h. refl, λ e. tt)

pub heard_is_undefined : HeardIsUndefined
heard_is_undefined n p i = same-undefined i (run n p i) (run-ends n p i)

output-heard : {A : Type 0} (i : List ℕ) (a : Answer A) → output (events a) ≡ (heard_as i a).output
output-heard i (Returned x o) = refl
output-heard i (Cut o) = refl
output-heard i (Exited o s) = refl
output-heard i (Undefined o) = refl

begins-itself : {A : Type 0} (i : List ℕ) (a b : Answer A) → a ≡ b → IsPrefixOf (heard_as i a).output (heard_as i b).output
begins-itself i a b e = subst (λ x. IsPrefixOf (heard_as i a).output (heard_as i x).output) e (prefix-self (heard_as i a).output)

hears-more : {A : Type 0} (i : List ℕ) (a b : Answer A) → Extends a b →
    ((heard_as i a).ending ≢ cut → heard_as i a ≡ heard_as i b) × IsPrefixOf (heard_as i a).output (heard_as i b).output
hears-more i (Returned x o) b h = (λ c. ap (heard_as i) h, begins-itself i (Returned x o) b h)
hears-more i (Cut o) b h = (λ c. absurd (c refl), subst (λ l. IsPrefixOf (output o) l) (output-heard i b) (prefix-output o (events b) h))
hears-more i (Exited o s) b h = (λ c. ap (heard_as i) h, begins-itself i (Exited o s) b h)
hears-more i (Undefined o) b h = (λ c. ap (heard_as i) h, begins-itself i (Undefined o) b h)

pub heard_extends : HeardExtends
heard_extends n m p i order = hears-more i (run n p i) (run m p i) (runs_extend n m p i order)
