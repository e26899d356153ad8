-- Runs, one after another.
use Rattle.std.proofs.Common.{◌≡◌, ℕ, zero, suc, ◌+◌, ◌-◌, ◌≤◌, List, [], ◌∷◌, ◌++◌, Some, None, refl, sym, ap, ◌∙◌, append_assoc, arith}
use Rattle.std.proofs.lemmas.List.{append-nil}
use Rattle.rv_isa.specs.Encodings.{decoded}
use Rattle.rv_isa.specs.declared.instruction.Instr.{Instr}
use Rattle.rv_machine.specs.Machine.{State, Ending, Effect, next, stop, put, get, next_effect, fetched, act, act_fetched, act_decoded}
use Rattle.rv_machine.specs.Run.{Hart, running, ended, RunResult, Onward, standing, after_output, follow, run_state, run}
use Rattle.rv_machine.specs.Laws.{then_run, RunsAdd, EndedStays, OutputGrows, InputShrinks, RunGoesOn, ReachesOnwards, StepReaches, StepEnds, StepWrites, StepReads, StepReadsEnd}

after_output-after_output : (xs ys : List ℕ) (o : RunResult) → after_output (xs ++ ys) o ≡ after_output xs (after_output ys o)
after_output-after_output xs ys o = ap (λ out. record { hart = o.hart; output = out; rest = o.rest }) (append_assoc xs ys o.output)

pub run-ended : (flags : ℕ → ℕ) (n : ℕ) (e : Ending) (input : List ℕ) → run flags n (ended e) input ≡ standing (ended e) input
unfolding run
run-ended flags n e input = refl

run-running : (flags : ℕ → ℕ) (n : ℕ) (s : State) (input : List ℕ) → run flags n (running s) input ≡ run_state flags n s input
unfolding run
run-running flags n s input = refl

pub run_state-zero : (flags : ℕ → ℕ) (s : State) (input : List ℕ) → run_state flags 0 s input ≡ standing (running s) input
unfolding run_state
run_state-zero flags s input = refl

run_state-suc : (flags : ℕ → ℕ) (n : ℕ) (s : State) (input : List ℕ)
    → run_state flags (suc n) s input ≡ follow (next_effect flags s) (run_state flags n) input
unfolding run_state
run_state-suc flags n s input = refl

pub run-zero : (flags : ℕ → ℕ) (h : Hart) (input : List ℕ) → run flags 0 h input ≡ standing h input
run-zero flags (running s) input = run-running flags 0 s input ∙ run_state-zero flags s input
run-zero flags (ended e) input = run-ended flags 0 e input

then-standing : (flags : ℕ → ℕ) (m : ℕ) (e : Ending) (input : List ℕ) → then_run flags m (standing (ended e) input) ≡ standing (ended e) input
then-standing flags m e input = ap (after_output []) (run-ended flags m e input)

follow_then : (flags : ℕ → ℕ) (m : ℕ) (effect : Effect) (onward onward' : Onward) (input : List ℕ)
    → ((s : State) (i : List ℕ) → onward s i ≡ then_run flags m (onward' s i))
    → follow effect onward input ≡ then_run flags m (follow effect onward' input)
follow_then flags m (next s) onward onward' input h = h s input
follow_then flags m (stop e) onward onward' input h = sym (then-standing flags m e input)
follow_then flags m (put byte s) onward onward' input h =
    let o : RunResult = onward' s input in
    ap (after_output (byte ∷ [])) (h s input) ∙ sym (after_output-after_output (byte ∷ []) o.output (run flags m o.hart o.rest))
follow_then flags m (get received) onward onward' [] h = h (received None) []
follow_then flags m (get received) onward onward' (byte ∷ input) h = h (received (Some byte)) input

run_states_add : (flags : ℕ → ℕ) (n m : ℕ) (s : State) (input : List ℕ)
    → run_state flags (n + m) s input ≡ then_run flags m (run_state flags n s input)
run_states_add flags zero m s input =
    let same : zero + m ≡ m = omega arith in
    ap (λ k. run_state flags k s input) same
    ∙ sym (run-running flags m s input)
    ∙ sym (ap (then_run flags m) (run_state-zero flags s input))
run_states_add flags (suc n) m s input =
    let same : suc n + m ≡ suc (n + m) = omega arith in
    ap (λ k. run_state flags k s input) same
    ∙ run_state-suc flags (n + m) s input
    ∙ follow_then flags m (next_effect flags s) (run_state flags (n + m)) (run_state flags n) input (λ t i. run_states_add flags n m t i)
    ∙ sym (ap (then_run flags m) (run_state-suc flags n s input))

pub runs_add : RunsAdd
runs_add flags n m (running s) input =
    run-running flags (n + m) s input ∙ run_states_add flags n m s input ∙ sym (ap (then_run flags m) (run-running flags n s input))
runs_add flags n m (ended e) input =
    run-ended flags (n + m) e input ∙ sym (then-standing flags m e input) ∙ sym (ap (then_run flags m) (run-ended flags n e input))

-- m instructions are n, and then those that are left
longer : (flags : ℕ → ℕ) (n m : ℕ) (h : Hart) (input : List ℕ) → n ≤ m
    → run flags m h input ≡ then_run flags (m - n) (run flags n h input)
longer flags n m h input le =
    let same : m ≡ n + (m - n) = omega arith in
    ap (λ k. run flags k h input) same ∙ runs_add flags n (m - n) h input

ended-after_output : (flags : ℕ → ℕ) (k : ℕ) (o : RunResult) (e : Ending) → o.hart ≡ ended e → then_run flags k o ≡ o
ended-after_output flags k o e is =
    ap (λ h. after_output o.output (run flags k h o.rest)) is
    ∙ ap (after_output o.output) (run-ended flags k e o.rest)
    ∙ ap (λ h. record { hart = h; output = o.output ++ []; rest = o.rest }) (sym is)
    ∙ ap (λ out. record { hart = o.hart; output = out; rest = o.rest }) (append-nil o.output)

pub ended_stays : EndedStays
ended_stays flags n m h input e is le =
    longer flags n m h input le ∙ ended-after_output flags (m - n) (run flags n h input) e is

pub output_grows : OutputGrows
output_grows flags n m h input le =
    let o : RunResult = run flags n h input in
    ((run flags (m - n) o.hart o.rest).output, ap (λ a. a.output) (longer flags n m h input le))

rest-follow : (effect : Effect) (onward : Onward) (input : List ℕ)
    → ((s : State) (i : List ℕ) → (taken : List ℕ) × (i ≡ taken ++ (onward s i).rest))
    → (taken : List ℕ) × (input ≡ taken ++ (follow effect onward input).rest)
rest-follow (next s) onward input h = h s input
rest-follow (stop e) onward input h = ([], refl)
rest-follow (put byte s) onward input h = h s input
rest-follow (get received) onward [] h = h (received None) []
rest-follow (get received) onward (byte ∷ input) h =
    let part : (taken : List ℕ) × (input ≡ taken ++ (onward (received (Some byte)) input).rest) = h (received (Some byte)) input in
    (byte ∷ part.0, ap (λ i. byte ∷ i) part.1)

rest-state : (flags : ℕ → ℕ) (n : ℕ) (s : State) (input : List ℕ) → (taken : List ℕ) × (input ≡ taken ++ (run_state flags n s input).rest)
unfolding run_state
rest-state flags zero s input = ([], refl)
rest-state flags (suc n) s input = rest-follow (next_effect flags s) (run_state flags n) input (λ t i. rest-state flags n t i)

rest-run : (flags : ℕ → ℕ) (n : ℕ) (h : Hart) (input : List ℕ) → (taken : List ℕ) × (input ≡ taken ++ (run flags n h input).rest)
unfolding run
rest-run flags n (running s) input = rest-state flags n s input
rest-run flags n (ended e) input = ([], refl)

pub input_shrinks : InputShrinks
input_shrinks flags n m h input le =
    let o : RunResult = run flags n h input in
    let part : (taken : List ℕ) × (o.rest ≡ taken ++ (run flags (m - n) o.hart o.rest).rest) = rest-run flags (m - n) o.hart o.rest in
    (part.0, part.1 ∙ ap (λ a. part.0 ++ a.rest) (sym (longer flags n m h input le)))

pub run_goes_on : RunGoesOn
run_goes_on flags n k s t input written rest reaches =
    runs_add flags n k (running s) input ∙ ap (then_run flags k) reaches.to

pub reaches_onwards : ReachesOnwards
reaches_onwards flags n m s t u input written rest more rest' first second = record {
  to = run_goes_on flags n m s t input written rest first ∙ ap (after_output written) second.to;
}

-- what the instruction at pc does
effect-is : (flags : ℕ → ℕ) (s : State) (w : ℕ) (i : Instr) → fetched flags s ≡ Some w → decoded w ≡ Some i → next_effect flags s ≡ act flags i s
unfolding next_effect
effect-is flags s w i fetch is = ap (λ f. act_fetched flags f s) fetch ∙ ap (λ d. act_decoded flags d s) is

one-run : (flags : ℕ → ℕ) (n : ℕ) (s : State) (effect : Effect) (input : List ℕ) → next_effect flags s ≡ effect
    → run flags (suc n) (running s) input ≡ follow effect (run_state flags n) input
one-run flags n s effect input is =
    run-running flags (suc n) s input ∙ run_state-suc flags n s input ∙ ap (λ m. follow m (run_state flags n) input) is

pub step_reaches : StepReaches
step_reaches flags s t w i input fetch is does = record {
  to = one-run flags 0 s (next t) input (effect-is flags s w i fetch is ∙ does) ∙ run_state-zero flags t input;
}

pub step_ends : StepEnds
step_ends flags n s w i e input fetch is does = one-run flags n s (stop e) input (effect-is flags s w i fetch is ∙ does)

pub step_writes : StepWrites
step_writes flags s t w i byte input fetch is does = record {
  to = one-run flags 0 s (put byte t) input (effect-is flags s w i fetch is ∙ does) ∙ ap (after_output (byte ∷ [])) (run_state-zero flags t input);
}

pub step_reads : StepReads
step_reads flags s w i received byte input fetch is does = record {
  to = one-run flags 0 s (get received) (byte ∷ input) (effect-is flags s w i fetch is ∙ does) ∙ run_state-zero flags (received (Some byte)) input;
}

pub step_reads_end : StepReadsEnd
step_reads_end flags s w i received fetch is does = record {
  to = one-run flags 0 s (get received) [] (effect-is flags s w i fetch is ∙ does) ∙ run_state-zero flags (received None) [];
}

-- one instruction of any hart
pub run-one : (flags : ℕ → ℕ) (s : State) (input : List ℕ) → run flags 1 (running s) input ≡ follow (next_effect flags s) (run_state flags 0) input
run-one flags s input = one-run flags 0 s (next_effect flags s) input refl
