-- Laws of runs.
use Rattle.std.specs.Prelude.{◌≡◌, ℕ, suc, ◌+◌, ◌≤◌, List, [], ◌∷◌, ◌++◌, Option, Some, None}
use Rattle.rv_isa.specs.Encodings.{decoded}
use Rattle.rv_isa.specs.declared.instruction.Instr.{Instr}
use Rattle.rv_machine.specs.Machine.{State, Ending, act, fetched, next, put, get, stop}
use Rattle.rv_machine.specs.Run.{Hart, running, ended, RunResult, standing, after_output, run}

-- what follows a result in this many further instructions
abbrev pub then_run : (flags : ℕ → ℕ) → ℕ → RunResult → RunResult
then_run flags m o = after_output o.output (run flags m o.hart o.rest)

-- n + m instructions are n instructions and then m.
abbrev pub RunsAdd : Type 0
RunsAdd = (flags : ℕ → ℕ) (n m : ℕ) (h : Hart) (input : List ℕ)
    → run flags (n + m) h input ≡ then_run flags m (run flags n h input)

-- An ended run stays as it is.
abbrev pub EndedStays : Type 0
EndedStays = (flags : ℕ → ℕ) (n m : ℕ) (h : Hart) (input : List ℕ) (e : Ending)
    → (run flags n h input).hart ≡ ended e → n ≤ m → run flags m h input ≡ run flags n h input

-- A longer run only extends the output, and takes further from the input.
abbrev pub OutputGrows : Type 0
OutputGrows = (flags : ℕ → ℕ) (n m : ℕ) (h : Hart) (input : List ℕ) → n ≤ m
    → (more : List ℕ) × ((run flags m h input).output ≡ (run flags n h input).output ++ more)

abbrev pub InputShrinks : Type 0
InputShrinks = (flags : ℕ → ℕ) (n m : ℕ) (h : Hart) (input : List ℕ) → n ≤ m
    → (taken : List ℕ) × ((run flags n h input).rest ≡ taken ++ (run flags m h input).rest)

-- n instructions reach from a state and its input another state and its input, and write these bytes
pub record Reaches (flags : ℕ → ℕ) (n : ℕ) (s : State) (input : List ℕ) (written : List ℕ) (t : State) (rest : List ℕ) : Type 0 where
  pub to : run flags n (running s) input ≡ record { hart = running t; output = written; rest = rest }

-- The rest of a run is the run from the state that was reached.
abbrev pub RunGoesOn : Type 0
RunGoesOn = (flags : ℕ → ℕ) (n k : ℕ) (s t : State) (input written rest : List ℕ)
    → Reaches flags n s input written t rest
    → run flags (n + k) (running s) input ≡ after_output written (run flags k (running t) rest)

abbrev pub ReachesOnwards : Type 0
ReachesOnwards = (flags : ℕ → ℕ) (n m : ℕ) (s t u : State) (input written rest more rest' : List ℕ)
    → Reaches flags n s input written t rest → Reaches flags m t rest more u rest'
    → Reaches flags (n + m) s input (written ++ more) u rest'

-- One step forward: the word at pc, the instruction that it is, and what that does.
abbrev pub StepReaches : Type 0
StepReaches = (flags : ℕ → ℕ) (s t : State) (w : ℕ) (i : Instr) (input : List ℕ)
    → fetched flags s ≡ Some w → decoded w ≡ Some i → act flags i s ≡ next t
    → Reaches flags 1 s input [] t input

abbrev pub StepEnds : Type 0
StepEnds = (flags : ℕ → ℕ) (n : ℕ) (s : State) (w : ℕ) (i : Instr) (e : Ending) (input : List ℕ)
    → fetched flags s ≡ Some w → decoded w ≡ Some i → act flags i s ≡ stop e
    → run flags (suc n) (running s) input ≡ standing (ended e) input

abbrev pub StepWrites : Type 0
StepWrites = (flags : ℕ → ℕ) (s t : State) (w : ℕ) (i : Instr) (byte : ℕ) (input : List ℕ)
    → fetched flags s ≡ Some w → decoded w ≡ Some i → act flags i s ≡ put byte t
    → Reaches flags 1 s input (byte ∷ []) t input

abbrev pub StepReads : Type 0
StepReads = (flags : ℕ → ℕ) (s : State) (w : ℕ) (i : Instr) (received : Option ℕ → State) (byte : ℕ) (input : List ℕ)
    → fetched flags s ≡ Some w → decoded w ≡ Some i → act flags i s ≡ get received
    → Reaches flags 1 s (byte ∷ input) [] (received (Some byte)) input

abbrev pub StepReadsEnd : Type 0
StepReadsEnd = (flags : ℕ → ℕ) (s : State) (w : ℕ) (i : Instr) (received : Option ℕ → State)
    → fetched flags s ≡ Some w → decoded w ≡ Some i → act flags i s ≡ get received
    → Reaches flags 1 s [] [] (received None) []
