-- Where the machine comes to, with nothing written and nothing read, and what it does where an answer of linear code says what to do.
use Rattle.std.specs.Prelude.{◌≡◌, ℕ, ◌<◌, ◌≤◌, List, []}
use Rattle.val_core.specs.Answers.{Answer, Returned, Cut, Exited, Undefined}
use Rattle.val_core.specs.Events.{Event, output, deepest, IsPrefixOf}
use Rattle.rv_machine.specs.Laws.{Reaches}
use Rattle.rv_machine.specs.Machine.{State, exit, stack}
use Rattle.rv_machine.specs.Run.{run, running, ended, standing}
use Rattle.rv_machine.specs.Standing.{Text}
use Rattle.s_linear.specs.Meaning as linear
use Rattle.s_select_keeps.specs.Relation.{Frame, Represents}

-- from one state to another, on every input
pub record Steps (flags : ℕ → ℕ) (s t : State) : Type 0 where
  pub count : ℕ
  pub reaches : (input : List ℕ) → Reaches flags count s input [] t input

-- to address b, where the machine stands for a state of linear code
pub record Arrives (text : Text) (f : Frame) (b : ℕ) (q : linear.State) (s : State) : Type 0 where
  pub state : State
  pub steps : Steps text.flags s state
  pub pc : state.pc ≡ b
  pub shows : Represents text f q state

-- to the end of the run, with a status
pub record Exits (flags : ℕ → ℕ) (s : State) (status : ℕ) : Type 0 where
  pub count : ℕ
  pub runs : (input : List ℕ) → run flags count (running s) input ≡ standing (ended (exit status)) input

-- ---- by answers

-- To address b, where the machine stands for a state of linear code: it has written what these events write, and what is left of
-- the input is what the state of linear code has left.
pub record Comes (text : Text) (f : Frame) (b : ℕ) (q : linear.State) (did : List Event) (s : State) (input : List ℕ) : Type 0 where
  pub state : State
  pub count : ℕ
  pub reaches : Reaches text.flags count s input (output did) state q.input
  pub pc : state.pc ≡ b
  pub shows : Represents text f q state

-- to the end of the run, with a status, after these events
pub record Ends (flags : ℕ → ℕ) (did : List Event) (status : ℕ) (s : State) (input : List ℕ) : Type 0 where
  pub count : ℕ
  pub rest : List ℕ
  pub runs : run flags count (running s) input ≡ record { hart = ended (exit status); output = output did; rest = rest }

-- so many instructions at least are done, and these events alone
pub record GoesOn (flags : ℕ → ℕ) (least : ℕ) (did : List Event) (s : State) (input : List ℕ) : Type 0 where
  pub state : State
  pub count : ℕ
  pub rest : List ℕ
  pub enough : least ≤ count
  pub reaches : Reaches flags count s input (output did) state rest

-- The run ends with the status of the stack: what it has written begins what these events write, and of the stacks of calls that
-- they meet the frames of one are larger together than what the stack has left.
pub record Exceeds (flags sizes : ℕ → ℕ) (left : ℕ) (did : List Event) (s : State) (input : List ℕ) : Type 0 where
  pub count : ℕ
  pub written : List ℕ
  pub rest : List ℕ
  pub runs : run flags count (running s) input ≡ record { hart = ended stack; output = written; rest = rest }
  pub begins : IsPrefixOf written (output did)
  pub more : left < deepest sizes did

-- The machine does what an answer of linear code says, up to address b: where the bound cuts the answer, it does so many
-- instructions at least. An answer without meaning says nothing.
abbrev pub Follows : Text → Frame → (b least : ℕ) → Answer linear.State → State → (input : List ℕ) → Type 0
Follows text f b least (Returned q did) s input = Comes text f b q did s input
Follows text f b least (Cut did) s input = GoesOn text.flags least did s input
Follows text f b least (Exited did status) s input = Ends text.flags did status s input
Follows text f b least (Undefined did) s input = Unit {0}
