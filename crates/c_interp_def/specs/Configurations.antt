-- Where a run of a source program stands between two tasks: the calls that are active, the operands that wait, the memory and
-- the input.
use Rattle.std.specs.Prelude.{ℕ, List, [], ◌∷◌, map, slice_get, Option, None, Some}
use Rattle.val_core.specs.declared.values.Value.{Value}
use Rattle.val_core.specs.Memory.{Memory}
use Rattle.val_core.specs.Objects.{address_in}
use Rattle.val_core.specs.Answers.{Answer, Returned, Undefined}
use Rattle.c_typed.specs.Typed.{VariableTree, FunctionTree, ProgramTree}
use Rattle.c_mean.specs.State.{Slot, State, Valued}
use Rattle.c_mean.specs.Expressions.{Context}
use Rattle.c_mean.specs.Statements.{Flow, normal, Flowed}
use Rattle.c_mean.specs.Run.{objects_of, nested, global_address}

-- A call that is active: its function, the number of its first block, how deep calls within it may nest, and its variables
-- in scope.
pub record Frame : Type 0 where
  pub function : ℕ
  pub first : ℕ
  pub depth : ℕ
  pub slots : List Slot

-- the newest call, those that wait for it, the operands, newest first, the memory, and what is left of the input
pub record Configuration : Type 0 where
  pub frame : Frame
  pub callers : List Frame
  pub operands : List Value
  pub memory : Memory
  pub input : List ℕ

-- a configuration, and whether a jump is on its way to what it ends
pub record Reached : Type 0 where
  pub flow : Flow
  pub at : Configuration

abbrev pub reaches : Flow → Configuration → Answer Reached
reaches f x = Returned (record { flow = f; at = x }) []

-- ---- parts of a configuration

abbrev pub state_of : Configuration → State
state_of x = record { slots = x.frame.slots; memory = x.memory; input = x.input }

abbrev pub with_slots : Frame → List Slot → Frame
with_slots f slots = record { function = f.function; first = f.first; depth = f.depth; slots = slots }

abbrev pub with_state : Configuration → State → Configuration
with_state x s = record { frame = with_slots x.frame s.slots; callers = x.callers; operands = x.operands; memory = s.memory; input = s.input }

abbrev pub with_operands : Configuration → List Value → Configuration
with_operands x vs = record { frame = x.frame; callers = x.callers; operands = vs; memory = x.memory; input = x.input }

-- one more operand, and the state after it
abbrev pub with_value : Configuration → Valued → Configuration
with_value x r = record { frame = with_slots x.frame r.state.slots; callers = x.callers; operands = r.value ∷ x.operands; memory = r.state.memory; input = r.state.input }

abbrev pub gives_value : Configuration → Valued → Answer Reached
gives_value x r = reaches normal (with_value x r)

abbrev pub goes_on_at : Configuration → State → Answer Reached
goes_on_at x s = reaches normal (with_state x s)

abbrev pub flows_on : Configuration → Flowed → Answer Reached
flows_on x r = reaches r.flow (with_state x r.state)

-- ---- operands

-- What takes an operand is undefined where there is none.
abbrev pub on_top : List Value → (Value → List Value → Answer Reached) → Answer Reached
on_top [] next = Undefined []
on_top (v ∷ vs) next = next v vs

abbrev pub on_operand : Configuration → (Value → Configuration → Answer Reached) → Answer Reached
on_operand x next = on_top x.operands (λ v vs. next v (with_operands x vs))

-- the second operand is the newer one
abbrev pub on_operands : Configuration → (Value → Value → Configuration → Answer Reached) → Answer Reached
on_operands x next = on_top x.operands (λ b vs. on_top vs (λ a us. next a b (with_operands x us)))

abbrev pub on_three : Configuration → (Value → Value → Value → Configuration → Answer Reached) → Answer Reached
on_three x next = on_top x.operands (λ c vs. on_top vs (λ b us. on_top us (λ a ws. next a b c (with_operands x ws))))

-- ---- the program

abbrev pub variables_in : Option FunctionTree → List VariableTree
variables_in None = []
variables_in (Some f) = f.variables

-- the variables of the function of this number
abbrev pub variables_of : ProgramTree → (function : ℕ) → List VariableTree
variables_of p f = variables_in (slice_get p.functions f)

abbrev pub object_sizes : ProgramTree → List VariableTree → List ℕ
object_sizes p vs = map (λ o. o.size) (objects_of p.structs vs)

-- what the parts of a call take from outside, where loops take at most so many turns
abbrev pub context_of : ProgramTree → (bound : ℕ) → Frame → Context
context_of p n f = record {
  bound = n;
  calls = nested p (global_address p) n f.depth;
  addresses = record { local = address_in f.first (object_sizes p (variables_of p f.function)); global = global_address p };
}
