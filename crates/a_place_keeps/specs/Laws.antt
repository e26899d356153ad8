-- What holds of code over places.
use Rattle.std.specs.Prelude.{◌≡◌, ◌≤◌, ℕ, Bool, false, List, [], ◌∷◌, map}
use Rattle.val_core.specs.declared.values.Value.{Value}
use Rattle.val_core.specs.Memory.{Memory}
use Rattle.s_linear.specs.Linear.{Step, plain, choice, loop, Code, no_steps, step_then, Codes, no_codes, code_then, LinearFunction}
use Rattle.s_linear.specs.Lines.{Line, counted, code_lines}
use Rattle.s_linear.specs.Meaning.{State, Context, none_lost, code_run, calls}
use Rattle.g_graph.specs.Plain.{PlainLambda}
use Rattle.g_graph.specs.WellFormed.{IsWellFormed}
use Rattle.g_mean.specs.Kinds.{AreWellFormed}
use Rattle.g_mean.specs.Copies.{Same}
use Rattle.s_sequence.specs.Sequence.{sequenced}
use Rattle.a_place.specs.Places.{last}
use Rattle.a_place.specs.Placed.{PlacedFunction, placed_code, placed_at, placed, placed_calls}
use Rattle.a_place.specs.Share.{shared}
use Rattle.a_place.specs.Turns.{HasOwnTurns}
use Rattle.s_sequence_keeps.specs.Closed.{NameSet, after_code, CodeIsClosed, FunctionIsClosed}
use Rattle.a_place_keeps.specs.Need.{IsIn, these, needed_by_code, SafeCode}
use Rattle.a_place_keeps.specs.Spans.{StandAt, IsBegunAt, ArePlacesApart, SpansCode}

-- the place of each of these names holds what the name holds; memory and input are the same
pub record Holds (place : ℕ → ℕ) (N : NameSet) (s q : State) : Type 0 where
  pub values : (x : ℕ) → N x → s.names x ≡ q.names (place x)
  pub memory : s.memory ≡ q.memory
  pub input : s.input ≡ q.input

-- a context whose calls lose these names
abbrev pub losing : (lost : ℕ → Bool) → Context → Context
losing lost c = record { bound = c.bound; call = c.call; lost = lost; addresses = c.addresses }

-- Safe code does the same over places, of which calls lose some: where what it needs holds in its place what it holds as a name, so
-- does what is needed after it, and events, memory, input and status are equal.
abbrev pub SafeCodeDoesTheSame : Type 0
SafeCodeDoesTheSame =
    (context : Context) (place : ℕ → ℕ) (lost : ℕ → Bool) (code : Code) (after : List ℕ) (s q : State) → SafeCode place lost code (these after)
    → Holds place (needed_by_code code (these after)) s q
    → Same (Holds place (these after)) (code_run (losing none_lost context) code s) (code_run (losing lost context) (placed_code place code) q)

-- Places that are apart, of which calls lose none, are safe for closed code that the intervals span: what was written before has started,
-- and what is needed after goes on to the end and was written before or by the code.
abbrev pub PlacesApartAreSafe : Type 0
PlacesApartAreSafe =
    (lines : List Line) (place : ℕ → ℕ) (lost : ℕ → Bool) (code : Code) (before after : List ℕ) (a b : ℕ) → ArePlacesApart lines place
    → ((p : ℕ) → lost p ≡ false) → SpansCode lines a code b
    → CodeIsClosed (these before) code → ((x : ℕ) → IsIn x before → IsBegunAt lines x a) → ((x : ℕ) → IsIn x after → b ≤ last x lines)
    → ((x : ℕ) → IsIn x after → after_code (these before) code x) → SafeCode place lost code (these after)

-- The intervals of a list of lines span each code whose lines stand in it.
abbrev pub IntervalsSpanCode : Type 0
IntervalsSpanCode =
    (lines : List Line) (code : Code) (labels a b : ℕ) → StandAt lines a (code_lines labels code) b → SpansCode lines a code b

abbrev pub FunctionsAreClosed : List LinearFunction → Type 0
FunctionsAreClosed [] = Unit {0}
FunctionsAreClosed (f ∷ fs) = FunctionIsClosed f × FunctionsAreClosed fs

-- Functions agree: of closed functions, calls over names and calls over places are equal at every bound.
abbrev pub FunctionsAgree : Type 0
FunctionsAgree =
    (fs : List LinearFunction) → FunctionsAreClosed fs → (global : ℕ → Value) (bound f : ℕ) (arguments : List Value) (memory : Memory) (input : List ℕ)
    → calls fs global bound f arguments memory input ≡ placed_calls (map placed fs) global bound f arguments memory input

-- So it is with the linear code of well-formed lambdas.
abbrev pub SequencedFunctionsAgree : Type 0
SequencedFunctionsAgree =
    (ls : List PlainLambda) → AreWellFormed ls → (global : ℕ → Value) (bound f : ℕ) (arguments : List Value) (memory : Memory) (input : List ℕ)
    → calls (map sequenced ls) global bound f arguments memory input ≡ placed_calls (map placed (map sequenced ls)) global bound f arguments memory input

-- ---- shared places

abbrev pub shared_function : LinearFunction → PlacedFunction
shared_function f = placed_at (shared f) f

-- So closed functions agree over shared places.
abbrev pub SharedFunctionsAgree : Type 0
SharedFunctionsAgree =
    (fs : List LinearFunction) → FunctionsAreClosed fs → (global : ℕ → Value) (bound f : ℕ) (arguments : List Value) (memory : Memory) (input : List ℕ)
    → calls fs global bound f arguments memory input ≡ placed_calls (map shared_function fs) global bound f arguments memory input

abbrev pub SequencedSharedAgree : Type 0
SequencedSharedAgree =
    (ls : List PlainLambda) → AreWellFormed ls → (global : ℕ → Value) (bound f : ℕ) (arguments : List Value) (memory : Memory) (input : List ℕ)
    → calls (map sequenced ls) global bound f arguments memory input ≡ placed_calls (map shared_function (map sequenced ls)) global bound f arguments memory input

-- each choice has a code
abbrev mutual
  pub StepChooses : Step → Type 0
  StepChooses (plain i) = Unit {0}
  StepChooses (choice p cs) = (1 ≤ counted cs) × CodesChoose cs
  StepChooses (loop moves body p back) = CodeChooses body

  pub CodeChooses : Code → Type 0
  CodeChooses no_steps = Unit {0}
  CodeChooses (step_then s k) = StepChooses s × CodeChooses k

  pub CodesChoose : Codes → Type 0
  CodesChoose no_codes = Unit {0}
  CodesChoose (code_then k ks) = CodeChooses k × CodesChoose ks

-- Closed functions whose choices have codes need at the label of a loop only what its moves back write and what is needed after it.
abbrev pub ClosedHaveOwnTurns : Type 0
ClosedHaveOwnTurns = (f : LinearFunction) → FunctionIsClosed f → CodeChooses f.code → HasOwnTurns f

-- So it is with the linear code of well-formed lambdas.
abbrev pub SequencedHaveOwnTurns : Type 0
SequencedHaveOwnTurns = (l : PlainLambda) → IsWellFormed l → HasOwnTurns (sequenced l)
