-- Linear code does what its lambda does, bound for bound.
use Rattle.std.specs.Prelude.{ℕ, List, map}
use Rattle.val_core.specs.declared.values.Value.{Value}
use Rattle.val_core.specs.Memory.{Memory}
use Rattle.val_core.specs.Answers.{IsUndefined}
use Rattle.g_graph.specs.Plain.{PlainLambda, PlainOmega}
use Rattle.g_graph.specs.WellFormed.{IsWellFormed}
use Rattle.g_mean.specs.Kinds.{AreWellFormed}
use Rattle.g_mean.specs.Calls.{applied, program_at}
use Rattle.g_mean.specs.Data.{taken}
use Rattle.s_linear.specs.Meaning.{calls}
use Rattle.s_sequence.specs.Sequence.{sequenced}
use Rattle.s_sequence_keeps.specs.Agreement.{Agrees, AreLessDefined, GivesBack, AreWithin}
use Rattle.s_sequence_keeps.specs.Programs.{linear_program_at}
use Rattle.s_sequence_keeps.specs.Closed.{FunctionIsClosed}

-- Calls agree at each bound: where the call of the lambda is defined, both give back, both are cut or both end the program,
-- after the same events, with the same memory, input and status, and with a value that may stand for that of the lambda.
-- The arguments of the linear code may stand for those of the lambda.
abbrev pub CallsAgree : Type 0
CallsAgree =
    (ls : List PlainLambda) → AreWellFormed ls → (global : ℕ → Value) (n f : ℕ) (vs ws : List Value) → AreLessDefined vs ws → (m : Memory) (i : List ℕ) →
    Agrees GivesBack (applied ls global n f (taken vs m i)) (calls (map sequenced ls) global n f ws m i)

-- So do programs.
abbrev pub ProgramsAgree : Type 0
ProgramsAgree =
    (ls : List PlainLambda) → AreWellFormed ls → (omega : PlainOmega) (n : ℕ) (i : List ℕ) →
    Agrees GivesBack (program_at n omega ls i) (linear_program_at n omega (map sequenced ls) i)

-- Where the run of the lambda is defined, it and the run of the linear code are within each other, and meet equally deep
-- stacks. So it is with calls,
abbrev pub CallsAreWithin : Type 0
CallsAreWithin =
    (ls : List PlainLambda) → AreWellFormed ls → (global : ℕ → Value) (n f : ℕ) (vs ws : List Value) → AreLessDefined vs ws → (m : Memory) (i : List ℕ) →
    (IsUndefined (applied ls global n f (taken vs m i)) → ⊥) → AreWithin GivesBack (applied ls global n f (taken vs m i)) (calls (map sequenced ls) global n f ws m i)

-- and with programs.
abbrev pub ProgramsAreWithin : Type 0
ProgramsAreWithin =
    (ls : List PlainLambda) → AreWellFormed ls → (omega : PlainOmega) (n : ℕ) (i : List ℕ) → (IsUndefined (program_at n omega ls i) → ⊥) →
    AreWithin GivesBack (program_at n omega ls i) (linear_program_at n omega (map sequenced ls) i)

-- The linear code of a well-formed lambda is closed.
abbrev pub SequencedCodeIsClosed : Type 0
SequencedCodeIsClosed = (l : PlainLambda) → IsWellFormed l → FunctionIsClosed (sequenced l)
