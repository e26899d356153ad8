-- How `interp` ends: the cause of each outcome, and what the outside holds then.
use Rattle.std.specs.Prelude.{◌≡◌, ◌⊎◌, ℕ, List, Option}
use Rattle.std.specs.Option.{ForSome}
use Rattle.cc_io.specs.Faults.{Increased}
use Rattle.cc_io.specs.Files.{Name, FileSet, content}
use Rattle.c_typed.specs.Typed.{ProgramTree}
use Rattle.c_mean.specs.Run as run
use Rattle.c_mean.specs.Run.{Heard, heard}
use Rattle.c_interp.specs.Interpreted.{Streams, IsHeard, IsSomeRun, IsPart}
use Rattle.cc_io.specs.Outside.{Unchanged, ReadFails, StreamSeen, Outside, KeepsStreams, IfKnown}
use Rattle.cc_source.specs.Accepted.{Accepts}
use Rattle.cc_source.specs.Refused.{IsRefused}
use Rattle.cc_report.specs.declared.outcome.Outcome.{Outcome}
use Rattle.cc_report.specs.declared.outcome.Outcome.TheVariants.{ReadFault, WriteFault, Refused, NoMemory, Exit, Undefined, Cut}

-- The text of a source, which is that of the file of its name where the files are known, is accepted as a program of
-- which this holds.
pub record HasProgram (source : Name) (known : Option FileSet) (P : ProgramTree → Type 0) : Type 0 where
  pub text : List ℕ
  pub read : ForSome known (λ files. text ≡ content source files)
  pub program : ProgramTree
  pub accepted : Accepts text program
  pub holds : P program

-- ---- the run of a program

abbrev pub streams_of : (input output : StreamSeen) → Streams
streams_of input output = record { held = output.bytes; left = input.bytes }

-- How the run of a program ends within a bound. On `Exit`, `Cut` and `Undefined` the output has gained what the run writes
-- and the input has left what it does not take, by the run with some input, the one that is left where it is known. A fault
-- comes where that stream's count increased; then, and where memory ran out, the output has gained a prefix of what the run
-- writes, and the input has lost bytes of its front.
abbrev pub RunEnds : (bound : ℕ) → ProgramTree → Outcome → (input input' output output' : StreamSeen) → Type 0
RunEnds bound p (Exit status) input input' output output' = IsSomeRun bound p (run.exit status) (streams_of input output) (streams_of input' output')
RunEnds bound p Cut input input' output output' = IsSomeRun bound p run.cut (streams_of input output) (streams_of input' output')
RunEnds bound p Undefined input input' output output' = IsSomeRun bound p run.undefined (streams_of input output) (streams_of input' output')
RunEnds bound p ReadFault input input' output output' =
    Increased input.faults input'.faults × IsPart bound p (streams_of input output) (streams_of input' output')
RunEnds bound p WriteFault input input' output output' =
    Increased output.faults output'.faults × IsPart bound p (streams_of input output) (streams_of input' output')
RunEnds bound p NoMemory input input' output output' = IsPart bound p (streams_of input output) (streams_of input' output')
RunEnds bound p _ input input' output output' = ⊥

-- ---- the command

-- The source was run, and its run ended so.
abbrev pub HasRun : (source : Name) (bound : ℕ) → Outcome → (before after : Outside) → Type 0
HasRun source bound ended before after =
    HasProgram source before.files.known (λ p. RunEnds bound p ended before.input after.input before.output after.output)

-- the cause of an outcome
abbrev pub InterpretCause : (source : Name) (bound : ℕ) → Outcome → (before after : Outside) → Type 0
InterpretCause source bound (Exit status) before after = HasRun source bound (Exit status) before after
InterpretCause source bound Cut before after = HasRun source bound Cut before after
InterpretCause source bound Undefined before after = HasRun source bound Undefined before after
InterpretCause source bound ReadFault before after =
    (ReadFails source before.files after.files × KeepsStreams before after) ⊎ HasRun source bound ReadFault before after
InterpretCause source bound WriteFault before after = HasRun source bound WriteFault before after
InterpretCause source bound (Refused refusal) before after = IfKnown source before.files (λ text. IsRefused text refusal) × KeepsStreams before after
InterpretCause source bound NoMemory before after = KeepsStreams before after ⊎ HasRun source bound NoMemory before after
InterpretCause source bound _ before after = ⊥

-- No file changes.
pub record InterpretEnds (source : Name) (bound : ℕ) (ended : Outcome) (before after : Outside) : Type 0 where
  pub cause : InterpretCause source bound ended before after
  pub files : Unchanged before.files after.files

-- ---- a law

-- how the command ends whose run was heard to end so
abbrev pub outcome_of_heard : run.Ending → Outcome
outcome_of_heard (run.exit status) = Exit status
outcome_of_heard run.cut = Cut
outcome_of_heard run.undefined = Undefined

-- The run was heard, and the command ends as it did: the output has gained what was heard, and the input has left its rest.
abbrev pub WasHeard : Heard → Outcome → (before after : Outside) → Type 0
WasHeard h ended before after =
    (ended ≡ outcome_of_heard h.ending) × IsHeard h h.ending (streams_of before.input before.output) (streams_of after.input after.output)

-- Where no call failed, a source that is accepted is run, or memory ran out.
abbrev pub AcceptedAreRun : Type 0
AcceptedAreRun =
    (source : Name) (bound : ℕ) (ended : Outcome) (before after : Outside) → InterpretEnds source bound ended before after →
    (ReadFails source before.files after.files → ⊥) → (Increased before.input.faults after.input.faults → ⊥) →
    (Increased before.output.faults after.output.faults → ⊥) →
    ForSome before.files.known (λ files. ForSome before.input.bytes (λ i. (p : ProgramTree) → Accepts (content source files) p →
    WasHeard (heard bound p i) ended before after ⊎ (ended ≡ NoMemory)))
