-- How the command ends, from how the run of its program ended.
use Rattle.std.proofs.Common.{◌≡◌, ◌≤◌, ℕ, List, take, Option, Result, Ok, Err, refl, sym, subst, inl, inr, arith}
use Rattle.std.specs.Prelude.{MatchResult}
use Rattle.std.specs.Option.{ForSome}
use Rattle.base.specs.declared.no_memory.NoMemory.{NoMemory}
use Rattle.cc_io.specs.Faults.{Increased}
use Rattle.cc_io.specs.Files.{Name, FileSet, content}
use Rattle.c_typed.specs.Typed.{ProgramTree}
use Rattle.c_mean.specs.Run as run
use Rattle.c_interp.specs.declared.stop.Ending.{Ending}
use Rattle.c_interp.specs.declared.stop.Ending.TheVariants.{Exit, Cut, Undefined, ReadFault, WriteFault}
use Rattle.c_interp.specs.Interpreted.{IsSomeRun, IsPart, HasEnded}
use Rattle.cc_io.specs.Outside.{ReadFails, StreamSeen, Outside, KeepsStreams}
use Rattle.cc_source.specs.Accepted.{Accepts}
use Rattle.cc_source.specs.Refused.{CompileFails}
use Rattle.cc_source.proofs.lemmas.Sources.{whole_text}
use Rattle.cc_report.specs.declared.outcome.Outcome.{Outcome}
use Rattle.cc_report.specs.declared.outcome.Outcome.TheVariants as outcome
use Rattle.cc_top.specs.RunOutcomes.{outcome_of}
use Rattle.cc_top.specs.InterpretEnds.{HasProgram, streams_of, RunEnds, HasRun, InterpretCause}

-- ---- the run of a program

module _ (bound : ℕ) (p : ProgramTree) (input input' output output' output'' : StreamSeen) (same : output''.bytes ≡ output'.bytes) (more : output'.faults ≤ output''.faults) where
  some-run : (ending : run.Ending) → IsSomeRun bound p ending (streams_of input output) (streams_of input' output') → IsSomeRun bound p ending (streams_of input output) (streams_of input' output'')
  some-run ending h =
      let P : Option (List ℕ) → Type 0 = λ b. IsSomeRun bound p ending (streams_of input output) (record { held = b; left = input'.bytes }) in subst P (sym same) h

  part : IsPart bound p (streams_of input output) (streams_of input' output') → IsPart bound p (streams_of input output) (streams_of input' output'')
  part h = let P : Option (List ℕ) → Type 0 = λ b. IsPart bound p (streams_of input output) (record { held = b; left = input'.bytes }) in subst P (sym same) h

  -- what was said before the output handed over what it held back is said after it
  pub run_ends : (r : Result Ending NoMemory) →
      MatchResult r (HasEnded bound p (streams_of input output) (streams_of input' output') (Increased input.faults input'.faults) (Increased output.faults output'.faults))
      (λ e. IsPart bound p (streams_of input output) (streams_of input' output')) →
      RunEnds bound p (outcome_of r) input input' output output''
  run_ends (Ok (Exit status)) h = some-run (run.exit status) h
  run_ends (Ok Cut) h = some-run run.cut h
  run_ends (Ok Undefined) h = some-run run.undefined h
  run_ends (Ok ReadFault) h = (h.0, part h.1)
  run_ends (Ok WriteFault) h = let increased = h.0 in (omega (arith, increased, more), part h.1)
  run_ends (Err e) h = part h

-- ---- the program of a source

pub program_of_read : (source : Name) (known : Option FileSet) (read : List ℕ) (p : ProgramTree) → ForSome known (λ files. read ≡ take 1048577 (content source files)) → Accepts read p
    → HasProgram source known (λ q. q ≡ p)
program_of_read source known read p same accepted =
    record { text = read; read = λ files is. whole_text (content source files) read p (same files is) accepted; program = p; accepted = accepted; holds = refl }

of-program : (source : Name) (known : Option FileSet) (p : ProgramTree) (Holds : ProgramTree → Type 0) → HasProgram source known (λ q. q ≡ p) → Holds p → HasProgram source known Holds
of-program source known p Holds h is = record { text = h.text; read = h.read; program = h.program; accepted = h.accepted; holds = subst Holds (sym h.holds) is }

-- ---- the command

cause_of_run : (source : Name) (bound : ℕ) (r : Result Ending NoMemory) (before after : Outside) → HasRun source bound (outcome_of r) before after → InterpretCause source bound (outcome_of r) before after
cause_of_run source bound (Ok (Exit status)) before after h = h
cause_of_run source bound (Ok Cut) before after h = h
cause_of_run source bound (Ok Undefined) before after h = h
cause_of_run source bound (Ok ReadFault) before after h = inr h
cause_of_run source bound (Ok WriteFault) before after h = h
cause_of_run source bound (Err e) before after h = inr h

pub run_so : (source : Name) (bound : ℕ) (p : ProgramTree) (r : Result Ending NoMemory) (ended : Outcome) (before after : Outside) → HasProgram source before.files.known (λ q. q ≡ p)
    → RunEnds bound p (outcome_of r) before.input after.input before.output after.output → ended ≡ outcome_of r → InterpretCause source bound ended before after
run_so source bound p r ended before after h is same =
    subst (λ e. InterpretCause source bound e before after) (sym same)
    (cause_of_run source bound r before after
    (of-program source before.files.known p (λ q. RunEnds bound q (outcome_of r) before.input after.input before.output after.output) h is))

pub unread_so : (source : Name) (bound : ℕ) (ended : Outcome) (before after : Outside) → CompileFails source ended before.files.known (ReadFails source before.files after.files) → KeepsStreams before after
    → InterpretCause source bound ended before after
unread_so source bound (outcome.Refused refusal) before after h streams = (h, streams)
unread_so source bound outcome.ReadFault before after h streams = inl (h, streams)
unread_so source bound outcome.NoMemory before after h streams = inl streams
unread_so source bound _ before after h streams = absurd h
