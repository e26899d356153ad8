-- A source that is accepted is run, where no call failed.
use Rattle.std.proofs.Common.{◌≡◌, ◌⊎◌, ℕ, List, Some, refl, sym, ap, subst, inl, inr}
use Rattle.cc_io.specs.Faults.{Increased}
use Rattle.cc_io.specs.Files.{Name, FileSet, content}
use Rattle.c_typed.specs.Typed.{ProgramTree}
use Rattle.c_mean.specs.Run as run
use Rattle.c_mean.specs.Run.{heard}
use Rattle.c_interp.specs.Interpreted.{IsLeft, IsHeard, IsSomeRun}
use Rattle.cc_io.specs.Outside.{ReadFails, Outside}
use Rattle.cc_source.specs.Accepted.{Accepts, OneProgram}
use Rattle.cc_source.specs.Refused.{AcceptedIsNotRefused}
use Rattle.cc_report.specs.declared.outcome.Outcome.{Outcome}
use Rattle.cc_report.specs.declared.outcome.Outcome.TheVariants.{ReadFault, WriteFault, Refused, NoMemory, Exit, Undefined, Cut}
use Rattle.cc_top.specs.InterpretEnds.{HasProgram, streams_of, InterpretCause, outcome_of_heard, WasHeard, AcceptedAreRun}

module _ (one : OneProgram) (no_refusal : AcceptedIsNotRefused) (source : Name) (bound : ℕ) (before after : Outside) (files : FileSet) (known : before.files.known ≡ Some files) (i : List ℕ)
    (left : before.input.bytes ≡ Some i) (p : ProgramTree) (accepted : Accepts (content source files) p) where
  -- the program that was run is the source's, and so is the input
  was_heard : (ending : run.Ending) →
      HasProgram source before.files.known (λ q. IsSomeRun bound q ending (streams_of before.input before.output) (streams_of after.input after.output)) →
      WasHeard (heard bound p i) (outcome_of_heard ending) before after
  was_heard ending h =
      let same : h.program ≡ p = one (content source files) h.program p (subst (λ t. Accepts t h.program) (h.read files known) h.accepted) accepted in
      let ran = subst (λ q. IsSomeRun bound q ending (streams_of before.input before.output) (streams_of after.input after.output)) same h.holds in
      let input : i ≡ ran.0 = subst (λ b. IsLeft b ran.0) left ran.1 in
      let is = subst (λ j. IsHeard (heard bound p j) ending (streams_of before.input before.output) (streams_of after.input after.output)) (sym input) ran.2 in
      (ap outcome_of_heard (sym is.ending), record { ending = refl; output = is.output; taken = is.taken; rest = is.rest; unread = is.unread })

  ends-so : (ended : Outcome) → InterpretCause source bound ended before after → (ReadFails source before.files after.files → ⊥) → (Increased before.input.faults after.input.faults → ⊥) →
      (Increased before.output.faults after.output.faults → ⊥) → WasHeard (heard bound p i) ended before after ⊎ (ended ≡ NoMemory)
  ends-so (Exit status) h reads input output = inl (was_heard (run.exit status) h)
  ends-so Cut h reads input output = inl (was_heard run.cut h)
  ends-so Undefined h reads input output = inl (was_heard run.undefined h)
  ends-so NoMemory h reads input output = inr refl
  ends-so (Refused refusal) h reads input output = absurd (no_refusal (content source files) p refusal accepted (h.0 files known))
  ends-so ReadFault h reads input output = elim h [ inl unread ↦ absurd (reads unread.0) | inr ran ↦ absurd (input ran.holds.0) ]
  ends-so WriteFault h reads input output = absurd (output h.holds.0)
  ends-so _ h reads input output = absurd h

pub accepted_are_run : OneProgram → AcceptedIsNotRefused → AcceptedAreRun
accepted_are_run one no_refusal source bound ended before after ends reads input output files known i left p accepted =
    ends-so one no_refusal source bound before after files known i left p accepted ended ends.cause reads input output
