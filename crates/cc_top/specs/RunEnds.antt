-- How `run` ends: the cause of each outcome, and what the outside holds then.
use Rattle.std.specs.Prelude.{◌≡◌, ◌⊎◌, ℕ, ◌<◌, List, Ok, Err}
use Rattle.std.specs.Option.{ForSome}
use Rattle.cc_io.specs.Faults.{Increased}
use Rattle.cc_io.specs.Files.{Name, content}
use Rattle.cc_io.specs.Sink.{append}
use Rattle.cc_io.specs.Source.{prepend}
use Rattle.elf_file.specs.Loading.{loaded}
use Rattle.rv_machine.specs.Run.{RunResult, image_at}
use Rattle.rv_machine.specs.Runs.{IsLeft}
use Rattle.rv_machine.specs.Steps.{stop_of}
use Rattle.rv_machine.specs.declared.stop.Stop.{Stop}
use Rattle.rv_machine.specs.declared.stop.Stop.TheVariants as stop
use Rattle.cc_io.specs.Outside.{Unchanged, ReadFails, Outside, KeepsStreams}
use Rattle.cc_report.specs.declared.outcome.Outcome.{Outcome}
use Rattle.cc_report.specs.declared.outcome.Outcome.TheVariants.{ReadFault, WriteFault, BadImage, NoMemory, Exit, Stack, Budget, Stuck}

-- The output has gained what a run wrote. Bytes were taken from the front of the input alone, so one that is known stays
-- known; it has left what the run did not read.
pub record HasRun (o : RunResult) (before after : Outside) : Type 0 where
  pub output : after.output.bytes ≡ append before.output.bytes o.output
  pub taken : List ℕ
  pub rest : before.input.bytes ≡ prepend taken after.input.bytes
  pub unread : IsLeft after.input.bytes o.rest

-- This many instructions of the image, on the input, the known one where it is known, stop so.
abbrev pub Ran : (steps : ℕ) (bytes : List ℕ) → Stop → Outside → Outside → Type 0
Ran steps bytes stopped before after =
    (input : List ℕ) × IsLeft before.input.bytes input
    × ((o : RunResult) × (image_at steps bytes input ≡ Ok o) × (stopped ≡ stop_of o.hart) × HasRun o before after)

-- Fewer instructions were done.
abbrev pub RanFewer : (steps : ℕ) (bytes : List ℕ) → Outside → Outside → Type 0
RanFewer steps bytes before after =
    (input : List ℕ) × IsLeft before.input.bytes input
    × ((count : ℕ) × (count < steps) × ((o : RunResult) × (image_at count bytes input ≡ Ok o) × HasRun o before after))

-- the cause of an outcome, whether or not the files are known
abbrev pub RunCause : (image : Name) → Outcome → Outside → Outside → Type 0
RunCause image ReadFault before after =
    (ReadFails image before.files after.files × KeepsStreams before after) ⊎ Increased before.input.faults after.input.faults
RunCause image WriteFault before after = Increased before.output.faults after.output.faults
RunCause image (BadImage fault) before after = KeepsStreams before after
RunCause image NoMemory before after = KeepsStreams before after
RunCause image (Exit status) before after = Unit {0}
RunCause image Stack before after = Unit {0}
RunCause image Budget before after = Unit {0}
RunCause image (Stuck pc why) before after = Unit {0}
RunCause image _ before after = ⊥

-- what an outcome says of the bytes of the image
abbrev pub RunOf : (steps : ℕ) → Outcome → (bytes : List ℕ) → Outside → Outside → Type 0
RunOf steps (Exit status) bytes before after = Ran steps bytes (stop.Exit status) before after
RunOf steps Stack bytes before after = Ran steps bytes stop.Stack before after
RunOf steps Budget bytes before after = Ran steps bytes stop.Budget before after
RunOf steps (Stuck pc why) bytes before after = Ran steps bytes (stop.Stuck pc why) before after
RunOf steps (BadImage fault) bytes before after = loaded bytes ≡ Err fault
RunOf steps ReadFault bytes before after = KeepsStreams before after ⊎ RanFewer steps bytes before after
RunOf steps WriteFault bytes before after = RanFewer steps bytes before after
RunOf steps _ bytes before after = Unit {0}

-- No file changes.
pub record RunEnds (image : Name) (steps : ℕ) (ended : Outcome) (before after : Outside) : Type 0 where
  pub cause : RunCause image ended before after
  pub files : Unchanged before.files after.files
  pub run : ForSome before.files.known (λ files. RunOf steps ended (content image files) before after)
