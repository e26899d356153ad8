-- One command of a session: how it is read, carried out and answered, and what holds between two of them.
use Rattle.std.specs.Prelude.{◌≡◌, ◌⊎◌, ◌<◌, ◌≤◌, ℕ, suc, Option, None, Some, Result, Ok, Err, List, [], ◌++◌, length, take}
use Rattle.std.specs.Option.{ForSome}
use Rattle.r_rule.specs.declared.steps.Rule.{Rule}
use Rattle.s_linear.specs.declared.frame.CodeForm.{CodeForm}
use Rattle.cc_io.specs.Faults.{Increased}
use Rattle.cc_io.specs.Files.{Name, FileSet, content}
use Rattle.cc_io.specs.Sink.{append}
use Rattle.cc_io.specs.Source.{prepend, IsAtEnd}
use Rattle.cc_io.specs.Outside.{FilesSeen, Outside, Unchanged, WriteFails, WritesPrefix}
use Rattle.cc_source.specs.Refusal.{refusal_of}
use Rattle.cc_report.specs.declared.outcome.Outcome.{Outcome}
use Rattle.cc_report.specs.declared.outcome.Outcome.TheVariants as outcome
use Rattle.cc_report.specs.declared.refusal.Refusal.{Refusal}
use Rattle.cc_session.specs.declared.fault.EditFault.{EditFault}
use Rattle.cc_session.specs.declared.fault.EditFault.TheVariants as fault
use Rattle.cc_session.specs.Session.{PlainSession, IsAcceptedSource}
use Rattle.cc_script_text.specs.Script.{first, most_commands}
use Rattle.cc_script_text.specs.Taken.{left_of, TakesAll, TakesCommand, TakesPart, TakesBroken}
use Rattle.cc_script_text.specs.declared.command.Command.{Command}
use Rattle.cc_script_text.specs.declared.command.Command.TheVariants.{Build, End}
use Rattle.cc_script_text.specs.declared.reader.ScriptReader.{ScriptReader}
use Rattle.cc_top.specs.declared.answer.Answer.{Answer}
use Rattle.cc_top.specs.declared.answer.Answer.TheVariants as answer
use Rattle.cc_top.specs.Answers.{Held, held_first, AreAnswered, IsAnswered, IsMade, line_of}
use Rattle.cc_top.specs.ScriptEnds.{with_image, LeavesAnswers}
use Rattle.cc_top.specs.SessionEnds.{opened}

-- A session on the text of the file of this name, where the files are known.
pub record IsOpened (recipe : List Rule) (form : CodeForm) (source : Name) (known : Option FileSet) (session : PlainSession) : Type 0 where
  pub text : List ℕ
  pub read : ForSome known (λ files. text ≡ content source files)
  pub accepted : IsAcceptedSource text
  pub is : session ≡ opened text recipe form

-- ---- a command that is read

-- what is left for a reader, of which some was read ahead
abbrev pub reading : ScriptReader → Outside → Outside
reading reader outside = record outside { input = record outside.input { bytes = left_of reader outside.input.bytes } }

-- the script has no such command
abbrev pub IsNone : (count : ℕ) → (before after : Option (List ℕ)) → Type 0
IsNone count before after =
    ((count ≡ most_commands) × (after ≡ before))
    ⊎ ((count < most_commands) × (TakesBroken first before after ⊎ (TakesPart first before after × IsAtEnd after)))

-- Why the next command, after so many, is not read: of the input was left this, and is that, of which these bytes are read
-- ahead, and its count of faults was this, and is that.
abbrev pub IsNoNext : Outcome → (count : ℕ) → (before after : Option (List ℕ)) → (ahead : List ℕ) → (faults faults' : ℕ) → Type 0
IsNoNext (outcome.Script number) count before after ahead faults faults' = (number ≡ suc count) × IsNone count before after
IsNoNext outcome.ReadFault count before after ahead faults faults' =
    (count < most_commands) × TakesPart first before after × (ahead ≡ []) × Increased faults faults'
IsNoNext outcome.NoMemory count before after ahead faults faults' = (bytes : List ℕ) × (before ≡ prepend bytes after)
IsNoNext _ count before after ahead faults faults' = ⊥

-- ---- a command that is carried out

-- what is answered to a refused edit
abbrev pub answer_of_refusal : Option Refusal → Result Answer Outcome
answer_of_refusal None = Err outcome.NoMemory
answer_of_refusal (Some refusal) = Ok (answer.Refused refusal)

abbrev pub answer_of : EditFault → Result Answer Outcome
answer_of fault.NoFunction = Ok answer.NoFunction
answer_of (fault.Source cause new) = answer_of_refusal (refusal_of cause new)
answer_of fault.OtherNames = Ok answer.OtherNames
answer_of fault.NoMemory = Err outcome.NoMemory

-- The counts of faults of writing OUT have not fallen.
pub record KeepsCounts (image : Name) (before after : FilesSeen) : Type 0 where
  pub creates : before.create_faults image ≤ after.create_faults image
  pub writes : before.write_faults ≤ after.write_faults

-- The command was carried out on the session, and OUT holds what it made, or what it held.
pub record IsCarriedOut (image : Name) (command : Command) (answer : Answer) (old new : PlainSession) (before after : FilesSeen) : Type 0 where
  pub out : Option (List ℕ)
  pub answered : IsAnswered (held_first old) command answer (record { session = new; image = out })
  pub files : after.known ≡ with_image image out before.known

-- The image of the session was made, and OUT not written whole.
pub record IsNotSaved (image : Name) (old : PlainSession) (before after : FilesSeen) : Type 0 where
  pub fails : WriteFails image before after
  pub bytes : List ℕ
  pub jobs : ℕ
  pub made : IsMade old bytes jobs
  pub files : WritesPrefix image bytes before after

-- Why a command was not carried out: it is `end`, or memory ran out, or OUT was not written.
abbrev pub IsNotCarriedOut : (image : Name) → Command → Outcome → (old : PlainSession) → (before after : FilesSeen) → Type 0
IsNotCarriedOut image command outcome.Done old before after = (command ≡ End) × Unchanged before after
IsNotCarriedOut image command outcome.NoMemory old before after = Unchanged before after
IsNotCarriedOut image command outcome.WriteFault old before after = (command ≡ Build) × IsNotSaved image old before after
IsNotCarriedOut image command _ old before after = ⊥

-- ---- a command that is answered

-- The next command was read: this one.
pub record HasRead (command : Command) (count : ℕ) (before after : Outside) : Type 0 where
  pub takes : TakesCommand first command before.input.bytes after.input.bytes
  pub given : count < most_commands

-- The next command was read, carried out and answered.
pub record IsStep (image : Name) (old new : PlainSession) (count count' : ℕ) (before after : Outside) : Type 0 where
  pub command : Command
  pub read : HasRead command count before after
  pub counted : count' ≡ suc count
  pub answer : Answer
  pub carried : IsCarriedOut image command answer old new before.files after.files
  pub output : after.output.bytes ≡ append before.output.bytes (line_of answer)

-- No count of faults has fallen that tells why a script ends.
pub record KeepsFaults (image : Name) (before after : Outside) : Type 0 where
  pub files : KeepsCounts image before.files after.files
  pub input : before.input.faults ≤ after.input.faults
  pub output : before.output.faults ≤ after.output.faults

-- No file has changed, and nothing was written on the output.
abbrev pub IsQuiet : (before after : Outside) → Type 0
IsQuiet before after = Unchanged before.files after.files × (after.output.bytes ≡ before.output.bytes)

-- It is `build`, and OUT was not written whole.
pub record HasNotSaved (image : Name) (old : PlainSession) (count : ℕ) (before after : Outside) : Type 0 where
  pub read : HasRead Build count before after
  pub why : IsNotSaved image old before.files after.files
  pub output : after.output.bytes ≡ before.output.bytes

-- It was carried out, and its line not written whole.
pub record HasNotSaid (image : Name) (old : PlainSession) (count : ℕ) (before after : Outside) : Type 0 where
  pub command : Command
  pub read : HasRead command count before after
  pub answer : Answer
  pub new : PlainSession
  pub carried : IsCarriedOut image command answer old new before.files after.files
  pub fails : Increased before.output.faults after.output.faults
  pub written : ℕ
  pub output : after.output.bytes ≡ append before.output.bytes (take written (line_of answer))

-- How the script ends at its next command, after so many, where of the input this is read ahead.
abbrev pub StepEnds : (image : Name) → Outcome → (old : PlainSession) → (count : ℕ) → (ahead : List ℕ) → (before after : Outside) → Type 0
StepEnds image outcome.Done old count ahead before after = HasRead End count before after × IsQuiet before after
StepEnds image (outcome.Script number) old count ahead before after =
    IsNoNext (outcome.Script number) count before.input.bytes after.input.bytes ahead before.input.faults after.input.faults × IsQuiet before after
StepEnds image outcome.ReadFault old count ahead before after =
    IsNoNext outcome.ReadFault count before.input.bytes after.input.bytes ahead before.input.faults after.input.faults × IsQuiet before after
StepEnds image outcome.NoMemory old count ahead before after =
    IsNoNext outcome.NoMemory count before.input.bytes after.input.bytes ahead before.input.faults after.input.faults × IsQuiet before after
StepEnds image outcome.WriteFault old count ahead before after = HasNotSaved image old count before after ⊎ HasNotSaid image old count before after
StepEnds image _ old count ahead before after = ⊥

-- ---- between two commands

-- So many commands were answered, and the session is this.
pub record IsPlaying (first_session : PlainSession) (image : Name) (session : PlainSession) (count : ℕ) (before now : Outside) : Type 0 where
  pub taken : List ℕ
  pub input : before.input.bytes ≡ prepend taken now.input.bytes
  pub commands : List Command
  pub takes : (more : List ℕ) → TakesAll commands (Some (taken ++ more)) (Some more)
  pub counted : length commands ≡ count
  pub few : count ≤ most_commands
  pub answers : List Answer
  pub held : Held
  pub answered : AreAnswered (held_first first_session) commands answers held
  pub session_is : held.session ≡ session
  pub leaves : LeavesAnswers image held answers before now
  pub kept : KeepsFaults image before now
