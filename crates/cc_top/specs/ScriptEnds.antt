-- How the script of a session ends: which commands were answered, and what OUT and the output hold then.
use Rattle.std.specs.Prelude.{◌≡◌, ◌⊎◌, ℕ, suc, Option, None, Some, List, ◌∷◌, ◌++◌, length, take, option_map}
use Rattle.cc_io.specs.Faults.{Increased}
use Rattle.cc_io.specs.Files.{Name, FileSet, put_file}
use Rattle.cc_io.specs.Sink.{append}
use Rattle.cc_io.specs.Source.{prepend, IsAtEnd}
use Rattle.cc_io.specs.Outside.{Outside, WriteFails}
use Rattle.cc_report.specs.declared.outcome.Outcome.{Outcome}
use Rattle.cc_report.specs.declared.outcome.Outcome.TheVariants as outcome
use Rattle.cc_session.specs.Session.{PlainSession}
use Rattle.cc_script_text.specs.Script.{Script, script, stops, with_end, with_broken, with_lack}
use Rattle.cc_script_text.specs.Laws.{after_all}
use Rattle.cc_script_text.specs.declared.command.Command.{Command}
use Rattle.cc_script_text.specs.declared.command.Command.TheVariants.{Build}
use Rattle.cc_top.specs.declared.answer.Answer.{Answer}
use Rattle.cc_top.specs.Answers.{Held, held_first, AreAnswered, IsAnswered, IsMade, line_of, lines_of}

-- ---- the commands that were answered

-- These bytes were taken of the input. They say some commands, which the session answered so, and then the rest of the
-- script.
pub record HasAnswered (first : PlainSession) (before after : Option (List ℕ)) : Type 0 where
  pub taken : List ℕ
  pub input : before ≡ prepend taken after
  pub commands : List Command
  pub rest : Script
  pub said : script taken ≡ after_all commands rest
  pub answers : List Answer
  pub held : Held
  pub answered : AreAnswered (held_first first) commands answers held

-- The rest begins with this command.
pub record GoesOn (rest : Script) (next : Command) : Type 0 where
  pub others : List Command
  pub commands : rest.commands ≡ next ∷ others

-- ---- files and output

-- the files where OUT holds these bytes, or what it held where there are none
abbrev pub with_image : (image : Name) → Option (List ℕ) → Option FileSet → Option FileSet
with_image image None files = files
with_image image (Some bytes) files = option_map (put_file image bytes) files

-- OUT holds these bytes, or what it held; every other file is as it was; and the output has gained this text.
abbrev pub Leaves : (image : Name) (out : Option (List ℕ)) (text : List ℕ) → (before after : Outside) → Type 0
Leaves image out text before after =
    (after.files.known ≡ with_image image out before.files.known) × (after.output.bytes ≡ append before.output.bytes text)

-- OUT is the image of the last `build`, and the output has gained the line of each command.
abbrev pub LeavesAnswers : (image : Name) → Held → List Answer → (before after : Outside) → Type 0
LeavesAnswers image held answers before after = Leaves image held.image (lines_of answers) before after

-- ---- a script that was played to its end

-- to `end`
pub record IsPlayed (first : PlainSession) (image : Name) (before after : Outside) : Type 0 where
  pub has : HasAnswered first before.input.bytes after.input.bytes
  pub ended : has.rest ≡ stops with_end
  pub leaves : LeavesAnswers image has.held has.answers before after

-- to the command of this number, which is none, or is not whole and no byte is left
pub record IsBroken (first : PlainSession) (image : Name) (number : ℕ) (before after : Outside) : Type 0 where
  pub has : HasAnswered first before.input.bytes after.input.bytes
  pub counted : number ≡ suc (length has.commands)
  pub broken : (has.rest ≡ stops with_broken) ⊎ ((has.rest ≡ stops with_lack) × IsAtEnd after.input.bytes)
  pub leaves : LeavesAnswers image has.held has.answers before after

-- ---- a script that was broken off

-- The input failed while the next command was not whole.
pub record IsUnread (first : PlainSession) (image : Name) (before after : Outside) : Type 0 where
  pub has : HasAnswered first before.input.bytes after.input.bytes
  pub fails : Increased before.input.faults after.input.faults
  pub lacks : has.rest ≡ stops with_lack
  pub leaves : LeavesAnswers image has.held has.answers before after

-- Memory ran out for the next command.
pub record LacksMemory (first : PlainSession) (image : Name) (before after : Outside) : Type 0 where
  pub has : HasAnswered first before.input.bytes after.input.bytes
  pub leaves : LeavesAnswers image has.held has.answers before after

-- The next command is `build`, and OUT was not written whole: it is as before this command, or holds a prefix of its image.
pub record IsUnsaved (first : PlainSession) (image : Name) (before after : Outside) : Type 0 where
  pub has : HasAnswered first before.input.bytes after.input.bytes
  pub fails : WriteFails image before.files after.files
  pub next : GoesOn has.rest Build
  pub bytes : List ℕ
  pub jobs : ℕ
  pub made : IsMade has.held.session bytes jobs
  pub out : Option (List ℕ)
  pub out_is : (out ≡ has.held.image) ⊎ ((count : ℕ) × (out ≡ Some (take count bytes)))
  pub leaves : Leaves image out (lines_of has.answers) before after

-- The next command was carried out, and its line was not written whole.
pub record IsUnsaid (first : PlainSession) (image : Name) (before after : Outside) : Type 0 where
  pub has : HasAnswered first before.input.bytes after.input.bytes
  pub fails : Increased before.output.faults after.output.faults
  pub command : Command
  pub next : GoesOn has.rest command
  pub answer : Answer
  pub held : Held
  pub answered : IsAnswered has.held command answer held
  pub count : ℕ
  pub leaves : Leaves image held.image (lines_of has.answers ++ take count (line_of answer)) before after

-- ---- outcomes

abbrev pub ScriptEnds : (first : PlainSession) (image : Name) → Outcome → (before after : Outside) → Type 0
ScriptEnds first image outcome.Done before after = IsPlayed first image before after
ScriptEnds first image (outcome.Script number) before after = IsBroken first image number before after
ScriptEnds first image outcome.ReadFault before after = IsUnread first image before after
ScriptEnds first image outcome.WriteFault before after = IsUnsaved first image before after ⊎ IsUnsaid first image before after
ScriptEnds first image outcome.NoMemory before after = LacksMemory first image before after
ScriptEnds first image _ before after = ⊥
