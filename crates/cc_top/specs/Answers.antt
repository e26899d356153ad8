-- What a session answers to the commands of a script.
use Rattle.std.specs.Prelude.{◌≡◌, ◌++◌, ℕ, List, [], ◌∷◌, Option, None, Some, codes}
use Rattle.std.specs.List.{flat_map}
use Rattle.cc_report.specs.Outcome.{line, text_of}
use Rattle.cc_report.specs.Text.{decimal_text}
use Rattle.cc_report.specs.declared.outcome.Outcome.TheVariants as outcome
use Rattle.cc_report.specs.declared.refusal.Refusal.{Refusal}
use Rattle.cc_source.specs.Refusal.{refusal_of}
use Rattle.cc_source.specs.declared.fault.CompileFault.{CompileFault}
use Rattle.cc_emit.specs.Image.{lambdas_of}
use Rattle.cc_source.specs.Meaning.{KeepsMeaning}
use Rattle.cc_session.specs.declared.fault.EditFault.TheVariants as fault
use Rattle.cc_session.specs.Session.{PlainSession, Replaces, IsReplaceRefused}
use Rattle.cc_session.specs.Rebuilds.{IsRebuilt}
use Rattle.cc_script_text.specs.declared.command.Command.{Command}
use Rattle.cc_script_text.specs.declared.command.Command.TheVariants.{Build, Replace}
use Rattle.cc_top.specs.declared.answer.Answer.{Answer}
use Rattle.cc_top.specs.declared.answer.Answer.TheVariants.{Replaced, Image, NoFunction, Refused, OtherNames}

-- ---- lines, each with the byte 10 that ends it

-- the line of an answer; of a new source that is refused it is that of the command `build`
abbrev pub line_of : Answer → List ℕ
line_of Replaced = line (codes "replaced")
line_of (Image jobs) = line (codes "image " ++ decimal_text jobs)
line_of NoFunction = line (codes "refused NoFunction 71")
line_of (Refused refusal) = text_of (outcome.Refused refusal)
line_of OtherNames = line (codes "refused OtherNames 72")

abbrev pub lines_of : List Answer → List ℕ
lines_of answers = flat_map line_of answers

-- ---- what is answered, and what the session is then

-- a session, and the image of the last `build` that was answered, or none
pub record Held : Type 0 where
  pub session : PlainSession
  pub image : Option (List ℕ)

-- before the first command
abbrev pub held_first : PlainSession → Held
held_first session = record { session = session; image = None }

-- The text stands in place of the definition of the function.
pub record AnswersReplaced (before : Held) (name text : List ℕ) (after : Held) : Type 0 where
  pub replaced : Replaces before.session name text after.session
  pub image : after.image ≡ before.image

-- The text would make a source that is refused so.
pub record AnswersRefused (before : Held) (name text : List ℕ) (refusal : Refusal) : Type 0 where
  pub cause : CompileFault
  pub new : List ℕ
  pub refused : IsReplaceRefused (fault.Source cause new) before.session name text
  pub told : refusal_of cause new ≡ Some refusal

-- The bytes are the image of the session's source, which does what the source does, and so many functions were stale.
pub record IsMade (session : PlainSession) (bytes : List ℕ) (jobs : ℕ) : Type 0 where
  pub rebuilt : IsRebuilt session bytes jobs
  pub meaning : KeepsMeaning session.form rebuilt.program (lambdas_of rebuilt.image.answers) bytes

-- The image of the source is made.
pub record AnswersImage (before : Held) (jobs : ℕ) (after : Held) : Type 0 where
  pub bytes : List ℕ
  pub made : IsMade before.session bytes jobs
  pub after_is : after ≡ record { session = record before.session { last = Some before.session.source }; image = Some bytes }

-- The session answers a command so. A refused edit leaves all as it was.
abbrev pub IsAnswered : Held → Command → Answer → Held → Type 0
IsAnswered before (Replace name text) Replaced after = AnswersReplaced before name text after
IsAnswered before (Replace name text) NoFunction after = IsReplaceRefused fault.NoFunction before.session name text × (after ≡ before)
IsAnswered before (Replace name text) (Refused refusal) after = AnswersRefused before name text refusal × (after ≡ before)
IsAnswered before (Replace name text) OtherNames after = IsReplaceRefused fault.OtherNames before.session name text × (after ≡ before)
IsAnswered before Build (Image jobs) after = AnswersImage before jobs after
IsAnswered before _ _ after = ⊥

-- It answers commands one after the other so.
abbrev pub AreAnswered : Held → List Command → List Answer → Held → Type 0
AreAnswered before [] [] after = after ≡ before
AreAnswered before (command ∷ commands) (answer ∷ answers) after =
    (next : Held) × IsAnswered before command answer next × AreAnswered next commands answers after
AreAnswered before _ _ after = ⊥
