-- How `session` ends: the cause of each outcome, and what the files, the input and the output hold then.
use Rattle.std.specs.Prelude.{◌≡◌, ◌⊎◌, ℕ, None, List}
use Rattle.std.specs.Option.{ForSome}
use Rattle.r_rule.specs.declared.steps.Rule.{Rule}
use Rattle.s_linear.specs.declared.frame.CodeForm.{CodeForm}
use Rattle.cc_compile.specs.RecipeText.{IsTextOf}
use Rattle.cc_io.specs.Files.{Name, content}
use Rattle.cc_io.specs.Outside.{Outside, IfKnown, ReadFails, Unchanged}
use Rattle.cc_source.specs.Refused.{IsRefused}
use Rattle.cc_report.specs.declared.outcome.Outcome.{Outcome}
use Rattle.cc_report.specs.declared.outcome.Outcome.TheVariants as outcome
use Rattle.cc_session.specs.Session.{PlainSession, IsAcceptedSource}
use Rattle.cc_top.specs.ScriptEnds.{IsPlayed, IsBroken, IsUnread, IsUnsaved, IsUnsaid, LacksMemory}

-- No file has changed, nothing was read of the input and nothing written on the output.
pub record IsUntouched (before after : Outside) : Type 0 where
  pub files : Unchanged before.files after.files
  pub input : after.input ≡ before.input
  pub output : after.output ≡ before.output

-- a session before the first command
abbrev pub opened : (text : List ℕ) (recipe : List Rule) (form : CodeForm) → PlainSession
opened text recipe form = record { source = text; recipe = recipe; form = form; last = None }

-- The text of IN, which is that of its file where the files are known, is accepted, and this holds of the session on it.
pub record Opens (recipe : List Rule) (form : CodeForm) (source : Name) (before : Outside) (P : PlainSession → Type 0) : Type 0 where
  pub text : List ℕ
  pub read : ForSome before.files.known (λ files. text ≡ content source files)
  pub accepted : IsAcceptedSource text
  pub so : P (opened text recipe form)

abbrev pub SessionEnds : (recipe : List Rule) (form : CodeForm) (source image : Name) → Outcome → (before after : Outside) → Type 0
SessionEnds recipe form source image outcome.Done before after = Opens recipe form source before (λ first. IsPlayed first image before after)
SessionEnds recipe form source image (outcome.Script number) before after = Opens recipe form source before (λ first. IsBroken first image number before after)
SessionEnds recipe form source image (outcome.Refused refusal) before after =
    IfKnown source before.files (λ text. IsRefused text refusal) × IsUntouched before after
SessionEnds recipe form source image outcome.ReadFault before after =
    (ReadFails source before.files after.files × IsUntouched before after)
    ⊎ Opens recipe form source before (λ first. IsUnread first image before after)
SessionEnds recipe form source image outcome.WriteFault before after =
    Opens recipe form source before (λ first. IsUnsaved first image before after ⊎ IsUnsaid first image before after)
SessionEnds recipe form source image outcome.NoMemory before after =
    IsUntouched before after ⊎ Opens recipe form source before (λ first. LacksMemory first image before after)
SessionEnds recipe form source image _ before after = ⊥

-- ---- under the text of a recipe

-- The session ends so under the recipe that the list is of, in this form of code. Where it is of none the arguments are no command.
pub record SessionEndsUnder (list : List ℕ) (form : CodeForm) (source image : Name) (ended : Outcome) (before after : Outside) : Type 0 where
  pub session : (recipe : List Rule) → IsTextOf recipe list → SessionEnds recipe form source image ended before after
  pub usage : ((recipe : List Rule) → IsTextOf recipe list → ⊥) → ((ended ≡ outcome.Usage) ⊎ (ended ≡ outcome.NoMemory)) × (after ≡ before)
