-- A command that has what it asks for, and none of whose calls failed, is done, or memory ran out.
use Rattle.std.specs.Prelude.{◌≡◌, ◌≤◌, ◌⊎◌, ℕ, true, List, length, Option, Some, None, Ok}
use Rattle.std.specs.Option.{ForSome}
use Rattle.base.specs.Limits.{most_sweeps}
use Rattle.r_rule.specs.declared.steps.Rule.{Rule}
use Rattle.s_linear.specs.declared.frame.CodeForm.{CodeForm}
use Rattle.c_typed.specs.Typed.{ProgramTree}
use Rattle.elf_file.specs.Loading.{Executable, loaded}
use Rattle.cc_command.specs.Command.{Command, accept, build, run, generate, check, session, interpret}
use Rattle.cc_watch.specs.Rows.{PlainRow}
use Rattle.cc_watch.specs.Texts.{log_text}
use Rattle.cc_source.specs.SourceLaws.{AreBytes}
use Rattle.cc_source.specs.Accepted.{Accepts}
use Rattle.cc_compile.specs.Compiled.{IsCompiledUnder}
use Rattle.cc_compile.specs.RecipeText.{IsTextOf}
use Rattle.cc_io.specs.Faults.{Increased}
use Rattle.cc_io.specs.Files.{Name, content}
use Rattle.cc_io.specs.Outside.{IfKnown, ReadFails, WriteFails, FilesSeen, Outside, StreamSeen}
use Rattle.log_check.specs.Judgement.{Certifies}
use Rattle.cc_top.specs.Watchers.{has_reporter}

-- The status is 0, or that of memory that ran out.
abbrev pub IsDone : (status : ℕ) → Type 0
IsDone status = (status ≡ 0) ⊎ (status ≡ 6)

-- No call on a stream failed.
abbrev pub Works : (before after : StreamSeen) → Type 0
Works before after = Increased before.faults after.faults → ⊥

-- a build under a recipe, with a watcher to report where one is asked for, of a known source that is accepted
abbrev pub BuildCompletes : {W : Type 0} (named : W → List ℕ) (list : List ℕ) (name : Option (List ℕ)) (source image : Name) (status : ℕ) (before after : FilesSeen) → List W → Type 0
BuildCompletes named list name source image status before after ws =
    (recipe : List Rule) → IsTextOf recipe list → has_reporter named name ws ≡ true → (ReadFails source before after → ⊥) → (WriteFails image before after → ⊥) →
    IfKnown source before (λ text. (p : ProgramTree) → Accepts text p → IsDone status)

-- a run of a known file that can be loaded, which ends with 7 too
abbrev pub RunCompletes : (image : Name) (status : ℕ) (before after : Outside) → Type 0
RunCompletes image status before after =
    (ReadFails image before.files after.files → ⊥) → Works before.input after.input → Works before.output after.output →
    ForSome before.files.known (λ files. (e : Executable) → loaded (content image files) ≡ Ok e → IsDone status ⊎ (status ≡ 7))

-- a generated program
abbrev pub GenerateCompletes : (out : Name) (status : ℕ) (before after : FilesSeen) → Type 0
GenerateCompletes out status before after = (WriteFails out before after → ⊥) → IsDone status

-- a known source on the input that is accepted
abbrev pub AcceptCompletes : (status : ℕ) (input input' output output' : StreamSeen) → Type 0
AcceptCompletes status input input' output output' =
    Works input input' → Works output output' → ForSome input.bytes (λ text. (p : ProgramTree) → Accepts text p → IsDone status)

-- a check of known files: the log certifies the image; or log and image are those of a build of the source, which holds bytes, under any recipe
pub record CheckCompletes (source log image : Name) (form : CodeForm) (status : ℕ) (before after : FilesSeen) : Type 0 where
  pub certified :
      (ReadFails source before after → ⊥) → (ReadFails log before after → ⊥) → (ReadFails image before after → ⊥) →
      ForSome before.known (λ files. Certifies (content source files) form (content log files) (content image files) → IsDone status)
  pub built :
      (ReadFails source before after → ⊥) → (ReadFails log before after → ⊥) → (ReadFails image before after → ⊥) →
      ForSome before.known (λ files.
      AreBytes (content source files) → (p : ProgramTree) → Accepts (content source files) p → (recipe : List Rule) → length recipe ≤ most_sweeps →
      (rows : List PlainRow) → IsCompiledUnder recipe form p (content image files) rows → content log files ≡ log_text rows → IsDone status)

-- a session under a recipe on a known source that is accepted, which ends with 9 too
abbrev pub SessionCompletes : (list : List ℕ) (source image : Name) (status : ℕ) (before after : Outside) → Type 0
SessionCompletes list source image status before after =
    (recipe : List Rule) → IsTextOf recipe list → (ReadFails source before.files after.files → ⊥) → (WriteFails image before.files after.files → ⊥) →
    Works before.input after.input → Works before.output after.output →
    IfKnown source before.files (λ text. (p : ProgramTree) → Accepts text p → IsDone status ⊎ (status ≡ 9))

-- a run of a known source that is accepted, which ends with 7 too
abbrev pub InterpretCompletes : (source : Name) (status : ℕ) (before after : Outside) → Type 0
InterpretCompletes source status before after =
    (ReadFails source before.files after.files → ⊥) → Works before.input after.input → Works before.output after.output →
    IfKnown source before.files (λ text. (p : ProgramTree) → Accepts text p → IsDone status ⊎ (status ≡ 7))

abbrev pub Completes : {W : Type 0} (named : W → List ℕ) → Option Command → (status : ℕ) → (before after : Outside) → List W → Type 0
Completes named None status before after ws = Unit {0}
Completes named (Some accept) status before after ws = AcceptCompletes status before.input after.input before.output after.output
Completes named (Some (build source image list workers name form)) status before after ws =
    BuildCompletes named list name source image status before.files after.files ws
Completes named (Some (generate start functions out)) status before after ws = GenerateCompletes out status before.files after.files
Completes named (Some (run image steps)) status before after ws = RunCompletes image status before after
Completes named (Some (check source log image form)) status before after ws = CheckCompletes source log image form status before.files after.files
Completes named (Some (session source image list workers form)) status before after ws = SessionCompletes list source image status before after
Completes named (Some (interpret source bound)) status before after ws = InterpretCompletes source status before after
