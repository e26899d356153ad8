-- How `build` ends: the cause of each outcome, and what the files hold and the watchers stand for then.
use Rattle.std.specs.Prelude.{◌≡◌, ◌≢◌, ◌⊎◌, ℕ, true, List, Option}
use Rattle.std.specs.Option.{ForSome}
use Rattle.c_typed.specs.Typed.{ProgramTree}
use Rattle.r_rule.specs.declared.steps.Rule.{Rule}
use Rattle.s_linear.specs.declared.frame.CodeForm.{CodeForm}
use Rattle.cc_source.specs.Accepted.{Accepts}
use Rattle.cc_compile.specs.Compiled.{IsImageUnder, rows_of}
use Rattle.cc_compile.specs.RecipeText.{IsTextOf}
use Rattle.cc_emit.specs.Image.{lambdas_of}
use Rattle.cc_source.specs.Meaning.{KeepsMeaning}
use Rattle.cc_watch.specs.Rows.{PlainRow}
use Rattle.cc_io.specs.Files.{Name, content}
use Rattle.cc_io.specs.Outside.{FilesSeen, ReadFails, WriteFails, Writes, Unchanged, WritesPrefix, IfKnown}
use Rattle.cc_report.specs.Outcome.{text_of as line_of}
use Rattle.cc_source.specs.Refused.{IsRefused}
use Rattle.cc_top.specs.Compiled.{WasCompiled}
use Rattle.cc_top.specs.Watchers.{AllHaveBegun, AllHaveGained, IsReportOf, has_reporter}
use Rattle.cc_report.specs.declared.outcome.Outcome.{Outcome}
use Rattle.cc_report.specs.declared.outcome.Outcome.TheVariants.{Done, Usage, ReadFault, WriteFault, Refused, NoMemory}

-- ---- under a recipe

-- What a build that was done has left of the source, whose text is that of its file where the files are known: it is
-- accepted, OUT is exactly what it compiles to under the recipe, every other file is as it was, and on the machine OUT
-- does what the source does.
pub record HasBuilt (recipe : List Rule) (form : CodeForm) (source image : Name) (before after : FilesSeen) : Type 0 where
  pub text : List ℕ
  pub read : ForSome before.known (λ files. text ≡ content source files)
  pub program : ProgramTree
  pub accepted : Accepts text program
  pub bytes : List ℕ
  pub compiled : IsImageUnder recipe form program bytes
  pub written : Writes image bytes before after
  pub meaning : KeepsMeaning form program (lambdas_of compiled.answers) bytes

-- what the recipe did to its functions, in source order
abbrev pub rows_built : {recipe : List Rule} {form : CodeForm} {source image : Name} {before after : FilesSeen} → HasBuilt recipe form source image before after → List PlainRow
rows_built h = rows_of h.program h.compiled.answers

module _ {W : Type 0} (named : W → List ℕ) (stands_for : W → List PlainRow → Type 0) (text_of : W → List PlainRow → List ℕ) where
  -- A build that was done: each watcher has gained the rows, and the report is the named one's.
  pub record IsBuilt (recipe : List Rule) (form : CodeForm) (name : Option (List ℕ)) (source image : Name) (said : List ℕ) (before after : FilesSeen) (ws ws' : List W) : Type 0 where
    pub built : HasBuilt recipe form source image before after
    pub watchers : AllHaveGained named stands_for text_of (rows_built built) ws ws'
    pub report : IsReportOf named stands_for text_of name (rows_built built) ws said

  -- What a source compiles to is given to the watchers, written, and reported, and that ends so.
  abbrev pub Finishes : (name : Option (List ℕ)) (image : Name) (bytes : List ℕ) (rows : List PlainRow) → Outcome → (said : List ℕ) (before after : FilesSeen) (ws ws' : List W) → Type 0
  Finishes name image bytes rows Done said before after ws ws' =
      Writes image bytes before after × AllHaveGained named stands_for text_of rows ws ws' × IsReportOf named stands_for text_of name rows ws said
  Finishes name image bytes rows WriteFault said before after ws ws' =
      WriteFails image before after × WritesPrefix image bytes before after × AllHaveGained named stands_for text_of rows ws ws'
  Finishes name image bytes rows NoMemory said before after ws ws' =
      (Unchanged before after × AllHaveBegun named stands_for text_of rows ws ws') ⊎ (Writes image bytes before after × AllHaveGained named stands_for text_of rows ws ws')
  Finishes name image bytes rows _ said before after ws ws' = ⊥

  -- A source that was compiled ends so.
  abbrev pub FinishesCompiled : (recipe : List Rule) (form : CodeForm) (name : Option (List ℕ)) (source image : Name) → Outcome → (said : List ℕ) (before after : FilesSeen) (ws ws' : List W) → Type 0
  FinishesCompiled recipe form name source image ended said before after ws ws' =
      (bytes : List ℕ) × (rows : List PlainRow) × WasCompiled recipe form source before.known bytes rows × Finishes name image bytes rows ended said before after ws ws'

  abbrev pub BuildEnds : (recipe : List Rule) (form : CodeForm) (name : Option (List ℕ)) (source image : Name) → Outcome → (said : List ℕ) (before after : FilesSeen) (ws ws' : List W) → Type 0
  BuildEnds recipe form name source image Done said before after ws ws' = IsBuilt recipe form name source image said before after ws ws'
  BuildEnds recipe form name source image ReadFault said before after ws ws' = ReadFails source before after × Unchanged before after × (ws' ≡ ws)
  BuildEnds recipe form name source image WriteFault said before after ws ws' = FinishesCompiled recipe form name source image WriteFault said before after ws ws'
  BuildEnds recipe form name source image (Refused refusal) said before after ws ws' =
      IfKnown source before (λ text. IsRefused text refusal) × Unchanged before after × (ws' ≡ ws)
  BuildEnds recipe form name source image NoMemory said before after ws ws' =
      (Unchanged before after × (ws' ≡ ws)) ⊎ FinishesCompiled recipe form name source image NoMemory said before after ws ws'
  BuildEnds recipe form name source image _ said before after ws ws' = ⊥

  -- The build ends so under the recipe that the list is of, where there is a watcher to report. Where the list is of no
  -- recipe, or there is no such watcher, the arguments are no command. What is said of any outcome but `Done` is its line.
  pub record BuildEndsUnder (list : List ℕ) (form : CodeForm) (name : Option (List ℕ)) (source image : Name) (ended : Outcome) (said : List ℕ) (before after : FilesSeen) (ws ws' : List W) : Type 0 where
    pub build : (recipe : List Rule) → IsTextOf recipe list → has_reporter named name ws ≡ true → BuildEnds recipe form name source image ended said before after ws ws'
    pub usage : ((recipe : List Rule) → IsTextOf recipe list → has_reporter named name ws ≡ true → ⊥) → ((ended ≡ Usage) ⊎ (ended ≡ NoMemory)) × (after ≡ before) × (ws' ≡ ws)
    pub line : ended ≢ Done → said ≡ line_of ended

-- ---- a law

-- Two builds that were done, of one source under one recipe to one name, leave the same files where they began with the
-- same, whatever else they were asked.
abbrev pub OneBuild : Type 0
OneBuild =
    (recipe : List Rule) (form : CodeForm) (source image : Name) (before after other_before other_after : FilesSeen) → HasBuilt recipe form source image before after → HasBuilt recipe form source image other_before other_after →
    before.known ≡ other_before.known → after.known ≡ other_after.known
