-- What a source compiles to.
use Rattle.std.specs.Prelude.{◌≡◌, ℕ, List, length, Option}
use Rattle.std.specs.Option.{ForSome}
use Rattle.c_typed.specs.Typed.{ProgramTree}
use Rattle.r_rule.specs.declared.steps.Rule.{Rule}
use Rattle.s_linear.specs.declared.frame.CodeForm.{CodeForm}
use Rattle.cc_source.specs.Accepted.{Accepts}
use Rattle.cc_compile.specs.Compiled.{IsImageUnder, rows_of}
use Rattle.cc_source.specs.Meaning.{KeepsMeaning}
use Rattle.cc_emit.specs.Image.{lambdas_of}
use Rattle.cc_io.specs.Files.{Name, FileSet, content}
use Rattle.cc_watch.specs.Rows.{PlainRow}

-- A source is accepted, these bytes are its image under a recipe, and on the machine they do what the source does.
pub record HasImage (recipe : List Rule) (form : CodeForm) (source bytes : List ℕ) : Type 0 where
  pub program : ProgramTree
  pub accepted : Accepts source program
  pub image : IsImageUnder recipe form program bytes
  pub meaning : KeepsMeaning form program (lambdas_of image.answers) bytes

-- what the recipe did to each function of that source
abbrev pub rows_in : {recipe : List Rule} {form : CodeForm} {source bytes : List ℕ} → HasImage recipe form source bytes → List PlainRow
rows_in h = rows_of h.program h.image.answers

-- A source is accepted, and defines so many functions.
pub record Defines (functions : ℕ) (source : List ℕ) : Type 0 where
  pub program : ProgramTree
  pub accepted : Accepts source program
  pub counted : functions ≡ length program.functions

-- A source is accepted, these bytes are its image under a recipe, which does what the source does, it defines so many
-- functions, and these rows tell what the recipe did to them.
pub record CompilesTo (recipe : List Rule) (form : CodeForm) (source bytes : List ℕ) (functions : ℕ) (rows : List PlainRow) : Type 0 where
  pub image : HasImage recipe form source bytes
  pub counted : functions ≡ length image.program.functions
  pub listed : rows ≡ rows_in image

-- The text of a source, which is that of the file of its name where the files are known, compiles to these bytes, and
-- these rows tell what the recipe did to its functions.
pub record WasCompiled (recipe : List Rule) (form : CodeForm) (source : Name) (known : Option FileSet) (bytes : List ℕ) (rows : List PlainRow) : Type 0 where
  pub text : List ℕ
  pub read : ForSome known (λ files. text ≡ content source files)
  pub image : HasImage recipe form text bytes
  pub listed : rows ≡ rows_in image
