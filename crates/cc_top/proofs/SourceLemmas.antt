-- What the bytes that were read compile to, the source compiles to.
use Rattle.std.proofs.Common.{◌≡◌, ℕ, List, take, Option, subst}
use Rattle.std.specs.Option.{ForSome}
use Rattle.r_rule.specs.declared.steps.Rule.{Rule}
use Rattle.s_linear.specs.declared.frame.CodeForm.{CodeForm}
use Rattle.cc_source.specs.Accepted.{Accepts}
use Rattle.cc_watch.specs.Rows.{PlainRow}
use Rattle.cc_io.specs.Files.{Name, FileSet, content}
use Rattle.cc_source.proofs.lemmas.Sources.{whole_text}
use Rattle.cc_top.specs.Compiled.{CompilesTo, Defines, WasCompiled}

pub compiled_of_read : (recipe : List Rule) (form : CodeForm) (source : Name) (known : Option FileSet) (read bytes : List ℕ) (functions : ℕ) (rows : List PlainRow)
    → ForSome known (λ files. read ≡ take 1048577 (content source files)) → CompilesTo recipe form read bytes functions rows → WasCompiled recipe form source known bytes rows
compiled_of_read recipe form source known read bytes functions rows same h = record {
  text = read;
  read = λ files is. whole_text (content source files) read h.image.program (same files is) h.image.accepted;
  image = h.image;
  listed = h.listed;
}

pub defines_of_read : (recipe : List Rule) (form : CodeForm) (s read bytes : List ℕ) (functions : ℕ) (rows : List PlainRow) → read ≡ take 1048577 s → CompilesTo recipe form read bytes functions rows → Defines functions s
defines_of_read recipe form s read bytes functions rows same h = record {
  program = h.image.program;
  accepted = subst (λ t. Accepts t h.image.program) (whole_text s read h.image.program same h.image.accepted) h.image.accepted;
  counted = h.counted;
}
