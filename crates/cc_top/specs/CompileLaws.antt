-- Laws of what a source is compiled to.
use Rattle.std.specs.Prelude.{◌≤◌, ℕ, List, length}
use Rattle.base.specs.Limits.{most_sweeps}
use Rattle.c_typed.specs.Typed.{ProgramTree}
use Rattle.r_rule.specs.declared.steps.Rule.{Rule}
use Rattle.s_linear.specs.declared.frame.CodeForm.{CodeForm}
use Rattle.cc_watch.specs.Rows.{PlainRow}
use Rattle.cc_watch.specs.Texts.{log_text}
use Rattle.cc_source.specs.SourceLaws.{AreBytes}
use Rattle.cc_source.specs.Accepted.{Accepts}
use Rattle.cc_compile.specs.Compiled.{IsCompiledUnder}
use Rattle.log_check.specs.Judgement.{Certifies}

-- The log of the rows that tell what a recipe did to an accepted source certifies the image of the source under the
-- recipe.
abbrev pub LogsCertifyImages : Type 0
LogsCertifyImages =
    (source : List ℕ) → AreBytes source → (p : ProgramTree) → Accepts source p → (recipe : List Rule) → length recipe ≤ most_sweeps →
    (form : CodeForm) (bytes : List ℕ) (rows : List PlainRow) → IsCompiledUnder recipe form p bytes rows → Certifies source form (log_text rows) bytes
