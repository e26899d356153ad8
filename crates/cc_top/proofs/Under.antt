-- A session under the recipe of a text.
use Rattle.std.proofs.Common.{ℕ, List, refl, sym, ◌∙◌, subst, inl}
use Rattle.r_rule.specs.declared.steps.Rule.{Rule}
use Rattle.s_linear.specs.declared.frame.CodeForm.{CodeForm}
use Rattle.g_pass.specs.Recipe.{OneRecipe}
use Rattle.cc_compile.specs.RecipeText.{IsTextOf}
use Rattle.cc_io.specs.Files.{Name}
use Rattle.cc_io.specs.Outside.{Outside}
use Rattle.cc_report.specs.declared.outcome.Outcome.{Outcome}
use Rattle.cc_report.specs.declared.outcome.Outcome.TheVariants.{Usage}
use Rattle.cc_top.specs.SessionEnds.{SessionEnds, SessionEndsUnder}

pub under_it : OneRecipe → (list : List ℕ) (recipe : List Rule) (form : CodeForm) (source image : Name) (ended : Outcome) (before after : Outside) → IsTextOf recipe list
    → SessionEnds recipe form source image ended before after → SessionEndsUnder list form source image ended before after
under_it one list recipe form source image ended before after it ends = record {
  session = λ other is. subst (λ r. SessionEnds r form source image ended before after) (one recipe other (sym it.written ∙ is.written)) ends;
  usage = λ none. absurd (none recipe it);
}

pub under_none : (list : List ℕ) (form : CodeForm) (source image : Name) (now : Outside) → ((recipe : List Rule) → IsTextOf recipe list → ⊥) → SessionEndsUnder list form source image Usage now now
under_none list form source image now none = record { session = λ recipe is. absurd (none recipe is); usage = λ all. (inl refl, refl) }
