-- What a command shows of the text of a source under a recipe, and how it ends.
use Rattle.std.specs.Prelude.{◌≡◌, ℕ, List, [], Option, Some, None, length}
use Rattle.r_rule.specs.declared.steps.Rule.{Rule}
use Rattle.g_graph.specs.Plain.{PlainOmega}
use Rattle.r_rule.specs.Optimised.{PlainOptimised}
use Rattle.cc_emit.specs.Image.{lambdas_of}
use Rattle.cc_listing.specs.Lines.{IsListing}
use Rattle.cc_source.specs.Accepted.{Refuses}
use Rattle.cc_source.specs.declared.fault.CompileFault.{CompileFault}
use Rattle.cc_source.specs.Refusal.{refusal_of}
use Rattle.cc_source.specs.Refused.{IsRefused}
use Rattle.cc_report.specs.declared.refusal.Refusal.{Refusal}
use Rattle.cc_report.specs.declared.outcome.Outcome.{Outcome}
use Rattle.cc_report.specs.declared.outcome.Outcome.TheVariants.{Done, Usage, Refused, NoMemory}
use Rattle.cc_view_source.specs.declared.arguments.Drawing.{Drawing}
use Rattle.cc_view_source.specs.Made.{IsMade}
use Rattle.cc_view_source.specs.Drawn.{AreShown, IsOneShown, IsThere}
use Rattle.cc_view_source.specs.Tables.{AreTables}
use Rattle.cc_view.specs.Explanation.{IsExplained, IsRefusalText}

-- of the program of the text, and what the recipe makes of its functions
abbrev pub OfMade : List Rule → (source : List ℕ) → (PlainOmega → List PlainOptimised → Type 0) → Type 0
OfMade recipe source P = (omega : PlainOmega) × (answers : List PlainOptimised) × IsMade recipe source omega answers × P omega answers

-- of some source, under some recipe
abbrev pub IsOfSome : PlainOmega → List PlainOptimised → Type 0
IsOfSome omega answers = (recipe : List Rule) × (source : List ℕ) × IsMade recipe source omega answers

-- the source is refused so, and nothing is shown of it
abbrev pub IsUnshown : (source : List ℕ) → Refusal → (shown : List ℕ) → Type 0
IsUnshown source refusal shown = IsRefused source refusal × (shown ≡ [])

-- all functions, or the one of a name, after its first steps where a number is given
abbrev pub AreDrawn : List Rule → (omega : PlainOmega) (answers : List PlainOptimised) → (function : Option (List ℕ)) → (after : Option ℕ) → Drawing → (shown : List ℕ) → Type 0
AreDrawn recipe omega answers None after drawing shown = AreShown drawing omega.names answers (length answers) shown
AreDrawn recipe omega answers (Some name) after drawing shown = IsOneShown recipe omega.lambdas omega.names answers name after drawing shown

-- there is no function of the name, or it has fewer steps
abbrev pub IsUnknown : (omega : PlainOmega) (answers : List PlainOptimised) → (function : Option (List ℕ)) → (after : Option ℕ) → Type 0
IsUnknown omega answers None after = ⊥
IsUnknown omega answers (Some name) after = IsThere omega.names answers name after → ⊥

abbrev pub GraphShows : List Rule → (function : Option (List ℕ)) → (after : Option ℕ) → Drawing → (source : List ℕ) → Outcome → (shown : List ℕ) → Type 0
GraphShows recipe function after drawing source Done shown = OfMade recipe source (λ omega answers. AreDrawn recipe omega answers function after drawing shown)
GraphShows recipe function after drawing source Usage shown = OfMade recipe source (λ omega answers. IsUnknown omega answers function after) × (shown ≡ [])
GraphShows recipe function after drawing source (Refused refusal) shown = IsUnshown source refusal shown
GraphShows recipe function after drawing source NoMemory shown = shown ≡ []
GraphShows recipe function after drawing source _ shown = ⊥

-- a table for each function
abbrev pub StepsShow : List Rule → (source : List ℕ) → Outcome → (shown : List ℕ) → Type 0
StepsShow recipe source Done shown = OfMade recipe source (λ omega answers. AreTables recipe omega answers (length omega.lambdas) shown)
StepsShow recipe source (Refused refusal) shown = IsUnshown source refusal shown
StepsShow recipe source NoMemory shown = shown ≡ []
StepsShow recipe source _ shown = ⊥

-- the image as an assembler source
abbrev pub ListingShows : List Rule → (source : List ℕ) → Outcome → (shown : List ℕ) → Type 0
ListingShows recipe source Done shown = OfMade recipe source (λ omega answers. IsListing omega (lambdas_of answers) shown)
ListingShows recipe source (Refused refusal) shown = IsUnshown source refusal shown
ListingShows recipe source NoMemory shown = shown ≡ []
ListingShows recipe source _ shown = ⊥

-- why the source is refused, with the place of its fault, or the sizes of its image
abbrev pub ExplainShows : List Rule → (source : List ℕ) → Outcome → (shown : List ℕ) → Type 0
ExplainShows recipe source Done shown = OfMade recipe source (λ omega answers. IsExplained omega (lambdas_of answers) shown)
ExplainShows recipe source (Refused refusal) shown =
    (e : CompileFault) × Refuses e source × (refusal_of e source ≡ Some refusal) × IsRefusalText source e refusal shown
ExplainShows recipe source NoMemory shown = shown ≡ []
ExplainShows recipe source _ shown = ⊥
