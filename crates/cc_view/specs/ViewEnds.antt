-- How a command ends: the cause of each outcome, and what the output holds then. No file changes.
use Rattle.std.specs.Prelude.{◌≡◌, ◌⊎◌, ◌+◌, ◌++◌, ℕ, List, codes, take, Option, Some, None}
use Rattle.std.specs.Option.{ForSome}
use Rattle.base.specs.Limits.{most_source_bytes}
use Rattle.r_rule.specs.declared.steps.Rule.{Rule}
use Rattle.cc_io.specs.Faults.{Increased}
use Rattle.cc_io.specs.Files.{Name, FileSet, content}
use Rattle.cc_io.specs.Sink.{append}
use Rattle.cc_compile.specs.RecipeText.{IsTextOf}
use Rattle.cc_view_source.specs.Command.{Command, graph, steps, listing, explain}
use Rattle.cc_view.specs.Shown.{GraphShows, StepsShow, ListingShows, ExplainShows}
use Rattle.cc_io.specs.Outside.{FilesSeen, StreamSeen, ReadFails, Unchanged}
use Rattle.cc_report.specs.Outcome.{line, text_of}
use Rattle.cc_report.specs.declared.outcome.Outcome.{Outcome}
use Rattle.cc_report.specs.declared.outcome.Outcome.TheVariants.{Usage, ReadFault, WriteFault, NoMemory}

-- What is shown was written whole, and the command ends as it was to; or the output has gained a prefix of it.
abbrev pub IsWritten : (ended : Outcome) (shown : List ℕ) → Outcome → (output output' : StreamSeen) → Type 0
IsWritten ended shown result output output' =
    ((result ≡ ended) × (output'.bytes ≡ append output.bytes shown))
    ⊎ ((result ≡ WriteFault) × Increased output.faults output'.faults × ((count : ℕ) × (output'.bytes ≡ append output.bytes (take count shown))))

-- What was read of a source, of which no more is read than a byte over the limit, gives this, and the output gains it.
module _ (Shows : (source : List ℕ) → Outcome → (shown : List ℕ) → Type 0) where
  pub record WasShown (name : Name) (known : Option FileSet) (ended : Outcome) (shown : List ℕ) : Type 0 where
    pub text : List ℕ
    pub read : ForSome known (λ files. text ≡ take (most_source_bytes + 1) (content name files))
    pub shows : Shows text ended shown

  abbrev pub ShownCause : (name : Name) → Outcome → (before after : FilesSeen) → (output output' : StreamSeen) → Type 0
  ShownCause name ReadFault before after output output' = ReadFails name before after × (output' ≡ output)
  ShownCause name WriteFault before after output output' =
      (ended : Outcome) × (shown : List ℕ) × WasShown name before.known ended shown × Increased output.faults output'.faults
      × ((count : ℕ) × (output'.bytes ≡ append output.bytes (take count shown)))
  ShownCause name ended before after output output' =
      (shown : List ℕ) × WasShown name before.known ended shown × (output'.bytes ≡ append output.bytes shown)

-- ---- the commands

abbrev pub source_of : Command → Name
source_of (graph source list function after drawing) = source
source_of (steps source list) = source
source_of (listing source list) = source
source_of (explain source list) = source

-- the text of the recipe
abbrev pub list_of : Command → List ℕ
list_of (graph source list function after drawing) = list
list_of (steps source list) = list
list_of (listing source list) = list
list_of (explain source list) = list

abbrev pub CommandShows : List Rule → Command → (source : List ℕ) → Outcome → (shown : List ℕ) → Type 0
CommandShows recipe (graph source list function after drawing) = GraphShows recipe function after drawing
CommandShows recipe (steps source list) = StepsShow recipe
CommandShows recipe (listing source list) = ListingShows recipe
CommandShows recipe (explain source list) = ExplainShows recipe

-- The command ends so under the recipe that its list is of. Where the list is of no recipe, the arguments are no command. Memory may run out for them too.
pub record ViewEndsUnder (command : Command) (ended : Outcome) (before after : FilesSeen) (output output' : StreamSeen) : Type 0 where
  pub shown : (recipe : List Rule) → IsTextOf recipe (list_of command) → ShownCause (CommandShows recipe command) (source_of command) ended before after output output'
  pub usage : ((recipe : List Rule) → IsTextOf recipe (list_of command) → ⊥) → ((ended ≡ Usage) ⊎ (ended ≡ NoMemory)) × (after ≡ before) × (output' ≡ output)
  pub files : Unchanged before after

abbrev pub ViewEnds : Option Command → Outcome → (before after : FilesSeen) → (output output' : StreamSeen) → Type 0
ViewEnds None ended before after output output' = ((ended ≡ Usage) ⊎ (ended ≡ NoMemory)) × (after ≡ before) × (output' ≡ output)
ViewEnds (Some command) ended before after output output' = ViewEndsUnder command ended before after output output'

-- ---- what is said

abbrev pub usage_text : List ℕ
usage_text =
    line (codes "usage: rvcc-view graph IN [--recipe LIST] [--function NAME] [--after K] [--form dot|rows]")
    ++ line (codes "       rvcc-view steps IN [--recipe LIST]")
    ++ line (codes "       rvcc-view listing IN [--recipe LIST]")
    ++ line (codes "       rvcc-view explain IN [--recipe LIST]")

-- the line of the compiler's program, but for its usage
abbrev pub said_of : Outcome → List ℕ
said_of Usage = usage_text
said_of ended = text_of ended
