-- The command line of the program that shows: a command, or none.
use Rattle.std.specs.Prelude.{ℕ, ◌&&◌, List, [], ◌∷◌, Option, Some, None, codes, is_some, is_none, if◌then◌else◌}
use Rattle.std.specs.Str.{bytes_eq}
use Rattle.cc_command.specs.ParsedArguments.{Text}
use Rattle.cc_command.specs.Command.{read_text, read_number, recipe_option}
use Rattle.cc_command.specs.Forms.{◌>>=◌, Form, OptionForm, Positional, Value, text, number, code, absent, command_among}
use Rattle.cc_view_source.specs.declared.arguments.Drawing.{Drawing}
use Rattle.cc_view_source.specs.declared.arguments.Drawing.TheVariants.{Dot, Rows}

-- what the arguments ask for; names are the bytes of their text
pub data Command : Type 0 where
  -- draw the functions of a source under the recipe that a text gives, or the one of a name, after its first steps where a number is given
  graph : (source recipe : Text) → (function : Option Text) → (after : Option ℕ) → Drawing → Command
  -- tell what each sweep of the recipe does to each function
  steps : (source recipe : Text) → Command
  -- write its image as an assembler source
  listing : (source recipe : Text) → Command
  -- say why the source is refused, or how large its image is and how deep its stack gets
  explain : (source recipe : Text) → Command

-- ---- values

-- a text that may be left out
abbrev pub optional_text : Value → Option (Option Text)
optional_text (text t) = Some (Some t)
optional_text absent = Some None
optional_text (number n) = None
optional_text (code form) = None

-- a number that may be left out
abbrev pub optional_number : Value → Option (Option ℕ)
optional_number (number n) = Some (Some n)
optional_number absent = Some None
optional_number (text t) = None
optional_number (code form) = None

abbrev pub drawing_named : Text → Option Drawing
drawing_named t = if bytes_eq t (codes "dot") then Some Dot else (if bytes_eq t (codes "rows") then Some Rows else None)

abbrev pub drawing_of : Value → Option Drawing
drawing_of (text t) = drawing_named t
drawing_of _ = None

-- ---- the commands

-- steps are those of one function
abbrev pub graph_after : (source recipe : Text) → Option Text → Option ℕ → Drawing → Option Command
graph_after source recipe function after drawing =
    if is_some after && is_none function then None else Some (graph source recipe function after drawing)

-- `graph IN [--recipe LIST] [--function NAME] [--after K] [--form dot|rows]`, LIST and NAME being any texts, LIST `none` where it is not given
abbrev pub graph_of : List Value → Option Command
graph_of (text source ∷ text recipe ∷ function ∷ after ∷ form ∷ []) = do
  name ← optional_text function
  count ← optional_number after
  drawing ← drawing_of form
  graph_after source recipe name count drawing
graph_of _ = None

abbrev pub graph_recipe_option : OptionForm
graph_recipe_option = record { name = codes "recipe"; read = read_text; default = text (codes "none") }

abbrev pub function_option : OptionForm
function_option = record { name = codes "function"; read = read_text; default = absent }

abbrev pub after_option : OptionForm
after_option = record { name = codes "after"; read = read_number 0 4294967295; default = absent }

abbrev pub form_option : OptionForm
form_option = record { name = codes "form"; read = read_text; default = text (codes "dot") }

abbrev pub source_argument : Positional
source_argument = record { name = codes "IN"; read = read_text }

abbrev pub graph_form : Form Command
graph_form = record {
  name = codes "graph";
  positionals = source_argument ∷ [];
  options = graph_recipe_option ∷ function_option ∷ after_option ∷ form_option ∷ [];
  command = graph_of;
}

-- `steps IN [--recipe LIST]`, LIST being that of a build where it is not given
abbrev pub steps_of : List Value → Option Command
steps_of (text source ∷ text recipe ∷ []) = Some (steps source recipe)
steps_of _ = None

abbrev pub steps_form : Form Command
steps_form = record { name = codes "steps"; positionals = source_argument ∷ []; options = recipe_option ∷ []; command = steps_of }

-- `listing IN [--recipe LIST]`, LIST as of `steps`
abbrev pub listing_of : List Value → Option Command
listing_of (text source ∷ text recipe ∷ []) = Some (listing source recipe)
listing_of _ = None

abbrev pub listing_form : Form Command
listing_form = record { name = codes "listing"; positionals = source_argument ∷ []; options = recipe_option ∷ []; command = listing_of }

-- `explain IN [--recipe LIST]`, LIST as of `steps`
abbrev pub explain_of : List Value → Option Command
explain_of (text source ∷ text recipe ∷ []) = Some (explain source recipe)
explain_of _ = None

abbrev pub explain_form : Form Command
explain_form = record { name = codes "explain"; positionals = source_argument ∷ []; options = recipe_option ∷ []; command = explain_of }

abbrev pub forms : List (Form Command)
forms = graph_form ∷ steps_form ∷ listing_form ∷ explain_form ∷ []

-- The command of all arguments, the program's name first.
abbrev pub command_of : List Text → Option Command
command_of = command_among forms
