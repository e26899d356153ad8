-- The form of a command: which arguments it takes, and how their values are read.
use Rattle.std.specs.Prelude.{ℕ, Bool, ◌||◌, List, [], ◌∷◌, ◌++◌, Option, Some, None, codes, find, if◌then◌else◌, map, option_and_then}
use Rattle.std.specs.List.{list_any}
use Rattle.std.specs.Str.{bytes_eq}
use Rattle.s_linear.specs.declared.frame.CodeForm.{CodeForm}
use Rattle.cc_command.specs.ParsedArguments.{Text, ParsedArguments, parsed, value_of}

infixl 10 ◌>>=◌
abbrev pub ◌>>=◌ : {A B : Type 0} → Option A → (A → Option B) → Option B
o >>= f = option_and_then f o

pub data Value : Type 0 where
  text : Text → Value
  number : ℕ → Value
  code : CodeForm → Value
  -- that of an option which is not given, where it has no other
  absent : Value

-- a required argument
pub record Positional : Type 0 where
  pub name : Text
  pub read : Text → Option Value

-- an option of one value, and its value where it is not given
pub record OptionForm : Type 0 where
  pub name : Text
  pub read : Text → Option Value
  pub default : Value

-- a command with its required arguments in order, its options, and what it is with their values
pub record Form (A : Type 0) : Type 0 where
  pub name : Text
  pub positionals : List Positional
  pub options : List OptionForm
  pub command : List Value → Option A

abbrev pub option_names : List OptionForm → List Text
option_names = map (λ o. o.name)

-- the values of the required arguments, of which each is given and no more
abbrev pub positional_values : List Positional → List Text → Option (List Value)
positional_values [] [] = Some []
positional_values (p ∷ ps) (a ∷ rest) = do
  value ← p.read a
  values ← positional_values ps rest
  Some (value ∷ values)
positional_values _ _ = None

abbrev pub value_or_default : OptionForm → Option Text → Option Value
value_or_default o None = Some o.default
value_or_default o (Some a) = o.read a

-- the values of the options
abbrev pub option_values : List OptionForm → List (Text × Text) → Option (List Value)
option_values [] given = Some []
option_values (o ∷ os) given = do
  a ← value_of o.name given
  value ← value_or_default o a
  values ← option_values os given
  Some (value ∷ values)

abbrev pub command_with : {A : Type 0} → Form A → ParsedArguments → Option A
command_with form p = do
  required ← positional_values form.positionals p.positionals
  optional ← option_values form.options p.options
  form.command (required ++ optional)

-- the command of this form with these arguments
abbrev pub command_by : {A : Type 0} → Form A → List Text → Option A
command_by form arguments = option_and_then (command_with form) (parsed (option_names form.options) None arguments)

-- ---- the command line

-- the argument asks for help or for the version
abbrev pub asks_for_help : Text → Bool
asks_for_help a =
    bytes_eq a (codes "help")
    || (bytes_eq a (codes "--help") || (bytes_eq a (codes "-h") || (bytes_eq a (codes "--version") || bytes_eq a (codes "-V"))))

abbrev pub form_named : {A : Type 0} → Text → List (Form A) → Option (Form A)
form_named name = find (λ f. bytes_eq name f.name)

abbrev pub command_after : {A : Type 0} → List (Form A) → List Text → Option A
command_after forms [] = None
command_after forms (name ∷ arguments) = do
  form ← form_named name forms
  command_by form arguments

-- The command of all arguments, the program's name first, where it is of one of these forms.
abbrev pub command_among : {A : Type 0} → List (Form A) → List Text → Option A
command_among forms [] = None
command_among forms (program ∷ arguments) = if list_any asks_for_help arguments then None else command_after forms arguments
