-- The command line as the kit's reader of command lines reads it.
use Rattle.std.specs.Prelude.{List, [], ◌∷◌, ◌++◌, Option, Some, None, length, if◌then◌else◌, ◌==◌}
use Rattle.clap.specs.Words.{App, Row, first_of, fault_of, subcommand_of}
use Rattle.cc_command.specs.ParsedArguments.{Text}
use Rattle.cc_command.specs.Arguments.{rvcc}
use Rattle.cc_command.specs.Forms.{◌>>=◌, Form, Positional, OptionForm, Value, form_named, value_or_default}
use Rattle.cc_command.specs.Command.{Command, forms}

abbrev pub positionals_in : List Positional → List Row → Option (List Value)
positionals_in [] rows = Some []
positionals_in (p ∷ ps) rows = do
  a ← first_of p.name rows
  value ← p.read a
  values ← positionals_in ps rows
  Some (value ∷ values)

abbrev pub options_in : List OptionForm → List Row → Option (List Value)
options_in [] rows = Some []
options_in (o ∷ os) rows = do
  value ← value_or_default o (first_of o.name rows)
  values ← options_in os rows
  Some (value ∷ values)

-- the command of this form with these values
abbrev pub read_by : {A : Type 0} → Form A → List Row → Option A
read_by form rows = do
  required ← positionals_in form.positionals rows
  optional ← options_in form.options rows
  form.command (required ++ optional)

-- the command that the arguments name, where they name one of these forms
abbrev pub found_by : {A : Type 0} → List (Form A) → Option (Text × List Row) → Option A
found_by fs found = do
  named ← found
  form ← form_named named.0 fs
  read_by form named.1

-- The command of one of these forms: the arguments are taken without a fault, and those of the command that they name
-- are of its form.
abbrev pub read_app : {A : Type 0} → App → List (Form A) → List Text → Option A
read_app app fs arguments = if length (fault_of app arguments) == 0 then found_by fs (subcommand_of app arguments) else None

-- The command of all arguments, the program's name first.
unfoldable pub read_command : List Text → Option Command
read_command = read_app rvcc forms
