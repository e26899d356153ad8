-- The arguments that the command line takes, in the terms of the kit's reader of command lines.
use Rattle.std.specs.Prelude.{List, Some, codes, true, false, map, ◌++◌}
use Rattle.clap.specs.Simple.{App, Shape, new_rule, new_shape}
use Rattle.clap.specs.Walk.{Rule}
use Rattle.cc_command.specs.ParsedArguments.{Text}
use Rattle.cc_command.specs.Forms.{Form, Positional, OptionForm}
use Rattle.cc_command.specs.Command.{forms}

-- a required argument
abbrev pub required : Text → Rule
required name = record (new_rule name) { required = true }

-- an option, whose value is a text
abbrev pub option : Text → Rule
option name = record (new_rule name) { long = Some name }

abbrev pub rules_of : List Positional → List OptionForm → List Rule
rules_of ps os = map (λ p. required p.name) ps ++ map (λ o. option o.name) os

-- a command of this form
abbrev pub shape_of_form : {A : Type 0} → Form A → Shape
shape_of_form form = record (new_shape form.name) { rules = rules_of form.positionals form.options }

abbrev pub app_of_forms : {A : Type 0} → List (Form A) → App
app_of_forms fs = record { top = record (new_shape (codes "rvcc")) { is_leaf = false }; subs = map shape_of_form fs }

-- the program, of which each command is a subcommand
unfoldable pub rvcc : App
rvcc = app_of_forms forms
