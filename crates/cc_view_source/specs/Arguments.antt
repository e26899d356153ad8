-- The command line as the kit's reader of command lines takes and reads it.
use Rattle.std.specs.Prelude.{List, Option}
use Rattle.clap.specs.Simple.{App}
use Rattle.cc_command.specs.ParsedArguments.{Text}
use Rattle.cc_command.specs.Arguments.{app_of_forms}
use Rattle.cc_command.specs.Reading.{read_app}
use Rattle.cc_view_source.specs.Command.{Command, forms}

-- the program, of which each command is a subcommand
unfoldable pub view_app : App
view_app = app_of_forms forms

-- The command of all arguments, the program's name first.
unfoldable pub read_command : List Text → Option Command
read_command = read_app view_app forms
