use Rattle.cc_script_text.proofs.Rows.{script_rows}
use Rattle.cc_script_text.proofs.laws.scripts_say_commands.Goals as goal

pub returns : goal.returns
returns c = script_rows
