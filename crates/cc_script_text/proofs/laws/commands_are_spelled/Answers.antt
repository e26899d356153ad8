use Rattle.cc_script_text.proofs.Spelling.{commands_are_spelled}
use Rattle.cc_script_text.proofs.laws.commands_are_spelled.Goals as goal

pub returns : goal.returns
returns c = commands_are_spelled
