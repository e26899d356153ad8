use Rattle.cc_script_text.proofs.lemmas.Scripts.{commands_stand, breaks_stand}
use Rattle.cc_script_text.proofs.laws.first_commands_stand.Goals as goal

pub returns : goal.returns
returns c = record { commands = commands_stand; breaks = breaks_stand }
