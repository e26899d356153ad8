use Rattle.cc_script_text.proofs.lemmas.Said.{taken_is_said, end_is_said, broken_is_said, lack_is_said}
use Rattle.cc_script_text.proofs.laws.what_is_taken_is_said.Goals as goal

pub returns : goal.returns
returns c = record { commands = taken_is_said; end = end_is_said; broken = broken_is_said; lack = lack_is_said }
