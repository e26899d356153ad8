use Rattle.cc_script_text.proofs.lemmas.Scripts.{rest_is_not_read}
use Rattle.cc_script_text.proofs.laws.the_rest_is_not_read.Goals as goal

pub returns : goal.returns
returns c = rest_is_not_read
