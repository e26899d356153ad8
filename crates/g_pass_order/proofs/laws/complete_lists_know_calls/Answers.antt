use Rattle.g_pass_order.proofs.Known.{complete_lists_know_calls}
use Rattle.g_pass_order.proofs.laws.complete_lists_know_calls.Goals as goal

pub returns : goal.returns
returns c = complete_lists_know_calls
