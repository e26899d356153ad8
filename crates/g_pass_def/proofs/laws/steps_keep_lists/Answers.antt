use Rattle.g_pass_def.proofs.Kept.{lists_keep_themselves, keeping_composes, steps_keep_lists}
use Rattle.g_pass_def.proofs.laws.steps_keep_lists.Goals as goal

pub returns : goal.returns
returns c = record { itself = lists_keep_themselves; next = keeping_composes; step = steps_keep_lists }
