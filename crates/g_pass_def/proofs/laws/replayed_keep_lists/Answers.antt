use Rattle.g_pass_def.proofs.lemmas.Replayed.{replayed_are_unique}
use Rattle.g_pass_def.proofs.Replayed.{replayed_keep_lists}
use Rattle.g_pass_def.proofs.laws.replayed_keep_lists.Goals as goal

pub returns : goal.returns
returns c =
    let law = c.orders_are_unique.ensures in
    record { kept = replayed_keep_lists law.ranked; unique = replayed_are_unique law.ranked law.unique }
