use Rattle.g_pass_def.proofs.lemmas.Answers.{unswept_answers_are_lambdas}
use Rattle.g_pass_def.proofs.Chosen.{some_answers_keep_lists, answers_keep_lists, answers_are_replayed}
use Rattle.g_pass_def.proofs.laws.answers_keep_lists.Goals as goal

pub returns : goal.returns
returns c =
    let ranked = c.orders_are_unique.ensures.ranked in
    record { replayed = answers_are_replayed ranked; some = some_answers_keep_lists ranked; all = answers_keep_lists ranked; unswept = unswept_answers_are_lambdas ranked }
