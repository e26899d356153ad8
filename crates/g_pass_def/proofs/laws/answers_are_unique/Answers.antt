use Rattle.g_pass_def.proofs.lemmas.Answers.{answers_exist, answers_are_unique}
use Rattle.g_pass_def.proofs.laws.answers_are_unique.Goals as goal

pub returns : goal.returns
returns c = record { exist = answers_exist c.orders_are_unique.ensures.ranked; unique = answers_are_unique c.orders_are_unique.ensures.unique }
