use Rattle.g_pass.proofs.Given.{answers_have_few_steps}
use Rattle.g_pass.proofs.step_laws.answers_have_few_steps.Goals as goal

pub returns : goal.returns
returns c = answers_have_few_steps c.orders_are_unique.ensures.ranked c.rules_are_steps.ensures c.rules_keep_numbers.ensures c.answers_keep_lists.ensures.lists
