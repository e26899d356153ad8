use Rattle.g_pass_work.proofs.Unstale.{unstale_answers_are_kept}
use Rattle.g_pass_work.proofs.laws.unstale_answers_are_kept.Goals as goal

pub returns : goal.returns
returns c = unstale_answers_are_kept c.orders_are_unique.ensures.ranked
