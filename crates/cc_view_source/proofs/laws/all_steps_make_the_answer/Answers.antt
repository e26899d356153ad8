use Rattle.cc_view_source.proofs.Replays.{all_steps}
use Rattle.cc_view_source.proofs.laws.all_steps_make_the_answer.Goals as goal

pub returns : goal.returns
returns c = all_steps c.recipes_are_steps.ensures.same
