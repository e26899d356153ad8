use Rattle.std.proofs.Common.{[], ◌∷◌}
use Rattle.g_pass.specs.Sweep.{rules}
use Rattle.log_check.proofs.replay_laws.sweeps_replay.Goals as goal

-- it is the recipe of one sweep
pub returns : goal.returns
returns c callees r l = c.recipes_are_steps.ensures.same rules callees (r ∷ []) l
