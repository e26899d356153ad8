use Rattle.std.specs.Prelude.{[]}
use Rattle.r_push.proofs.Walks as walks
use Rattle.r_push.proofs.walk_laws.walk_is_sweep.Goals as goal

pub returns : goal.returns
returns c = walks.walk_is_sweep (λ n l well. (c.push_keeps_meaning.ensures.step [] n l well).well_formed)
