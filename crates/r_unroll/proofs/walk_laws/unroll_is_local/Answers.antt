use Rattle.std.specs.Prelude.{[]}
use Rattle.r_unroll.proofs.Said as said
use Rattle.r_unroll.proofs.walk_laws.unroll_is_local.Goals as goal

pub returns : goal.returns
returns c = said.unroll_is_local (λ n l well. (c.unroll_keeps_meaning.ensures.step [] n l well).well_formed)
