use Rattle.std.specs.Prelude.{[]}
use Rattle.r_invert.proofs.Said as said
use Rattle.r_invert.proofs.walk_laws.invert_is_local.Goals as goal

pub returns : goal.returns
returns c = said.invert_is_local (λ n l well. (c.invert_keeps_meaning.ensures.step [] n l well).well_formed)
