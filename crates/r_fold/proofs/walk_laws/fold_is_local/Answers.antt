use Rattle.std.specs.Prelude.{[]}
use Rattle.r_fold.proofs.SaidOf as said
use Rattle.r_fold.proofs.walk_laws.fold_is_local.Goals as goal

pub returns : goal.returns
returns c = said.fold_is_local (λ n l well. (c.fold_keeps_meaning.ensures.step [] n l well).well_formed)
