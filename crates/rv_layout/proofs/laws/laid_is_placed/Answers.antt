use Rattle.rv_layout.proofs.lemmas.Placed.{laid_is_placed}
use Rattle.rv_layout.proofs.laws.laid_is_placed.Goals as goal

pub returns : goal.returns
returns c = laid_is_placed
