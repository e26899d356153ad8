use Rattle.c_check_scope.proofs.ScopesLemmas.{declaration-decides}
use Rattle.c_check_scope.proofs.laws.declaration_decides.Goals as goal

pub returns : goal.returns
returns g c = declaration-decides
