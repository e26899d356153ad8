use Rattle.c_check_scope.proofs.ScopesLemmas.{declaration-is-inner}
use Rattle.c_check_scope.proofs.laws.declaration_is_inner.Goals as goal

pub returns : goal.returns
returns g c = declaration-is-inner
