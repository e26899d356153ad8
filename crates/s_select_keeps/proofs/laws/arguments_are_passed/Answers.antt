use Rattle.s_select_keeps.proofs.Arguments.{arguments_are_loaded, params_are_put}
use Rattle.s_select_keeps.proofs.laws.arguments_are_passed.Goals as goal

pub returns-clause-loaded : goal.returns-clause-loaded
returns-clause-loaded c = arguments_are_loaded

pub returns-clause-put : goal.returns-clause-put
returns-clause-put c = params_are_put
