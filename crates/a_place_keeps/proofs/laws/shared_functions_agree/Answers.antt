-- Places by need are safe, by the laws of what clashes.
use Rattle.a_place_keeps.proofs.Shared as shared
use Rattle.a_place_keeps.proofs.laws.shared_functions_agree.Goals as goal

pub returns : goal.returns
returns c = shared.shared_functions_agree c.shared_sites_are_safe.ensures c.shared_params_differ.ensures
