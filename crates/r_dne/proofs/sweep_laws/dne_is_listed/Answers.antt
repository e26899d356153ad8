use Rattle.std.specs.Prelude.{[]}
use Rattle.r_dne.proofs.Listed as listed
use Rattle.r_dne.proofs.sweep_laws.dne_is_listed.Goals as goal

pub returns-clause-node : goal.returns-clause-node
returns-clause-node c = listed.dne_is_listed

pub returns-clause-sweep : goal.returns-clause-sweep
returns-clause-sweep c = listed.sweeps_are_listed (λ m k well. (c.dne_keeps_meaning.ensures.step [] m k well).well_formed)
