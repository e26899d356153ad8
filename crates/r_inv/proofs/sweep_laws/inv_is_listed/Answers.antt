use Rattle.std.specs.Prelude.{[]}
use Rattle.r_inv.proofs.Listed as listed
use Rattle.r_inv.proofs.sweep_laws.inv_is_listed.Goals as goal

pub returns-clause-node : goal.returns-clause-node
returns-clause-node c = listed.inv_is_listed

pub returns-clause-sweep : goal.returns-clause-sweep
returns-clause-sweep c = listed.sweeps_are_listed (λ m k well. (c.inv_keeps_meaning.ensures.step [] m k well).well_formed)
