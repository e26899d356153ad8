-- The walk is the sweep.
use Rattle.std.proofs.Common.{◌≡◌, subst}
use Rattle.std.specs.Prelude.{IfOk}
use Rattle.r_sweep_def.specs.Swept.{Logged}
use Rattle.r_invert.proofs.AskedAt.{walk_is_sweep}
use Rattle.r_invert.proofs.sweep.sweep_fast.Goals as goal

pub returns-clause-ok : goal.returns-clause-ok
returns-clause-ok c =
    let start : Logged = record { lambda = c.args.lambda; steps = c.args.log.now.items } in
    let same = walk_is_sweep c.walks_are_sweeps.ensures c.invert_is_local.ensures start c.requires.well_formed in
    subst (λ (z : Logged). IfOk c.walk.result (λ made. record { lambda = made; steps = c.walk.new.log.items } ≡ z)) same c.walk.ensures.ok
