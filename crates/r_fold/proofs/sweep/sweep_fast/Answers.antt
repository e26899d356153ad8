-- The walk is the sweep.
use Rattle.std.proofs.Common.{◌≡◌, subst}
use Rattle.std.specs.Prelude.{IfOk}
use Rattle.r_fold.specs.Asked.{fold_asked}
use Rattle.r_fold.specs.WalkLaws.{fold_change}
use Rattle.r_sweep_def.specs.Swept.{Logged}
use Rattle.r_fold.proofs.sweep.sweep_fast.Goals as goal

pub returns-clause-ok : goal.returns-clause-ok
returns-clause-ok c =
    let start : Logged = record { lambda = c.args.lambda; steps = c.args.log.now.items } in
    let same = c.walks_are_sweeps.ensures fold_change fold_asked start c.fold_is_local.ensures c.requires.well_formed in
    subst (λ (z : Logged). IfOk c.walk.result (λ made. record { lambda = made; steps = c.walk.new.log.items } ≡ z)) same c.walk.ensures.ok
