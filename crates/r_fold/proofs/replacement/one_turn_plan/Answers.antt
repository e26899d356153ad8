use Rattle.std.proofs.lemmas.Bool.Decides.{nat_tests}
use Rattle.std.proofs.Common.{sym, ap, arith}
use Rattle.std.specs.Prelude.{option_map}
use Rattle.r_fold.specs.Plan.{planned}
use Rattle.r_fold.proofs.PlanLemmas.{theta_none}
use Rattle.r_fold.proofs.replacement.one_turn_plan.Goals as goal

pub returns-then-regions-ne1 : goal.returns-then-regions-ne1
returns-then-regions-ne1 c =
    ap (option_map planned) (sym (theta_none c.args.inputs.now c.args.regions.now (λ e. grind (arith, nat_tests, c.if-regions-ne1.true))))
