use Rattle.std.proofs.Common.{◌≡◌, sym, ap, subst, ◌∙◌}
use Rattle.std.specs.Prelude.{IfOk, MatchBool, option_and_then, Option}
use Rattle.std.specs.declared.option.Option.TheVariants.{Some, None}
use Rattle.g_graph.specs.Plain.{RegionTree}
use Rattle.r_fold.specs.Rule.{fold_here}
use Rattle.r_fold.specs.Plan.{carried_out}
use Rattle.r_fold.proofs.PlanLemmas.{fold_here_planned}
use Rattle.r_fold.proofs.rule.fold_region.Goals as goal

pub returns-in-Some-clause-ok : goal.returns-in-Some-clause-ok
returns-in-Some-clause-ok c =
    let r = c.args.region.now in
    let same : fold_here c.args.id r ≡ carried_out c.args.id r c.in-Some.plan =
    fold_here_planned c.args.id r ∙ ap (option_and_then (λ p. carried_out c.args.id r p)) (sym c.in_ok-plan.ensures ∙ c.in-Some.is) in
    subst
    (λ (o : Option RegionTree).
    IfOk c.carry_out.result (λ done. MatchBool done (o ≡ Some c.carry_out.new.region) ((o ≡ None) × (c.carry_out.new.region ≡ r))))
    (sym same) c.carry_out.ensures.ok
