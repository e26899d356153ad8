use Rattle.std.proofs.Common.{◌++◌, ℕ, List, Contains, ap, subst, ◌∙◌}
use Rattle.std.specs.Prelude.{◌↔◌}
use Rattle.g_graph.specs.Plain.{PlainLambda}
use Rattle.g_pass_order.specs.Calls.{region_calls}
use Rattle.g_pass_order.proofs.Increasing.{callees_are}
use Rattle.g_pass_order.proofs.calls.called.Goals as goal

pub returns : goal.returns
returns c =
    let pushed =
    c.in_ok-push_region.ensures
    ∙ (ap (λ (xs : List ℕ). xs ++ region_calls c.lambda.inside.body) c.new-found.ensures.items ∙ ap (λ (l : PlainLambda). region_calls l.body) c.lambda.view_is) in
    callees_are c.args.functions c.args.lambda.now _ c.put_in_order.ensures.increasing
    (λ n. subst (λ (xs : List ℕ). Contains c.put_in_order.new.numbers.items n ↔ Contains xs n) pushed (c.put_in_order.ensures.same n)) c.requires
