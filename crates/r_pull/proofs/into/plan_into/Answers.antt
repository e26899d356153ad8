-- What is counted is what the change of the Gamma counts.
use Rattle.std.proofs.Common.{◌≡◌, None, Some, option_map, sym, ap, subst, ◌∙◌}
use Rattle.g_graph.specs.Plain.{id_of}
use Rattle.r_pull.specs.Rule.{where_fits}
use Rattle.r_pull.specs.Edit.{pull_into, pull_seen, moved_of}
use Rattle.r_pull.proofs.Moves.{counted_here, moves_here}
use Rattle.r_pull.proofs.into.plan_into.Goals as goal

pub returns-in_ok-plan-in-Some-clause-moved : goal.returns-in_ok-plan-in-Some-clause-moved
returns-in_ok-plan-in-Some-clause-moved c =
    let n = c.node.inside.id in
    let h = pull_into c.args.node.now c.args.user.now in
    let found = c.in-Some.found in
    let fits : Some (pull_seen found) ≡ where_fits c.args.values c.args.next n h = ap (option_map pull_seen) (sym c.in-Some.is) ∙ c.found_into.ensures.pull in
    let counted = counted_here c.args.values c.args.next n h found.copies (pull_seen found) fits c.in-Some.ensures.counted in
    let sums = c.change_of-added.ensures in
    subst (λ k. Some (record { copies = found.copies; added = c.change_of-added.result.0; gone = c.change_of-added.result.1 }) ≡ option_map (moved_of k) (where_fits c.args.values c.args.next k h))
    (ap id_of c.node.view_is)
    ((λ i. Some (record { copies = counted.copies i; added = sums.added i; gone = sums.gone i })) ∙ moves_here c.args.values c.args.next n h (pull_seen found) fits)

pub returns-in-None-clause-moved : goal.returns-in-None-clause-moved
returns-in-None-clause-moved c =
    let h = pull_into c.args.node.now c.args.user.now in
    subst (λ k. None ≡ option_map (moved_of k) (where_fits c.args.values c.args.next k h)) (ap id_of c.node.view_is)
    (ap (option_map (moved_of c.node.inside.id)) (ap (option_map pull_seen) (sym c.in-None.is) ∙ c.found_into.ensures.pull))
