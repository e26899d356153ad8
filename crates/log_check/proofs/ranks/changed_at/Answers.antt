use Rattle.std.proofs.Common.{◌<◌, ◌+◌, List, ℕ, length, map, Some, Contains, sym, ap, subst, ◌∙◌, arith}
use Rattle.std.specs.Prelude.{slice_index, slice_set}
use Rattle.std.proofs.lemmas.List.{length-map}
use Rattle.std.proofs.lemmas.Option.{slice_get-get_or}
use Rattle.std.proofs.lemmas.Result.{IfErr-weaker, IfOk-weaker}
use Rattle.std.specs.Arc.{arc_value}
use Rattle.call_order.specs.Units.{call_lists}
use Rattle.r_rule.specs.Optimised.{PlainOptimised}
use Rattle.g_pass_def.specs.Answers.{lambdas_of}
use Rattle.g_pass_def.specs.Replayed.{lambdas_at}
use Rattle.log_check.specs.Right.{AreRightUntil}
use Rattle.log_check.specs.Fault.{IsReplayFault}
use Rattle.log_check.proofs.Made.{row}
use Rattle.log_check.proofs.Taken.{right-at, wrong-at}
use Rattle.log_check.proofs.ranks.changed_at.Goals as goal

pub index-requires : goal.index-requires
index-requires c =
    let order = c.args.order.now in
    let ranked = c.orders_are_unique.ensures.ranked c.args.lambdas.now order.ranks.items (call_lists order.deps.items) c.requires.order in
    omega (arith, c.requires.inside, ranked.deps_length, length-map order.deps.items (λ v. v.items), order.deps.ok.0)

pub callees_of-requires : goal.callees_of-requires
callees_of-requires c d has =
    let ls = c.args.lambdas.now in
    let order = c.args.order.now in
    let deps = call_lists order.deps.items in
    let ranked = c.orders_are_unique.ensures.ranked ls order.ranks.items deps c.requires.order in
    let inside : c.args.function < length order.deps.items = omega (arith, c.requires.inside, ranked.deps_length, length-map order.deps.items (λ v. v.items)) in
    let row_is = row order.deps.items c.args.function c.index.result.now inside c.index.ensures ∙ sym c.deref.ensures.value in
    let dep = ranked.dep c.args.function d (subst (λ (ds : List ℕ). Contains ds d) (sym row_is) has) in
    omega (arith, dep.known, c.requires.before.count, length-map (map arc_value c.args.made.now) (λ (o : PlainOptimised). o.lambda), length-map c.args.made.now arc_value)

pub replay_function-requires-clause-well_formed : goal.replay_function-requires-clause-well_formed
replay_function-requires-clause-well_formed c =
    let l = c.index-lambdas-function.result in
    c.requires.complete.well_formed c.args.function l (slice_get-get_or c.args.lambdas.now c.args.function l c.requires.inside ∙ ap (λ k. Some k) (sym c.index-lambdas-function.is))

pub returns-clause-right : goal.returns-clause-right
returns-clause-right c =
    let ls = c.args.lambdas.now in
    let order = c.args.order.now in
    let log = c.args.log.now in
    let i = c.args.function in
    let deps = call_lists order.deps.items in
    let ks = lambdas_of (map arc_value c.args.made.now) in
    let callees = lambdas_of (map arc_value c.deref-2.result.now) in
    let ranked = c.orders_are_unique.ensures.ranked ls order.ranks.items deps c.requires.order in
    let inside : i < length order.deps.items = omega (arith, c.requires.inside, ranked.deps_length, length-map order.deps.items (λ v. v.items)) in
    let logged : i < length log = omega (arith, c.requires.inside, c.requires.logged) in
    let row_is = row order.deps.items i c.index.result.now inside c.index.ensures ∙ sym c.deref.ensures.value in
    let given = ap (λ xs. lambdas_of (map arc_value xs)) c.deref-2.ensures.value ∙ (c.in_ok-callees.ensures ∙ ap (lambdas_at ks) (sym row_is)) in
    IfOk-weaker c.replay_function.result _ (λ k. AreRightUntil ls order.ranks.items deps log (slice_index order.ranks.items i) (i + 1) (slice_set ks i k))
    (λ k h.
    right-at ls order.ranks.items deps log c.requires.order ranked i c.requires.inside logged ks c.requires.before callees c.index-lambdas-function.result c.index-log-function.result given
    c.index-lambdas-function.is c.index-log-function.is k h.0 h.1)
    c.replay_function.ensures.right

pub returns-clause-fault : goal.returns-clause-fault
returns-clause-fault c =
    let ls = c.args.lambdas.now in
    let order = c.args.order.now in
    let log = c.args.log.now in
    let i = c.args.function in
    let deps = call_lists order.deps.items in
    let ks = lambdas_of (map arc_value c.args.made.now) in
    let callees = lambdas_of (map arc_value c.deref-2.result.now) in
    let ranked = c.orders_are_unique.ensures.ranked ls order.ranks.items deps c.requires.order in
    let inside : i < length order.deps.items = omega (arith, c.requires.inside, ranked.deps_length, length-map order.deps.items (λ v. v.items)) in
    let logged : i < length log = omega (arith, c.requires.inside, c.requires.logged) in
    let row_is = row order.deps.items i c.index.result.now inside c.index.ensures ∙ sym c.deref.ensures.value in
    let given = ap (λ xs. lambdas_of (map arc_value xs)) c.deref-2.ensures.value ∙ (c.in_ok-callees.ensures ∙ ap (lambdas_at ks) (sym row_is)) in
    IfErr-weaker c.replay_function.result _ (λ e. IsReplayFault ls log e)
    (λ e h.
    wrong-at ls order.ranks.items deps log c.requires.order ranked i c.requires.inside logged ks c.requires.before callees c.index-lambdas-function.result c.index-log-function.result given
    c.index-lambdas-function.is c.index-log-function.is e h)
    c.replay_function.ensures.fault
