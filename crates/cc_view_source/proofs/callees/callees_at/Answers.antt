use Rattle.std.proofs.Common.{◌<◌, List, ℕ, length, map, Contains, sym, ap, subst, ◌∙◌, arith}
use Rattle.std.proofs.lemmas.List.{length-map}
use Rattle.std.proofs.lemmas.Result.{IfOk-weaker}
use Rattle.std.specs.Arc.{arc_value}
use Rattle.call_order.specs.Units.{call_lists}
use Rattle.g_pass_def.specs.Answers.{lambdas_of}
use Rattle.g_pass_def.specs.Replayed.{lambdas_at}
use Rattle.cc_view_source.specs.Made.{AreCallees}
use Rattle.cc_view_source.proofs.Given.{are-callees, row}
use Rattle.cc_view_source.proofs.callees.callees_at.Goals as goal

pub index-requires : goal.index-requires
index-requires c =
    let order = c.args.order.now in
    let ranked = c.orders_are_unique.ensures.ranked c.args.lambdas.now order.ranks.items (call_lists order.deps.items) c.requires.order in
    omega (arith, c.requires.inside, ranked.deps_length, length-map order.deps.items (λ v. v.items), order.deps.ok.0)

pub answers_at-requires : goal.answers_at-requires
answers_at-requires c d has =
    let ls = c.args.lambdas.now in
    let order = c.args.order.now in
    let deps = call_lists order.deps.items in
    let ranked = c.orders_are_unique.ensures.ranked ls order.ranks.items deps c.requires.order in
    let inside : c.args.function < length order.deps.items = omega (arith, c.requires.inside, ranked.deps_length, length-map order.deps.items (λ v. v.items)) in
    let row_is = row order.deps.items c.args.function c.index.result.now inside c.index.ensures ∙ sym c.deref.ensures.value in
    let dep = ranked.dep c.args.function d (subst (λ (ds : List ℕ). Contains ds d) (sym row_is) has) in
    omega (arith, dep.known, c.requires.answered)

pub returns : goal.returns
returns c =
    let ls = c.args.lambdas.now in
    let order = c.args.order.now in
    let i = c.args.function in
    let deps = call_lists order.deps.items in
    let answers = map arc_value c.args.answers.now in
    let ranked = c.orders_are_unique.ensures.ranked ls order.ranks.items deps c.requires.order in
    let inside : i < length order.deps.items = omega (arith, c.requires.inside, ranked.deps_length, length-map order.deps.items (λ v. v.items)) in
    let row_is = row order.deps.items i c.index.result.now inside c.index.ensures ∙ sym c.deref.ensures.value in
    let are = are-callees c.orders_are_unique.ensures.ranked c.orders_are_unique.ensures.unique ls answers order.ranks.items deps c.requires.order i in
    IfOk-weaker c.answers_at.result _ (λ callees. AreCallees ls answers i (lambdas_of (map arc_value callees.items)))
    (λ callees is. subst (AreCallees ls answers i) (ap (lambdas_at (lambdas_of answers)) row_is ∙ sym is) are) c.answers_at.ensures
