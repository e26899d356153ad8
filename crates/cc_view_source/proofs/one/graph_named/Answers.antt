use Rattle.std.proofs.Common.{Option, ℕ, map, sym, subst}
use Rattle.std.specs.Arc.{arc_value}
use Rattle.std.proofs.lemmas.Result.{IfOk-weaker}
use Rattle.cc_view_source.specs.Drawn.{AreAfter}
use Rattle.cc_view_source.proofs.OneShown.{one_shown, some_shown}
use Rattle.cc_view_source.proofs.one.graph_named.Goals as goal

pub returns-in-Some-after-clause-some : goal.returns-in-Some-after-clause-some
returns-in-Some-after-clause-some c =
    IfOk-weaker c.drawn_after.result _ _
    (λ o got.
    some_shown c.args.lambdas.now c.args.names.now (map arc_value c.args.answers.now) c.args.name.now c.args.after c.args.drawing c.in-Some.function c.in-Some.ensures c.in-Some-after.count c.in-Some-after.is o
    got)
    c.drawn_after.ensures.some

pub returns-in_ok-text-in-None-clause-some : goal.returns-in_ok-text-in-None-clause-some
returns-in_ok-text-in-None-clause-some c =
    let ls = c.args.lambdas.now in
    let answers = map arc_value c.args.answers.now in
    let f = c.in-Some.function in
    let got = c.in_ok-text-in-None.ensures in
    one_shown ls c.args.names.now answers c.args.name.now c.args.after c.args.drawing f c.in-Some.ensures got.0
    (subst (λ (k : Option ℕ). AreAfter ls answers f k got.0) (sym c.in-None.is) (got.1 ls)) c.in_ok-text-in-None.text.items got.2
