use Rattle.std.proofs.Common.{ℕ, List, Some, map, sym, subst, arith}
use Rattle.std.specs.Arc.{arc_value}
use Rattle.cc_report.specs.declared.outcome.Outcome.{Outcome}
use Rattle.cc_view.specs.declared.shown.Shown.{Shown}
use Rattle.cc_view_source.specs.Drawn.{AreOneShown, IsThere}
use Rattle.cc_view.specs.Shown.{GraphShows}
use Rattle.cc_view.proofs.Shows.{answers-of, no-graph}
use Rattle.cc_view.proofs.shown.function_of_made.Goals as goal

pub graph_of_one-requires-clause-few : goal.graph_of_one-requires-clause-few
graph_of_one-requires-clause-few c = omega (arith, c.requires.2.made.built.limits.functions)

pub graph_of_one-requires-clause-complete : goal.graph_of_one-requires-clause-complete
graph_of_one-requires-clause-complete c = c.requires.2.made.built.program.complete

pub graph_of_one-requires-clause-are : goal.graph_of_one-requires-clause-are
graph_of_one-requires-clause-are c =
    (c.requires.0, answers-of c.requires.0 c.requires.1 c.args.made.now.omega (map arc_value c.args.made.now.answers.items) c.requires.2)

pub returns-in-Ok-Some : goal.returns-in-Ok-Some
returns-in-Ok-Some c recipe source made =
    let answers = map arc_value c.args.made.now.answers.items in
    let program = c.args.made.now.omega in
    let at = rw c.in-Ok-Some.field-0-is at c.in-Ok-Some.ensures.some in
    let shown =
    subst (λ (n : List ℕ). AreOneShown program.lambdas program.names answers n c.args.after c.args.drawing c.in-Ok-Some.text.items) c.as_bytes.ensures.value at recipe
    (answers-of recipe source program answers made) in
    subst (λ (s : Shown). GraphShows recipe (Some c.args.name.now) c.args.after c.args.drawing source s.ended s.text.items) (sym c.done.ensures) (program, answers, made, shown)

pub returns-in-Ok-None : goal.returns-in-Ok-None
returns-in-Ok-None c recipe source made =
    let answers = map arc_value c.args.made.now.answers.items in
    let program = c.args.made.now.omega in
    let at = rw c.in-Ok-None.field-0-is at c.in-Ok-None.ensures.none in
    subst (λ (o : Outcome). GraphShows recipe (Some c.args.name.now) c.args.after c.args.drawing source o c.nothing.result.text.items) (sym c.nothing.ensures.ended)
    ((program, answers, made, λ there. at (subst (λ (n : List ℕ). IsThere program.names answers n c.args.after) (sym c.as_bytes.ensures.value) there)), c.nothing.ensures.text)

pub returns-in-Err : goal.returns-in-Err
returns-in-Err c recipe source made =
    let shown = c.nothing-in-Err.result in
    no-graph recipe (Some c.args.name.now) c.args.after c.args.drawing source shown.ended shown.text.items c.nothing-in-Err.ensures.ended c.nothing-in-Err.ensures.text
