use Rattle.std.proofs.Common.{map, sym, subst, arith}
use Rattle.std.specs.Arc.{arc_value}
use Rattle.cc_view.specs.declared.shown.Shown.{Shown}
use Rattle.cc_view.specs.Shown.{StepsShow}
use Rattle.cc_view.proofs.Shows.{answers-of, no-steps}
use Rattle.cc_view.proofs.shown.steps_of_made.Goals as goal

pub tables_of-requires-clause-few : goal.tables_of-requires-clause-few
tables_of-requires-clause-few c = omega (arith, c.requires.1.made.built.limits.functions)

pub tables_of-requires-clause-complete : goal.tables_of-requires-clause-complete
tables_of-requires-clause-complete c = c.requires.1.made.built.program.complete

pub tables_of-requires-clause-are : goal.tables_of-requires-clause-are
tables_of-requires-clause-are c = answers-of c.args.recipe.now c.requires.0 c.args.made.now.omega (map arc_value c.args.made.now.answers.items) c.requires.1

pub returns-in-Ok : goal.returns-in-Ok
returns-in-Ok c source made =
    subst (λ (s : Shown). StepsShow c.args.recipe.now source s.ended s.text.items) (sym c.done.ensures)
    (c.args.made.now.omega, map arc_value c.args.made.now.answers.items, made, c.in-Ok.ensures)

pub returns-in-Err : goal.returns-in-Err
returns-in-Err c source made = no-steps c.args.recipe.now source c.nothing.result.ended c.nothing.result.text.items c.nothing.ensures.ended c.nothing.ensures.text
