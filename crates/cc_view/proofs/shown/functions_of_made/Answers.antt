use Rattle.std.proofs.Common.{ℕ, None, map, sym, subst}
use Rattle.std.proofs.lemmas.List.{length-map}
use Rattle.std.specs.Arc.{arc_value}
use Rattle.cc_view.specs.declared.shown.Shown.{Shown}
use Rattle.cc_view_source.specs.Drawn.{AreShown}
use Rattle.cc_view.specs.Shown.{GraphShows}
use Rattle.cc_view.proofs.Shows.{no-graph}
use Rattle.cc_view.proofs.shown.functions_of_made.Goals as goal

pub returns-in-Ok : goal.returns-in-Ok
returns-in-Ok c recipe source after made =
    let items = c.args.made.now.answers.items in
    let answers = map arc_value items in
    let program = c.args.made.now.omega in
    let shown = subst (λ (n : ℕ). AreShown c.args.drawing program.names answers n c.in-Ok.text.items) (sym (length-map items arc_value)) c.in-Ok.ensures in
    subst (λ (s : Shown). GraphShows recipe None after c.args.drawing source s.ended s.text.items) (sym c.done.ensures) (program, answers, made, shown)

pub returns-in-Err : goal.returns-in-Err
returns-in-Err c recipe source after made = no-graph recipe None after c.args.drawing source c.nothing.result.ended c.nothing.result.text.items c.nothing.ensures.ended c.nothing.ensures.text
