use Rattle.std.proofs.Common.{map, subst, sym}
use Rattle.std.specs.Prelude.{option_map}
use Rattle.std.specs.Arc.{arc_value}
use Rattle.board_core.specs.History.{program_of}
use Rattle.board_core.specs.Alone.{AreResults}
use Rattle.board_core.proofs.AllResults.{results-of-all}
use Rattle.std.proofs.lemmas.Result.{IfOk-weaker}
use Rattle.board_core.proofs.results.all_results.Goals as goal

pub returns : goal.returns
returns g c =
    let program = program_of g.W.Work.made c.args.board in
    let are = results-of-all c.results_are_answers.ensures program c.args.board.events c.events.ensures.ranked c.events.ensures.legal c.requires (option_map arc_value)
    c.into_results.result.items c.into_results.ensures in
    IfOk-weaker c.all_there.result _ (λ all. AreResults program (map arc_value all.items)) (λ all same. subst (AreResults program) (sym same) are) c.all_there.ensures
