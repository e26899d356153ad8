use Rattle.std.proofs.Common.{◌∙◌, ap}
use Rattle.std.specs.Prelude.{◌==◌}
use Rattle.std.specs.List.{list_any}
use Rattle.c_check_def.specs.Statements.{Labels}
use Rattle.c_check_expression.proofs.LabelLemmas.{on_ok, case-some}
use Rattle.c_check_expression.proofs.labels.case_label.Goals as goal

pub returns-in-Some-clause-state : goal.returns-in-Some-clause-state
returns-in-Some-clause-state c =
    let word = c.in-Some.word in
    let among = c.contains.ensures ∙ ap (λ (x : Labels). list_any (λ v. v == word) x.words) c.labels.view_is in
    on_ok c.with_case.result _
    (case-some c.args.labels c.args.offset word c.args.word c.contains.result c.args.state.now c.breaks_if.new.self c.in-Some.is among c.breaks_if.ensures)
