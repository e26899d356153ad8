use Rattle.std.proofs.Common.{sym, ap, ◌∷◌, [], ◌∙◌}
use Rattle.g_build_def.specs.Writer.{dropped, Point, Built}
use Rattle.g_build_def.specs.Expressions.{expr_made}
use Rattle.g_build_def.proofs.lemmas.LaterExpressions.{expr_later}
use Rattle.g_build_def.proofs.lemmas.LaterStatements.{dropped_later}
use Rattle.g_build_expression.specs.Work.{begun}
use Rattle.g_build_expression.proofs.lemmas.Choices.{unless_makes}
use Rattle.g_build.proofs.Parts.{dropped_made}
use Rattle.g_build.proofs.jumps.step_unless_left.Goals as goal

pub returns : goal.returns
returns c =
    let f : Point → Built (Unit {0}) = λ t. dropped (expr_made c.args.e.now t) in
    let body = c.in_ok-expression.ensures.work ∙ sym (dropped_made c.choice.new.self (expr_made c.args.e.now c.choice.new.self.point)) in
    unless_makes c.args.b.now c.choice.new.self c.expression.new.self c.otherwise.new.self c.chosen.new.self c.args.b.now.point.carried.go f
    (λ s. dropped_later s (expr_made c.args.e.now s) (expr_later c.args.e.now s)) (c.in_ok-choice.ensures ∙ ap (λ g. begun (g ∷ []) c.args.b.now) c.go-go.ensures) body
    c.in_ok-otherwise.ensures c.in_ok-chosen.ensures.work
