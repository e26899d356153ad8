use Rattle.std.proofs.Common.{◌≡◌, ap, ◌∷◌, [], ◌∙◌, refl}
use Rattle.std.specs.Prelude.{true, Option, Some}
use Rattle.g_graph.specs.declared.op.Origin.{Origin}
use Rattle.g_graph.specs.declared.op.Origin.TheVariants.{Out}
use Rattle.g_build_def.specs.Writer.{choice, one_value}
use Rattle.g_build_def.specs.Operations.{const_made}
use Rattle.g_build_def.specs.Expressions.{tested}
use Rattle.g_build_def.specs.Jumps.{jump_ended, do_again_made}
use Rattle.g_build_def.proofs.lemmas.LaterExpressions.{const_later, tested_later}
use Rattle.g_build_expression.specs.declared.choices.RegionOrder.TheVariants.{ZeroFirst}
use Rattle.g_build_expression.specs.Work.{made, begun}
use Rattle.g_build_expression.specs.Choices.{chosen}
use Rattle.g_build_expression.proofs.lemmas.Made.{bind_makes, on_ok}
use Rattle.g_build_expression.proofs.lemmas.Choices.{choice_makes}
use Rattle.g_build.proofs.jumps.test_unless_left.Goals as goal

pub returns-clause-work : goal.returns-clause-work
returns-clause-work c =
    let w = c.args.b.now in
    let w1 = c.end_jump.new.b in
    let n : Origin = Out w1.point.next 0 in
    let r : Option Origin = Some c.in_ok-zero.zero in
    on_ok c.chosen.result (c.chosen.new.self ≡ chosen ZeroFirst r c.constant.new.self) (c.chosen.new.self ≡ made w (do_again_made true c.args.condition.now w.point)) c.chosen.ensures.work
    (λ e.
    (bind_makes w w1 c.chosen.new.self (jump_ended 2 w.point) (λ _ t. choice one_value t t.carried.go (tested c.args.condition.now) (const_made 0)) tt n
    (record { work = c.in_ok-end_jump.ensures; value = refl })
    (choice_makes ZeroFirst one_value r (λ j. refl) w1 c.choice.new.self c.tested.new.self c.otherwise.new.self c.constant.new.self c.chosen.new.self w1.point.carried.go
    (tested c.args.condition.now) (const_made 0) (c.in_ok-asked.asked ∷ []) n (tested_later c.args.condition.now) (const_later 0)
    (c.in_ok-choice.ensures ∙ ap (λ g. begun (g ∷ []) w1) c.go-go.ensures) c.in_ok-asked.ensures.work (ap (λ o. o ∷ []) c.in_ok-asked.ensures.value) c.in_ok-otherwise.ensures
    c.in_ok-zero.ensures.work (ap (λ o. o ∷ []) c.in_ok-zero.ensures.value) e refl)).work)
