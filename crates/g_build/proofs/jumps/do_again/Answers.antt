use Rattle.std.proofs.Common.{◌≡◌, sym, ap, ◌∙◌}
use Rattle.std.specs.Prelude.{true}
use Rattle.g_build_def.specs.Jumps.{do_again_made}
use Rattle.g_build_expression.specs.Work.{made}
use Rattle.g_build_expression.proofs.lemmas.Made.{on_ok}
use Rattle.g_build.proofs.jumps.do_again.Goals as goal

pub returns-then-leaves-clause-work : goal.returns-then-leaves-clause-work
returns-then-leaves-clause-work c =
    let w = c.args.b.now in
    on_ok c.test_unless_left.result (c.test_unless_left.new.b ≡ made w (do_again_made true c.args.condition.now w.point))
    (c.test_unless_left.new.b ≡ made w (do_again_made c.args.leaves c.args.condition.now w.point)) c.test_unless_left.ensures.work
    (λ e. e ∙ ap (λ l. made w (do_again_made l c.args.condition.now w.point)) (sym c.if-leaves.true))
