use Rattle.std.proofs.Common.{◌≡◌, arith, ap, sym, ◌∙◌}
use Rattle.r_edit.specs.InPlace.{all_stay}
use Rattle.r_sweep.specs.Removals.{variables_removed}
use Rattle.r_dne.proofs.Loops.{told_here, theta_cost, theta_step}
use Rattle.r_dne.proofs.theta_sweep.shrink_theta.Goals as goal

pub returns-in_err-stay-clause-looks : goal.returns-in_err-stay-clause-looks
returns-in_err-stay-clause-looks g c =
    theta_cost c.args.shape c.args.arena.now c.requires.whole c.requires.shape c.requires.theta c.args.looks.now c.judge.new.looks c.judge.new.looks c.in_err-stay.ensures.looks (omega arith)

pub returns-then-are_all_true-clause-looks : goal.returns-then-are_all_true-clause-looks
returns-then-are_all_true-clause-looks g c =
    theta_cost c.args.shape c.args.arena.now c.requires.whole c.requires.shape c.requires.theta c.args.looks.now c.judge.new.looks c.judge.new.looks c.in_ok-stay.ensures.looks (omega arith)

pub returns-in_err-push-clause-looks : goal.returns-in_err-push-clause-looks
returns-in_err-push-clause-looks g c =
    theta_cost c.args.shape c.args.arena.now c.requires.whole c.requires.shape c.requires.theta c.args.looks.now c.judge.new.looks c.judge.new.looks c.in_ok-stay.ensures.looks (omega arith)

pub returns-clause-step : goal.returns-clause-step
returns-clause-step g c =
    let told = told_here c.args.shape c.args.arena.now c.requires.whole c.requires.shape c.requires.theta (λ us. c.in_ok-stay.stay.items ≡ us) c.in_ok-stay.ensures.stay in
    theta_step c.args.shape c.args.arena.now c.requires.whole c.requires.shape c.requires.theta c.in_ok-stay.stay.items c.remove_variables.new.arena c.args.log.now.items c.push.new.self.items told
    (ap all_stay (sym c.deref.ensures.value) ∙ sym c.are_all_true.ensures ∙ c.if-are_all_true.false)
    (c.remove_variables.ensures.gone ∙ ap (λ us. variables_removed c.args.shape.node us c.args.arena.now) c.deref-2.ensures.value) c.in_ok-push.ensures.items

pub returns-clause-looks : goal.returns-clause-looks
returns-clause-looks g c =
    theta_cost c.args.shape c.args.arena.now c.requires.whole c.requires.shape c.requires.theta c.args.looks.now c.judge.new.looks c.remove_variables.new.looks c.in_ok-stay.ensures.looks c.remove_variables.ensures.looks
