use Rattle.std.proofs.Common.{rules}
use Rattle.cc_watch.proofs.Begun.{extends_after}
use Rattle.cc_watch.proofs.text.push_steps.Goals as goal

pub returns-in_err-push_step-clause-err : goal.returns-in_err-push_step-clause-err
returns-in_err-push_step-clause-err c =
    let grown = extends_after c.args.out.now.items _ c.loop-step.out.items c.push_step.new.out.items c.loop-step.invariant c.in_err-push_step.ensures.err in
    search rules
