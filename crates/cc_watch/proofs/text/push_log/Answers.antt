use Rattle.std.proofs.Common.{rules}
use Rattle.cc_watch.proofs.Begun.{extends_after}
use Rattle.cc_watch.proofs.text.push_log.Goals as goal

pub returns-in_err-push_row-clause-err : goal.returns-in_err-push_row-clause-err
returns-in_err-push_row-clause-err c =
    let grown = extends_after c.args.out.now.items _ c.loop-row.out.items c.push_row.new.out.items c.loop-row.invariant c.in_err-push_row.ensures.err in
    search rules
