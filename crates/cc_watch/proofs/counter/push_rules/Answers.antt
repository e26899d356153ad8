use Rattle.std.proofs.Common.{rules}
use Rattle.cc_watch.specs.Texts.{rules_text}
use Rattle.cc_watch.proofs.Begun.{extends_after}
use Rattle.cc_watch.proofs.counter.push_rules.Goals as goal

pub returns-in_err-push_rule-clause-err : goal.returns-in_err-push_rule-clause-err
returns-in_err-push_rule-clause-err c =
    let grown = extends_after c.args.out.now.items _ c.loop-rule.out.items c.push_rule.new.out.items c.loop-rule.invariant c.in_err-push_rule.ensures.err in
    search rules

pub returns-clause-ok : goal.returns-clause-ok
unfolding rules_text
returns-clause-ok c = search rules
