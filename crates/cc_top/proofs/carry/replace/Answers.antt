use Rattle.cc_top.proofs.Refusing.{refused_is_answered, unanswered}
use Rattle.cc_top.proofs.carry.replace.Goals as goal

pub returns-in-Err-clause-answered : goal.returns-in-Err-clause-answered
returns-in-Err-clause-answered c =
    let refused = c.in-Err.ensures in
    refused_is_answered c.args.session.now c.args.name.now c.args.text.now c.in-Err.fault c.replace.new.self c.answer_of.result c.answer_of.ensures refused.unchanged refused.refused

pub returns-in-Err-clause-err : goal.returns-in-Err-clause-err
returns-in-Err-clause-err c = unanswered c.in-Err.fault c.answer_of.result c.answer_of.ensures
