use Rattle.cc_session.proofs.Back.{is_not_accepted}
use Rattle.cc_session.proofs.accepted.accepted_or_back.Goals as goal

pub returns-in-Err-clause-refused : goal.returns-in-Err-clause-refused
returns-in-Err-clause-refused c =
    is_not_accepted c.in-Err.fault c.given_back.result c.deref.result.now c.args.new.items c.in-Err.ensures.refused c.deref.ensures.value c.given_back.ensures
