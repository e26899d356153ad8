use Rattle.s_select_keeps.proofs.Calls.{call_leads, return_leads}
use Rattle.s_select_keeps.proofs.laws.calls_lead.Goals as goal

pub returns-clause-call : goal.returns-clause-call
returns-clause-call c = call_leads

pub returns-clause-back : goal.returns-clause-back
returns-clause-back c = return_leads
