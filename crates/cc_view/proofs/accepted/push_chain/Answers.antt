use Rattle.std.proofs.lemmas.Result.{on_ok_weaker}
use Rattle.cc_view.proofs.accepted.push_chain.Goals as goal

pub returns : goal.returns
returns c = on_ok_weaker c.push_depth.result (λ is. (c.deref.result.now, is)) c.push_depth.ensures
