use Rattle.std.proofs.lemmas.Result.{on_ok_weaker}
use Rattle.cc_view.proofs.accepted.push_cycles.Goals as goal

pub returns : goal.returns
returns c = on_ok_weaker c.push_recursive.result (λ is. (c.deref-2.result.now, is)) c.push_recursive.ensures
