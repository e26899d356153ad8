use Rattle.c_type.proofs.Indices.{pads-one}
use Rattle.c_type.proofs.defining.make_index.Goals as goal

pub returns-in_ok-push-clause-pads : goal.returns-in_ok-push-clause-pads
returns-in_ok-push-clause-pads c = rw c.in_ok-push.ensures.items (pads-one _ _ c.loop-i.invariant.pads)
