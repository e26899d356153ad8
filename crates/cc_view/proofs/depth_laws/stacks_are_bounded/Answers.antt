use Rattle.cc_view.proofs.Bounds.{stacks_are_bounded}
use Rattle.cc_view.proofs.depth_laws.stacks_are_bounded.Goals as goal

pub returns : goal.returns
returns c = stacks_are_bounded
