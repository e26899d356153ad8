use Rattle.std.proofs.Common.{sym, ◌∙◌, arith}
use Rattle.r_push.proofs.Counted.{left-only-one}
use Rattle.r_push.proofs.left.left_only.Goals as goal

pub returns : goal.returns
returns c = c.leaving_loop.ensures ∙ sym (left-only-one c.args.id c.args.regions.now c.index-regions-0.result (omega arith) c.index-regions-0.is)
