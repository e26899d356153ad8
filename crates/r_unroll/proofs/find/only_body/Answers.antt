use Rattle.std.proofs.Common.{sym, ◌∙◌, arith}
use Rattle.r_unroll.proofs.Counted.{only-body-one}
use Rattle.r_unroll.proofs.find.only_body.Goals as goal

pub returns : goal.returns
returns c = c.small_body.ensures ∙ sym (only-body-one c.args.values c.args.next c.args.regions.now c.index-regions-0.result (omega arith) c.index-regions-0.is)
