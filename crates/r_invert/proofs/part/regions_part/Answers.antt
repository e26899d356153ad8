use Rattle.std.proofs.Common.{◌∙◌}
use Rattle.std.proofs.lemmas.Result.{IfOk-weaker}
use Rattle.r_invert.proofs.Remade.{one-made}
use Rattle.r_invert.proofs.part.regions_part.Goals as goal

pub body_part-requires : goal.body_part-requires
body_part-requires c = (one-made c.args.next c.args.regions.now c.index-regions-0.result c.requires c.index-regions-0.is).0

pub returns : goal.returns
returns c =
    IfOk-weaker c.body_part.result _ _ (λ part e. (one-made c.args.next c.args.regions.now c.index-regions-0.result c.requires c.index-regions-0.is).1 ∙ e) c.body_part.ensures
