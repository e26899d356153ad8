use Rattle.std.proofs.Common.{Some, sym, ap, ◌∙◌}
use Rattle.std.proofs.lemmas.Result.{IfOk-weaker}
use Rattle.r_invert.proofs.Remade.{two-made}
use Rattle.r_invert.proofs.part.made_of.Goals as goal

pub two_made-requires : goal.two_made-requires
two_made-requires c =
    (two-made c.args.next c.args.whole.now c.args.id c.args.inputs.now c.args.variables.now c.args.regions.now c.index-regions-0.result c.index-regions-1.result c.requires
    c.index-regions-0.is c.index-regions-1.is).can

pub returns : goal.returns
returns c =
    IfOk-weaker c.two_made.result _ _
    (λ part e. (two-made c.args.next c.args.whole.now c.args.id c.args.inputs.now c.args.variables.now c.args.regions.now c.index-regions-0.result c.index-regions-1.result c.requires
    c.index-regions-0.is c.index-regions-1.is).is ∙ ap Some (sym e))
    c.two_made.ensures
