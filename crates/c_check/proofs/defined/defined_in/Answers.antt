use Rattle.std.proofs.Common.{◌∙◌, ap, sym}
use Rattle.c_ast.specs.Externals.{external_tree}
use Rattle.c_check_def.specs.Check.{defined_by, with_defined}
use Rattle.c_check.proofs.DefinedLemmas.{defined-begun, defined-after}
use Rattle.c_check.proofs.defined.defined_in.Goals as goal

pub loop-x-init : goal.loop-x-init
loop-x-init c = c.new-names.ensures ∙ sym defined-begun

pub loop-x-preserved : goal.loop-x-preserved
loop-x-preserved c =
    let x = c.x-item.result in
    c.in_ok-define.ensures ∙ ap (λ names. with_defined names (defined_by (external_tree x))) c.loop-x.invariant
    ∙ sym (defined-after c.args.xs.now c.loop-x.x-index x c.loop-x-test.true c.x-item.is)
