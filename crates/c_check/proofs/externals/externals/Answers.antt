use Rattle.std.proofs.Common.{◌∙◌, ap, sym}
use Rattle.c_ast.specs.Externals.{external_tree}
use Rattle.c_check.specs.Functions.{unless_broken}
use Rattle.c_check.proofs.ExternalLemmas.{externals-begun, externals-after}
use Rattle.c_check.proofs.externals.externals.Goals as goal

pub loop-x-init : goal.loop-x-init
loop-x-init c = ap (λ r. r.1) (sym (externals-begun c.args.state.now))

pub loop-x-preserved : goal.loop-x-preserved
loop-x-preserved c =
    let x = c.x-item.result in
    c.in_ok-unless_broken.ensures ∙ ap (λ s. (unless_broken (external_tree x) s).1) c.loop-x.invariant
    ∙ ap (λ r. r.1) (sym (externals-after c.args.xs.now c.loop-x.x-index x c.args.state.now c.loop-x-test.true c.x-item.is))
