use Rattle.std.proofs.Common.{◌∙◌, ap, sym}
use Rattle.c_check_expression.proofs.MoreLemmas.{labels-begun, labels-grow}
use Rattle.c_check_expression.proofs.labels.more_labels.Goals as goal

pub loop-x-init : goal.loop-x-init
loop-x-init c =
    let is = sym (labels-begun c.args.labels c.args.state.now) in
    (ap (λ r. r.0) is, ap (λ r. r.1) is)

pub loop-x-preserved : goal.loop-x-preserved
loop-x-preserved c =
    let v = c.loop-x in
    let had = v.invariant in
    let e = c.in_ok-all.ensures in
    let is = labels-grow c.args.labels c.args.more.now v.x-index c.x-item.result c.args.state.now v.state v.all c.loop-x-test.true c.x-item.is had.0 had.1 in
    (e.value ∙ ap (λ r. r.0) is, e.state ∙ ap (λ r. r.1) is)
