use Rattle.std.proofs.Common.{◌≡◌, IfOk, OnOk, subst}
use Rattle.c_ast.specs.Statements.{label_tree, labels_tree}
use Rattle.c_check_expression.proofs.LabelLemmas.{group-begun}
use Rattle.c_check_expression.proofs.labels.group_labels.Goals as goal

pub returns-clause-value : goal.returns-clause-value
returns-clause-value c =
    let e = c.in_ok-labels.ensures in
    let first = label_tree c.args.first.now in
    let more = labels_tree c.args.more.now in
    let begun = c.next_group-begun in
    let is = group-begun c.args.labels begun.result c.in_ok-labels.labels first more c.args.state.now c.label.new.state begun.ensures e.value e.state in
    subst (λ z. IfOk c.more_labels.result (λ r. r ≡ z.0)) is c.more_labels.ensures.value

pub returns-clause-state : goal.returns-clause-state
returns-clause-state c =
    let e = c.in_ok-labels.ensures in
    let first = label_tree c.args.first.now in
    let more = labels_tree c.args.more.now in
    let begun = c.next_group-begun in
    let is = group-begun c.args.labels begun.result c.in_ok-labels.labels first more c.args.state.now c.label.new.state begun.ensures e.value e.state in
    subst (λ z. OnOk c.more_labels.result (c.more_labels.new.state ≡ z.1)) is c.more_labels.ensures.state
