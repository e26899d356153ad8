-- The callee's body can be copied.
use Rattle.std.proofs.Common.{◌+◌, ◌<◌, sym, subst, ◌∙◌}
use Rattle.std.specs.Prelude.{◌^◌}
use Rattle.g_graph.specs.Plain.{PlainLambda}
use Rattle.g_mean.specs.Copies.{IsClosed}
use Rattle.r_edit.specs.Numbering.{node_count}
use Rattle.r_inline.proofs.Nodes.{closed, numbers}
use Rattle.r_inline.proofs.node.inlined_node.Goals as goal

pub copy_numbered-requires-clause-closed : goal.copy_numbered-requires-clause-closed
copy_numbered-requires-clause-closed c =
    subst (λ (k : PlainLambda). IsClosed k.body) (sym c.callee.view_is)
    (closed c.args.values c.args.next c.args.callee.now (sym c.may_inline.ensures ∙ c.if-may_inline.true) c.requires.callee)

pub copy_numbered-requires-clause-numbers : goal.copy_numbered-requires-clause-numbers
copy_numbered-requires-clause-numbers c =
    subst (λ (k : PlainLambda). c.args.next + node_count k.body < 2 ^ 32) (sym c.callee.view_is)
    (numbers c.args.values c.args.next c.args.callee.now (sym c.may_inline.ensures ∙ c.if-may_inline.true))
