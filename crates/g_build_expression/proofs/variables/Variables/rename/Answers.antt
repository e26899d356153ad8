use Rattle.std.proofs.Common.{◌≡◌, map, ap, ◌∙◌, arith}
use Rattle.g_graph.specs.declared.op.Origin.TheVariants.{Arg}
use Rattle.g_build_def.specs.Writer.{numbered}
use Rattle.g_build_expression.specs.SlotViews.{slot_of}
use Rattle.g_build_expression.specs.Numbers.{origin_from}
use Rattle.g_build_expression.specs.declared.variables.InScope.TheVariants as scope
use Rattle.g_build_expression.proofs.lemmas.Scopes.{rename_step, rename_all, rename_keeps}
use Rattle.g_build_expression.proofs.variables.Variables.rename.Goals as goal

pub loop-variable-preserved : goal.loop-variable-preserved
loop-variable-preserved c =
    rename_step c.args.node c.args.first c.loop-variable.next c.values_of-next.result c.deref-variable-items.result.now c.loop-variable.variable-index (scope.Held (Arg 0)) c.renamed.result
    c.loop-variable.all.items c.push.new.self.items c.origin_from.result c.loop-variable-test.true c.renamed.ensures c.values_of-next.ensures c.origin_from.ensures c.in_ok-push.ensures.items
    c.loop-variable.invariant

pub invariant_of-self : goal.invariant_of-self
invariant_of-self c =
    let all =
    rename_all c.args.node c.args.first c.loop-variable.next c.deref-variable-items.result.now c.loop-variable.variable-index c.loop-variable.all.items c.loop-variable-test.false
    c.loop-variable.invariant in
    let names : map slot_of c.loop-variable.all.items ≡ numbered (map slot_of c.self.inside.all.items) (origin_from c.args.node c.args.first) =
    all.0 ∙ ap (λ xs. numbered (map slot_of xs) (origin_from c.args.node c.args.first)) c.deref-variable-items.ensures.value in
    let same = rename_keeps c.self.inside.all.items c.loop-variable.all.items c.self.inside.places.items (origin_from c.args.node c.args.first) c.self.invariant.1 names in
    (omega (arith, same.0, c.self.invariant.0), same.1)
