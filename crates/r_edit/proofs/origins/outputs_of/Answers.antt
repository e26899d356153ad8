use Rattle.std.proofs.Common.{◌++◌, ◌∷◌, [], ap, sym, ◌∙◌}
use Rattle.g_graph.specs.declared.op.Origin.TheVariants.{Out}
use Rattle.r_edit.proofs.lemmas.Consecutive.{more-from}
use Rattle.r_edit.proofs.origins.outputs_of.Goals as goal

pub loop-i-preserved : goal.loop-i-preserved
loop-i-preserved c = c.in_ok-push.ensures.items ∙ ap (λ xs. xs ++ Out c.args.id c.loop-i.i ∷ []) c.loop-i.invariant ∙ sym (more-from (Out c.args.id) c.loop-i.i)
