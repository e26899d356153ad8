use Rattle.std.proofs.Common.{◌++◌, ◌∷◌, [], ap, sym, ◌∙◌}
use Rattle.g_graph.specs.declared.op.Origin.TheVariants.{Arg}
use Rattle.r_edit.proofs.lemmas.Consecutive.{more-from}
use Rattle.r_edit.proofs.origins.arguments.Goals as goal

pub loop-i-preserved : goal.loop-i-preserved
loop-i-preserved c = c.in_ok-push.ensures.items ∙ ap (λ xs. xs ++ Arg c.loop-i.i ∷ []) c.loop-i.invariant ∙ sym (more-from (λ k. Arg k) c.loop-i.i)
