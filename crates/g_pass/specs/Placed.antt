-- Where a region stands in a lambda's body, and what a rule that is asked step by step makes of a region.
use Rattle.std.specs.Prelude.{◌≡◌, ℕ, Bool, true, false, if◌then◌else◌, Option, Some, None, option_and_then}
use Rattle.g_graph.specs.declared.op.Op.{Op}
use Rattle.g_graph.specs.declared.op.Op.TheVariants.{Theta}
use Rattle.r_rule.specs.declared.steps.Rule.{Rule}
use Rattle.r_rule.specs.declared.steps.Rule.TheVariants.{Fold, Cne, Dne, Inv, Invert, Unroll}
use Rattle.g_graph.specs.Nodes.{node_at}
use Rattle.g_graph.specs.Plain.{RegionTree, nodes_in, op_of}
use Rattle.r_walk.specs.Context.{IsContext}
use Rattle.r_fold.specs.Rule.{fold_here}
use Rattle.r_cne.specs.Rule.{cne_here}
use Rattle.r_dne.specs.Rule.{dne_here}
use Rattle.r_inv.specs.Rule.{inv_here}

abbrev pub is_loop : Op → Bool
is_loop Theta = true
is_loop op = false

-- the region, where it holds a Theta of this number
abbrev pub loop_at : (node : ℕ) → RegionTree → Option RegionTree
loop_at n r = option_and_then (λ x. if is_loop (op_of x) then Some r else None) (node_at n (nodes_in r))

-- The rule's change of the region that holds a node. Of a rule that is not asked here it is some region; a loop alone is
-- inverted or unrolled.
abbrev pub change_in : Rule → (node : ℕ) → RegionTree → Option RegionTree
change_in Fold n r = fold_here n r
change_in Cne n r = cne_here n r
change_in Dne n r = dne_here n r
change_in Inv n r = inv_here n r
change_in Invert n r = loop_at n r
change_in Unroll n r = loop_at n r
change_in _ n r = Some r

-- The region is the body, or one nested in it.
pub record IsPlaced (r body : RegionTree) : Type 0 where
  pub context : RegionTree → RegionTree
  pub around : IsContext context
  pub is : body ≡ context r
