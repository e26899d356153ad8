-- What the walk asks is what the rule is said to be local by.
use Rattle.std.proofs.Common.{◌≡◌, ℕ, [], Option, None, Some, option_map, refl, ap, ◌∙◌}
use Rattle.r_rule.specs.declared.steps.Rule.TheVariants.{Unroll}
use Rattle.g_graph.specs.Ids.{region_ids}
use Rattle.g_graph.specs.Plain.{NodeTree, node, no_nodes, node_then, no_regions, region_then, regions_in}
use Rattle.g_graph.specs.WellFormed.{IsWellFormed}
use Rattle.r_sweep_def.specs.Swept.{Logged, swept_by}
use Rattle.r_unroll.specs.Edit.{loop_numbers}
use Rattle.r_unroll.specs.Rule.{node_unrolled}
use Rattle.r_unroll.specs.Asked.{numbers_taken, part_of, unroll_asked}
use Rattle.r_unroll.specs.WalkLaws.{unroll_change, UnrollIsLocal}
use Rattle.r_unroll.specs.AskedAt.{made_at}
use Rattle.r_walk.specs.Asks as asks
use Rattle.r_walk.specs.Laws.{WalksAreSweeps}
use Rattle.r_walk.specs.Walk.{walked}

asked_is : asks.asked_by made_at ≡ unroll_asked
asked_is = λ i values next before uses x. same values next x i
  where
    by : (x : NodeTree) (o : Option NodeTree) → asks.part_of (option_map (λ y. record { nodes = node_then y no_nodes; outputs = []; taken = loop_numbers (regions_in x) }) o) ≡ part_of (numbers_taken x) o
    by x None = refl
    by (node id op inputs no_regions) (Some y) = refl
    by (node id op inputs (region_then r rs)) (Some y) = refl

    same : (values next : ℕ) (x : NodeTree) → asks.part_of (made_at values next x) ≡ part_of (numbers_taken x) (node_unrolled values next x)
    same values next x = by x (node_unrolled values next x)

pub walk_is_sweep : WalksAreSweeps → UnrollIsLocal → (s : Logged) → IsWellFormed s.lambda → walked Unroll (asks.asked_by made_at) s ≡ swept_by unroll_change (region_ids s.lambda.body) s
walk_is_sweep law local s well = ap (λ ask. walked Unroll ask s) asked_is ∙ law unroll_change unroll_asked s local well
