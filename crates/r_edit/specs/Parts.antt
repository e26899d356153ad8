-- A part in the place of a node, where what follows may read other origins.
use Rattle.std.specs.Prelude.{ℕ, Bool, IsTrue, List, [], map}
use Rattle.val_core.specs.Refinement.{Direction, Refines, no_deeper}
use Rattle.g_graph.specs.declared.op.Kind.{Kind}
use Rattle.g_graph.specs.declared.op.Origin.{Origin}
use Rattle.g_graph.specs.Plain.{region, NodeTree, NodeTrees, no_nodes, node_then}
use Rattle.g_graph.specs.Ids.{nodes_ids}
use Rattle.g_graph.specs.WellFormed.{distinct}
use Rattle.g_graph.specs.Replace.{nodes_redirected}
use Rattle.g_graph.specs.Splice.{joined_nodes}
use Rattle.g_mean.specs.Data.{Datum}
use Rattle.g_mean.specs.Meaning.{Context, Outputs, region_meaning, nodes_run}
use Rattle.g_mean.specs.LessDefined.{Paired, IsLessDefinedDatum}
use Rattle.g_mean.specs.Refining.{MeaningRefines, ContextRefines}
use Rattle.g_mean.specs.Copies.{AreRead, NodesRead, known_after, IsClosed, CanMove}
use Rattle.g_mean.specs.Moves.{ReadLessDefined}
use Rattle.g_mean.specs.Holds.{HaveRun}

-- The region is closed and its numbers are unique. Of all that stands before them the nodes and results after `x` read
-- what `S` names, and `move` says where that comes from afterwards.
pub record CanPlace (args : List Kind) (before : NodeTrees) (x : NodeTree) (after : NodeTrees) (results : List Origin) (S : Origin → Bool) (move : Origin → Origin) : Type 0 where
  pub closed : IsClosed (region args (joined_nodes before (node_then x after)) results)
  pub unique : IsTrue (distinct (nodes_ids (joined_nodes before (node_then x after))))
  pub reads : NodesRead S [] after
  pub gives : AreRead S (known_after [] after) results
  pub moves : CanMove S move (λ n. n) (nodes_ids after)

-- Where the node and the part refine, on what the earlier nodes give, as far as that is read later, so is the region
-- with the part in the place of the node. The part may have the node's own number, or be empty.
abbrev pub PlacedPartsRefine : Type 0
PlacedPartsRefine =
    (direction : Direction) (c d : Context) → ContextRefines no_deeper direction IsLessDefinedDatum c d →
    (args : List Kind) (before : NodeTrees) (x : NodeTree) (after : NodeTrees) (results : List Origin) (part : NodeTrees) (S : Origin → Bool) (move : Origin → Origin) →
    CanPlace args before x after results S move →
    ((xs ys : List Datum) (o q : Outputs) → Paired IsLessDefinedDatum xs ys → ((n p : ℕ) → IsLessDefinedDatum (o n p) (q n p)) → HaveRun c xs o before →
    Refines no_deeper direction (ReadLessDefined S [] move xs ys) (nodes_run c (node_then x no_nodes) xs o) (nodes_run d part ys q)) →
    MeaningRefines no_deeper direction IsLessDefinedDatum (region_meaning c (region args (joined_nodes before (node_then x after)) results))
    (region_meaning d (region args (joined_nodes before (joined_nodes part (nodes_redirected move after))) (map move results)))
