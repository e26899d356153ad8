-- The nodes of one region in the place of a node of another.
use Rattle.std.specs.Prelude.{◌≡◌, ◌≢◌, ℕ, IsTrue, List, [], ◌∷◌, ◌++◌, map, length}
use Rattle.val_core.specs.Refinement.{Direction, Refines, no_deeper}
use Rattle.g_graph.specs.declared.op.Kind.{Kind}
use Rattle.g_graph.specs.declared.op.Origin.{Origin}
use Rattle.g_graph.specs.Plain.{region, NodeTree, NodeTrees, node_then, id_of}
use Rattle.g_graph.specs.Ids.{nodes_ids}
use Rattle.g_graph.specs.WellFormed.{distinct}
use Rattle.g_graph.specs.declared.op.Origin.TheVariants.{Arg, Out}
use Rattle.g_graph.specs.Replace.{region_redirected}
use Rattle.g_graph.specs.Splice.{args_to_inputs, joined_nodes, region_spliced}
use Rattle.g_mean.specs.Data.{Datum}
use Rattle.g_mean.specs.Meaning.{Context, Outputs, read, region_meaning, node_run}
use Rattle.g_mean.specs.LessDefined.{Paired, IsLessDefinedDatum}
use Rattle.g_mean.specs.Refining.{MeaningRefines, ContextRefines}
use Rattle.g_mean.specs.Copies.{IsAmong, IsRead, AreRead, NodesRead, known_after, is_argument, IsClosed}
use Rattle.g_mean.specs.Holds.{HasRun, HaveRun}

-- A region with a node `x`, and the nodes and results of a part that come in its place, whose arguments are `inputs`:
-- all is closed, the numbers of the region are unique, and those of the part are others.
pub record FitsInto (args : List Kind) (before : NodeTrees) (x : NodeTree) (after : NodeTrees) (results : List Origin) (part : NodeTrees) (gives : List Origin) (inputs : List Origin) : Type 0 where
  pub closed : IsClosed (region args (joined_nodes before (node_then x after)) results)
  pub unique : IsTrue (distinct (nodes_ids (joined_nodes before (node_then x after))))
  pub inputs_known : AreRead (is_argument (length args)) (known_after [] before) inputs
  pub part_reads : NodesRead (is_argument (length inputs)) [] part
  pub part_gives : AreRead (is_argument (length inputs)) (known_after [] part) gives
  pub apart : (n : ℕ) → IsAmong n (nodes_ids part) → IsAmong n (nodes_ids before ++ id_of x ∷ nodes_ids after) → ⊥

-- Where the node and the part refine, on what the earlier nodes give, so is the region with the part in the place of
-- the node.
abbrev pub SplicedRegionsRefine : Type 0
SplicedRegionsRefine =
    (direction : Direction) (c d : Context) → ContextRefines no_deeper direction IsLessDefinedDatum c d →
    (args : List Kind) (before : NodeTrees) (x : NodeTree) (after : NodeTrees) (results : List Origin) (own : List Kind) (part : NodeTrees) (gives inputs : List Origin) →
    FitsInto args before x after results part gives inputs →
    ((xs ys : List Datum) (o q : Outputs) → Paired IsLessDefinedDatum xs ys → ((n p : ℕ) → IsLessDefinedDatum (o n p) (q n p)) → HaveRun c xs o before →
    Refines no_deeper direction (Paired IsLessDefinedDatum) (node_run c x xs o) (region_meaning d (region own part gives) (map (read ys q) inputs))) →
    MeaningRefines no_deeper direction IsLessDefinedDatum (region_meaning c (region args (joined_nodes before (node_then x after)) results))
    (region_meaning d (region_spliced (id_of x) (region_redirected (args_to_inputs inputs) (region own part gives)) (region args (joined_nodes before (node_then x after)) results)))

-- Uses of outputs of a node `x` may come from elsewhere, as `move` says: from an argument or an earlier node.
pub record CanRedirect (args : List Kind) (before : NodeTrees) (x : NodeTree) (after : NodeTrees) (results : List Origin) (move : Origin → Origin) : Type 0 where
  pub closed : IsClosed (region args (joined_nodes before (node_then x after)) results)
  pub unique : IsTrue (distinct (nodes_ids (joined_nodes before (node_then x after))))
  pub arguments : (k : ℕ) → move (Arg k) ≡ Arg k
  pub others : (n p : ℕ) → n ≢ id_of x → move (Out n p) ≡ Out n p
  pub own : (p : ℕ) → IsRead (is_argument (length args)) (id_of x ∷ known_after [] before) (move (Out (id_of x) p))

-- Where each output of the node, once it has run, is less defined than what it then comes from, the regions refine.
abbrev pub RedirectedRegionsRefine : Type 0
RedirectedRegionsRefine =
    (direction : Direction) (c d : Context) → ContextRefines no_deeper direction IsLessDefinedDatum c d →
    (args : List Kind) (before : NodeTrees) (x : NodeTree) (after : NodeTrees) (results : List Origin) (move : Origin → Origin) →
    CanRedirect args before x after results move →
    ((xs ys : List Datum) (o q : Outputs) → Paired IsLessDefinedDatum xs ys → ((n p : ℕ) → IsLessDefinedDatum (o n p) (q n p)) → HaveRun c xs o before → HasRun c xs o x →
    (p : ℕ) → IsLessDefinedDatum (o (id_of x) p) (read ys q (move (Out (id_of x) p)))) →
    MeaningRefines no_deeper direction IsLessDefinedDatum (region_meaning c (region args (joined_nodes before (node_then x after)) results))
    (region_meaning d (region_redirected move (region args (joined_nodes before (node_then x after)) results)))

-- Where another node of the same number refines, on what the earlier nodes give, so is the region with it.
abbrev pub ReplacedNodesRefine : Type 0
ReplacedNodesRefine =
    (direction : Direction) (c d : Context) → ContextRefines no_deeper direction IsLessDefinedDatum c d →
    (args : List Kind) (before : NodeTrees) (x y : NodeTree) (after : NodeTrees) (results : List Origin) →
    IsClosed (region args (joined_nodes before (node_then x after)) results) → IsTrue (distinct (nodes_ids (joined_nodes before (node_then x after)))) →
    id_of x ≡ id_of y →
    ((xs ys : List Datum) (o q : Outputs) → Paired IsLessDefinedDatum xs ys → ((n p : ℕ) → IsLessDefinedDatum (o n p) (q n p)) → HaveRun c xs o before →
    Refines no_deeper direction (Paired IsLessDefinedDatum) (node_run c x xs o) (node_run d y ys q)) →
    MeaningRefines no_deeper direction IsLessDefinedDatum (region_meaning c (region args (joined_nodes before (node_then x after)) results))
    (region_meaning d (region args (joined_nodes before (node_then y after)) results))
