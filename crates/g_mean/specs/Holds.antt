-- What is known of the map from outputs to data once nodes have run.
use Rattle.std.specs.Prelude.{◌≡◌, ℕ, List, IsTrue}
use Rattle.val_core.specs.Events.{Event}
use Rattle.val_core.specs.Answers.{Returned}
use Rattle.g_graph.specs.declared.op.Kind.{Kind}
use Rattle.g_graph.specs.declared.op.Origin.{Origin}
use Rattle.g_graph.specs.Plain.{region, NodeTree, NodeTrees, no_nodes, node_then, id_of}
use Rattle.g_graph.specs.Ids.{nodes_ids}
use Rattle.g_graph.specs.WellFormed.{distinct}
use Rattle.g_mean.specs.Data.{Datum, at_port}
use Rattle.g_mean.specs.Meaning.{Context, Outputs, no_outputs, node_run, nodes_run}
use Rattle.g_mean.specs.Copies.{IsClosed}

-- A node gives its results on what its inputs carry in this map, and the map has them as its outputs.
pub record HasRun (c : Context) (xs : List Datum) (o : Outputs) (x : NodeTree) : Type 0 where
  pub results : List Datum
  pub did : List Event
  pub run : node_run c x xs o ≡ Returned results did
  pub outputs : (p : ℕ) → o (id_of x) p ≡ at_port results p

abbrev pub HaveRun : Context → List Datum → Outputs → NodeTrees → Type 0
HaveRun c xs o no_nodes = Unit {0}
HaveRun c xs o (node_then x ns) = HasRun c xs o x × HaveRun c xs o ns

-- In the last map each node of a closed region with unique numbers has run.
abbrev pub RunNodesHold : Type 0
RunNodesHold =
    (c : Context) (args : List Kind) (ns : NodeTrees) (results : List Origin) (xs : List Datum) (o : Outputs) (did : List Event) →
    IsClosed (region args ns results) → IsTrue (distinct (nodes_ids ns)) → nodes_run c ns xs no_outputs ≡ Returned o did → HaveRun c xs o ns
