-- Nodes that give no state.
use Rattle.std.specs.Prelude.{◌≡◌, ℕ, false, List, [], IsTrue}
use Rattle.val_core.specs.Answers.{Answer, Returned, Undefined}
use Rattle.g_graph.specs.declared.op.Kind.{Kind}
use Rattle.g_graph.specs.declared.op.Kind.TheVariants.{Memory, Io}
use Rattle.g_graph.specs.Plain.{NodeTree, NodeTrees}
use Rattle.g_graph.specs.Signatures.{output_kinds}
use Rattle.g_graph.specs.Scope.{is_of}
use Rattle.g_graph.specs.WellFormed.{some_of, every_in_node, node_fits, region_fits}
use Rattle.g_mean.specs.Data.{Datum}
use Rattle.g_mean.specs.Meaning.{Context, Outputs, node_run}

-- a part gives its results or is undefined: it is not cut, it does not end the program, and it has no events
abbrev pub IsSilent : {A : Type 0} → Answer A → Type 0
IsSilent (Returned x o) = o ≡ []
IsSilent (Undefined o) = o ≡ []
IsSilent _ = ⊥

-- none of the outputs is a state
pub record GivesNoState (x : NodeTree) : Type 0 where
  pub memory : some_of (is_of Memory) (output_kinds x) ≡ false
  pub io : some_of (is_of Io) (output_kinds x) ≡ false

-- a node, with all that is nested in it, is well formed after these nodes of a region with these arguments
pub record IsWellFormedNode (objects : ℕ) (args : List Kind) (before : NodeTrees) (x : NodeTree) : Type 0 where
  pub fits : IsTrue (node_fits objects args before x)
  pub nested : IsTrue (every_in_node (region_fits objects) x)

-- A well-formed node that gives no state is silent, whatever stands around it.
abbrev pub StatelessNodesAreSilent : Type 0
StatelessNodesAreSilent =
    (objects : ℕ) (args : List Kind) (before : NodeTrees) (x : NodeTree) → IsWellFormedNode objects args before x → GivesNoState x →
    (c : Context) (xs : List Datum) (o : Outputs) → IsSilent (node_run c x xs o)
