-- Laws of the edits.
use Rattle.std.specs.Prelude.{◌≡◌, ℕ, suc, Bool, false, List, Some, slice_get}
use Rattle.val_core.specs.Events.{Event}
use Rattle.val_core.specs.Answers.{Returned}
use Rattle.g_graph.specs.declared.op.Kind.{Kind}
use Rattle.g_graph.specs.declared.op.Op.TheVariants.{Gamma, Theta}
use Rattle.g_graph.specs.declared.op.Origin.{Origin}
use Rattle.g_graph.specs.declared.op.Origin.TheVariants.{Arg}
use Rattle.g_graph.specs.Plain.{RegionTree, region, NodeTree, node, NodeTrees, node_then, RegionTrees, no_regions, region_then, id_of, PlainLambda}
use Rattle.g_graph.specs.Splice.{joined_nodes}
use Rattle.g_mean.specs.Data.{Datum, at_port}
use Rattle.g_mean.specs.Meaning.{Context, turns, region_meaning}
use Rattle.g_mean.specs.Silent.{GivesNoState}
use Rattle.g_mean.specs.Edits.{IsPartOf}
use Rattle.g_mean.specs.Replacement.{Replaces}
use Rattle.r_edit.specs.Uses.{is_read, is_output_of}
use Rattle.r_edit.specs.Removal.{region_without}
use Rattle.r_edit.specs.Exits.{regions_giving, is_gone_output, exits_kept}
use Rattle.r_edit.specs.Entries.{some_reads, entries_kept}
use Rattle.r_edit.specs.Variables.{loop_reads, variables_kept}

-- In a region of a well-formed lambda a node that gives no state, and none of whose outputs is read, may go.
abbrev pub UnreadNodesGo : Type 0
UnreadNodesGo =
    (ls ks : List PlainLambda) (l : PlainLambda) (args : List Kind) (before : NodeTrees) (x : NodeTree) (after : NodeTrees) (results : List Origin) →
    IsPartOf l (region args (joined_nodes before (node_then x after)) results) → GivesNoState x →
    is_read (is_output_of (id_of x)) (region args (joined_nodes before (node_then x after)) results) ≡ false →
    Replaces ls ks (region args (joined_nodes before (node_then x after)) results) (region_without (id_of x) (region args (joined_nodes before (node_then x after)) results))

-- Of a Gamma exit variables may go whose outputs are not read, with their results in every region.
abbrev pub UnreadExitsGo : Type 0
UnreadExitsGo =
    (ls ks : List PlainLambda) (l : PlainLambda) (args : List Kind) (before : NodeTrees) (id : ℕ) (inputs : List Origin) (rs : RegionTrees) (after : NodeTrees) (results : List Origin)
    (stays : List Bool) →
    IsPartOf l (region args (joined_nodes before (node_then (node id Gamma inputs rs) after)) results) →
    is_read (is_gone_output id stays) (region args (joined_nodes before (node_then (node id Gamma inputs rs) after)) results) ≡ false →
    Replaces ls ks (region args (joined_nodes before (node_then (node id Gamma inputs rs) after)) results)
    (exits_kept id stays (region args (joined_nodes before (node_then (node id Gamma inputs rs) after)) results))

-- Of a Gamma entry variables may go whose arguments no region reads, with these arguments.
abbrev pub UnreadEntriesGo : Type 0
UnreadEntriesGo =
    (ls ks : List PlainLambda) (l : PlainLambda) (args : List Kind) (before : NodeTrees) (id : ℕ) (inputs : List Origin) (rs : RegionTrees) (after : NodeTrees) (results : List Origin)
    (stays : List Bool) →
    IsPartOf l (region args (joined_nodes before (node_then (node id Gamma inputs rs) after)) results) → some_reads stays rs ≡ false →
    Replaces ls ks (region args (joined_nodes before (node_then (node id Gamma inputs rs) after)) results)
    (entries_kept id stays (region args (joined_nodes before (node_then (node id Gamma inputs rs) after)) results))

-- Both may go, and which arguments are read is asked once the exit variables are gone.
abbrev pub UnreadExitsAndEntriesGo : Type 0
UnreadExitsAndEntriesGo =
    (ls ks : List PlainLambda) (l : PlainLambda) (args : List Kind) (before : NodeTrees) (id : ℕ) (inputs : List Origin) (rs : RegionTrees) (after : NodeTrees) (results : List Origin) →
    (exits entries : List Bool) → IsPartOf l (region args (joined_nodes before (node_then (node id Gamma inputs rs) after)) results) →
    is_read (is_gone_output id exits) (region args (joined_nodes before (node_then (node id Gamma inputs rs) after)) results) ≡ false → some_reads entries (regions_giving exits rs) ≡ false →
    Replaces ls ks (region args (joined_nodes before (node_then (node id Gamma inputs rs) after)) results)
    (entries_kept id entries (exits_kept id exits (region args (joined_nodes before (node_then (node id Gamma inputs rs) after)) results)))

-- Of a Theta loop variables may go whose outputs are not read, and whose arguments at most results that go with them read.
abbrev pub UnreadVariablesGo : Type 0
UnreadVariablesGo =
    (ls ks : List PlainLambda) (l : PlainLambda) (args : List Kind) (before : NodeTrees) (id : ℕ) (inputs : List Origin) (r : RegionTree) (after : NodeTrees) (results : List Origin)
    (stays : List Bool) →
    IsPartOf l (region args (joined_nodes before (node_then (node id Theta inputs (region_then r no_regions)) after)) results) → loop_reads stays r ≡ false →
    is_read (is_gone_output id stays) (region args (joined_nodes before (node_then (node id Theta inputs (region_then r no_regions)) after)) results) ≡ false →
    Replaces ls ks (region args (joined_nodes before (node_then (node id Theta inputs (region_then r no_regions)) after)) results)
    (variables_kept id stays (region args (joined_nodes before (node_then (node id Theta inputs (region_then r no_regions)) after)) results))

-- ---- loop variables whose result is their argument

-- However many turns a loop takes, it gives such a variable as it took it.
abbrev pub LoopsKeepArguments : Type 0
LoopsKeepArguments =
    (n : ℕ) (c : Context) (own : List Kind) (nodes : NodeTrees) (outs : List Origin) (us vs : List Datum) (did : List Event) (p : ℕ) → slice_get outs (suc p) ≡ Some (Arg p) →
    turns n (region_meaning c (region own nodes outs)) us ≡ Returned vs did → at_port vs p ≡ at_port us p
