-- The edit of a Gamma's exit variables that carry origins of the region around it: what reads one of them reads what it
-- carries, and it goes.
use Rattle.std.specs.Prelude.{ℕ, suc, ◌==◌, ◌&&◌, if◌then◌else◌, Bool, true, List, [], map, Option, None, Some, option_and_then, is_none, unwrap_or, slice_get}
use Rattle.std.specs.Prelude.{◌≡◌}
use Rattle.g_graph.specs.declared.op.Kind.{Kind}
use Rattle.g_graph.specs.declared.op.Op.TheVariants.{Gamma, Theta}
use Rattle.g_graph.specs.declared.op.Origin.{Origin}
use Rattle.g_graph.specs.declared.op.Origin.TheVariants.{Arg, Out}
use Rattle.g_graph.specs.Plain.{RegionTree, region, node, NodeTrees, no_nodes, node_then, RegionTrees, no_regions, region_then, id_of, PlainLambda}
use Rattle.g_graph.specs.Signatures.{joined}
use Rattle.g_graph.specs.WellFormed.{is_origin}
use Rattle.g_graph.specs.Replace.{nodes_redirected}
use Rattle.g_graph.specs.Splice.{joined_nodes}
use Rattle.g_mean.specs.Edits.{IsPartOf}
use Rattle.g_mean.specs.Replacement.{Replaces}
use Rattle.r_edit.specs.Places.{place_after}
use Rattle.r_edit.specs.Exits.{node_giving}
use Rattle.r_edit.specs.InPlace.{outputs_redirected}

-- what an argument of a region of a Gamma carries; the first input is the predicate
abbrev pub outer : (inputs : List Origin) → Option Origin → Option Origin
outer inputs None = None
outer inputs (Some (Arg k)) = slice_get inputs (suc k)
outer inputs (Some (Out n p)) = None

-- result p of every region carries that origin
abbrev pub all_pass : (inputs : List Origin) → Origin → (p : ℕ) → RegionTrees → Bool
all_pass inputs o p no_regions = true
all_pass inputs o p (region_then (region args nodes results) rs) = is_origin (outer inputs (slice_get results p)) o && all_pass inputs o p rs

-- the one origin that result p carries in every region
abbrev pub passed : (inputs : List Origin) → (p : ℕ) → RegionTrees → Option Origin
passed inputs p no_regions = None
passed inputs p (region_then (region args nodes results) rs) = option_and_then (λ o. if all_pass inputs o p rs then Some o else None) (outer inputs (slice_get results p))

-- an origin, where outputs of node n come from what they carry, and of the others those stay for which the test is true
abbrev pub output_carried : (n : ℕ) → (carried : List (Option Origin)) → (stays : List Bool) → Origin → Origin
output_carried n cs stays (Arg k) = Arg k
output_carried n cs stays (Out m p) = if n == m then unwrap_or (joined (slice_get cs p)) (Out m (place_after stays p)) else Out m p

-- what carries nothing stays
abbrev pub staying : (carried : List (Option Origin)) → List Bool
staying cs = map is_none cs

abbrev pub nodes_carrying : (n : ℕ) → (carried : List (Option Origin)) → NodeTrees → NodeTrees
nodes_carrying n cs no_nodes = no_nodes
nodes_carrying n cs (node_then x ns) =
    if id_of x == n then node_then (node_giving (staying cs) x) (nodes_redirected (output_carried n cs (staying cs)) ns) else node_then x (nodes_carrying n cs ns)

abbrev pub exits_carried : (n : ℕ) → (carried : List (Option Origin)) → RegionTree → RegionTree
exits_carried n cs (region args nodes results) = region args (nodes_carrying n cs nodes) (map (output_carried n cs (staying cs)) results)

-- Of a Gamma exit variables may go that carry one origin in every region, states too, where their uses become its uses.
abbrev pub CarriedExitsGo : Type 0
CarriedExitsGo =
    (ls ks : List PlainLambda) (l : PlainLambda) (args : List Kind) (before : NodeTrees) (id : ℕ) (inputs : List Origin) (rs : RegionTrees) (after : NodeTrees) (results : List Origin)
    (carried : List (Option Origin)) → IsPartOf l (region args (joined_nodes before (node_then (node id Gamma inputs rs) after)) results) →
    ((p : ℕ) (o : Origin) → joined (slice_get carried p) ≡ Some o → passed inputs p rs ≡ Some o) →
    Replaces ls ks (region args (joined_nodes before (node_then (node id Gamma inputs rs) after)) results)
    (exits_carried id carried (region args (joined_nodes before (node_then (node id Gamma inputs rs) after)) results))

-- Uses of outputs of a Theta may become uses of its inputs, where the results of these variables are their arguments.
abbrev pub CarriedUsesMove : Type 0
CarriedUsesMove =
    (ls ks : List PlainLambda) (l : PlainLambda) (args : List Kind) (before : NodeTrees) (id : ℕ) (inputs : List Origin) (own : List Kind) (nodes : NodeTrees) (outs : List Origin) (after : NodeTrees)
    (results : List Origin) (carried : List (Option Origin)) →
    IsPartOf l (region args (joined_nodes before (node_then (node id Theta inputs (region_then (region own nodes outs) no_regions)) after)) results) →
    ((p : ℕ) (o : Origin) → joined (slice_get carried p) ≡ Some o → (slice_get outs (suc p) ≡ Some (Arg p)) × (slice_get inputs p ≡ Some o)) →
    Replaces ls ks (region args (joined_nodes before (node_then (node id Theta inputs (region_then (region own nodes outs) no_regions)) after)) results)
    (outputs_redirected id (output_carried id carried []) (region args (joined_nodes before (node_then (node id Theta inputs (region_then (region own nodes outs) no_regions)) after)) results))
