-- The edit of a Gamma's entry variables: some of them go, with their arguments in every region, and what names later
-- arguments follows.
use Rattle.std.specs.Prelude.{◌≡◌, ℕ, ◌+◌, ◌==◌, ◌||◌, not, if◌then◌else◌, Bool, true, false, List, ◌∷◌, map, slice_index, EachIndex}
use Rattle.g_graph.specs.declared.op.Origin.{Origin}
use Rattle.g_graph.specs.declared.op.Origin.TheVariants.{Arg, Out}
use Rattle.g_graph.specs.Plain.{RegionTree, region, NodeTree, node, NodeTrees, no_nodes, node_then, RegionTrees, no_regions, region_then, id_of}
use Rattle.g_graph.specs.Replace.{nodes_redirected}
use Rattle.r_edit.specs.Uses.{is_read}
use Rattle.r_edit.specs.Places.{stays_at, kept, place_after}

-- an origin of a region, after arguments of it went
abbrev pub argument_after : (stays : List Bool) → Origin → Origin
argument_after stays (Arg k) = Arg (place_after stays k)
argument_after stays (Out n p) = Out n p

-- of each place, how many places before it go
abbrev pub AreGone : (stays : List Bool) → (gone : List ℕ) → Type 0
AreGone stays gone = EachIndex gone (λ k. slice_index gone k + place_after stays k ≡ k)

abbrev pub is_gone_argument : (stays : List Bool) → Origin → Bool
is_gone_argument stays (Arg k) = not (stays_at stays k)
is_gone_argument stays (Out n p) = false

-- some region reads an argument that goes
abbrev pub some_reads : (stays : List Bool) → RegionTrees → Bool
some_reads stays no_regions = false
some_reads stays (region_then r rs) = is_read (is_gone_argument stays) r || some_reads stays rs

abbrev pub regions_taking : (stays : List Bool) → RegionTrees → RegionTrees
regions_taking stays no_regions = no_regions
regions_taking stays (region_then (region args nodes results) rs) =
    region_then (region (kept stays args) (nodes_redirected (argument_after stays) nodes) (map (argument_after stays) results)) (regions_taking stays rs)

-- the predicate stays
abbrev pub node_taking : (stays : List Bool) → NodeTree → NodeTree
node_taking stays (node id op inputs rs) = node id op (kept (true ∷ stays) inputs) (regions_taking stays rs)

abbrev pub nodes_taking : (n : ℕ) → (stays : List Bool) → NodeTrees → NodeTrees
nodes_taking n stays no_nodes = no_nodes
nodes_taking n stays (node_then x ns) = if id_of x == n then node_then (node_taking stays x) ns else node_then x (nodes_taking n stays ns)

abbrev pub entries_kept : (n : ℕ) → (stays : List Bool) → RegionTree → RegionTree
entries_kept n stays (region args nodes results) = region args (nodes_taking n stays nodes) results
