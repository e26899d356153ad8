-- Which lambdas are well formed (Reissmann et al., RVSDG, 2020, of regions, Gamma and Theta nodes and states). Each
-- sentence is a test of its own, and is asked of the body and of each region nested in it.
use Rattle.std.specs.Prelude.{ℕ, ◌+◌, ◌%◌, ◌==◌, nat_le, nat_lt, Bool, true, false, not, ◌&&◌, ◌||◌, IsTrue, List, [], ◌∷◌, ◌++◌, length, map, replicate, if◌then◌else◌}
use Rattle.std.specs.declared.option.Option.{Option}
use Rattle.std.specs.declared.option.Option.TheVariants.{Some, None}
use Rattle.val_core.specs.declared.leaf.Leaf.{Leaf}
use Rattle.g_graph.specs.declared.op.Kind.{Kind}
use Rattle.g_graph.specs.declared.op.Kind.TheVariants.{Value, Memory, Io}
use Rattle.g_graph.specs.declared.op.Origin.{Origin}
use Rattle.g_graph.specs.declared.op.Op.TheVariants.{Local, Clear, Load, Store, Gamma, Theta}
use Rattle.g_graph.specs.Plain.{RegionTree, region, NodeTree, node, NodeTrees, no_nodes, node_then, RegionTrees, no_regions, region_then, args_of, PlainLambda}
use Rattle.g_graph.specs.Signatures.{inputs_of, result_kinds, output_kinds, first_args}
use Rattle.g_graph.specs.Scope.{same_kind, is_of, same_origin, last_state, each_node, known}
use Rattle.g_graph.specs.Ids.{region_ids}

abbrev pub all_of : {X : Type 0} → (X → Bool) → List X → Bool
all_of test [] = true
all_of test (x ∷ xs) = test x && all_of test xs

abbrev pub some_of : {X : Type 0} → (X → Bool) → List X → Bool
some_of test [] = false
some_of test (x ∷ xs) = test x || some_of test xs

abbrev pub all_regions : (RegionTree → Bool) → RegionTrees → Bool
all_regions test no_regions = true
all_regions test (region_then r rs) = test r && all_regions test rs

-- the test holds of a region and of each region nested in it
abbrev mutual
  pub every_region : (RegionTree → Bool) → RegionTree → Bool
  every_region test (region args nodes results) = test (region args nodes results) && every_in_nodes test nodes

  pub every_in_node : (RegionTree → Bool) → NodeTree → Bool
  every_in_node test (node id op inputs rs) = every_in_regions test rs

  pub every_in_nodes : (RegionTree → Bool) → NodeTrees → Bool
  every_in_nodes test no_nodes = true
  every_in_nodes test (node_then x xs) = every_in_node test x && every_in_nodes test xs

  pub every_in_regions : (RegionTree → Bool) → RegionTrees → Bool
  every_in_regions test no_regions = true
  every_in_regions test (region_then r rs) = every_region test r && every_in_regions test rs

-- the kinds that were found are those that are wanted, in number too
abbrev pub are : List (Option Kind) → List Kind → Bool
are [] [] = true
are (Some j ∷ xs) (k ∷ ks) = same_kind j k && are xs ks
are _ _ = false

abbrev pub same : List Kind → List Kind → Bool
same js ks = are (map Some js) ks

abbrev pub at_most_one : Kind → List (Option Kind) → Bool
at_most_one k [] = true
at_most_one k (x ∷ xs) = if is_of k x then not (some_of (is_of k) xs) else at_most_one k xs

abbrev pub one_state_each : List (Option Kind) → Bool
one_state_each kinds = at_most_one Memory kinds && at_most_one Io kinds

-- Each input is an argument of the same region or an output of an earlier node of it, and there are as many inputs, and
-- of such kinds, as the op's signature says.
abbrev pub inputs_fit : List Kind → NodeTrees → NodeTree → Bool
inputs_fit args before (node id op inputs rs) = are (map (known args before) inputs) (inputs_of op (length inputs) rs)

-- Only a Gamma and a Theta have regions; a Gamma has at least one, and a Theta has one.
abbrev pub has_its_regions : NodeTree → Bool
has_its_regions (node id Gamma inputs no_regions) = false
has_its_regions (node id Gamma inputs (region_then r rs)) = true
has_its_regions (node id Theta inputs (region_then r no_regions)) = true
has_its_regions (node id Theta inputs rs) = false
has_its_regions (node id op inputs no_regions) = true
has_its_regions (node id op inputs (region_then r rs)) = false

abbrev pub kinds_of : List (Option Kind) → List Kind
kinds_of [] = []
kinds_of (None ∷ xs) = kinds_of xs
kinds_of (Some k ∷ xs) = k ∷ kinds_of xs

-- Each region of a Gamma has the kinds of its entry variables as arguments, which its inputs are checked against, and
-- the kinds of its exit variables as results. The region of a Theta has the kinds of its loop variables as arguments,
-- and a value and then the same kinds as results.
abbrev pub regions_fit : NodeTree → Bool
regions_fit (node id Gamma inputs rs) = all_regions (λ r. same (args_of r) (first_args rs) && are (result_kinds r) (kinds_of (output_kinds (node id Gamma inputs rs)))) rs
regions_fit (node id Theta inputs rs) = all_regions (λ r. are (result_kinds r) (Value ∷ args_of r)) rs
regions_fit (node id op inputs rs) = true

-- Every Theta takes and gives both states; an Apply does so by its signature.
abbrev pub theta_has_states : NodeTree → Bool
theta_has_states (node id Theta inputs rs) = all_regions (λ r. some_of (same_kind Memory) (args_of r) && some_of (same_kind Io) (args_of r)) rs
theta_has_states (node id op inputs rs) = true

abbrev pub is_origin : Option Origin → Origin → Bool
is_origin None o = false
is_origin (Some p) o = same_origin p o

abbrev pub is_last_of : Option Kind → List Kind → NodeTrees → Origin → Bool
is_last_of None args before o = false
is_last_of (Some Value) args before o = true
is_last_of (Some Memory) args before o = is_origin (last_state Memory args before) o
is_last_of (Some Io) args before o = is_origin (last_state Io args before) o

-- A state input is the last output or argument of that kind of state before the node. So is a state result.
abbrev pub is_last : List Kind → NodeTrees → Origin → Bool
is_last args before o = is_last_of (known args before o) args before o

abbrev pub inputs_are_last : List Kind → NodeTrees → NodeTree → Bool
inputs_are_last args before (node id op inputs rs) = all_of (is_last args before) inputs

abbrev pub results_are_last : RegionTree → Bool
results_are_last (region args nodes results) = all_of (is_last args nodes) results

-- The arguments of a region, its results, the inputs of a node and its outputs have at most one Memory and one Io each.
abbrev pub node_has_one_state_each : List Kind → NodeTrees → NodeTree → Bool
node_has_one_state_each args before (node id op inputs rs) = one_state_each (map (known args before) inputs) && one_state_each (output_kinds (node id op inputs rs))

abbrev pub region_has_one_state_each : RegionTree → Bool
region_has_one_state_each (region args nodes results) = one_state_each (map Some args) && one_state_each (result_kinds (region args nodes results))

-- The width of a Load or Store is 1, 2 or 4.
abbrev pub is_width : ℕ → Bool
is_width w = (w == 1) || (w == 2) || (w == 4)

abbrev pub has_its_width : NodeTree → Bool
has_its_width (node id (Load width) inputs rs) = is_width width
has_its_width (node id (Store width) inputs rs) = is_width width
has_its_width (node id op inputs rs) = true

-- A Local or Clear names an object of its lambda, which has so many.
abbrev pub has_its_object : ℕ → NodeTree → Bool
has_its_object objects (node id (Local k) inputs rs) = nat_lt k objects
has_its_object objects (node id (Clear k) inputs rs) = nat_lt k objects
has_its_object objects (node id op inputs rs) = true

abbrev pub node_fits : ℕ → List Kind → NodeTrees → NodeTree → Bool
node_fits objects args before x =
    inputs_fit args before x && inputs_are_last args before x && node_has_one_state_each args before x
    && has_its_regions x && regions_fit x && theta_has_states x && has_its_width x && has_its_object objects x

abbrev pub gives : Kind → NodeTrees → Bool
gives k no_nodes = false
gives k (node_then x xs) = some_of (is_of k) (output_kinds x) || gives k xs

-- A region with a node that gives a state has a result of that kind of state.
abbrev pub returns_state : Kind → RegionTree → Bool
returns_state k (region args nodes results) = not (gives k nodes) || some_of (is_of k) (result_kinds (region args nodes results))

abbrev pub nodes_fit : ℕ → RegionTree → Bool
nodes_fit objects (region args nodes results) = each_node (node_fits objects args) [] nodes

abbrev pub region_fits : ℕ → RegionTree → Bool
region_fits objects r =
    nodes_fit objects r && results_are_last r && returns_state Memory r && returns_state Io r && region_has_one_state_each r

-- The leaves stand in order of offset, do not overlap, lie within the size, and each has width 1, 2 or 4 and an offset
-- that is a multiple of its width. The first of them begins at `from` or later.
abbrev pub leaves_fit : ℕ → (from : ℕ) → List Leaf → Bool
leaves_fit size from [] = true
leaves_fit size from (l ∷ ls) =
    nat_le from l.offset && nat_le (l.offset + l.width) size && is_width l.width && (l.offset % l.width == 0) && leaves_fit size (l.offset + l.width) ls

abbrev pub distinct : List ℕ → Bool
distinct [] = true
distinct (n ∷ ns) = not (some_of (λ m. n == m) ns) && distinct ns

-- The body's arguments are one value for each parameter, then memory and io. Its results are a value, memory and io.
abbrev pub body_fits : PlainLambda → Bool
body_fits l = same (args_of l.body) (replicate l.params Value ++ Memory ∷ Io ∷ []) && are (result_kinds l.body) (Value ∷ Memory ∷ Io ∷ [])

-- Node numbers are unique in a lambda and below `next`.
abbrev pub numbers_fit : PlainLambda → Bool
numbers_fit l = distinct (region_ids l.body) && all_of (λ n. nat_lt n l.next) (region_ids l.body)

abbrev pub well_formed : PlainLambda → Bool
well_formed l =
    body_fits l && numbers_fit l && every_region (region_fits (length l.objects)) l.body && all_of (λ o. leaves_fit o.size 0 o.leaves) l.objects

abbrev pub IsWellFormed : PlainLambda → Type 0
IsWellFormed l = IsTrue (well_formed l)
