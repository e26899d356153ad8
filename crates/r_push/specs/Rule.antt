-- Push: a node that gives a value of arguments alone moves out of a region of a Gamma, or out of a Theta, to directly
-- before it (Reissmann et al., RVSDG, 2020). One more variable, after all others, carries the value.
use Rattle.std.specs.Prelude.{ℕ, suc, ◌^◌, nat_lt, ◌&&◌, if◌then◌else◌, Bool, true, false, List, ◌∷◌, length, slice_get, Option, None, Some, option_map, option_and_then, is_some}
use Rattle.std.specs.Option.{option_or}
use Rattle.g_graph.specs.declared.op.Kind.TheVariants.{Value}
use Rattle.g_graph.specs.declared.op.Op.TheVariants.{Gamma, Theta}
use Rattle.g_graph.specs.declared.op.Origin.{Origin}
use Rattle.g_graph.specs.declared.op.Origin.TheVariants.{Arg, Out}
use Rattle.g_graph.specs.Plain.{RegionTree, region, NodeTree, node, NodeTrees, no_nodes, node_then, RegionTrees, no_regions, region_then, args_of, PlainLambda, count_of, results_of, has_none}
use Rattle.g_graph.specs.Signatures.{is_pure}
use Rattle.g_graph.specs.WellFormed.{all_of, all_regions, is_origin}
use Rattle.g_graph.specs.Replace.{node_redirected, region_redirected, origin_replaced}
use Rattle.g_graph.specs.Splice.{args_to_inputs, joined_nodes}
use Rattle.g_graph.specs.Change.{region_changed, lambda_changed}
use Rattle.g_graph.specs.Nodes.{node_at, is_used}
use Rattle.g_graph.specs.Program.{lambda_values}
use Rattle.g_graph.specs.Views.{same_op}
use Rattle.r_edit.specs.Removal.{region_without}
use Rattle.r_edit.specs.Added.{arg_added, result_added, input_added}
use Rattle.r_edit.specs.Size.{may_change_size}

-- ---- the node

abbrev pub names_argument : Origin → Bool
names_argument (Arg k) = true
names_argument (Out n p) = false

-- a pure node whose inputs are all as the test says, and whose output is used
abbrev pub may_leave : (Origin → Bool) → RegionTree → NodeTree → Bool
may_leave test r (node id op inputs rs) = is_pure op && has_none rs && all_of test inputs && is_used (Out id 0) r

abbrev pub only : Bool → NodeTree → Option NodeTree
only t x = if t then Some x else None

-- node n of the region itself, where it may leave it
abbrev pub leaving : (Origin → Bool) → ℕ → RegionTree → Option NodeTree
leaving test n (region args nodes results) = option_and_then (λ x. only (may_leave test (region args nodes results) x) x) (node_at n nodes)

-- of the regions of a Gamma
abbrev pub leaving_one : ℕ → RegionTrees → Option NodeTree
leaving_one n no_regions = None
leaving_one n (region_then r rs) = option_or (leaving names_argument n r) (leaving_one n rs)

-- an argument of a loop variable whose result is its argument; the first result is the predicate
abbrev pub is_invariant : (outs : List Origin) → Origin → Bool
is_invariant outs (Arg k) = is_origin (slice_get outs (suc k)) (Arg k)
is_invariant outs (Out n p) = false

abbrev pub leaving_loop : ℕ → RegionTree → Option NodeTree
leaving_loop n r = leaving (is_invariant (results_of r)) n r

-- ---- the change

-- the region with one more argument, which is used instead of node n, without that node
abbrev pub carried : ℕ → RegionTree → RegionTree
carried n r = region_without n (region_redirected (origin_replaced (Out n 0) (Arg (length (args_of r)))) (arg_added Value r))

abbrev pub regions_carried : ℕ → RegionTrees → RegionTrees
regions_carried n no_regions = no_regions
regions_carried n (region_then r rs) = region_then (carried n r) (regions_carried n rs)

-- the loop with one more variable, whose result is its argument
abbrev pub looped : ℕ → RegionTree → RegionTree
looped n r = result_added (Arg (length (args_of r))) (carried n r)

-- the node, whose arguments are these inputs outside, and then the other one
abbrev pub placed : (inputs : List Origin) → NodeTree → (after : NodeTree) → NodeTrees
placed inputs y after = node_then (node_redirected (args_to_inputs inputs) y) (node_then after no_nodes)

-- what comes in the place of a node that node n leaves
abbrev pub pushed : ℕ → NodeTree → Option NodeTrees
pushed n (node id Gamma (p ∷ entries) rs) =
    option_map (λ y. placed entries y (input_added (Out n 0) (node id Gamma (p ∷ entries) (regions_carried n rs)))) (leaving_one n rs)
pushed n (node id Theta inputs (region_then r no_regions)) =
    option_map (λ y. placed inputs y (input_added (Out n 0) (node id Theta inputs (region_then (looped n r) no_regions)))) (leaving_loop n r)
pushed n x = None

-- ---- the size

-- The values that come: an argument of each region of a Gamma; an argument, a result and an output of a Theta.
abbrev pub growth : NodeTree → ℕ
growth (node id op inputs rs) = if same_op op Theta then 3 else count_of rs

-- The index of one more argument of each region is below 2 ^ 32, as it always is in a lambda within the limits.
abbrev pub can_all_count : RegionTrees → Bool
can_all_count rs = all_regions (λ r. nat_lt (length (args_of r)) (2 ^ 32)) rs

abbrev pub can_count : NodeTree → Bool
can_count (node id op inputs rs) = can_all_count rs

-- in a lambda of so many values
abbrev pub pushed_within : (values n : ℕ) → NodeTree → Option NodeTrees
pushed_within values n x = if may_change_size values (growth x) 0 && can_count x then pushed n x else None

-- whether the node may leave the only one of these regions
abbrev pub leaves_only : ℕ → RegionTrees → Bool
leaves_only n (region_then r no_regions) = is_some (leaving_loop n r)
leaves_only n rs = false

-- ---- the rule

abbrev pub nodes_pushed : (values n : ℕ) → NodeTrees → Option NodeTrees
nodes_pushed values n no_nodes = None
nodes_pushed values n (node_then x ns) =
    option_or (option_map (λ part. joined_nodes part ns) (pushed_within values n x)) (option_map (node_then x) (nodes_pushed values n ns))

-- the region of the first Gamma or Theta that node n may leave
abbrev pub push_here : (values n : ℕ) → RegionTree → Option RegionTree
push_here values n (region args nodes results) = option_map (λ ns. region args ns results) (nodes_pushed values n nodes)

-- whether the rule applies at a node, and the changed lambda
abbrev pub applies : PlainLambda → ℕ → Bool
applies l n = is_some (region_changed (push_here (lambda_values l) n) l.body)

abbrev pub lambda_pushed : ℕ → PlainLambda → PlainLambda
lambda_pushed n l = lambda_changed (push_here (lambda_values l) n) l
