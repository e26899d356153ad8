-- Inversion: a loop whose turns begin with a test becomes the test and then, where it holds, a loop whose turns end with
-- it (Reissmann et al., RVSDG, 2020, of Theta and Gamma nodes).
use Rattle.std.specs.Prelude.{ℕ, suc, ◌+◌, ◌-◌, ◌*◌, ◌^◌, ◌==◌, nat_le, nat_lt, not, ◌&&◌, if◌then◌else◌, Bool, false, List, ◌∷◌, count_by, map, length, Option, None, Some, option_map, option_and_then, is_some, unwrap_or}
use Rattle.g_graph.specs.declared.op.Kind.{Kind}
use Rattle.g_graph.specs.declared.op.Kind.TheVariants.{Value, Memory, Io}
use Rattle.g_graph.specs.declared.op.Op.TheVariants.{Gamma, Theta}
use Rattle.g_graph.specs.declared.op.Origin.{Origin}
use Rattle.g_graph.specs.declared.op.Origin.TheVariants.{Arg, Out}
use Rattle.g_graph.specs.Plain.{RegionTree, region, NodeTree, node, NodeTrees, no_nodes, node_then, no_regions, region_then, args_of, nodes_in, results_of, PlainLambda}
use Rattle.g_graph.specs.Ids.{region_ids}
use Rattle.g_graph.specs.Count.{region_values, nodes_values}
use Rattle.g_graph.specs.Change.{region_changed}
use Rattle.g_graph.specs.Nodes.{node_at, constant}
use Rattle.g_graph.specs.Replace.{region_redirected}
use Rattle.g_graph.specs.Scope.{same_kind}
use Rattle.g_graph.specs.Splice.{args_to_inputs, outputs_to_results, region_spliced}
use Rattle.g_graph.specs.Program.{lambda_values}
use Rattle.g_graph.specs.WellFormed.{all_of, some_of}
use Rattle.r_edit.specs.Size.{may_change_size}
use Rattle.r_edit.specs.Numbering.{node_count, region_numbered}
use Rattle.r_invert.specs.Compose.{in_sequence, alone}

-- ---- the form of the loop

-- What a turn does: the test, which gives a predicate and the entries of the last node, a Gamma; and the regions of the
-- Gamma, each giving the loop variables: region 0 where the predicate is 0, which ends the loop, and else region 1.
pub record Parts : Type 0 where
  pub test : RegionTree
  pub stop : RegionTree
  pub go : RegionTree

abbrev pub last_node : NodeTrees → Option NodeTree
last_node no_nodes = None
last_node (node_then x no_nodes) = Some x
last_node (node_then x (node_then y ns)) = last_node (node_then y ns)

abbrev pub but_last : NodeTrees → NodeTrees
but_last no_nodes = no_nodes
but_last (node_then x no_nodes) = no_nodes
but_last (node_then x (node_then y ns)) = node_then x (but_last (node_then y ns))

abbrev pub is_output_of : (id : ℕ) → Origin → Bool
is_output_of id (Arg k) = false
is_output_of id (Out n p) = n == id

abbrev pub takes_both_states : RegionTree → Bool
takes_both_states r = some_of (same_kind Memory) (args_of r) && some_of (same_kind Io) (args_of r)

-- a region of node g, which gives what becomes these outputs of g
abbrev pub giving : (g : ℕ) → (outputs : List Origin) → RegionTree → RegionTree
giving g outputs (region args nodes results) = region args nodes (map (outputs_to_results g results) outputs)

-- the word of the Const node, of that very region, which gives this output of g
abbrev pub word_given : (g : ℕ) → (output : Origin) → RegionTree → Option ℕ
word_given g output (region args nodes results) = constant nodes (outputs_to_results g results output)

abbrev pub is_zero : Option ℕ → Bool
is_zero None = false
is_zero (Some w) = w == 0

abbrev pub is_other : Option ℕ → Bool
is_other None = false
is_other (Some w) = not (w == 0)

-- The last node takes both states among its entries and gives all results. The predicate that it gives is a Const 0 in
-- region 0 and another Const in region 1.
abbrev pub parts_with : (args : List Kind) → (before : NodeTrees) → (results : List Origin) → NodeTree → Option Parts
parts_with args before (p ∷ variables) (node g Gamma inputs (region_then z (region_then b no_regions))) =
    if takes_both_states z && all_of (is_output_of g) (p ∷ variables) && is_zero (word_given g p z) && is_other (word_given g p b)
    then Some (record { test = region args before inputs; stop = giving g variables z; go = giving g variables b }) else None
parts_with args before results x = None

-- the parts of a loop's region, where it has this form
abbrev pub parts_of : RegionTree → Option Parts
parts_of (region args nodes results) = option_and_then (parts_with args (but_last nodes) results) (last_node nodes)

-- ---- the change

-- one turn: what is done where the test holds, and then the test again
abbrev pub turn : (first : ℕ) → Parts → RegionTree
turn first p = in_sequence (region_numbered first p.go) (region_numbered (first + node_count p.go) p.test)

-- a loop of such turns, and then what is done where the test fails
abbrev pub remaining : (first : ℕ) → Parts → RegionTree
remaining first p =
    in_sequence (alone first Theta (args_of p.go) (length (args_of p.go)) (region_then (turn (suc first) p) no_regions))
    (region_numbered (suc first + (node_count p.go + node_count p.test)) p.stop)

-- as the predicate says, the last part alone, or the loop before it
abbrev pub choice : (first : ℕ) → Parts → RegionTree
choice first p =
    alone first Gamma (Value ∷ args_of p.stop) (length (results_of p.stop))
    (region_then (region_numbered (suc first) p.stop) (region_then (remaining (suc first + node_count p.stop) p) no_regions))

-- The test, and then that choice. The numbers are those from `next` on, in pre-order.
abbrev pub inverted : (next : ℕ) → Parts → RegionTree
inverted next p = in_sequence (region_numbered next p.test) (choice (next + node_count p.test) p)

-- ---- the condition

-- how many numbers that takes
abbrev pub new_nodes : Parts → ℕ
new_nodes p = 2 + 2 * node_count p.test + 2 * node_count p.stop + node_count p.go

-- The values that come: the nodes that are copied, and those of the Gamma, of its regions, of the loop and of its region.
abbrev pub growth : Parts → ℕ
growth p =
    2 * nodes_values (nodes_in p.test) + 2 * nodes_values (nodes_in p.stop) + nodes_values (nodes_in p.go)
    + 5 + 3 * length (results_of p.stop) + length (args_of p.stop) + 3 * length (args_of p.go) + length (results_of p.test)

-- the values of a loop with this region
abbrev pub loop_values : RegionTree → ℕ
loop_values r = 1 + length (args_of r) + region_values r

-- The loop's region has fewer than 2 ^ 60 values, as on every machine. The indexes of the entries and of the variables
-- are below 2 ^ 32, as they always are in a lambda within the limits.
abbrev pub can_count : (loop : RegionTree) → Parts → Bool
can_count r p =
    nat_lt (region_values r) (2 ^ 60) && nat_lt (length (args_of p.stop)) (2 ^ 32) && nat_lt (length (args_of p.go)) (2 ^ 32) && nat_lt (length (results_of p.stop)) (2 ^ 32)

-- in a lambda of so many values, whose next node has the number `next`
abbrev pub may_invert : (values next : ℕ) → (loop : RegionTree) → Parts → Bool
may_invert values next r p = can_count r p && nat_le (next + new_nodes p) (2 ^ 32 - 1) && may_change_size values (growth p) (loop_values r)

-- ---- the rule

-- what stands in the place of the loop, where it is one that may be inverted
abbrev pub in_place : (values next : ℕ) → NodeTree → Option RegionTree
in_place values next (node id Theta inputs (region_then r no_regions)) =
    option_and_then (λ p. if may_invert values next r p then Some (region_redirected (args_to_inputs inputs) (inverted next p)) else None) (parts_of r)
in_place values next x = None

-- the region that holds the Theta of number n
abbrev pub invert_here : (values next n : ℕ) → RegionTree → Option RegionTree
invert_here values next n (region args nodes results) =
    option_map (λ part. region_spliced n part (region args nodes results)) (option_and_then (in_place values next) (node_at n nodes))

-- the body changed so, where it can be
abbrev pub body_inverted : ℕ → PlainLambda → Option RegionTree
body_inverted n l = region_changed (invert_here (lambda_values l) l.next n) l.body

-- whether the rule applies at a node
abbrev pub applies : PlainLambda → ℕ → Bool
applies l n = is_some (body_inverted n l)

-- a lambda with another body, whose next number rises by how many new numbers that has
abbrev pub with_body : PlainLambda → RegionTree → PlainLambda
with_body l body = record l { body = body; next = l.next + count_by (λ m. nat_le l.next m) (region_ids body) }

-- the changed lambda
abbrev pub lambda_inverted : ℕ → PlainLambda → PlainLambda
lambda_inverted n l = unwrap_or (option_map (with_body l) (body_inverted n l)) l
