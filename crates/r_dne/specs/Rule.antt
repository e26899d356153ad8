-- Dead node elimination (Reissmann et al., RVSDG, 2020): a node that gives no state and whose outputs are not used goes,
-- and so do variables of a Gamma or a Theta.
use Rattle.std.specs.Prelude.{ℕ, zero, suc, ◌&&◌, ◌||◌, not, if◌then◌else◌, Bool, false, List, [], ◌∷◌, Option, None, Some, option_and_then, is_some}
use Rattle.g_graph.specs.declared.op.Kind.{Kind}
use Rattle.g_graph.specs.declared.op.Kind.TheVariants.{Value, Memory, Io}
use Rattle.g_graph.specs.declared.op.Op.TheVariants.{Gamma, Theta}
use Rattle.g_graph.specs.declared.op.Origin.{Origin}
use Rattle.g_graph.specs.declared.op.Origin.TheVariants.{Arg, Out}
use Rattle.g_graph.specs.Plain.{RegionTree, region, NodeTree, node, NodeTrees, RegionTrees, no_regions, region_then, id_of, PlainLambda}
use Rattle.g_graph.specs.Signatures.{first_args, outputs_of, output_kinds}
use Rattle.g_graph.specs.Scope.{same_kind, is_of, same_origin}
use Rattle.g_graph.specs.WellFormed.{some_of}
use Rattle.g_graph.specs.Change.{region_changed, lambda_changed}
use Rattle.g_graph.specs.Nodes.{node_at, nodes_use, is_used}
use Rattle.r_edit.specs.InPlace.{all_stay}
use Rattle.r_edit.specs.Uses.{is_read, is_output_of}
use Rattle.r_edit.specs.Removal.{region_without}
use Rattle.r_edit.specs.Exits.{regions_giving, exits_kept}
use Rattle.r_edit.specs.Entries.{entries_kept}
use Rattle.r_edit.specs.Variables.{variables_kept}

-- ---- a node

abbrev pub gives_state : NodeTree → Bool
gives_state x = some_of (is_of Memory) (output_kinds x) || some_of (is_of Io) (output_kinds x)

abbrev pub is_dead : RegionTree → NodeTree → Bool
is_dead r x = not (gives_state x || is_read (is_output_of (id_of x)) r)

-- ---- a Gamma

-- Of the exit variables of node n, of these kinds and from a first one on, states stay, and values that are used.
abbrev pub used_exits : (n : ℕ) → RegionTree → (first : ℕ) → List (Option Kind) → List Bool
used_exits n r p [] = []
used_exits n r p (k ∷ ks) = (not (is_of Value k) || is_used (Out n p) r) ∷ used_exits n r (suc p) ks

abbrev pub some_uses : Origin → RegionTrees → Bool
some_uses o no_regions = false
some_uses o (region_then r rs) = is_used o r || some_uses o rs

-- Of the entry variables, from a first one on, those stay whose argument some region uses.
abbrev pub used_entries : RegionTrees → (first : ℕ) → List Kind → List Bool
used_entries rs k [] = []
used_entries rs k (j ∷ js) = some_uses (Arg k) rs ∷ used_entries rs (suc k) js

abbrev pub exits_of : (n : ℕ) → RegionTree → RegionTrees → List Bool
exits_of n r rs = used_exits n r 0 (outputs_of Gamma rs)

-- asked once the exit variables are gone
abbrev pub entries_of : (n : ℕ) → RegionTree → RegionTrees → List Bool
entries_of n r rs = used_entries (regions_giving (exits_of n r rs) rs) 0 (first_args rs)

abbrev pub gamma_shrunk : (n : ℕ) → RegionTree → RegionTrees → Option RegionTree
gamma_shrunk n r rs =
    if all_stay (exits_of n r rs) && all_stay (entries_of n r rs) then None else Some (entries_kept n (entries_of n r rs) (exits_kept n (exits_of n r rs) r))

-- ---- a Theta

-- another of these results than its own, the one at that place, is the origin
abbrev pub others_use : (own : ℕ) → Origin → List Origin → Bool
others_use own o [] = false
others_use zero o (a ∷ os) = some_of (same_origin o) os
others_use (suc k) o (a ∷ os) = same_origin o a || others_use k o os

-- something else than its own result uses the argument of a loop variable; the first result is the predicate
abbrev pub argument_used : ℕ → RegionTree → Bool
argument_used k (region own nodes outs) = nodes_use (Arg k) nodes || others_use (suc k) (Arg k) outs

-- Of the loop variables of node n, of these kinds and from a first one on, states stay, and values whose output is used,
-- or whose argument something else than its own result uses. The first result is the predicate.
abbrev pub used_variables : (n : ℕ) → RegionTree → NodeTrees → List Origin → (first : ℕ) → List Kind → List Bool
used_variables n r nodes outs k [] = []
used_variables n r nodes outs k (j ∷ js) =
    (not (same_kind Value j) || is_used (Out n k) r || nodes_use (Arg k) nodes || others_use (suc k) (Arg k) outs) ∷ used_variables n r nodes outs (suc k) js

abbrev pub variables_of : (n : ℕ) → RegionTree → RegionTree → List Bool
variables_of n r (region own nodes outs) = used_variables n r nodes outs 0 own

abbrev pub theta_shrunk : (n : ℕ) → RegionTree → RegionTree → Option RegionTree
theta_shrunk n r q = if all_stay (variables_of n r q) then None else Some (variables_kept n (variables_of n r q) r)

-- ---- the change

abbrev pub shrunk : RegionTree → NodeTree → Option RegionTree
shrunk r (node id Gamma inputs rs) = gamma_shrunk id r rs
shrunk r (node id Theta inputs (region_then q no_regions)) = theta_shrunk id r q
shrunk r x = None

abbrev pub eliminated : RegionTree → NodeTree → Option RegionTree
eliminated r x = if is_dead r x then Some (region_without (id_of x) r) else shrunk r x

-- the region that holds node n, without what is dead of it
abbrev pub dne_here : ℕ → RegionTree → Option RegionTree
dne_here n (region args nodes results) = option_and_then (eliminated (region args nodes results)) (node_at n nodes)

-- whether the rule applies at a node, and the changed lambda
abbrev pub applies : PlainLambda → ℕ → Bool
applies l n = is_some (region_changed (dne_here n) l.body)

abbrev pub dne : ℕ → PlainLambda → PlainLambda
dne n l = lambda_changed (dne_here n) l
