-- Dead node elimination on a list of nodes: what a sweep does there at each node.
use Rattle.std.specs.Prelude.{ℕ, zero, suc, ◌&&◌, ◌||◌, not, nat_lt, if◌then◌else◌, Bool, false, List, [], ◌∷◌, length, slice_get, option_and_then}
use Rattle.std.specs.declared.option.Option.{Option}
use Rattle.std.specs.declared.option.Option.TheVariants.{Some, None}
use Rattle.g_graph.specs.declared.op.Kind.{Kind}
use Rattle.g_graph.specs.declared.op.Kind.TheVariants.{Value, Memory, Io}
use Rattle.g_graph.specs.declared.op.Op.{Op}
use Rattle.g_graph.specs.declared.op.Op.TheVariants.{Gamma, Theta}
use Rattle.g_graph.specs.declared.op.Origin.{Origin}
use Rattle.g_graph.specs.declared.op.Origin.TheVariants.{Arg, Out}
use Rattle.g_graph.specs.Scope.{same_kind}
use Rattle.g_graph.specs.WellFormed.{some_of, is_origin}
use Rattle.g_arena_def.specs.declared.place.Place.{Place}
use Rattle.g_arena_def.specs.Flat.{FlatRegion, FlatNode, Flat, place_in}
use Rattle.g_arena_def.specs.Reads.{found, uses_in}
use Rattle.g_arena_def.specs.Edits.{node_removed}
use Rattle.r_edit.specs.InPlace.{all_stay}
use Rattle.r_sweep.specs.Removals.{exits_removed, entries_removed, variables_removed}

-- ---- a node

abbrev pub has_use : Place → Origin → Flat → Bool
has_use p o a = nat_lt 0 (uses_in p o a)

-- from a first output of node n on, one has a use
abbrev pub some_output_used : Flat → Place → (n first : ℕ) → List Kind → Bool
some_output_used a p n k [] = false
some_output_used a p n k (j ∷ js) = has_use p (Out n k) a || some_output_used a p n (suc k) js

abbrev pub gives_some_state : FlatNode → Bool
gives_some_state x = some_of (same_kind Memory) x.outputs || some_of (same_kind Io) x.outputs

abbrev pub is_dead_in : Flat → FlatNode → Bool
is_dead_in a x = not (gives_some_state x || some_output_used a x.home x.id 0 x.outputs)

-- ---- a Gamma

-- Of the outputs of node n, from a first one on, states stay, and values that have a use.
abbrev pub used_outputs : Flat → Place → (n first : ℕ) → List Kind → List Bool
used_outputs a p n k [] = []
used_outputs a p n k (j ∷ js) = (not (same_kind Value j) || has_use p (Out n k) a) ∷ used_outputs a p n (suc k) js

-- in one of the first regions of node n, of which there are so many, the origin has a use
abbrev pub some_region_uses : Flat → (n count : ℕ) → Origin → Bool
some_region_uses a n zero o = false
some_region_uses a n (suc c) o = some_region_uses a n c o || has_use (place_in n c) o a

-- Of the arguments, from a first one on, those stay that have a use in some region.
abbrev pub used_arguments : Flat → (n count first : ℕ) → List Kind → List Bool
used_arguments a n c k [] = []
used_arguments a n c k (j ∷ js) = some_region_uses a n c (Arg k) ∷ used_arguments a n c (suc k) js

abbrev pub arguments_of : List FlatRegion → List Kind
arguments_of [] = []
arguments_of (r ∷ rs) = r.args

abbrev pub exits_in : Flat → FlatNode → List Bool
exits_in a x = used_outputs a x.home x.id 0 x.outputs

abbrev pub without_exits : Flat → FlatNode → Flat
without_exits a x = exits_removed x.id (length x.regions) (exits_in a x) a

-- asked once the exit variables are gone
abbrev pub entries_in : Flat → FlatNode → List Bool
entries_in a x = used_arguments (without_exits a x) x.id (length x.regions) 0 (arguments_of x.regions)

abbrev pub gamma_in : Flat → FlatNode → Option Flat
gamma_in a x =
    if all_stay (exits_in a x) && all_stay (entries_in a x) then None else Some (entries_removed x.id (length x.regions) (entries_in a x) (without_exits a x))

-- ---- a Theta

-- how often the variable's own result uses its argument; the first result is the predicate
abbrev pub own_use : (index : ℕ) → FlatRegion → ℕ
own_use k r = if is_origin (slice_get r.results (suc k)) (Arg k) then 1 else 0

-- Of the loop variables, from a first one on, states stay, and values whose output has a use, or whose argument has
-- another use than in its own result.
abbrev pub used_loops : Flat → FlatNode → FlatRegion → (first : ℕ) → List Kind → List Bool
used_loops a x r k [] = []
used_loops a x r k (j ∷ js) =
    (not (same_kind Value j) || has_use x.home (Out x.id k) a || nat_lt (own_use k r) (uses_in (place_in x.id 0) (Arg k) a)) ∷ used_loops a x r (suc k) js

abbrev pub theta_in : Flat → FlatNode → FlatRegion → Option Flat
theta_in a x r = if all_stay (used_loops a x r 0 r.args) then None else Some (variables_removed x.id (used_loops a x r 0 r.args) a)

-- ---- a node, and all

abbrev pub shrunk_in : Op → List FlatRegion → Flat → FlatNode → Option Flat
shrunk_in Gamma rs a x = gamma_in a x
shrunk_in Theta (r ∷ []) a x = theta_in a x r
shrunk_in op rs a x = None

abbrev pub eliminated_in : Flat → FlatNode → Option Flat
eliminated_in a x = if is_dead_in a x then Some (node_removed x.id a) else shrunk_in x.op x.regions a x

-- what the rule makes of a list at a node, where it applies
abbrev pub dne_in : ℕ → Flat → Option Flat
dne_in n a = option_and_then (eliminated_in a) (found n a.nodes)
