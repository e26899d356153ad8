-- Invariant value redirection on a list of nodes: what a sweep does there at each node.
use Rattle.std.specs.Prelude.{ℕ, suc, ◌&&◌, ◌||◌, nat_lt, if◌then◌else◌, Bool, true, false, List, [], ◌∷◌, length, slice_get, is_some, option_and_then}
use Rattle.std.specs.declared.option.Option.{Option}
use Rattle.std.specs.declared.option.Option.TheVariants.{Some, None}
use Rattle.g_graph.specs.declared.op.Kind.{Kind}
use Rattle.g_graph.specs.declared.op.Op.{Op}
use Rattle.g_graph.specs.declared.op.Op.TheVariants.{Gamma, Theta}
use Rattle.g_graph.specs.declared.op.Origin.{Origin}
use Rattle.g_graph.specs.declared.op.Origin.TheVariants.{Out}
use Rattle.g_graph.specs.WellFormed.{is_origin}
use Rattle.g_arena_def.specs.declared.place.Place.{Place}
use Rattle.g_arena_def.specs.Flat.{FlatRegion, FlatNode, Flat}
use Rattle.g_arena_def.specs.Reads.{found, uses_in}
use Rattle.r_edit.specs.Carried.{outer}
use Rattle.r_inv.specs.Rule.{variables_from}
use Rattle.r_sweep.specs.Removals.{uses_carried, exits_carried}

-- result p of every region carries that origin, and the one origin that it carries in every region
abbrev pub all_pass_in : (inputs : List Origin) → Origin → (p : ℕ) → List FlatRegion → Bool
all_pass_in inputs o p [] = true
all_pass_in inputs o p (r ∷ rs) = is_origin (outer inputs (slice_get r.results p)) o && all_pass_in inputs o p rs

abbrev pub passed_in : (inputs : List Origin) → (p : ℕ) → List FlatRegion → Option Origin
passed_in inputs p [] = None
passed_in inputs p (r ∷ rs) = option_and_then (λ o. if all_pass_in inputs o p rs then Some o else None) (outer inputs (slice_get r.results p))

-- what each exit variable of a Gamma carries, from a first one on
abbrev pub exits_in : (inputs : List Origin) → List FlatRegion → (first : ℕ) → List Kind → List (Option Origin)
exits_in inputs rs p [] = []
exits_in inputs rs p (k ∷ ks) = passed_in inputs p rs ∷ exits_in inputs rs (suc p) ks

-- from a first output of node n on, one that carries something has a use
abbrev pub some_use : Flat → Place → (n first : ℕ) → (carried : List (Option Origin)) → Bool
some_use a p n k [] = false
some_use a p n k (c ∷ cs) = (is_some c && nat_lt 0 (uses_in p (Out n k) a)) || some_use a p n (suc k) cs

abbrev pub gamma_in : Flat → FlatNode → (carried : List (Option Origin)) → Option Flat
gamma_in a x cs = if some_use a x.home x.id 0 cs then Some (exits_carried x.id (length x.regions) x.home 0 cs a) else None

abbrev pub theta_in : Flat → FlatNode → (carried : List (Option Origin)) → Option Flat
theta_in a x cs = if some_use a x.home x.id 0 cs then Some (uses_carried x.id x.home 0 cs a) else None

abbrev pub moved_by : Op → List FlatRegion → Flat → FlatNode → Option Flat
moved_by Gamma rs a x = gamma_in a x (exits_in x.inputs rs 0 x.outputs)
moved_by Theta (r ∷ []) a x = theta_in a x (variables_from x.inputs r.results 0 r.args)
moved_by op rs a x = None

abbrev pub moved_in : Flat → FlatNode → Option Flat
moved_in a x = moved_by x.op x.regions a x

-- what the rule makes of a list at a node, where it applies
abbrev pub inv_in : ℕ → Flat → Option Flat
inv_in n a = option_and_then (moved_in a) (found n a.nodes)
