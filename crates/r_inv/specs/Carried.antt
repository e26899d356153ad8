-- What the variables of a node carry, and the list where their uses moved.
use Rattle.std.specs.Prelude.{ℕ, suc, ◌&&◌, if◌then◌else◌, Bool, true, false, List, [], ◌∷◌, length, slice_get}
use Rattle.std.specs.declared.option.Option.{Option}
use Rattle.std.specs.declared.option.Option.TheVariants.{None}
use Rattle.g_graph.specs.declared.op.Kind.{Kind}
use Rattle.g_graph.specs.declared.op.Kind.TheVariants.{Value}
use Rattle.g_graph.specs.declared.op.Op.{Op}
use Rattle.g_graph.specs.declared.op.Op.TheVariants.{Gamma, Theta}
use Rattle.g_graph.specs.declared.op.Origin.{Origin}
use Rattle.g_graph.specs.declared.op.Origin.TheVariants.{Arg}
use Rattle.g_graph.specs.Scope.{same_kind}
use Rattle.g_graph.specs.WellFormed.{is_origin}
use Rattle.g_arena_def.specs.Flat.{FlatRegion, FlatNode, Flat}
use Rattle.r_sweep.specs.Removals.{uses_carried, exits_carried}
use Rattle.r_inv.specs.Rule.{variables_from}
use Rattle.r_inv.specs.Listed.{exits_in}

abbrev pub can_carry : Op → Bool
can_carry Gamma = true
can_carry Theta = true
can_carry op = false

-- what loop variable p of a Theta carries, whose argument is of this kind
abbrev pub kept_in : (inputs outs : List Origin) → (p : ℕ) → Kind → Option Origin
kept_in inputs outs p j = if same_kind Value j && is_origin (slice_get outs (suc p)) (Arg p) then slice_get inputs p else None

abbrev pub carried_by : Op → List FlatRegion → FlatNode → List (Option Origin)
carried_by Gamma rs x = exits_in x.inputs rs 0 x.outputs
carried_by Theta (r ∷ []) x = variables_from x.inputs r.results 0 r.args
carried_by op rs x = []

abbrev pub carried_of : FlatNode → List (Option Origin)
carried_of x = carried_by x.op x.regions x

abbrev pub out_by : Op → Flat → FlatNode → Flat
out_by Gamma a x = exits_carried x.id (length x.regions) x.home 0 (carried_of x) a
out_by op a x = uses_carried x.id x.home 0 (carried_of x) a

abbrev pub carried_out : Flat → FlatNode → Flat
carried_out a x = out_by x.op a x
