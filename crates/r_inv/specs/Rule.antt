-- Invariant value redirection (Reissmann et al., RVSDG, 2020): what reads an output of a Gamma or a Theta that carries
-- an origin of the region around it reads that origin.
use Rattle.std.specs.Prelude.{ℕ, suc, ◌&&◌, ◌||◌, if◌then◌else◌, Bool, false, List, [], ◌∷◌, Option, None, Some, option_and_then, is_some, slice_get}
use Rattle.g_graph.specs.declared.op.Kind.{Kind}
use Rattle.g_graph.specs.declared.op.Kind.TheVariants.{Value}
use Rattle.g_graph.specs.declared.op.Op.TheVariants.{Gamma, Theta}
use Rattle.g_graph.specs.declared.op.Origin.{Origin}
use Rattle.g_graph.specs.declared.op.Origin.TheVariants.{Arg, Out}
use Rattle.g_graph.specs.Plain.{RegionTree, region, NodeTree, node, RegionTrees, no_regions, region_then, PlainLambda}
use Rattle.g_graph.specs.Signatures.{outputs_of}
use Rattle.g_graph.specs.Scope.{same_kind, is_of}
use Rattle.g_graph.specs.WellFormed.{is_origin}
use Rattle.g_graph.specs.Change.{region_changed, lambda_changed}
use Rattle.g_graph.specs.Nodes.{node_at, is_used}
use Rattle.r_edit.specs.InPlace.{outputs_redirected}
use Rattle.r_edit.specs.Carried.{passed, output_carried, exits_carried}

-- What each exit variable of a Gamma carries, from a first one on: an origin that is an argument, of any kind, in every
-- region, if there is one.
abbrev pub exits_from : (inputs : List Origin) → RegionTrees → (first : ℕ) → List (Option Kind) → List (Option Origin)
exits_from inputs rs p [] = []
exits_from inputs rs p (k ∷ ks) = passed inputs p rs ∷ exits_from inputs rs (suc p) ks

-- What each loop variable of a Theta carries, from a first one on: a value its input, where its result is its argument.
-- The first result is the predicate.
abbrev pub variables_from : (inputs outs : List Origin) → (first : ℕ) → List Kind → List (Option Origin)
variables_from inputs outs p [] = []
variables_from inputs outs p (j ∷ js) =
    (if same_kind Value j && is_origin (slice_get outs (suc p)) (Arg p) then slice_get inputs p else None) ∷ variables_from inputs outs (suc p) js

-- whether one of them is kept, and what it carries
abbrev pub keeps : RegionTree → ℕ → Bool
keeps (region own nodes outs) p = is_of Value (slice_get own p) && is_origin (slice_get outs (suc p)) (Arg p)

abbrev pub variable_carries : (inputs : List Origin) → RegionTree → ℕ → Option Origin
variable_carries inputs q p = if keeps q p then slice_get inputs p else None

-- from a first output of node n on, one that carries something is used
abbrev pub some_used : (n : ℕ) → RegionTree → (first : ℕ) → (carried : List (Option Origin)) → Bool
some_used n r p [] = false
some_used n r p (c ∷ cs) = (is_some c && is_used (Out n p) r) || some_used n r (suc p) cs

abbrev pub carried_exits : (inputs : List Origin) → RegionTrees → List (Option Origin)
carried_exits inputs rs = exits_from inputs rs 0 (outputs_of Gamma rs)

abbrev pub carried_variables : (inputs : List Origin) → RegionTree → List (Option Origin)
carried_variables inputs (region own nodes outs) = variables_from inputs outs 0 own

abbrev pub exits_moved : (n : ℕ) → RegionTree → (carried : List (Option Origin)) → Option RegionTree
exits_moved n r cs = if some_used n r 0 cs then Some (exits_carried n cs r) else None

abbrev pub uses_moved : (n : ℕ) → RegionTree → (carried : List (Option Origin)) → Option RegionTree
uses_moved n r cs = if some_used n r 0 cs then Some (outputs_redirected n (output_carried n cs []) r) else None

-- of a Gamma all such exit variables go, of a Theta nothing does
abbrev pub moved : RegionTree → NodeTree → Option RegionTree
moved r (node id Gamma inputs rs) = exits_moved id r (carried_exits inputs rs)
moved r (node id Theta inputs (region_then q no_regions)) = uses_moved id r (carried_variables inputs q)
moved r x = None

-- the region that holds node n
abbrev pub inv_here : ℕ → RegionTree → Option RegionTree
inv_here n (region args nodes results) = option_and_then (moved (region args nodes results)) (node_at n nodes)

-- whether the rule applies at a node, and the changed lambda
abbrev pub applies : PlainLambda → ℕ → Bool
applies l n = is_some (region_changed (inv_here n) l.body)

abbrev pub inv : ℕ → PlainLambda → PlainLambda
inv n l = lambda_changed (inv_here n) l
