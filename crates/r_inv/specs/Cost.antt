-- What the rule costs at a node, and what the nodes cost that are left.
use Rattle.std.specs.Prelude.{◌≡◌, ℕ, suc, ◌+◌, ◌*◌, if◌then◌else◌, List, [], ◌∷◌, length}
use Rattle.std.specs.declared.option.Option.{Option}
use Rattle.std.specs.declared.option.Option.TheVariants.{Some, None}
use Rattle.g_graph.specs.declared.op.Op.{Op}
use Rattle.g_graph.specs.declared.op.Op.TheVariants.{Gamma}
use Rattle.g_graph.specs.declared.op.Origin.{Origin}
use Rattle.g_graph.specs.declared.op.Origin.TheVariants.{Out}
use Rattle.g_arena_def.specs.declared.place.Place.{Place}
use Rattle.g_arena_def.specs.Flat.{FlatRegion, FlatNode, Flat, is_in}
use Rattle.g_arena_def.specs.Reads.{ids, found, uses_in}
use Rattle.r_sweep.specs.Removals.{uses_carried, exits_carried}
use Rattle.r_sweep.specs.Walk.{left}
use Rattle.r_sweep.specs.Measure.{flat_named}
use Rattle.r_inv.specs.Listed.{some_use}
use Rattle.r_inv.specs.Carried.{carried_of}

abbrev pub number : FlatNode → ℕ
number x = x.id

abbrev pub IsThere : ℕ → Flat → Type 0
IsThere n a = (x : FlatNode) × (found n a.nodes ≡ Some x)

-- ---- at a node

-- to find what one variable carries
abbrev pub asked : Op → (regions : ℕ) → ℕ
asked Gamma r = r
asked op r = 2

-- Uses of outputs move, from the last to the first: a look for each of these outputs, and one for each use.
abbrev pub uses_cost : (n : ℕ) → Place → (first : ℕ) → (carried : List (Option Origin)) → Flat → ℕ
uses_cost n p k [] a = 0
uses_cost n p k (None ∷ cs) a = uses_cost n p (suc k) cs a
uses_cost n p k (Some o ∷ cs) a = uses_cost n p (suc k) cs a + (1 + uses_in p (Out n k) (uses_carried n p (suc k) cs a))

-- Exit variables go too: one more for the output, and one for each region.
abbrev pub exits_cost : (n count : ℕ) → Place → (first : ℕ) → (carried : List (Option Origin)) → Flat → ℕ
exits_cost n c p k [] a = 0
exits_cost n c p k (None ∷ cs) a = exits_cost n c p (suc k) cs a
exits_cost n c p k (Some o ∷ cs) a = exits_cost n c p (suc k) cs a + (2 + c + uses_in p (Out n k) (exits_carried n c p (suc k) cs a))

abbrev pub cost_by : Op → Flat → FlatNode → ℕ
cost_by Gamma a x = exits_cost x.id (length x.regions) x.home 0 (carried_of x) a
cost_by op a x = uses_cost x.id x.home 0 (carried_of x) a

abbrev pub cost_out : Flat → FlatNode → ℕ
cost_out a x = cost_by x.op a x

abbrev pub cost_moved : Flat → FlatNode → ℕ
cost_moved a x = if some_use a x.home x.id 0 (carried_of x) then cost_out a x else 0

-- ---- from the cursor on

abbrev pub results_in : List FlatRegion → ℕ
results_in [] = 0
results_in (r ∷ rs) = length r.results + results_in rs

-- A node costs a look, three for each output, and two for each result of its regions.
abbrev pub node_cost : FlatNode → ℕ
node_cost x = 1 + 3 * length x.outputs + 2 * results_in x.regions

abbrev pub nodes_cost : List ℕ → List FlatNode → ℕ
nodes_cost ns [] = 0
nodes_cost ns (x ∷ xs) = (if is_in ns (Some x.id) then node_cost x else 0) + nodes_cost ns xs

-- the numbers from the cursor on
abbrev pub numbers_left : Option ℕ → Flat → List ℕ
numbers_left next a = left (λ n. n) next (ids a)

-- From the cursor on, what the nodes cost, and a look for each use that names such a node.
abbrev pub cost_left : Option ℕ → Flat → ℕ
cost_left next a = nodes_cost (numbers_left next a) a.nodes + flat_named (numbers_left next a) a
