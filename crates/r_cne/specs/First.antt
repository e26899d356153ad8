-- What the sweep knows of the nodes that it has passed, and what the others cost.
use Rattle.std.specs.Prelude.{◌≡◌, ℕ, ◌+◌, ◌*◌, true, List, length}
use Rattle.std.specs.declared.option.Option.{Option}
use Rattle.std.specs.declared.option.Option.TheVariants.{Some}
use Rattle.g_graph.specs.declared.op.Op.{Op}
use Rattle.g_graph.specs.declared.op.Origin.{Origin}
use Rattle.g_arena_def.specs.declared.place.Place.{Place}
use Rattle.g_arena_def.specs.Flat.{FlatNode, Flat}
use Rattle.g_arena_def.specs.Reads.{ids, found}
use Rattle.g_arena_use.specs.Kept.{Kept, kept}
use Rattle.r_sweep.specs.Walk.{left}
use Rattle.r_sweep.specs.Measure.{flat_named}
use Rattle.r_cne.specs.Rule.{is_common}
use Rattle.r_cne.specs.Listed.{first_in}

abbrev pub number : FlatNode → ℕ
number x = x.id

abbrev pub IsThere : ℕ → Flat → Type 0
IsThere n a = (x : FlatNode) × (found n a.nodes ≡ Some x)

-- For each place, op and inputs the first of these nodes is kept, where the op may be common.
abbrev pub AreFirst : List Kept → List FlatNode → Type 0
AreFirst ks xs = (p : Place) (op : Op) (inputs : List Origin) → is_common op ≡ true → kept p op inputs ks ≡ first_in p op inputs xs

-- the numbers from the cursor on
abbrev pub numbers_left : Option ℕ → Flat → List ℕ
numbers_left next a = left (λ n. n) next (ids a)

-- From the cursor on, three looks for each node, and one for each use that names such a node.
abbrev pub cost_left : Option ℕ → Flat → ℕ
cost_left next a = 3 * length (numbers_left next a) + flat_named (numbers_left next a) a
