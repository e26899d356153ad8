-- Common node elimination on a list of nodes: what a sweep does there at each node.
use Rattle.std.specs.Prelude.{ℕ, ◌&&◌, if◌then◌else◌, List, [], ◌∷◌, option_and_then, nat_lt}
use Rattle.std.specs.declared.option.Option.{Option}
use Rattle.std.specs.declared.option.Option.TheVariants.{Some, None}
use Rattle.g_graph.specs.declared.op.Op.{Op}
use Rattle.g_graph.specs.declared.op.Origin.{Origin}
use Rattle.g_graph.specs.declared.op.Origin.TheVariants.{Out}
use Rattle.g_graph.specs.Views.{same_op}
use Rattle.g_arena_def.specs.declared.place.Place.{Place}
use Rattle.g_arena_def.specs.Flat.{FlatNode, Flat, same_place}
use Rattle.g_arena_def.specs.Reads.{found, uses_in}
use Rattle.r_edit.specs.Lookup.{same_origins}
use Rattle.r_sweep.specs.Removals.{uses_moved}
use Rattle.r_cne.specs.Rule.{is_common, other_than}

-- the number of the first node of a region that has this op and these inputs
abbrev pub first_in : Place → Op → (inputs : List Origin) → List FlatNode → Option ℕ
first_in p op is [] = None
first_in p op is (x ∷ xs) = if same_place x.home p && (same_op op x.op && same_origins is x.inputs) then Some x.id else first_in p op is xs

-- that node, where it is another one
abbrev pub earlier_in : Flat → FlatNode → Option ℕ
earlier_in a x = if is_common x.op then other_than x.id (first_in x.home x.op x.inputs a.nodes) else None

-- uses of the node's output become uses of the other's, where there are any
abbrev pub moved_in : Flat → FlatNode → ℕ → Option Flat
moved_in a x m = if nat_lt 0 (uses_in x.home (Out x.id 0) a) then Some (uses_moved x.home (Out x.id 0) (Out m 0) a) else None

abbrev pub common_in : Flat → FlatNode → Option Flat
common_in a x = option_and_then (moved_in a x) (earlier_in a x)

-- what the rule makes of a list at a node, where it applies
abbrev pub cne_in : ℕ → Flat → Option Flat
cne_in n a = option_and_then (common_in a) (found n a.nodes)
