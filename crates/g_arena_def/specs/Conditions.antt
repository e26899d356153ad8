-- What is asked of a call: that what it names is there, and that an origin that goes has no use.
use Rattle.std.specs.Prelude.{◌≡◌, ℕ, ◌<◌, IsSome, length}
use Rattle.std.specs.declared.option.Option.TheVariants.{Some}
use Rattle.g_graph.specs.declared.op.Origin.{Origin}
use Rattle.g_graph.specs.declared.op.Origin.TheVariants.{Arg, Out}
use Rattle.g_arena_def.specs.declared.place.Place.{Place}
use Rattle.g_arena_def.specs.Flat.{FlatNode, Flat}
use Rattle.g_arena_def.specs.Reads.{found, result_at, kind_in, uses_in}

abbrev pub IsResult : Place → (index : ℕ) → Flat → Type 0
IsResult p k a = IsSome (result_at p k a)

abbrev pub IsOrigin : Place → Origin → Flat → Type 0
IsOrigin p o a = IsSome (kind_in p o a)

abbrev pub HasInput : ℕ → (index : ℕ) → Flat → Type 0
HasInput n k a = (x : FlatNode) × (found n a.nodes ≡ Some x) × (k < length x.inputs)

abbrev pub HasArgument : Place → (index : ℕ) → Flat → Type 0
HasArgument p k a = IsOrigin p (Arg k) a

abbrev pub IsUnused : Place → Origin → Flat → Type 0
IsUnused p o a = uses_in p o a ≡ 0

-- a node has this output, which has no use
abbrev pub HasOutput : ℕ → (port : ℕ) → Flat → Type 0
HasOutput n k a = (x : FlatNode) × (found n a.nodes ≡ Some x) × (k < length x.outputs) × IsUnused x.home (Out n k) a

-- a node is there, and none of its outputs has a use
abbrev pub IsUnusedNode : ℕ → Flat → Type 0
IsUnusedNode n a = (x : FlatNode) × (found n a.nodes ≡ Some x) × ((k : ℕ) → k < length x.outputs → IsUnused x.home (Out n k) a)
