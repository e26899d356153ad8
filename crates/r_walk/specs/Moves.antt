-- The outputs that moved, as a map from the node's number.
use Rattle.std.specs.Prelude.{◌≡◌, ℕ, List, slice_get, unwrap_or, nat_eq}
use Rattle.std.specs.declared.option.Option.{Option}
use Rattle.std.specs.declared.option.Option.TheVariants.{Some, None}
use Rattle.std.specs.Global.{Vec}
use Rattle.g_graph.specs.declared.op.Origin.{Origin}
use Rattle.g_graph.specs.declared.op.Origin.TheVariants.{Arg, Out}
use Rattle.g_graph.specs.Splice.{args_to_inputs}
use Rattle.r_walk.specs.Walk.{Moved, output_now}
use Rattle.r_walk.specs.declared.moves.Moves.{Moves}
use Rattle.indexmap.specs.IndexMap.{get}

-- what an output of node n became, where these are what its outputs became
abbrev pub output_at : Option (Vec Origin) → (n port : ℕ) → Origin
output_at None n p = Out n p
output_at (Some os) n p = unwrap_or (slice_get os.items p) (Out n p)

abbrev pub output_in : Moves → (n port : ℕ) → Origin
output_in m n p = output_at (get nat_eq m.outputs n) n p

-- an origin of a region whose arguments became these inputs
abbrev pub origin_in : Moves → (inputs : List Origin) → Origin → Origin
origin_in m inputs (Arg k) = args_to_inputs inputs (Arg k)
origin_in m inputs (Out n p) = output_in m n p

-- the map has the moves of a list
abbrev pub AreMoves : Moves → List Moved → Type 0
AreMoves m ms = (n p : ℕ) → output_in m n p ≡ output_now ms n p
