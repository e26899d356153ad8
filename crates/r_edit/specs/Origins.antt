-- Origins one after another, and what a source of values is among the origins of a region.
use Rattle.std.specs.Prelude.{ℕ, zero, suc, List, [], ◌∷◌}
use Rattle.g_graph.specs.declared.op.Origin.{Origin}
use Rattle.g_graph.specs.declared.op.Origin.TheVariants as origin
use Rattle.r_edit.specs.declared.source.Source.{Source}
use Rattle.r_edit.specs.declared.source.Source.TheVariants as source

-- so many arguments, or outputs of a node, from a first one on
abbrev pub origins_from : (place : ℕ → Origin) → (first count : ℕ) → List Origin
origins_from place first zero = []
origins_from place first (suc count) = place first ∷ origins_from place (suc first) count

-- the origin that a source is
abbrev pub origin_of : Source → Origin
origin_of (source.Arg k) = origin.Arg k
origin_of (source.Out n p) = origin.Out n p
