-- Arguments of a region, or outputs of a node, numbered from a first one on.
use Rattle.std.specs.Prelude.{ℕ, ◌+◌, Option, None, Some}
use Rattle.g_graph.specs.declared.op.Origin.{Origin}
use Rattle.g_graph.specs.declared.op.Origin.TheVariants.{Arg, Out}
use Rattle.g_build_def.specs.Writer.{SlotOrigin, held, object, hidden}

abbrev pub origin_from : (node : Option ℕ) → (first : ℕ) → ℕ → Origin
origin_from None n k = Arg (n + k)
origin_from (Some id) n k = Out id (n + k)

-- a variable, where a value has this origin
abbrev pub slot_at : SlotOrigin → Origin → SlotOrigin
slot_at (held o) p = held p
slot_at (object n) p = object n
slot_at (hidden o) p = hidden p

-- how many values it is
abbrev pub slot_values : SlotOrigin → ℕ
slot_values (held o) = 1
slot_values (object n) = 0
slot_values (hidden o) = 1
