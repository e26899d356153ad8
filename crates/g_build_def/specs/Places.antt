-- Places, which designate objects (ISO/IEC 9899:2011, 6.3.2.1): a value variable, or what stands at an address.
use Rattle.std.specs.Prelude.{ℕ, Option, None, Some}
use Rattle.c_type.specs.Trees.{TypeTree}
use Rattle.g_graph.specs.declared.op.Origin.{Origin}
use Rattle.g_build_def.specs.Writer.{SlotOrigin, held, object, hidden, variable_at, variable_set, slot_origin, Point, with_variables, Built, given, bind}
use Rattle.g_build_def.specs.Operations.{local_made, store_made, read_made, at_offset_made}
use Rattle.c_typed.specs.Objects.{access_width}

-- what a place is once its address is made
pub data Spot : Type 0 where
  in_slot : (slot : ℕ) → Spot
  at_address : Origin → Spot

abbrev pub address_spot : Built Origin → Built Spot
address_spot b = bind b (λ a t. given (at_address a) t)

abbrev pub slot_spot : (slot : ℕ) → Option SlotOrigin → Point → Built Spot
slot_spot k None s = given (in_slot k) s
slot_spot k (Some (held o)) s = given (in_slot k) s
slot_spot k (Some (hidden o)) s = given (in_slot k) s
slot_spot k (Some (object n)) s = address_spot (local_made n s)

abbrev pub member_spot : Spot → (offset : ℕ) → Point → Built Spot
member_spot (in_slot k) n s = given (in_slot k) s
member_spot (at_address a) n s = address_spot (at_offset_made a n s)

abbrev pub spot_address : Spot → Point → Built Origin
spot_address (in_slot k) s = given (slot_origin (variable_at s.carried.variables k)) s
spot_address (at_address a) s = given a s

-- the read and the write of a place of this type
abbrev pub spot_read : TypeTree → Spot → Point → Built Origin
spot_read t (in_slot k) s = given (slot_origin (variable_at s.carried.variables k)) s
spot_read t (at_address a) s = read_made t a s

abbrev pub spot_written : TypeTree → Spot → (value : Origin) → Point → Built Origin
spot_written t (in_slot k) v s = given v (with_variables s (variable_set s.carried.variables k v))
spot_written t (at_address a) v s = store_made (access_width t) a v s
