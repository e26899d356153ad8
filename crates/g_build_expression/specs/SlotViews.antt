-- Variables in scope and places, as the code keeps them.
use Rattle.std.specs.Prelude.{Bool, true, false}
use Rattle.g_build_def.specs.Writer.{Form, straight, jumping, SlotOrigin, held, object, hidden}
use Rattle.g_build_def.specs.Places as p
use Rattle.g_build_def.specs.Places.{in_slot, at_address}
use Rattle.g_build_expression.specs.declared.variables.InScope.{InScope}
use Rattle.g_build_expression.specs.declared.variables.InScope.TheVariants as scope
use Rattle.g_build_expression.specs.declared.places.Spot.{Spot}
use Rattle.g_build_expression.specs.declared.places.Spot.TheVariants as spot

abbrev pub slot_of : InScope → SlotOrigin
slot_of (scope.Held o) = held o
slot_of (scope.Object n) = object n
slot_of (scope.Hidden o) = hidden o

-- whether a function has `go` and `ret`
abbrev pub form_of : (jumps : Bool) → Form
form_of false = straight
form_of true = jumping

abbrev pub spot_of : Spot → p.Spot
spot_of (spot.InSlot k) = in_slot k
spot_of (spot.AtAddress a) = at_address a
