-- The configuration of the definition at which a machine stands.
use Rattle.std.specs.Prelude.{◌≡◌, ℕ, List, [], ◌∷◌, map, length, reverse}
use Rattle.val_core.specs.Memory.{Memory}
use Rattle.c_typed.specs.Typed.{ProgramTree}
use Rattle.c_mean.specs.Run.{objects_of}
use Rattle.c_interp_store.specs.Holding.{Opened, Holds, opened_of}
use Rattle.c_interp_def.specs.Configurations as def
use Rattle.c_interp_def.specs.Configurations.{Configuration, Reached, variables_of}
use Rattle.c_interp_answer.specs.TaskViews.{slots_of, flow_of}
use Rattle.c_interp_def.specs.declared.task.Slot.{Slot}
use Rattle.c_interp.specs.declared.frame.Frame.{Frame}
use Rattle.c_interp.specs.declared.frame.Active.{Active}
use Rattle.c_interp.specs.declared.machine.Machine.{Machine}

abbrev pub frame_with : Frame → List Slot → def.Frame
frame_with f slots = record { function = f.function; first = f.objects.first; depth = f.depth; slots = slots_of slots }

abbrev pub frame_of : Active → def.Frame
frame_of a = frame_with a.frame a.slots.items

-- the machine has its newest operand and its newest caller last
abbrev pub config_of : Machine → Memory → (input : List ℕ) → Configuration
config_of m k i = record {
  frame = frame_with m.frame m.slots.items;
  callers = reverse (map frame_of m.callers.items);
  operands = reverse m.operands.items;
  memory = k;
  input = i;
}

abbrev pub reached_of : Machine → Memory → List ℕ → Reached
reached_of m k i = record { flow = flow_of m.flow; at = config_of m k i }

abbrev pub opened_in : Frame → Opened
opened_in f = opened_of f.objects

abbrev pub opened_by : Active → Opened
opened_by a = opened_in a.frame

-- a function, and how many objects a call of it has
pub record Counted : Type 0 where
  pub function : ℕ
  pub objects : ℕ

abbrev pub counted_in : Frame → Counted
counted_in f = record { function = f.function; objects = f.objects.count }

abbrev pub counted_by : Active → Counted
counted_by a = counted_in a.frame

-- each call but the first of all has the objects of its function
abbrev pub AreCounted : ProgramTree → List Counted → Type 0
AreCounted p [] = Unit {0}
AreCounted p (c ∷ []) = Unit {0}
AreCounted p (c ∷ d ∷ cs) = (c.objects ≡ length (objects_of p.structs (variables_of p c.function))) × AreCounted p (d ∷ cs)

-- the machine's store holds this memory
pub record IsHeld (p : ProgramTree) (m : Machine) (k : Memory) : Type 0 where
  pub store : Holds m.store (opened_in m.frame ∷ reverse (map opened_by m.callers.items)) k
  pub counts : AreCounted p (counted_in m.frame ∷ reverse (map counted_by m.callers.items))
