-- What the steps of a checker leave as it is.
use Rattle.std.specs.Prelude.{◌≡◌, length, take}
use Rattle.c_check_def.specs.State.{State}

-- An expression or a type name defines no struct and adds no variable.
abbrev pub KeepsDeclarations : State → State → Type 0
KeepsDeclarations s t = (t.structs ≡ s.structs) × (t.slots ≡ s.slots)

-- A declaration in a block adds variables in later slots.
abbrev pub KeepsSlots : State → State → Type 0
KeepsSlots s t = take (length s.slots) t.slots ≡ s.slots
