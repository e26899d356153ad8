-- What the operands of an instruction must meet: it reads and writes words, halves and bytes, and names objects of its function,
-- and functions and globals of the program.
use Rattle.std.specs.Prelude.{ℕ, nat_lt, Bool, true}
use Rattle.g_graph.specs.WellFormed.{is_width}
use Rattle.s_linear.specs.Linear.{Instr, object_address, global_address, load, store, clear, call}

-- a width is 1, 2 or 4
abbrev pub has_its_width : Instr → Bool
has_its_width (load width t a) = is_width width
has_its_width (store width a v) = is_width width
has_its_width _ = true

-- an object that is named is one of so many
abbrev pub has_its_object : (objects : ℕ) → Instr → Bool
has_its_object objects (object_address t k) = nat_lt k objects
has_its_object objects (clear k) = nat_lt k objects
has_its_object objects _ = true

-- a function that is called is one of so many
abbrev pub has_its_callee : (functions : ℕ) → Instr → Bool
has_its_callee functions (call f t arguments) = nat_lt f functions
has_its_callee functions _ = true

-- a global that is named is one of so many
abbrev pub has_its_global : (globals : ℕ) → Instr → Bool
has_its_global globals (global_address t k) = nat_lt k globals
has_its_global globals _ = true
