-- The layouts of a program.
use Rattle.std.specs.Prelude.{◌≡◌, ℕ, ◌<◌, ◌^◌, List, [], map, length, slice_get, Option, None, Some}
use Rattle.c_type.specs.Layout.{Definitions}
use Rattle.c_typed.specs.Typed.{VariableTree, FunctionTree, ProgramTree}
use Rattle.c_typed.specs.Objects.{object_number}
use Rattle.c_typed.specs.WellTyped.{VariablesFit}
use Rattle.c_mean.specs.Run.{objects_of, global_sizes}
use Rattle.c_interp_store.specs.declared.shape.Shape.{Shape}
use Rattle.c_interp_store.specs.Blocks.{shapes_of}
use Rattle.c_interp_store.specs.declared.layout.Layout.{Layout}
use Rattle.c_interp_store.specs.declared.layout.Layouts.{Layouts}

abbrev pub size_in : Shape → ℕ
size_in s = s.size

-- the sizes of the objects of a function
abbrev pub sizes_in : Option Layout → List ℕ
sizes_in None = []
sizes_in (Some l) = map size_in l.shapes.items

-- the first of these variables have these numbers
abbrev pub AreNumbers : (variables : List VariableTree) → (count : ℕ) → List ℕ → Type 0
AreNumbers vs n numbers = (k : ℕ) → k < n → slice_get numbers k ≡ Some (object_number vs k)

-- the shapes of the objects among these variables, and the numbers of the variables among these
pub record IsLayout (types : Definitions) (vs : List VariableTree) (l : Layout) : Type 0 where
  pub shapes : shapes_of l.shapes.items ≡ objects_of types vs
  pub numbers : AreNumbers vs (length vs) l.numbers.items

-- the variables of these functions have layouts
abbrev pub FunctionsFit : Definitions → List FunctionTree → Type 0
FunctionsFit types fs = (k : ℕ) (f : FunctionTree) → slice_get fs k ≡ Some f → VariablesFit types f.variables × (length f.variables < 2 ^ 32)

-- a layout for each of the first of these functions, of which there are so many
pub record AreLayoutsTo (types : Definitions) (fs : List FunctionTree) (n : ℕ) (ls : List Layout) : Type 0 where
  pub count : length ls ≡ n
  pub layouts : (k : ℕ) (f : FunctionTree) → k < n → slice_get fs k ≡ Some f → (l : Layout) × (slice_get ls k ≡ Some l) × IsLayout types f.variables l

pub record IsLaid (p : ProgramTree) (l : Layouts) : Type 0 where
  pub functions : AreLayoutsTo p.structs p.functions (length p.functions) l.functions.items
  pub globals : l.globals.items ≡ global_sizes p
