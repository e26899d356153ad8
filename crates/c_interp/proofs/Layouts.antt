-- The sizes and numbers that layouts have of a function's objects are those of the definition.
use Rattle.std.proofs.Common.{◌≡◌, ℕ, zero, suc, ◌≤◌, List, [], ◌∷◌, map, length, refl, sym, ap, ◌∙◌, arith, ◌<◌, get_or}
use Rattle.std.specs.Prelude.{Option, None, Some, slice_get}
use Rattle.std.proofs.lemmas.Option.{slice_get_within, slice_get_past, slice_get_read}
use Rattle.val_core.specs.Memory.{BlockShape}
use Rattle.c_typed.specs.Typed.{FunctionTree, ProgramTree}
use Rattle.c_mean.specs.Run.{objects_of}
use Rattle.c_interp_store.specs.declared.shape.Shape.{Shape}
use Rattle.c_interp_store.specs.Blocks.{shapes_of}
use Rattle.c_interp_def.specs.Configurations.{variables_in, variables_of, object_sizes}
use Rattle.c_interp_store.specs.declared.layout.Layout.{Layout}
use Rattle.c_interp_store.specs.declared.layout.Layouts.{Layouts}
use Rattle.c_interp_store.specs.Laid.{size_in, sizes_in, IsLayout, IsLaid}

none-past : {X : Type 0} (xs : List X) (k : ℕ) → slice_get xs k ≡ None → length xs ≤ k
none-past [] k e = omega arith
none-past (x ∷ xs) zero e = absurd cc
none-past (x ∷ xs) (suc k) e = let h = none-past xs k e in omega (arith, h)

-- a function that is not there has no layout
no_layout : (p : ProgramTree) (l : Layouts) (f : ℕ) → IsLaid p l → slice_get p.functions f ≡ None → slice_get l.functions.items f ≡ None
no_layout p l f laid none =
    slice_get_past l.functions.items f (let past = none-past p.functions f none in let count = laid.functions.count in omega (arith, past, count))

layout_of : (p : ProgramTree) (l : Layouts) (f : ℕ) (fn : FunctionTree) → IsLaid p l → slice_get p.functions f ≡ Some fn →
    (y : Layout) × (slice_get l.functions.items f ≡ Some y) × IsLayout p.structs fn.variables y
layout_of p l f fn laid there = laid.functions.layouts f fn (slice_get_within p.functions f fn there) there

-- the shapes of a layout are those of the function's objects
shapes_laid : (p : ProgramTree) (l : Layouts) (f : ℕ) (fn : FunctionTree) (y : Layout) → IsLaid p l → slice_get p.functions f ≡ Some fn → slice_get l.functions.items f ≡ Some y →
    shapes_of y.shapes.items ≡ objects_of p.structs fn.variables
shapes_laid p l f fn y laid there is_y =
    let (z, is_z, is) = layout_of p l f fn laid there in
    let same : z ≡ y = cc (is_z, is_y) in
    ap (λ (x : Layout). shapes_of x.shapes.items) (sym same) ∙ is.shapes

-- the same of a layout that was read from the list of layouts
pub shapes_read : (p : ProgramTree) (l : Layouts) (f : ℕ) (fn : FunctionTree) (ls : List Layout) (y : Layout) (shapes : List Shape) → IsLaid p l → slice_get p.functions f ≡ Some fn → ls ≡ l.functions.items →
    f < length ls → y ≡ get_or ls f y → shapes ≡ y.shapes.items → shapes_of shapes ≡ objects_of p.structs fn.variables
shapes_read p l f fn ls y shapes laid there same lt read is =
    ap shapes_of is ∙ shapes_laid p l f fn y laid there (ap (λ k. slice_get k f) (sym same) ∙ slice_get_read ls (length ls) f y refl lt read)

sizes-are : (shapes : List Shape) → map size_in shapes ≡ map (λ (o : BlockShape). o.size) (shapes_of shapes)
sizes-are [] = refl
sizes-are (s ∷ shapes) = ap (λ l. s.size ∷ l) (sizes-are shapes)

sizes-by : (p : ProgramTree) (l : Layouts) (f : ℕ) (o : Option FunctionTree) → IsLaid p l → slice_get p.functions f ≡ o →
    sizes_in (slice_get l.functions.items f) ≡ object_sizes p (variables_in o)
sizes-by p l f None laid e = ap sizes_in (no_layout p l f laid e)
sizes-by p l f (Some fn) laid e =
    let (y, there, is) = layout_of p l f fn laid e in
    ap sizes_in there ∙ sizes-are y.shapes.items ∙ ap (λ os. map (λ (o : BlockShape). o.size) os) is.shapes

pub sizes-laid : (p : ProgramTree) (l : Layouts) (f : ℕ) → IsLaid p l → sizes_in (slice_get l.functions.items f) ≡ object_sizes p (variables_of p f)
sizes-laid p l f laid = sizes-by p l f (slice_get p.functions f) laid refl
