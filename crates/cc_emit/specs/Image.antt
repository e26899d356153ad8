-- The image of a program in a form of code: of each lambda the linear code, the places of its names and the items of its lines, laid
-- out with the globals of the program.
use Rattle.std.specs.Prelude.{ℕ, List, map, unwrap_or}
use Rattle.elf_file.specs.Image.{Sections}
use Rattle.elf_file.specs.Written.{file_of}
use Rattle.g_graph.specs.Plain.{PlainLambda, PlainOmega}
use Rattle.r_rule.specs.Optimised.{PlainOptimised}
use Rattle.g_graph.specs.Program.{IsProgram, IsWithinLimits, main_name, name_index}
use Rattle.s_linear.specs.Frame.{PlainPlaces, frame_size}
use Rattle.s_linear.specs.Linear.{LinearFunction}
use Rattle.s_linear.specs.Lines.{Line, lines}
use Rattle.s_linear.specs.declared.frame.CodeForm.{CodeForm}
use Rattle.s_linear.specs.declared.frame.CodeForm.TheVariants.{Plain, Tight}
use Rattle.s_sequence.specs.Sequence.{sequenced}
use Rattle.a_place.specs.Places.{places}
use Rattle.a_place.specs.Share.{shared}
use Rattle.rv_layout.specs.declared.item.Item.{Item}
use Rattle.rv_layout.specs.Items.{items_size}
use Rattle.rv_layout.specs.Layout.{laid_out}
use Rattle.s_select.specs.Templates.{items_of}

abbrev pub lines_of : PlainLambda → List Line
lines_of l = lines (sequenced l)

-- the places of the names of a function: by their intervals, or by need
abbrev pub places_in : CodeForm → LinearFunction → PlainPlaces
places_in Plain f = places (lines f)
places_in Tight f = shared f

-- those of a lambda's function
abbrev pub places_of : CodeForm → PlainLambda → PlainPlaces
places_of form l = places_in form (sequenced l)

-- the bytes of its frame
abbrev pub frame_of : CodeForm → PlainLambda → ℕ
frame_of form l = frame_size (places_of form l).count l.objects

-- its items
abbrev pub function_items : CodeForm → PlainLambda → List Item
function_items form l = items_of (places_of form l) l.objects (lines_of l)

-- the bytes of its code
abbrev pub code_size : CodeForm → PlainLambda → ℕ
code_size form l = items_size (function_items form l)

-- the number of the function that a program begins with
abbrev pub main_of : PlainOmega → ℕ
main_of omega = unwrap_or (name_index main_name omega.names) 0

-- the lambdas that recipes made
abbrev pub lambdas_of : List PlainOptimised → List PlainLambda
lambdas_of answers = map (λ (o : PlainOptimised). o.lambda) answers

-- the sections of these lambdas with the globals of a program
abbrev pub image_of : CodeForm → PlainOmega → List PlainLambda → Sections
image_of form omega ls = laid_out (map (function_items form) ls) omega.deltas (main_of omega)

-- the executable file
abbrev pub file_of_program : CodeForm → PlainOmega → List PlainLambda → List ℕ
file_of_program form omega ls = file_of (image_of form omega ls)

-- what an image asks: the lambdas are those of the program, and they and its globals are within the limits
pub record CanEmit (omega : PlainOmega) (ls : List PlainLambda) : Type 0 where
  pub program : IsProgram omega ls
  pub limits : IsWithinLimits omega ls
