-- What holds of the lines of lambdas, of their places and of what is selected.
use Rattle.std.specs.Prelude.{◌≡◌, ℕ, ◌+◌, ◌*◌, ◌<◌, ◌≤◌, nat_le, IsTrue, List, map, length, Ok}
use Rattle.elf_file.specs.Image.{IsPlaced}
use Rattle.elf_file.specs.Laws.{executable_for}
use Rattle.elf_file.specs.Loading.{loaded}
use Rattle.g_graph.specs.declared.op.Op.{Op}
use Rattle.g_graph.specs.Lists.{RegionOps}
use Rattle.g_graph.specs.Plain.{PlainDelta, PlainLambda, PlainOmega}
use Rattle.g_graph.specs.Program.{IsGlobal, lambda_values, IsFunctionWithinLimits}
use Rattle.g_graph.specs.WellFormed.{all_of, IsWellFormed}
use Rattle.s_linear.specs.Linear.{LinearFunction}
use Rattle.s_linear.specs.Lines.{lines}
use Rattle.s_linear.specs.declared.frame.CodeForm.{CodeForm}
use Rattle.s_linear.specs.declared.frame.Frame.{Frame}
use Rattle.s_sequence.specs.Laws.{Applies}
use Rattle.rv_layout.specs.Conditions.{global_fits, CanLayOut}
use Rattle.s_select.specs.Conditions.{CanSelect, IsFrameOf, names_have_places}
use Rattle.cc_emit.specs.Image.{lines_of, places_in, places_of, function_items, code_size, main_of, image_of, file_of_program, CanEmit}

-- Each name of the lines of a function has a place.
abbrev pub NamesHavePlaces : Type 0
NamesHavePlaces = (form : CodeForm) (f : LinearFunction) → IsTrue (all_of (names_have_places (places_in form f)) (lines f))

-- an Apply has at most 8 inputs without its states
abbrev pub HasFewArguments : Op → (count : ℕ) → Type 0
HasFewArguments = Applies (λ f n. nat_le n 8)

-- A lambda of which a function can be made: it is well formed, within the limits of a function, and each of its calls has at
-- most 8 arguments.
pub record IsFunction (l : PlainLambda) : Type 0 where
  pub well_formed : IsWellFormed l
  pub limits : IsFunctionWithinLimits l
  pub arguments : RegionOps HasFewArguments l.body

-- Items can be selected for the lines of a well-formed lambda at their places, where it has at most 8 parameters and each
-- of its calls at most 8 arguments.
abbrev pub LambdaCanSelect : Type 0
LambdaCanSelect =
    (form : CodeForm) (l : PlainLambda) (frame : Frame) → IsWellFormed l → l.params ≤ 8 → RegionOps HasFewArguments l.body
    → IsFrameOf frame (places_of form l) l.objects → CanSelect (lines_of l) (places_of form l) frame l.objects

-- The code of a lambda has at most 32 bytes for each value and 256 more, where it has at most 8 parameters and each of its
-- calls at most 8 arguments. The first and the last line take 252 with far words. A node that is no call takes at most 44, of
-- 64; a call of eight arguments 116, of 128. A region of a choice takes for itself a branch of 28 bytes and a jump of 4, which
-- are the 32 of its one value; a loop a branch of 20 and a jump, of 96. A move takes 24: an argument or a result has one, and
-- the values that a loop passes on have three, of 96.
abbrev pub CodeIsShort : Type 0
CodeIsShort = (form : CodeForm) (l : PlainLambda) → l.params ≤ 8 → RegionOps HasFewArguments l.body → code_size form l ≤ 32 * lambda_values l + 256

-- A global of a program can be laid out.
abbrev pub GlobalsFit : Type 0
GlobalsFit = (globals : ℕ) (d : PlainDelta) → IsGlobal globals d → IsTrue (global_fits globals d)

-- ---- whole programs

-- The functions of a program can be laid out with its globals, and each jump reaches.
abbrev pub FunctionsFit : Type 0
FunctionsFit =
    (form : CodeForm) (omega : PlainOmega) (ls : List PlainLambda) → CanEmit omega ls → CanLayOut (map (function_items form) ls) omega.deltas (main_of omega)

-- The text of a program has less than 148,000,000 bytes.
abbrev pub TextIsShort : Type 0
TextIsShort = (form : CodeForm) (omega : PlainOmega) (ls : List PlainLambda) → CanEmit omega ls → length (image_of form omega ls).text < 148000000

-- The sections of a program stand where a file wants them.
abbrev pub ImageIsPlaced : Type 0
ImageIsPlaced = (form : CodeForm) (omega : PlainOmega) (ls : List PlainLambda) → CanEmit omega ls → IsPlaced (image_of form omega ls)

-- The file of a program loads as its sections.
abbrev pub ProgramLoads : Type 0
ProgramLoads =
    (form : CodeForm) (omega : PlainOmega) (ls : List PlainLambda) → CanEmit omega ls
    → loaded (file_of_program form omega ls) ≡ Ok (executable_for (image_of form omega ls))
