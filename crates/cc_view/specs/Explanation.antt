-- What is said of a source: why it is refused, or how large its image is and how deep its stack gets.
use Rattle.std.specs.Prelude.{◌≡◌, ℕ, ◌+◌, List, [], ◌∷◌, ◌++◌, Option, Some, None, codes, decimal, flat_map, length, min}
use Rattle.elf_file.specs.Image.{stack_size}
use Rattle.g_graph.specs.Plain.{PlainLambda, PlainOmega}
use Rattle.s_linear.specs.declared.frame.CodeForm.TheVariants.{Plain}
use Rattle.cc_emit.specs.Image.{image_of, main_of}
use Rattle.cc_emit.specs.Images.{frames}
use Rattle.cc_view.specs.Depths.{depth_at, IsDepth}
use Rattle.cc_report.specs.Explained.{refusal_text}
use Rattle.cc_report.specs.declared.refusal.Refusal.{Refusal}
use Rattle.cc_source.specs.Offset.{offset_of}
use Rattle.cc_view_source.specs.Names.{function_name}
use Rattle.cc_source.specs.declared.fault.CompileFault.{CompileFault}

-- ---- the texts

abbrev pub code_line : (bytes : ℕ) → List ℕ
code_line bytes = codes "text " ++ decimal bytes ++ codes "\n"

abbrev pub frame_line : (size : ℕ) (name : List ℕ) → List ℕ
frame_line size name = codes "frame " ++ decimal size ++ codes " " ++ name ++ codes "\n"

-- the frames of the functions from this number on
abbrev pub frame_lines : (names : List (List ℕ)) (f : ℕ) → List ℕ → List ℕ
frame_lines names f [] = []
frame_lines names f (size ∷ sizes) = frame_line size (function_name names f) ++ frame_lines names (f + 1) sizes

-- a blank before each
abbrev pub names_text : (names : List (List ℕ)) → List ℕ → List ℕ
names_text names = flat_map (λ f. codes " " ++ function_name names f)

abbrev pub depth_line : (names : List (List ℕ)) (depth : ℕ) (chain : List ℕ) → List ℕ
depth_line names depth chain = codes "stack " ++ decimal depth ++ codes " of " ++ decimal stack_size ++ codes ":" ++ names_text names chain ++ codes "\n"

abbrev pub recursive_line : (names : List (List ℕ)) (fs : List ℕ) → List ℕ
recursive_line names fs = codes "stack recursive:" ++ names_text names fs ++ codes "\n"

-- ---- what they tell

-- The line of the stack: the depth of `main`, where it has one, with some functions.
abbrev pub IsStackLine : (names : List (List ℕ)) → Option ℕ → (line : List ℕ) → Type 0
IsStackLine names (Some depth) line = (chain : List ℕ) × (line ≡ depth_line names depth chain)
IsStackLine names None line = (fs : List ℕ) × (line ≡ recursive_line names fs)

-- How deep the stack of these lambdas gets, as a line.
pub record IsStackOf (omega : PlainOmega) (ls : List PlainLambda) (line : List ℕ) : Type 0 where
  pub depths : List (Option ℕ)
  pub are : IsDepth ls (frames Plain ls) depths
  pub is : IsStackLine omega.names (depth_at depths (main_of omega)) line

-- The text of the image of these lambdas: the bytes of its code, the bytes of each frame, and how deep the stack gets.
pub record IsExplained (omega : PlainOmega) (ls : List PlainLambda) (text : List ℕ) : Type 0 where
  pub line : List ℕ
  pub stack : IsStackOf omega ls line
  pub is : text ≡ code_line (length (image_of Plain omega ls).text) ++ frame_lines omega.names 0 (frames Plain ls) ++ line

-- The text of a refusal has the place of the fault.
pub record IsRefusalText (source : List ℕ) (e : CompileFault) (refusal : Refusal) (text : List ℕ) : Type 0 where
  pub at : ℕ
  pub there : offset_of e ≡ Some at
  pub is : text ≡ refusal_text refusal source (min at (length source))
