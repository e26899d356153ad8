-- When an image does what its lambdas do.
use Rattle.std.specs.Prelude.{ℕ, List, map}
use Rattle.val_core.specs.Answers.{IsUndefined}
use Rattle.g_graph.specs.Plain.{PlainLambda, PlainOmega}
use Rattle.g_mean.specs.Data.{Datum}
use Rattle.g_mean.specs.Calls.{global_of, program_at, deepest_main}
use Rattle.g_mean.specs.LessDefined.{AreBytes}
use Rattle.s_linear.specs.Linear.{LinearFunction}
use Rattle.s_linear.specs.declared.frame.CodeForm.{CodeForm}
use Rattle.s_sequence.specs.Sequence.{sequenced}
use Rattle.s_select_keeps.specs.Functions.{Program}
use Rattle.s_select_keeps.specs.LaidFunctions.{loaded_program}
use Rattle.cc_emit.specs.Image.{places_in, frame_of, main_of, file_of_program, CanEmit}
use Rattle.rv_machine.specs.Behaviour.{FileKeeps}

-- the bytes of the frames of the lambdas' functions, by function
abbrev pub frames : CodeForm → List PlainLambda → List ℕ
frames form ls = map (frame_of form) ls

-- the linear code of lambdas
abbrev pub linear : List PlainLambda → List LinearFunction
linear ls = map sequenced ls

-- a program in memory, as its image is loaded
abbrev pub program_of : CodeForm → PlainOmega → List PlainLambda → Program
program_of form omega ls = loaded_program (places_in form) (linear ls) omega.deltas (main_of omega) (global_of omega.deltas)

-- The file does what these lambdas do, with the globals and names of the program: on every input of bytes on which no bound
-- makes them undefined, it keeps their behaviour, with the frames of their functions in a form of code.
abbrev pub KeepsLambdas : CodeForm → PlainOmega → List PlainLambda → (file : List ℕ) → Type 0
KeepsLambdas form omega ls file =
    (i : List ℕ) → AreBytes i → ((n : ℕ) → IsUndefined (program_at n omega ls i) → ⊥) →
    FileKeeps (List Datum) (λ n. program_at n omega ls i) (λ n. deepest_main n omega ls (frames form ls) i) file i

-- So it is with the image of every program.
abbrev pub ImagesKeepMeaning : Type 0
ImagesKeepMeaning =
    (form : CodeForm) (omega : PlainOmega) (ls : List PlainLambda) → CanEmit omega ls → KeepsLambdas form omega ls (file_of_program form omega ls)
