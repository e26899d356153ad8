-- Programs whose stack is bounded.
use Rattle.std.specs.Prelude.{◌≡◌, ℕ, ◌≤◌, List, Option, Some, Ok}
use Rattle.val_core.specs.Answers.{IsUndefined}
use Rattle.c_typed.specs.Typed.{ProgramTree}
use Rattle.c_mean.specs.Run.{run}
use Rattle.r_rule.specs.declared.steps.Rule.{Rule}
use Rattle.g_graph.specs.Plain.{PlainLambda}
use Rattle.r_rule.specs.Optimised.{PlainOptimised}
use Rattle.g_graph.specs.Program.{name_index, main_name}
use Rattle.g_build_def.specs.Functions.{graph, omega}
use Rattle.g_mean.specs.LessDefined.{AreBytes}
use Rattle.g_pass_def.specs.Answers.{AreAnswers}
use Rattle.g_pass_def.specs.Kept.{IsKeptBy}
use Rattle.g_pass.specs.Sweep.{rules}
use Rattle.s_linear.specs.declared.frame.CodeForm.{CodeForm}
use Rattle.elf_file.specs.Image.{stack_size}
use Rattle.elf_file.specs.Loading.{Executable, loaded}
use Rattle.rv_machine.specs.Machine.{stack}
use Rattle.rv_machine.specs.Run.{ended, executed}
use Rattle.cc_emit.specs.Image.{file_of_program, lambdas_of}
use Rattle.cc_emit.specs.Images.{frames}
use Rattle.cc_source.specs.Accepted.{Accepts}
use Rattle.cc_source.specs.SourceLaws.{AreBytes as IsOfBytes}
use Rattle.cc_view.specs.Depths.{depth_at, IsDepth}

-- With these lambdas, and their frames in a form of code, `main` has a depth of at most the size of the stack.
pub record HasRoom (form : CodeForm) (p : ProgramTree) (ls : List PlainLambda) : Type 0 where
  pub depths : List (Option ℕ)
  pub are : IsDepth ls (frames form ls) depths
  pub main : ℕ
  pub named : name_index main_name (omega p).names ≡ Some main
  pub depth : ℕ
  pub known : depth_at depths main ≡ Some depth
  pub fits : depth ≤ stack_size

-- no run of the file on this input ends for want of stack
abbrev pub NeverLacksStack : (file input : List ℕ) → Type 0
NeverLacksStack file input = (e : Executable) → loaded file ≡ Ok e → (n : ℕ) → (executed n e input).hart ≡ ended stack → ⊥

-- The image of a program with these lambdas, in each form of code, never lacks stack where they have room, on every input of bytes on which no bound
-- makes the program undefined.
abbrev pub Suffices : ProgramTree → List PlainLambda → Type 0
Suffices p ls =
    (form : CodeForm) → HasRoom form p ls → (i : List ℕ) → AreBytes i → ((n : ℕ) → IsUndefined (run n p i) → ⊥)
    → NeverLacksStack (file_of_program form (omega p) ls) i

-- So it is with each source that is accepted and each list that keeps its graph,
abbrev pub BoundedListsSuffice : Type 0
BoundedListsSuffice =
    (source : List ℕ) → IsOfBytes source → (p : ProgramTree) → Accepts source p → (ks : List PlainLambda) → IsKeptBy (graph p) ks → Suffices p ks

-- and so with what a recipe makes of the graph.
abbrev pub BoundedStacksSuffice : Type 0
BoundedStacksSuffice =
    (source : List ℕ) → IsOfBytes source → (p : ProgramTree) → Accepts source p → (recipe : List Rule) (answers : List PlainOptimised) →
    AreAnswers rules recipe (graph p) answers → Suffices p (lambdas_of answers)
