-- When a file keeps the meaning of a program.
use Rattle.std.specs.Prelude.{ℕ, List, Option}
use Rattle.val_core.specs.declared.values.Value.{Value}
use Rattle.val_core.specs.Answers.{IsUndefined}
use Rattle.val_core.specs.Within.{Given}
use Rattle.c_typed.specs.Typed.{ProgramTree}
use Rattle.c_mean.specs.Run.{run, deepest_run}
use Rattle.g_graph.specs.Plain.{PlainLambda}
use Rattle.g_mean.specs.LessDefined.{AreBytes}
use Rattle.rv_machine.specs.Behaviour.{FileKeeps}
use Rattle.s_linear.specs.declared.frame.CodeForm.{CodeForm}
use Rattle.cc_emit.specs.Images.{frames}

-- The bytes do what the program does, in this form of code, on every input of bytes on which no bound makes it undefined; they stop for want of
-- stack only where the functions of these lambdas have frames of more bytes than the stack.
abbrev pub KeepsMeaning : CodeForm → ProgramTree → List PlainLambda → (bytes : List ℕ) → Type 0
KeepsMeaning form p ls bytes =
    (i : List ℕ) → AreBytes i → ((n : ℕ) → IsUndefined (run n p i) → ⊥) →
    FileKeeps (Given (Option Value)) (λ n. run n p i) (λ n. deepest_run n p (frames form ls) i) bytes i
