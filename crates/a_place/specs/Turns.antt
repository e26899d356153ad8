-- Code whose walk back needs no fixed point: at its label each loop needs nothing but what its moves back write and what is needed
-- after it, and each choice has a code.
use Rattle.std.specs.Prelude.{◌==◌, ◌≤◌, ◌||◌, ℕ, List, IsTrue}
use Rattle.g_graph.specs.WellFormed.{some_of}
use Rattle.s_linear.specs.Linear.{Instr, Step, plain, choice, loop, Code, no_steps, step_then, Codes, no_codes, code_then, LinearFunction}
use Rattle.s_linear.specs.Lines.{counted}
use Rattle.a_place.specs.Share.{Names, writes, needed_by_code, at_label, at_branch}

-- each name of a set is in another or is written by one of these instructions
abbrev pub IsWrittenOr : (label : Names) → (back : List Instr) → Names → Type 0
IsWrittenOr L back N = (x : ℕ) → IsTrue (L x) → IsTrue (some_of (λ i. writes i x) back || N x)

abbrev mutual
  pub StepHasOwnTurns : Step → (after : Names) → Type 0
  StepHasOwnTurns (plain i) N = Unit {0}
  StepHasOwnTurns (choice p cs) N = (1 ≤ counted cs) × HaveOwnTurns cs N
  StepHasOwnTurns (loop enter body p back) N = IsWrittenOr (at_label body p back N) back N × CodeHasOwnTurns body (at_branch body p back N)

  pub CodeHasOwnTurns : Code → (after : Names) → Type 0
  CodeHasOwnTurns no_steps N = Unit {0}
  CodeHasOwnTurns (step_then s k) N = StepHasOwnTurns s (needed_by_code k N) × CodeHasOwnTurns k N

  pub HaveOwnTurns : Codes → (after : Names) → Type 0
  HaveOwnTurns no_codes N = Unit {0}
  HaveOwnTurns (code_then k ks) N = CodeHasOwnTurns k N × HaveOwnTurns ks N

-- So it is with each closed function whose choices have codes.
abbrev pub HasOwnTurns : LinearFunction → Type 0
HasOwnTurns f = CodeHasOwnTurns f.code (λ x. f.value == x)
