-- Which names are needed before a code when some are needed after it, and when places are safe for a code: a write changes no
-- other name's place that is needed, and a call loses none.
use Rattle.std.specs.Prelude.{◌≡◌, ◌≢◌, ◌≤◌, ◌⊎◌, ℕ, Bool, false, List, [], ◌∷◌, Some}
use Rattle.s_linear.specs.Linear.{Instr, move, call, Step, plain, choice, loop, Code, no_steps, step_then, Codes, no_codes, code_then}
use Rattle.s_linear.specs.Lines.{counted}
use Rattle.s_sequence_keeps.specs.Closed.{target_of, sources_of, NameSet, none_written}

abbrev pub IsIn : ℕ → List ℕ → Type 0
IsIn x [] = ⊥
IsIn x (y ∷ ys) = (y ≡ x) ⊎ IsIn x ys

abbrev pub these : List ℕ → NameSet
these xs x = IsIn x xs

abbrev pub joined : NameSet → NameSet → NameSet
joined N M x = N x ⊎ M x

-- ---- what is needed

-- read, or needed after and not written
abbrev pub needed_by : Instr → NameSet → NameSet
needed_by i N x = IsIn x (sources_of i) ⊎ ((target_of i ≢ Some x) × N x)

abbrev pub needed_by_instrs : List Instr → NameSet → NameSet
needed_by_instrs [] N = N
needed_by_instrs (i ∷ is) N = needed_by i (needed_by_instrs is N)

-- After a loop's body: the predicate, what is needed after the loop, and what the moves back read before they write it.
abbrev pub after_body : (predicate : ℕ) → (back : List Instr) → NameSet → NameSet
after_body p back N x = (p ≡ x) ⊎ joined N (needed_by_instrs back none_written) x

-- A choice of one code reads no predicate. What is needed at a loop's label is what its body needs of that: the next turn needs
-- no more, since what is needed at the label and not moved back is needed here already.
abbrev mutual
  pub needed_by_step : Step → NameSet → NameSet
  needed_by_step (plain i) N x = needed_by i N x
  needed_by_step (choice p cs) N x = ((2 ≤ counted cs) × (p ≡ x)) ⊎ needed_by_codes cs N x
  needed_by_step (loop moves body p back) N x = needed_by_instrs moves (needed_by_code body (after_body p back N)) x

  pub needed_by_code : Code → NameSet → NameSet
  needed_by_code no_steps N x = N x
  needed_by_code (step_then s k) N x = needed_by_step s (needed_by_code k N) x

  pub needed_by_codes : Codes → NameSet → NameSet
  needed_by_codes no_codes N x = ⊥
  needed_by_codes (code_then k ks) N x = needed_by_code k N x ⊎ needed_by_codes ks N x

-- needed at a loop's label
abbrev pub at_label : (body : Code) → (predicate : ℕ) → (back : List Instr) → NameSet → NameSet
at_label body p back N = needed_by_code body (after_body p back N)

-- needed after a loop's body: by the predicate, after the loop, or in the next turn
abbrev pub at_branch : (body : Code) → (predicate : ℕ) → (back : List Instr) → NameSet → NameSet
at_branch body p back N x = (p ≡ x) ⊎ joined N (needed_by_instrs back (at_label body p back N)) x

-- ---- safe places

-- an instruction is a move from a name
abbrev pub IsMoveFrom : (name : ℕ) → Instr → Type 0
IsMoveFrom x (move t a) = a ≡ x
IsMoveFrom x i = ⊥

-- an instruction is no call, or calls do not lose this place
abbrev pub KeepsPlace : (lost : ℕ → Bool) → Instr → (place : ℕ) → Type 0
KeepsPlace lost (call g t xs) p = lost p ≡ false
KeepsPlace lost i p = Unit {0}

-- No other name that is needed after the instruction has its target's place, but the source of a move, and a call loses the place of none.
abbrev pub SafeInstr : (place : ℕ → ℕ) → (lost : ℕ → Bool) → Instr → NameSet → Type 0
SafeInstr f lost i N = (t x : ℕ) → target_of i ≡ Some t → N x → t ≢ x → ((f t ≢ f x) ⊎ IsMoveFrom x i) × KeepsPlace lost i (f x)

abbrev pub SafeInstrs : (place : ℕ → ℕ) → (lost : ℕ → Bool) → List Instr → NameSet → Type 0
SafeInstrs f lost [] N = Unit {0}
SafeInstrs f lost (i ∷ is) N = SafeInstr f lost i (needed_by_instrs is N) × SafeInstrs f lost is N

abbrev mutual
  pub SafeStep : (place : ℕ → ℕ) → (lost : ℕ → Bool) → Step → NameSet → Type 0
  SafeStep f lost (plain i) N = SafeInstr f lost i N
  SafeStep f lost (choice p cs) N = SafeCodes f lost cs N
  SafeStep f lost (loop moves body p back) N =
      SafeInstrs f lost moves (at_label body p back N) × SafeCode f lost body (at_branch body p back N)
      × SafeInstrs f lost back (at_label body p back N)

  pub SafeCode : (place : ℕ → ℕ) → (lost : ℕ → Bool) → Code → NameSet → Type 0
  SafeCode f lost no_steps N = Unit {0}
  SafeCode f lost (step_then s k) N = SafeStep f lost s (needed_by_code k N) × SafeCode f lost k N

  pub SafeCodes : (place : ℕ → ℕ) → (lost : ℕ → Bool) → Codes → NameSet → Type 0
  SafeCodes f lost no_codes N = Unit {0}
  SafeCodes f lost (code_then k ks) N = SafeCode f lost k N × SafeCodes f lost ks N
