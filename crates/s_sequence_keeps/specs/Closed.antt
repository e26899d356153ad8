-- Linear code in which each name is written before it is read, on each way through it.
use Rattle.std.specs.Prelude.{◌≡◌, ℕ, ◌<◌, ◌⊎◌, List, [], ◌∷◌, Option, None, Some}
use Rattle.s_linear.specs.Linear.{Instr, const, undef, object_address, global_address, binary, unary, load, store, clear, equal_pointers, move, call, put, get, exit, Step, plain, choice, loop, Code, no_steps, step_then, Codes, no_codes, code_then, LinearFunction}

-- the name that an instruction writes
abbrev pub target_of : Instr → Option ℕ
target_of (const t w) = Some t
target_of (undef t) = Some t
target_of (object_address t k) = Some t
target_of (global_address t k) = Some t
target_of (binary o t a b) = Some t
target_of (unary o t a) = Some t
target_of (load width t a) = Some t
target_of (store width a v) = None
target_of (clear k) = None
target_of (equal_pointers t a b) = Some t
target_of (move t a) = Some t
target_of (call f t xs) = Some t
target_of (put a) = None
target_of (get t) = Some t
target_of (exit a) = None

-- the names that it reads
abbrev pub sources_of : Instr → List ℕ
sources_of (const t w) = []
sources_of (undef t) = []
sources_of (object_address t k) = []
sources_of (global_address t k) = []
sources_of (binary o t a b) = a ∷ b ∷ []
sources_of (unary o t a) = a ∷ []
sources_of (load width t a) = a ∷ []
sources_of (store width a v) = a ∷ v ∷ []
sources_of (clear k) = []
sources_of (equal_pointers t a b) = a ∷ b ∷ []
sources_of (move t a) = a ∷ []
sources_of (call f t xs) = xs
sources_of (put a) = a ∷ []
sources_of (get t) = []
sources_of (exit a) = a ∷ []

abbrev pub targets_of : List Instr → List (Option ℕ)
targets_of [] = []
targets_of (i ∷ is) = target_of i ∷ targets_of is

-- some names, as those that are written so far
abbrev pub NameSet : Type 1
NameSet = ℕ → Type 0

abbrev pub AreIn : NameSet → List ℕ → Type 0
AreIn D [] = Unit {0}
AreIn D (x ∷ xs) = D x × AreIn D xs

-- the names that are written after an instruction, where those of `D` are before
abbrev pub after_instr : NameSet → Instr → NameSet
after_instr D i x = (target_of i ≡ Some x) ⊎ D x

abbrev pub after_instrs : NameSet → List Instr → NameSet
after_instrs D [] = D
after_instrs D (i ∷ is) = after_instrs (after_instr D i) is

abbrev pub none_written : NameSet
none_written x = ⊥

-- After a code, on each way through it. A choice of no code writes nothing. Each turn of a loop writes what the moves in and the
-- body write.
abbrev mutual
  pub after_step : NameSet → Step → NameSet
  after_step D (plain i) x = after_instr D i x
  after_step D (choice p no_codes) x = D x
  after_step D (choice p (code_then c cs)) x = after_code D c x × after_each D cs x
  after_step D (loop enter body p back) x = after_code (after_instrs none_written enter) body x ⊎ D x

  pub after_code : NameSet → Code → NameSet
  after_code D no_steps x = D x
  after_code D (step_then s c) x = after_code (after_step D s) c x

  pub after_each : NameSet → Codes → NameSet
  after_each D no_codes x = Unit {0}
  after_each D (code_then c cs) x = after_code D c x × after_each D cs x

abbrev pub InstrsAreClosed : NameSet → List Instr → Type 0
InstrsAreClosed D [] = Unit {0}
InstrsAreClosed D (i ∷ is) = AreIn D (sources_of i) × InstrsAreClosed (after_instr D i) is

-- Where the names of `D` are written, each name that the code reads is written before. A loop's body and its moves back read
-- only what its moves in or its body wrote, and the moves back write the names that the moves in wrote.
abbrev mutual
  pub StepIsClosed : NameSet → Step → Type 0
  StepIsClosed D (plain i) = AreIn D (sources_of i)
  StepIsClosed D (choice p cs) = D p × AreClosed D cs
  StepIsClosed D (loop enter body p back) =
      InstrsAreClosed D enter × CodeIsClosed (after_instrs none_written enter) body × after_code (after_instrs none_written enter) body p
      × InstrsAreClosed (after_code (after_instrs none_written enter) body) back × (targets_of back ≡ targets_of enter)

  pub CodeIsClosed : NameSet → Code → Type 0
  CodeIsClosed D no_steps = Unit {0}
  CodeIsClosed D (step_then s c) = StepIsClosed D s × CodeIsClosed (after_step D s) c

  pub AreClosed : NameSet → Codes → Type 0
  AreClosed D no_codes = Unit {0}
  AreClosed D (code_then c cs) = CodeIsClosed D c × AreClosed D cs

-- A function's parameters are the first names, and its value is written at its end.
pub record FunctionIsClosed (f : LinearFunction) : Type 0 where
  pub code : CodeIsClosed (λ x. x < f.params) f.code
  pub value : after_code (λ x. x < f.params) f.code f.value
