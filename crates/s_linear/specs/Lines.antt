-- Linear code as a list of lines, each of which is one position. Labels are numbers, each of which is marked once.
use Rattle.std.specs.Prelude.{ℕ, suc, ◌+◌, ◌==◌, nat_lt, Bool, true, if◌then◌else◌, List, [], ◌∷◌, ◌++◌, map}
use Rattle.g_graph.specs.WellFormed.{all_of}
use Rattle.s_linear.specs.Linear.{Instr, const, undef, object_address, global_address, binary, unary, load, store, clear, equal_pointers, move, call, put, get, exit, Step, plain, choice, loop, Code, no_steps, step_then, Codes, no_codes, code_then, LinearFunction}
use Rattle.val_core.specs.Numbers.{numbers_from}

pub data Line : Type 0 where
  enter : (params : List ℕ) → Line
  leave : (value : ℕ) → Line
  done : Instr → Line
  branch_not_zero : (predicate label : ℕ) → Line
  branch_zero : (predicate label : ℕ) → Line
  branch_equal : (predicate number label : ℕ) → Line
  jump : (label : ℕ) → Line
  label : (number : ℕ) → Line

abbrev pub counted : Codes → ℕ
counted no_codes = 0
counted (code_then c cs) = suc (counted cs)

-- how many labels there are
abbrev mutual
  pub step_labels : Step → ℕ
  step_labels (plain i) = 0
  step_labels (choice p cs) = counted cs + codes_labels cs
  step_labels (loop moves body p back) = 2 + code_labels body

  pub code_labels : Code → ℕ
  code_labels no_steps = 0
  code_labels (step_then s c) = step_labels s + code_labels c

  pub codes_labels : Codes → ℕ
  codes_labels no_codes = 0
  codes_labels (code_then c cs) = code_labels c + codes_labels cs

abbrev pub last_labels : Codes → ℕ
last_labels no_codes = 0
last_labels (code_then c no_codes) = code_labels c
last_labels (code_then c cs) = last_labels cs

-- Where the labels within the last of these codes begin, and those within the others, from `first` on. They are numbered
-- in the order in which the codes stand: of two the first stands first, of another number the last.
abbrev pub last_from : (first : ℕ) → Codes → ℕ
last_from first (code_then c (code_then d no_codes)) = first + code_labels c
last_from first cs = first

abbrev pub others_from : (first : ℕ) → Codes → ℕ
others_from first (code_then c (code_then d no_codes)) = first
others_from first cs = first + last_labels cs

-- the lines of one code
abbrev pub LinesOf : Type 0
LinesOf = List Line

-- branches on the numbers from `number` on, one for each code but the last
abbrev pub branches : (predicate number first : ℕ) → List LinesOf → List Line
branches p r first [] = []
branches p r first (c ∷ []) = []
branches p r first (c ∷ d ∷ cs) = branch_equal p r (first + r) ∷ branches p (suc r) first (d ∷ cs)

-- the last of these codes
abbrev pub last_lines : List LinesOf → List Line
last_lines [] = []
last_lines (c ∷ []) = c
last_lines (c ∷ d ∷ cs) = last_lines (d ∷ cs)

-- every code but the last, each after a jump to the end and its label
abbrev pub labelled : (number first end : ℕ) → List LinesOf → List Line
labelled r first end [] = []
labelled r first end (c ∷ []) = []
labelled r first end (c ∷ d ∷ cs) = jump end ∷ label (first + r) ∷ c ++ labelled (suc r) first end (d ∷ cs)

-- the number of the last of n codes
abbrev pub before_last : List LinesOf → ℕ
before_last [] = 0
before_last (c ∷ []) = 0
before_last (c ∷ d ∷ cs) = suc (before_last (d ∷ cs))

-- Of two codes the first is done where the predicate is 0. Of another number the last stands first, and branches lead to
-- the others by their numbers.
abbrev pub choice_lines : (predicate first : ℕ) → List LinesOf → List Line
choice_lines p first [] = []
choice_lines p first (c ∷ d ∷ []) = branch_not_zero p first ∷ c ++ jump (suc first) ∷ label first ∷ d ++ label (suc first) ∷ []
choice_lines p first cs =
    branches p 0 first cs ++ last_lines cs ++ labelled 0 first (first + before_last cs) cs ++ label (first + before_last cs) ∷ []

-- the lines of a code whose labels are numbered from `first` on
abbrev mutual
  pub step_lines : (first : ℕ) → Step → List Line
  step_lines first (plain i) = done i ∷ []
  step_lines first (choice p cs) =
      choice_lines p first (codes_lines (last_from (first + counted cs) cs) (others_from (first + counted cs) cs) cs)
  step_lines first (loop moves body p back) =
      map done moves ++ label first ∷ code_lines (2 + first) body ++ branch_zero p (suc first) ∷ map done back ++ jump first ∷ label (suc first) ∷ []

  pub code_lines : (first : ℕ) → Code → List Line
  code_lines first no_steps = []
  code_lines first (step_then s c) = step_lines first s ++ code_lines (first + step_labels s) c

  -- the labels of the last of these codes are numbered from `last` on, those of the others from `others` on
  pub codes_lines : (last others : ℕ) → Codes → List LinesOf
  codes_lines last others no_codes = []
  codes_lines last others (code_then c no_codes) = code_lines last c ∷ []
  codes_lines last others (code_then c cs) = code_lines others c ∷ codes_lines last (others + code_labels c) cs

abbrev pub lines : LinearFunction → List Line
lines f = enter (numbers_from 0 f.params) ∷ code_lines 0 f.code ++ leave f.value ∷ []

-- ---- what lines name and mark

-- how often a label is marked
abbrev pub marks : ℕ → List Line → ℕ
marks k [] = 0
marks k (label n ∷ ls) = (if n == k then 1 else 0) + marks k ls
marks k (_ ∷ ls) = marks k ls

-- each line that goes to a label goes to one that passes
abbrev pub goes_to : (ℕ → Bool) → Line → Bool
goes_to test (branch_not_zero p l) = test l
goes_to test (branch_zero p l) = test l
goes_to test (branch_equal p r l) = test l
goes_to test (jump l) = test l
goes_to test _ = true

-- an instruction passes, as does each line that is none
abbrev pub does : (Instr → Bool) → Line → Bool
does test (done i) = test i
does test _ = true

-- the names that an instruction writes or reads, and those of a line
abbrev pub instr_names : Instr → List ℕ
instr_names (const t w) = t ∷ []
instr_names (undef t) = t ∷ []
instr_names (object_address t k) = t ∷ []
instr_names (global_address t k) = t ∷ []
instr_names (binary o t a b) = t ∷ a ∷ b ∷ []
instr_names (unary o t a) = t ∷ a ∷ []
instr_names (load width t a) = t ∷ a ∷ []
instr_names (store width a v) = a ∷ v ∷ []
instr_names (clear k) = []
instr_names (equal_pointers t a b) = t ∷ a ∷ b ∷ []
instr_names (move t a) = t ∷ a ∷ []
instr_names (call f t xs) = t ∷ xs
instr_names (put a) = a ∷ []
instr_names (get t) = t ∷ []
instr_names (exit a) = a ∷ []

abbrev pub line_names : Line → List ℕ
line_names (enter xs) = xs
line_names (leave v) = v ∷ []
line_names (done i) = instr_names i
line_names (branch_not_zero p l) = p ∷ []
line_names (branch_zero p l) = p ∷ []
line_names (branch_equal p r l) = p ∷ []
line_names (jump l) = []
line_names (label l) = []

-- each name of a line is below a number
abbrev pub names_below : ℕ → Line → Bool
names_below n line = all_of (λ x. nat_lt x n) (line_names line)
