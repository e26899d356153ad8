-- The text of a line of linear code: the target, where there is one, the name of the instruction, and what it reads.
use Rattle.std.specs.Prelude.{ℕ, List, [], ◌∷◌, ◌++◌, codes, decimal, flat_map}
use Rattle.s_linear.specs.Linear.{Instr, const, undef, object_address, global_address, binary, unary, load, store, clear, equal_pointers, move, call, put, get, exit}
use Rattle.s_linear.specs.Lines.{Line, enter, leave, done, branch_not_zero, branch_zero, branch_equal, jump, label}
use Rattle.g_text.specs.Ops.{binary_name, unary_name}

-- a blank before each name
abbrev pub names_text : List ℕ → List ℕ
names_text = flat_map (λ n. codes " n" ++ decimal n)

abbrev pub label_text : ℕ → List ℕ
label_text l = codes " L" ++ decimal l

-- a word, a blank and a number
abbrev pub numbered : (word : List ℕ) → ℕ → List ℕ
numbered word n = word ++ codes " " ++ decimal n

abbrev pub target_text : ℕ → List ℕ
target_text t = codes "n" ++ decimal t ++ codes " = "

abbrev pub instr_text : Instr → List ℕ
instr_text (const t w) = target_text t ++ numbered (codes "Const") w
instr_text (undef t) = target_text t ++ codes "Undef"
instr_text (object_address t k) = target_text t ++ numbered (codes "Local") k
instr_text (global_address t k) = target_text t ++ numbered (codes "Delta") k
instr_text (binary o t a b) = target_text t ++ binary_name o ++ names_text (a ∷ b ∷ [])
instr_text (unary o t a) = target_text t ++ unary_name o ++ names_text (a ∷ [])
instr_text (load width t a) = target_text t ++ numbered (codes "Load") width ++ names_text (a ∷ [])
instr_text (store width a v) = numbered (codes "Store") width ++ names_text (a ∷ v ∷ [])
instr_text (clear k) = numbered (codes "Clear") k
instr_text (equal_pointers t a b) = target_text t ++ codes "PtrEq" ++ names_text (a ∷ b ∷ [])
instr_text (move t a) = target_text t ++ codes "Move" ++ names_text (a ∷ [])
instr_text (call f t xs) = target_text t ++ numbered (codes "Apply") f ++ names_text xs
instr_text (put a) = codes "Put" ++ names_text (a ∷ [])
instr_text (get t) = target_text t ++ codes "Get"
instr_text (exit a) = codes "Exit" ++ names_text (a ∷ [])

abbrev pub line_text : Line → List ℕ
line_text (enter xs) = codes "Enter" ++ names_text xs
line_text (leave v) = codes "Leave" ++ names_text (v ∷ [])
line_text (done i) = instr_text i
line_text (branch_not_zero p l) = codes "BranchNotZero" ++ names_text (p ∷ []) ++ label_text l
line_text (branch_zero p l) = codes "BranchZero" ++ names_text (p ∷ []) ++ label_text l
line_text (branch_equal p r l) = numbered (codes "BranchEqual" ++ names_text (p ∷ [])) r ++ label_text l
line_text (jump l) = codes "Jump" ++ label_text l
line_text (label l) = codes "Label" ++ label_text l
