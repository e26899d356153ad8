-- How many instructions the template of each line has.
use Rattle.std.specs.Prelude.{ℕ, ◌+◌, ◌*◌, ◌/◌, ◌%◌, ◌^◌, ◌==◌, nat_lt, if◌then◌else◌, List, slice_index, sum_by}
use Rattle.val_core.specs.declared.operation.Op1.{Op1}
use Rattle.val_core.specs.declared.operation.Op1.TheVariants.{Zext8}
use Rattle.val_core.specs.declared.operation.Op2.{Op2}
use Rattle.val_core.specs.declared.operation.Op2.TheVariants.{Eq, Ne}
use Rattle.g_graph.specs.Plain.{PlainObject}
use Rattle.s_linear.specs.Frame.{PlainPlaces, saved_of, object_at, frame_size}
use Rattle.s_linear.specs.Linear.{Instr, const, undef, object_address, global_address, binary, unary, load, store, clear, equal_pointers, move, call, put, get, exit}
use Rattle.s_linear.specs.Lines.{Line, enter, leave, done, branch_not_zero, branch_zero, branch_equal, jump, label}
use Rattle.s_select.specs.declared.location.Location.{Location}
use Rattle.s_select.specs.declared.location.Location.TheVariants.{Register, Near, Far}
use Rattle.s_select.specs.Templates.{place_of, size_of}

-- to load a word
abbrev pub immediate : ℕ → ℕ
immediate w = if nat_lt ((w + 2048) % 2 ^ 32) 4096 then 1 else 2

-- to bring an operand to a register, or a result from one
abbrev pub operand : Location → ℕ
operand (Register r) = 0
operand (Near offset) = 1
operand (Far offset) = 3

-- to copy between a location and a register
abbrev pub copy : Location → ℕ
copy (Register r) = 1
copy (Near offset) = 1
copy (Far offset) = 3

abbrev pub move_count : (to from : Location) → ℕ
move_count (Register r) from = copy from
move_count to from = operand from + copy to

abbrev pub binary_count : Op2 → ℕ
binary_count Eq = 2
binary_count Ne = 2
binary_count _ = 1

abbrev pub unary_count : Op1 → ℕ
unary_count Zext8 = 1
unary_count _ = 2

abbrev pub copies : PlainPlaces → List ℕ → ℕ
copies p names = sum_by (λ x. copy (place_of p x)) names

abbrev pub instr_count : PlainPlaces → List PlainObject → Instr → ℕ
instr_count p os (const t w) = immediate w + operand (place_of p t)
instr_count p os (undef t) = 0
instr_count p os (object_address t k) = immediate (object_at p.count os k) + 1 + operand (place_of p t)
instr_count p os (global_address t k) = 2 + operand (place_of p t)
instr_count p os (binary o t a b) = operand (place_of p a) + operand (place_of p b) + binary_count o + operand (place_of p t)
instr_count p os (unary o t a) = operand (place_of p a) + unary_count o + operand (place_of p t)
instr_count p os (load width t a) = operand (place_of p a) + 1 + operand (place_of p t)
instr_count p os (store width a v) = operand (place_of p a) + operand (place_of p v) + 1
instr_count p os (clear k) = immediate (object_at p.count os k) + immediate ((size_of os k + 3) / 4 * 4) + 5
instr_count p os (equal_pointers t a b) = operand (place_of p a) + operand (place_of p b) + 2 + operand (place_of p t)
instr_count p os (move t a) = if slice_index p.of t == slice_index p.of a then 0 else move_count (place_of p t) (place_of p a)
instr_count p os (call f t xs) = copies p xs + 2 + copy (place_of p t)
instr_count p os (put a) = copy (place_of p a) + 2
instr_count p os (get t) = 2 + copy (place_of p t)
instr_count p os (exit a) = copy (place_of p a) + 2

abbrev pub line_count : PlainPlaces → List PlainObject → Line → ℕ
line_count p os (enter xs) = immediate (frame_size p.count os) + 6 + saved_of p.count + copies p xs
line_count p os (leave v) = copy (place_of p v) + immediate (frame_size p.count os) + 4 + saved_of p.count
line_count p os (done i) = instr_count p os i
line_count p os (branch_not_zero x l) = operand (place_of p x) + 2
line_count p os (branch_zero x l) = operand (place_of p x) + 2
line_count p os (branch_equal x n l) = operand (place_of p x) + immediate n + 2
line_count p os (jump l) = 1
line_count p os (label l) = 0
