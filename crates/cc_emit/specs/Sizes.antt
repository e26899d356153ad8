-- How many bytes the items of a line have at most, wherever its names are. A word is loaded by at most 2 instructions, and a
-- value comes from its place or goes to it by at most 3, with which the counts are written.
use Rattle.std.specs.Prelude.{ℕ, ◌+◌, ◌*◌, ◌≤◌, List, length}
use Rattle.g_graph.specs.Plain.{PlainObject}
use Rattle.s_linear.specs.Frame.{PlainPlaces}
use Rattle.s_linear.specs.Linear.{Instr, const, undef, object_address, global_address, binary, unary, load, store, clear, equal_pointers, move, call, put, get, exit}
use Rattle.s_linear.specs.Lines.{Line, enter, leave, done, branch_not_zero, branch_zero, branch_equal, jump, label}
use Rattle.rv_layout.specs.Items.{items_size}
use Rattle.s_select.specs.Templates.{line_items}

abbrev pub instr_bytes : Instr → ℕ
instr_bytes (const t w) = 4 * (2 + 3)
instr_bytes (undef t) = 0
instr_bytes (object_address t k) = 4 * (2 + 1 + 3)
instr_bytes (global_address t k) = 4 * (2 + 3)
instr_bytes (binary o t a b) = 4 * (3 + 3 + 2 + 3)
instr_bytes (unary o t a) = 4 * (3 + 2 + 3)
instr_bytes (load width t a) = 4 * (3 + 1 + 3)
instr_bytes (store width a v) = 4 * (3 + 3 + 1)
instr_bytes (clear k) = 4 * (2 + 1 + 2 + 4)
instr_bytes (equal_pointers t a b) = 4 * (3 + 3 + 2 + 3)
instr_bytes (move t a) = 4 * (3 + 3)
instr_bytes (call f t xs) = 4 * (3 * length xs + 2 + 3)
instr_bytes (put a) = 4 * (3 + 2)
instr_bytes (get t) = 4 * (2 + 3)
instr_bytes (exit a) = 4 * (3 + 2)

-- a function saves and restores at most 11 registers
abbrev pub line_bytes : Line → ℕ
line_bytes (enter xs) = 4 * (2 + 6 + 11 + 3 * length xs)
line_bytes (leave v) = 4 * (3 + 2 + 1 + 11 + 3)
line_bytes (done i) = instr_bytes i
line_bytes (branch_not_zero p l) = 4 * (3 + 1 + 1)
line_bytes (branch_zero p l) = 4 * (3 + 1 + 1)
line_bytes (branch_equal p n l) = 4 * (3 + 2 + 1 + 1)
line_bytes (jump l) = 4
line_bytes (label l) = 0

-- The items of a line have no more bytes.
abbrev pub LinesAreShort : Type 0
LinesAreShort = (p : PlainPlaces) (os : List PlainObject) (line : Line) → items_size (line_items p os line) ≤ line_bytes line
