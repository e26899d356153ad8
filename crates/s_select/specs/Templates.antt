-- The template of each line of linear code, and the items of a function.
use Rattle.std.specs.Prelude.{ℕ, zero, suc, ◌+◌, ◌*◌, ◌/◌, ◌==◌, if◌then◌else◌, List, [], ◌∷◌, ◌++◌, map, slice_index}
use Rattle.std.specs.List.{flat_map}
use Rattle.val_core.specs.declared.operation.Op1.{Op1}
use Rattle.val_core.specs.declared.operation.Op1.TheVariants.{Sext8, Zext8, Sext16, Zext16}
use Rattle.val_core.specs.declared.operation.Op2.{Op2}
use Rattle.val_core.specs.declared.operation.Op2.TheVariants as op
use Rattle.rv_isa.specs.Calls.{exit_call}
use Rattle.rv_isa.specs.Registers.{x0, ra, sp, t0, t1, s0, a0, a7}
use Rattle.rv_isa.specs.declared.instruction.Instr.{Instr}
use Rattle.rv_isa.specs.declared.instruction.Instr.TheVariants as rv
use Rattle.g_graph.specs.Plain.{PlainObject}
use Rattle.s_linear.specs.Frame.{PlainPlaces, saved_of, object_at, frame_size}
use Rattle.s_linear.specs.Linear as linear
use Rattle.s_linear.specs.Lines.{Line, enter, leave, done, branch_not_zero, branch_zero, branch_equal, jump, label}
use Rattle.rv_layout.specs.declared.item.Item.{Item}
use Rattle.rv_layout.specs.declared.item.Item.TheVariants.{Word, Mark, Jump, Call, Stub, Address}
use Rattle.s_select.specs.declared.location.Location.{Location}
use Rattle.s_select.specs.declared.location.Location.TheVariants.{Register}
use Rattle.s_select.specs.Operands.{negative, place_register, location_of, load_immediate, get, put, in_of, load_in, out_of, store_out}

abbrev pub words : List Instr → List Item
words code = map Word code

-- where the value of a name is
abbrev pub place_of : PlainPlaces → (name : ℕ) → Location
place_of places x = location_of places.temporaries (slice_index places.of x)

-- ---- the frame

-- the caller's place registers, stored below the return address, t1 being the frame's end
abbrev pub save_places : (saved : ℕ) → List Instr
save_places zero = []
save_places (suc saved) = save_places saved ++ rv.Sw t1 (place_register saved) (negative (8 + 4 * saved)) ∷ []

abbrev pub restore_places : (saved : ℕ) → List Instr
restore_places zero = []
restore_places (suc saved) = restore_places saved ++ rv.Lw (place_register saved) t1 (negative (8 + 4 * saved)) ∷ []

-- The start of a function: it stops where the stack has no room for the frame, and else takes it.
abbrev pub take_frame : (size saved : ℕ) → List Instr
take_frame size saved =
    load_immediate t0 size
    ++ rv.Sub t1 sp s0
    ∷ rv.Bgeu t1 t0 8
    ∷ rv.Ebreak
    ∷ rv.Sub sp sp t0
    ∷ rv.Add t1 sp t0
    ∷ rv.Sw t1 ra (negative 4)
    ∷ save_places saved

-- The end of a function: it restores the caller's registers, gives the frame back and returns.
abbrev pub give_frame : (size saved : ℕ) → List Instr
give_frame size saved =
    load_immediate t0 size
    ++ rv.Add t1 sp t0
    ∷ restore_places saved
    ++ rv.Lw ra t1 (negative 4)
    ∷ rv.Addi sp t1 0
    ∷ rv.Jalr x0 ra 0
    ∷ []

-- ---- instructions

-- values from the argument registers, from a register on, to these names
abbrev pub put_params : PlainPlaces → (register : ℕ) → List ℕ → List Instr
put_params places r [] = []
put_params places r (x ∷ xs) = put (place_of places x) r ++ put_params places (suc r) xs

-- values of these names into the argument registers, from a register on
abbrev pub get_arguments : PlainPlaces → (register : ℕ) → List ℕ → List Instr
get_arguments places r [] = []
get_arguments places r (x ∷ xs) = get r (place_of places x) ++ get_arguments places (suc r) xs

-- the instruction of an operation, and for a test of equality the difference
abbrev pub binary_instr : Op2 → (rd left right : ℕ) → Instr
binary_instr op.Add rd a b = rv.Add rd a b
binary_instr op.Sub rd a b = rv.Sub rd a b
binary_instr op.Mul rd a b = rv.Mul rd a b
binary_instr op.Div rd a b = rv.Div rd a b
binary_instr op.Rem rd a b = rv.Rem rd a b
binary_instr op.Divu rd a b = rv.Divu rd a b
binary_instr op.Remu rd a b = rv.Remu rd a b
binary_instr op.And rd a b = rv.And rd a b
binary_instr op.Or rd a b = rv.Or rd a b
binary_instr op.Xor rd a b = rv.Xor rd a b
binary_instr op.Sll rd a b = rv.Sll rd a b
binary_instr op.Srl rd a b = rv.Srl rd a b
binary_instr op.Sra rd a b = rv.Sra rd a b
binary_instr op.Eq rd a b = rv.Sub rd a b
binary_instr op.Ne rd a b = rv.Sub rd a b
binary_instr op.Slt rd a b = rv.Slt rd a b
binary_instr op.Sltu rd a b = rv.Sltu rd a b

-- the test of the difference
abbrev pub binary_rest : Op2 → (rd : ℕ) → List Instr
binary_rest op.Eq rd = rv.Sltiu rd rd 1 ∷ []
binary_rest op.Ne rd = rv.Sltu rd x0 rd ∷ []
binary_rest _ rd = []

abbrev pub binary_code : Op2 → (rd left right : ℕ) → List Instr
binary_code o rd a b = binary_instr o rd a b ∷ binary_rest o rd

abbrev pub unary_code : Op1 → (rd input : ℕ) → List Instr
unary_code Sext8 rd a = rv.Slli rd a 24 ∷ rv.Srai rd rd 24 ∷ []
unary_code Zext8 rd a = rv.Andi rd a 255 ∷ []
unary_code Sext16 rd a = rv.Slli rd a 16 ∷ rv.Srai rd rd 16 ∷ []
unary_code Zext16 rd a = rv.Slli rd a 16 ∷ rv.Srli rd rd 16 ∷ []

abbrev pub load_instr : (width rd address : ℕ) → Instr
load_instr width rd a = if width == 1 then rv.Lbu rd a 0 else if width == 2 then rv.Lhu rd a 0 else rv.Lw rd a 0

abbrev pub store_instr : (width address value : ℕ) → Instr
store_instr width a v = if width == 1 then rv.Sb a v 0 else if width == 2 then rv.Sh a v 0 else rv.Sw a v 0

-- an instruction of two operands, of one, and of none, with its result to a location
abbrev pub with_two : Location → Location → Location → (code : ℕ → ℕ → ℕ → List Instr) → List Instr
with_two t a b code = load_in t0 a ++ load_in t1 b ++ code (out_of t) (in_of a t0) (in_of b t1) ++ store_out t

abbrev pub with_one : Location → Location → (code : ℕ → ℕ → List Instr) → List Instr
with_one t a code = load_in t0 a ++ code (out_of t) (in_of a t0) ++ store_out t

abbrev pub with_none : Location → (code : ℕ → List Instr) → List Instr
with_none t code = code (out_of t) ++ store_out t

abbrev pub move_code : (to from : Location) → List Instr
move_code (Register r) from = get r from
move_code to from = load_in t0 from ++ put to (in_of from t0)

-- a move from a place to itself is no instruction
abbrev pub move_between : (temporaries to from : ℕ) → List Instr
move_between t p q = if p == q then [] else move_code (location_of t p) (location_of t q)

-- zeros in each word of an object at an offset from the stack pointer
abbrev pub clear_code : (offset size : ℕ) → List Instr
clear_code offset size =
    load_immediate t0 offset
    ++ rv.Add t0 t0 sp
    ∷ load_immediate t1 ((size + 3) / 4 * 4)
    ++ rv.Add t1 t1 t0
    ∷ rv.Sw t0 x0 0
    ∷ rv.Addi t0 t0 4
    ∷ rv.Bltu t0 t1 (negative 8)
    ∷ []

-- the size of object k, and 0 where there is none
abbrev pub size_of : List PlainObject → (k : ℕ) → ℕ
size_of objects k = slice_index (map (λ (o : PlainObject). o.size) objects) k

abbrev pub instr_items : PlainPlaces → List PlainObject → linear.Instr → List Item
instr_items p os (linear.const t w) = words (with_none (place_of p t) (λ rd. load_immediate rd w))
instr_items p os (linear.undef t) = []
instr_items p os (linear.object_address t k) =
    words (with_none (place_of p t) (λ rd. load_immediate t0 (object_at p.count os k) ++ rv.Add rd t0 sp ∷ []))
instr_items p os (linear.global_address t k) = Address (out_of (place_of p t)) k ∷ words (store_out (place_of p t))
instr_items p os (linear.binary o t a b) = words (with_two (place_of p t) (place_of p a) (place_of p b) (binary_code o))
instr_items p os (linear.unary o t a) = words (with_one (place_of p t) (place_of p a) (unary_code o))
instr_items p os (linear.load width t a) = words (with_one (place_of p t) (place_of p a) (λ rd r. load_instr width rd r ∷ []))
instr_items p os (linear.store width a v) =
    words (load_in t0 (place_of p a) ++ load_in t1 (place_of p v) ++ store_instr width (in_of (place_of p a) t0) (in_of (place_of p v) t1) ∷ [])
instr_items p os (linear.clear k) = words (clear_code (object_at p.count os k) (size_of os k))
instr_items p os (linear.equal_pointers t a b) = words (with_two (place_of p t) (place_of p a) (place_of p b) (binary_code op.Eq))
instr_items p os (linear.move t a) = words (move_between p.temporaries (slice_index p.of t) (slice_index p.of a))
instr_items p os (linear.call f t xs) = words (get_arguments p a0 xs) ++ Call f ∷ words (put (place_of p t) a0)
instr_items p os (linear.put a) = words (get a0 (place_of p a)) ++ Stub 0 ∷ []
instr_items p os (linear.get t) = Stub 1 ∷ words (put (place_of p t) a0)
instr_items p os (linear.exit a) = words (get a0 (place_of p a) ++ rv.Addi a7 x0 exit_call ∷ rv.Ecall ∷ [])

-- ---- lines

-- Goes to a label unless the next branch, over the jump, is taken; it reads the predicate from a register.
abbrev pub branch_items : (predicate : Location) → (over : ℕ → List Instr) → (label : ℕ) → List Item
branch_items p over l = words (load_in t0 p ++ over (in_of p t0)) ++ Jump l ∷ []

abbrev pub line_items : PlainPlaces → List PlainObject → Line → List Item
line_items p os (enter xs) = words (take_frame (frame_size p.count os) (saved_of p.count) ++ put_params p a0 xs)
line_items p os (leave v) = words (get a0 (place_of p v) ++ give_frame (frame_size p.count os) (saved_of p.count))
line_items p os (done i) = instr_items p os i
line_items p os (branch_not_zero x l) = branch_items (place_of p x) (λ r. rv.Beq r x0 8 ∷ []) l
line_items p os (branch_zero x l) = branch_items (place_of p x) (λ r. rv.Bne r x0 8 ∷ []) l
line_items p os (branch_equal x n l) = branch_items (place_of p x) (λ r. load_immediate t1 n ++ rv.Bne r t1 8 ∷ []) l
line_items p os (jump l) = Jump l ∷ []
line_items p os (label l) = Mark l ∷ []

-- the items of a function with these places and memory objects
abbrev pub items_of : PlainPlaces → List PlainObject → List Line → List Item
items_of p os lines = flat_map (line_items p os) lines
