-- The bytes of templates, with far words everywhere.
use Rattle.std.proofs.Common.{◌≡◌, ℕ, zero, suc, ◌+◌, ◌*◌, ◌/◌, ◌%◌, ◌^◌, ◌≤◌, ◌==◌, refl, Bool, true, false, List, [], ◌∷◌, ◌++◌, if◌then◌else◌, length, slice_index, arith}
use Rattle.std.proofs.lemmas.List.{length-append}
use Rattle.std.proofs.lemmas.List.Sums.{sum_by-cons, sum_by-append}
use Rattle.std.specs.Prelude.{nat_lt}
use Rattle.val_core.specs.declared.operation.Op1.{Op1}
use Rattle.val_core.specs.declared.operation.Op1.TheVariants.{Sext8, Zext8, Sext16, Zext16}
use Rattle.val_core.specs.declared.operation.Op2.{Op2}
use Rattle.val_core.specs.declared.operation.Op2.TheVariants as op
use Rattle.rv_isa.specs.Calls.{exit_call}
use Rattle.rv_isa.specs.Registers.{x0, ra, sp, t0, t1, s0, a0, a7}
use Rattle.rv_isa.specs.WordParts.{upper_part, low_part}
use Rattle.rv_isa.specs.declared.instruction.Instr.{Instr}
use Rattle.rv_isa.specs.declared.instruction.Instr.TheVariants as rv
use Rattle.g_graph.specs.Plain.{PlainObject}
use Rattle.s_linear.specs.Frame.{PlainPlaces, saved_of, object_at, frame_size}
use Rattle.s_linear.specs.Linear as linear
use Rattle.s_linear.specs.Lines.{enter, leave, done, branch_not_zero, branch_zero, branch_equal, jump, label}
use Rattle.rv_layout.specs.declared.item.Item.{Item}
use Rattle.rv_layout.specs.declared.item.Item.TheVariants.{Word, Jump, Call, Stub, Address}
use Rattle.rv_layout.specs.Items.{item_size, items_size}
use Rattle.s_select.specs.declared.location.Location.{Location}
use Rattle.s_select.specs.declared.location.Location.TheVariants.{Register, Near, Far}
use Rattle.s_select.specs.Operands.{negative, place_register, location_of, load_immediate, get, put, in_of, load_in, out_of, store_out}
use Rattle.s_select.specs.Templates as t
use Rattle.s_select.specs.Templates.{words, place_of}
use Rattle.cc_emit.specs.Sizes.{instr_bytes, LinesAreShort}

size-words : (code : List Instr) → items_size (words code) ≡ 4 * length code
size-words [] = refl
size-words (i ∷ is) = omega (arith, sum_by-cons item_size (Word i) (words is), size-words is)

-- code of at most n instructions
words_short : (code : List Instr) (n : ℕ) → length code ≤ n → items_size (words code) ≤ 4 * n
words_short code n h = omega (arith, size-words code)

-- ---- operands

chosen : (b : Bool) (i j k : Instr) → length (if b then i ∷ [] else j ∷ k ∷ []) ≤ 2
chosen true i j k = omega arith
chosen false i j k = omega arith

immediate : (rd v : ℕ) → length (load_immediate rd v) ≤ 2
immediate rd v = chosen (nat_lt ((v + 2048) % 2 ^ 32) 4096) (rv.Addi rd x0 v) (rv.Lui rd (upper_part v)) (rv.Addi rd rd (low_part v))

got : (rd : ℕ) (l : Location) → length (get rd l) ≤ 3
got rd (Register r) = omega arith
got rd (Near o) = omega arith
got rd (Far o) = omega arith

stored : (l : Location) (rs : ℕ) → length (put l rs) ≤ 3
stored (Register r) rs = omega arith
stored (Near o) rs = omega arith
stored (Far o) rs = omega arith

loaded : (scratch : ℕ) (l : Location) → length (load_in scratch l) ≤ 3
loaded scratch (Register r) = omega arith
loaded scratch (Near o) = omega arith
loaded scratch (Far o) = omega arith

flushed : (l : Location) → length (store_out l) ≤ 3
flushed (Register r) = omega arith
flushed (Near o) = omega arith
flushed (Far o) = omega arith

both : (xs ys : List Instr) (m n : ℕ) → length xs ≤ m → length ys ≤ n → length (xs ++ ys) ≤ m + n
both xs ys m n a b = omega (arith, length-append xs ys)

-- ---- operations

binary_short : (o : Op2) (rd a b : ℕ) → length (t.binary_code o rd a b) ≤ 2
binary_short op.Add rd a b = omega arith
binary_short op.Sub rd a b = omega arith
binary_short op.Mul rd a b = omega arith
binary_short op.Div rd a b = omega arith
binary_short op.Rem rd a b = omega arith
binary_short op.Divu rd a b = omega arith
binary_short op.Remu rd a b = omega arith
binary_short op.And rd a b = omega arith
binary_short op.Or rd a b = omega arith
binary_short op.Xor rd a b = omega arith
binary_short op.Sll rd a b = omega arith
binary_short op.Srl rd a b = omega arith
binary_short op.Sra rd a b = omega arith
binary_short op.Eq rd a b = omega arith
binary_short op.Ne rd a b = omega arith
binary_short op.Slt rd a b = omega arith
binary_short op.Sltu rd a b = omega arith

unary_short : (o : Op1) (rd a : ℕ) → length (t.unary_code o rd a) ≤ 2
unary_short Sext8 rd a = omega arith
unary_short Zext8 rd a = omega arith
unary_short Sext16 rd a = omega arith
unary_short Zext16 rd a = omega arith

two_short : (l a b : Location) (code : ℕ → ℕ → ℕ → List Instr) → ((rd x y : ℕ) → length (code rd x y) ≤ 2) → length (t.with_two l a b code) ≤ 11
two_short l a b code h =
    both (load_in t0 a ++ load_in t1 b ++ code (out_of l) (in_of a t0) (in_of b t1)) (store_out l) 8 3
    (both (load_in t0 a ++ load_in t1 b) (code (out_of l) (in_of a t0) (in_of b t1)) 6 2 (both (load_in t0 a) (load_in t1 b) 3 3 (loaded t0 a) (loaded t1 b)) (h _ _ _))
    (flushed l)

one_short : (l a : Location) (code : ℕ → ℕ → List Instr) (n : ℕ) → ((rd x : ℕ) → length (code rd x) ≤ n) → length (t.with_one l a code) ≤ 3 + n + 3
one_short l a code n h =
    both (load_in t0 a ++ code (out_of l) (in_of a t0)) (store_out l) (3 + n) 3 (both (load_in t0 a) (code (out_of l) (in_of a t0)) 3 n (loaded t0 a) (h _ _)) (flushed l)

none_short : (l : Location) (code : ℕ → List Instr) (n : ℕ) → ((rd : ℕ) → length (code rd) ≤ n) → length (t.with_none l code) ≤ n + 3
none_short l code n h = both (code (out_of l)) (store_out l) n 3 (h _) (flushed l)

move_short : (to from : Location) → length (t.move_code to from) ≤ 6
move_short (Register r) from = omega (arith, got r from)
move_short (Near o) from = both (load_in t0 from) (put (Near o) (in_of from t0)) 3 3 (loaded t0 from) (stored (Near o) (in_of from t0))
move_short (Far o) from = both (load_in t0 from) (put (Far o) (in_of from t0)) 3 3 (loaded t0 from) (stored (Far o) (in_of from t0))

moves_short : (n p q : ℕ) → length (t.move_between n p q) ≤ 6
moves_short n p q =
    elim (p == q) as (λ b. length (if b then [] else t.move_code (location_of n p) (location_of n q)) ≤ 6) [
      | true ↦ omega arith
      | false ↦ move_short (location_of n p) (location_of n q)
    ]

arguments_short : (p : PlainPlaces) (r : ℕ) (xs : List ℕ) → length (t.get_arguments p r xs) ≤ 3 * length xs
arguments_short p r [] = omega arith
arguments_short p r (x ∷ xs) =
    omega (arith, length-append (get r (place_of p x)) (t.get_arguments p (suc r) xs), got r (place_of p x), arguments_short p (suc r) xs)

params_short : (p : PlainPlaces) (r : ℕ) (xs : List ℕ) → length (t.put_params p r xs) ≤ 3 * length xs
params_short p r [] = omega arith
params_short p r (x ∷ xs) =
    omega (arith, length-append (put (place_of p x) r) (t.put_params p (suc r) xs), stored (place_of p x) r, params_short p (suc r) xs)

saves_short : (n : ℕ) → length (t.save_places n) ≤ n
saves_short zero = omega arith
saves_short (suc n) = omega (arith, length-append (t.save_places n) (rv.Sw t1 (place_register n) (negative (8 + 4 * n)) ∷ []), saves_short n)

restores_short : (n : ℕ) → length (t.restore_places n) ≤ n
restores_short zero = omega arith
restores_short (suc n) = omega (arith, length-append (t.restore_places n) (rv.Lw (place_register n) t1 (negative (8 + 4 * n)) ∷ []), restores_short n)

clear_short : (offset size : ℕ) → length (t.clear_code offset size) ≤ 9
clear_short offset size =
    let words_size = (size + 3) / 4 * 4 in
    both (load_immediate t0 offset ++ rv.Add t0 t0 sp ∷ load_immediate t1 words_size)
    (rv.Add t1 t1 t0 ∷ rv.Sw t0 x0 0 ∷ rv.Addi t0 t0 4 ∷ rv.Bltu t0 t1 (negative 8) ∷ []) 5 4
    (both (load_immediate t0 offset) (rv.Add t0 t0 sp ∷ load_immediate t1 words_size) 2 3 (immediate t0 offset) (omega (arith, immediate t1 words_size)))
    (omega arith)

saved_few : (s : ℕ) → saved_of s ≤ 11
saved_few s = omega arith

take_short : (size s : ℕ) → length (t.take_frame size (saved_of s)) ≤ 2 + 17
take_short size s =
    both (load_immediate t0 size)
    (rv.Sub t1 sp s0 ∷ rv.Bgeu t1 t0 8 ∷ rv.Ebreak ∷ rv.Sub sp sp t0 ∷ rv.Add t1 sp t0 ∷ rv.Sw t1 ra (negative 4) ∷ t.save_places (saved_of s)) 2 17 (immediate t0 size)
    (omega (arith, saves_short (saved_of s), saved_few s))

give_short : (size s : ℕ) → length (t.give_frame size (saved_of s)) ≤ 2 + 12 + 3
give_short size s =
    both (load_immediate t0 size ++ rv.Add t1 sp t0 ∷ t.restore_places (saved_of s)) (rv.Lw ra t1 (negative 4) ∷ rv.Addi sp t1 0 ∷ rv.Jalr x0 ra 0 ∷ []) 14 3
    (both (load_immediate t0 size) (rv.Add t1 sp t0 ∷ t.restore_places (saved_of s)) 2 12 (immediate t0 size) (omega (arith, restores_short (saved_of s), saved_few s)))
    (omega arith)

-- ---- items

size-append : (xs ys : List Item) → items_size (xs ++ ys) ≡ items_size xs + items_size ys
size-append xs ys = sum_by-append item_size xs ys

size-cons : (i : Item) (is : List Item) → items_size (i ∷ is) ≡ item_size i + items_size is
size-cons i is = sum_by-cons item_size i is

instr_short : (p : PlainPlaces) (os : List PlainObject) (i : linear.Instr) → items_size (t.instr_items p os i) ≤ instr_bytes i
instr_short p os (linear.const x w) = words_short (t.with_none (place_of p x) (λ rd. load_immediate rd w)) 5
    (none_short (place_of p x) (λ rd. load_immediate rd w) 2 (λ rd. immediate rd w))
instr_short p os (linear.undef x) = omega arith
instr_short p os (linear.object_address x n) =
    words_short (t.with_none (place_of p x) (λ rd. load_immediate t0 (object_at p.count os n) ++ rv.Add rd t0 sp ∷ [])) 6
    (none_short (place_of p x) (λ rd. load_immediate t0 (object_at p.count os n) ++ rv.Add rd t0 sp ∷ []) 3
    (λ rd. both (load_immediate t0 (object_at p.count os n)) (rv.Add rd t0 sp ∷ []) 2 1 (immediate t0 (object_at p.count os n)) (omega arith)))
instr_short p os (linear.global_address x n) =
    omega (arith, size-cons (Address (out_of (place_of p x)) n) (words (store_out (place_of p x))), words_short (store_out (place_of p x)) 3 (flushed (place_of p x)))
instr_short p os (linear.binary o x a b) =
    words_short (t.with_two (place_of p x) (place_of p a) (place_of p b) (t.binary_code o)) 11
    (two_short (place_of p x) (place_of p a) (place_of p b) (t.binary_code o) (binary_short o))
instr_short p os (linear.unary o x a) = words_short (t.with_one (place_of p x) (place_of p a) (t.unary_code o)) 8
    (one_short (place_of p x) (place_of p a) (t.unary_code o) 2 (unary_short o))
instr_short p os (linear.load width x a) =
    words_short (t.with_one (place_of p x) (place_of p a) (λ rd r. t.load_instr width rd r ∷ [])) 7
    (one_short (place_of p x) (place_of p a) (λ rd r. t.load_instr width rd r ∷ []) 1 (λ rd r. omega arith))
instr_short p os (linear.store width a v) =
    words_short (load_in t0 (place_of p a) ++ load_in t1 (place_of p v) ++ t.store_instr width (in_of (place_of p a) t0) (in_of (place_of p v) t1) ∷ []) 7
    (both (load_in t0 (place_of p a) ++ load_in t1 (place_of p v)) (t.store_instr width (in_of (place_of p a) t0) (in_of (place_of p v) t1) ∷ []) 6 1
    (both (load_in t0 (place_of p a)) (load_in t1 (place_of p v)) 3 3 (loaded t0 (place_of p a)) (loaded t1 (place_of p v))) (omega arith))
instr_short p os (linear.clear n) = words_short (t.clear_code (object_at p.count os n) (t.size_of os n)) 9 (clear_short (object_at p.count os n) (t.size_of os n))
instr_short p os (linear.equal_pointers x a b) =
    words_short (t.with_two (place_of p x) (place_of p a) (place_of p b) (t.binary_code op.Eq)) 11
    (two_short (place_of p x) (place_of p a) (place_of p b) (t.binary_code op.Eq) (binary_short op.Eq))
instr_short p os (linear.move x a) =
    words_short (t.move_between p.temporaries (slice_index p.of x) (slice_index p.of a)) 6 (moves_short p.temporaries (slice_index p.of x) (slice_index p.of a))
instr_short p os (linear.call f x xs) =
    omega (
      arith,
      size-append (words (t.get_arguments p a0 xs)) (Call f ∷ words (put (place_of p x) a0)),
      size-words (t.get_arguments p a0 xs),
      arguments_short p a0 xs,
      size-cons (Call f) (words (put (place_of p x) a0)),
      words_short (put (place_of p x) a0) 3 (stored (place_of p x) a0),
    )
instr_short p os (linear.put a) =
    omega (arith, size-append (words (get a0 (place_of p a))) (Stub 0 ∷ []), words_short (get a0 (place_of p a)) 3 (got a0 (place_of p a)))
instr_short p os (linear.get x) =
    omega (arith, size-cons (Stub 1) (words (put (place_of p x) a0)), words_short (put (place_of p x) a0) 3 (stored (place_of p x) a0))
instr_short p os (linear.exit a) =
    words_short (get a0 (place_of p a) ++ rv.Addi a7 x0 exit_call ∷ rv.Ecall ∷ []) 5
    (both (get a0 (place_of p a)) (rv.Addi a7 x0 exit_call ∷ rv.Ecall ∷ []) 3 2 (got a0 (place_of p a)) (omega arith))

-- over a branch, and then the jump
branch_short : (l : Location) (over : List Instr) (n k : ℕ) → length over ≤ n → items_size (words (load_in t0 l ++ over) ++ Jump k ∷ []) ≤ 4 * (3 + n + 1)
branch_short l over n k h =
    omega (arith, size-append (words (load_in t0 l ++ over)) (Jump k ∷ []), words_short (load_in t0 l ++ over) (3 + n) (both (load_in t0 l) over 3 n (loaded t0 l) h))

pub lines_are_short : LinesAreShort
lines_are_short p os (enter xs) =
    words_short (t.take_frame (frame_size p.count os) (saved_of p.count) ++ t.put_params p a0 xs) (19 + 3 * length xs)
    (both (t.take_frame (frame_size p.count os) (saved_of p.count)) (t.put_params p a0 xs) 19 (3 * length xs) (take_short (frame_size p.count os) p.count)
    (params_short p a0 xs))
lines_are_short p os (leave v) =
    words_short (get a0 (place_of p v) ++ t.give_frame (frame_size p.count os) (saved_of p.count)) 20
    (both (get a0 (place_of p v)) (t.give_frame (frame_size p.count os) (saved_of p.count)) 3 17 (got a0 (place_of p v)) (give_short (frame_size p.count os) p.count))
lines_are_short p os (done i) = instr_short p os i
lines_are_short p os (branch_not_zero x l) = branch_short (place_of p x) (rv.Beq (in_of (place_of p x) t0) x0 8 ∷ []) 1 l (omega arith)
lines_are_short p os (branch_zero x l) = branch_short (place_of p x) (rv.Bne (in_of (place_of p x) t0) x0 8 ∷ []) 1 l (omega arith)
lines_are_short p os (branch_equal x n l) =
    branch_short (place_of p x) (load_immediate t1 n ++ rv.Bne (in_of (place_of p x) t0) t1 8 ∷ []) 3 l
    (both (load_immediate t1 n) (rv.Bne (in_of (place_of p x) t0) t1 8 ∷ []) 2 1 (immediate t1 n) (omega arith))
lines_are_short p os (jump l) = omega arith
lines_are_short p os (label l) = omega arith
