-- The bytes of templates.
use Rattle.std.proofs.Common.{◌≡◌, ℕ, zero, suc, ◌+◌, ◌*◌, ◌/◌, ◌%◌, ◌^◌, ◌==◌, refl, Bool, true, false, List, [], ◌∷◌, ◌++◌, if◌then◌else◌, length, slice_index, arith}
use Rattle.std.proofs.lemmas.List.{length-append}
use Rattle.std.proofs.lemmas.List.Sums.{sum_by-cons, sum_by-append}
use Rattle.std.specs.Prelude.{nat_lt}
use Rattle.val_core.specs.declared.operation.Op1.{Op1}
use Rattle.val_core.specs.declared.operation.Op1.TheVariants.{Sext8, Zext8, Sext16, Zext16}
use Rattle.val_core.specs.declared.operation.Op2.{Op2}
use Rattle.val_core.specs.declared.operation.Op2.TheVariants as op
use Rattle.rv_isa.specs.Calls.{exit_call}
use Rattle.rv_isa.specs.Registers.{x0, ra, sp, t0, t1, s0, a0, a7}
use Rattle.rv_isa.specs.WordParts.{upper_part, low_part}
use Rattle.rv_isa.specs.declared.instruction.Instr.{Instr}
use Rattle.rv_isa.specs.declared.instruction.Instr.TheVariants as rv
use Rattle.g_graph.specs.Plain.{PlainObject}
use Rattle.s_linear.specs.Frame.{PlainPlaces, saved_of, object_at, frame_size}
use Rattle.s_linear.specs.Linear as linear
use Rattle.s_linear.specs.Lines.{Line, enter, leave, done, branch_not_zero, branch_zero, branch_equal, jump, label}
use Rattle.rv_layout.specs.declared.item.Item.{Item}
use Rattle.rv_layout.specs.declared.item.Item.TheVariants.{Word, Jump, Call, Stub, Address}
use Rattle.rv_layout.specs.Items.{item_size, items_size}
use Rattle.s_select.specs.declared.location.Location.{Location}
use Rattle.s_select.specs.declared.location.Location.TheVariants.{Register, Near, Far}
use Rattle.s_select.specs.Operands.{negative, place_register, location_of, load_immediate, get, put, in_of, load_in, out_of, store_out}
use Rattle.s_select.specs.Templates as t
use Rattle.s_select.specs.Templates.{words, place_of, size_of, instr_items, line_items}
use Rattle.s_select.specs.Sizes.{immediate, operand, copy, move_count, binary_count, unary_count, copies, instr_count, line_count}

words_bytes : (code : List Instr) → items_size (words code) ≡ 4 * length code
words_bytes [] = refl
words_bytes (i ∷ is) = omega (arith, sum_by-cons item_size (Word i) (words is), words_bytes is)

-- code of n instructions
words_of : (code : List Instr) (n : ℕ) → length code ≡ n → items_size (words code) ≡ 4 * n
words_of code n h = omega (arith, words_bytes code)

-- ---- operands

chosen : (b : Bool) (i j k : Instr) → length (if b then i ∷ [] else j ∷ k ∷ []) ≡ (if b then 1 else 2)
chosen true i j k = refl
chosen false i j k = refl

loads : (rd v : ℕ) → length (load_immediate rd v) ≡ immediate v
loads rd v = chosen (nat_lt ((v + 2048) % 2 ^ 32) 4096) (rv.Addi rd x0 v) (rv.Lui rd (upper_part v)) (rv.Addi rd rd (low_part v))

gets : (rd : ℕ) (l : Location) → length (get rd l) ≡ copy l
gets rd (Register r) = refl
gets rd (Near o) = refl
gets rd (Far o) = refl

puts : (l : Location) (rs : ℕ) → length (put l rs) ≡ copy l
puts (Register r) rs = refl
puts (Near o) rs = refl
puts (Far o) rs = refl

loads_in : (scratch : ℕ) (l : Location) → length (load_in scratch l) ≡ operand l
loads_in scratch (Register r) = refl
loads_in scratch (Near o) = refl
loads_in scratch (Far o) = refl

stores_out : (l : Location) → length (store_out l) ≡ operand l
stores_out (Register r) = refl
stores_out (Near o) = refl
stores_out (Far o) = refl

moves : (to from : Location) → length (t.move_code to from) ≡ move_count to from
moves (Register r) from = gets r from
moves (Near o) from = omega (arith, length-append (load_in t0 from) (put (Near o) (in_of from t0)), loads_in t0 from)
moves (Far o) from = omega (arith, length-append (load_in t0 from) (put (Far o) (in_of from t0)), loads_in t0 from)

-- from a place to another, or to itself
moves_between : (n p q : ℕ) → length (t.move_between n p q) ≡ (if p == q then 0 else move_count (location_of n p) (location_of n q))
moves_between n p q =
    elim (p == q) as (λ b. length (if b then [] else t.move_code (location_of n p) (location_of n q)) ≡ (if b then 0 else move_count (location_of n p) (location_of n q))) [
      | true ↦ refl
      | false ↦ moves (location_of n p) (location_of n q)
    ]

-- ---- instructions with operands

with_none : (l : Location) (code : ℕ → List Instr) (n : ℕ) → length (code (out_of l)) ≡ n → length (t.with_none l code) ≡ n + operand l
with_none l code n h = omega (arith, length-append (code (out_of l)) (store_out l), stores_out l)

with_one : (l a : Location) (code : ℕ → ℕ → List Instr) (n : ℕ) → length (code (out_of l) (in_of a t0)) ≡ n
    → length (t.with_one l a code) ≡ operand a + n + operand l
with_one l a code n h =
    omega
    (arith, length-append (load_in t0 a ++ code (out_of l) (in_of a t0)) (store_out l), length-append (load_in t0 a) (code (out_of l) (in_of a t0)), loads_in t0 a, stores_out l)

with_two : (l a b : Location) (code : ℕ → ℕ → ℕ → List Instr) (n : ℕ) → length (code (out_of l) (in_of a t0) (in_of b t1)) ≡ n
    → length (t.with_two l a b code) ≡ operand a + operand b + n + operand l
with_two l a b code n h =
    omega (
      arith,
      length-append (load_in t0 a ++ load_in t1 b ++ code (out_of l) (in_of a t0) (in_of b t1)) (store_out l),
      length-append (load_in t0 a ++ load_in t1 b) (code (out_of l) (in_of a t0) (in_of b t1)),
      length-append (load_in t0 a) (load_in t1 b),
      loads_in t0 a,
      loads_in t1 b,
      stores_out l,
    )

binary : (o : Op2) (rd a b : ℕ) → length (t.binary_code o rd a b) ≡ binary_count o
binary op.Add rd a b = refl
binary op.Sub rd a b = refl
binary op.Mul rd a b = refl
binary op.Div rd a b = refl
binary op.Rem rd a b = refl
binary op.Divu rd a b = refl
binary op.Remu rd a b = refl
binary op.And rd a b = refl
binary op.Or rd a b = refl
binary op.Xor rd a b = refl
binary op.Sll rd a b = refl
binary op.Srl rd a b = refl
binary op.Sra rd a b = refl
binary op.Eq rd a b = refl
binary op.Ne rd a b = refl
binary op.Slt rd a b = refl
binary op.Sltu rd a b = refl

unary : (o : Op1) (rd a : ℕ) → length (t.unary_code o rd a) ≡ unary_count o
unary Sext8 rd a = refl
unary Zext8 rd a = refl
unary Sext16 rd a = refl
unary Zext16 rd a = refl

arguments : (p : PlainPlaces) (r : ℕ) (xs : List ℕ) → length (t.get_arguments p r xs) ≡ copies p xs
arguments p r [] = refl
arguments p r (x ∷ xs) =
    omega
    (arith, length-append (get r (place_of p x)) (t.get_arguments p (suc r) xs), gets r (place_of p x), arguments p (suc r) xs, sum_by-cons (λ y. copy (place_of p y)) x xs)

params : (p : PlainPlaces) (r : ℕ) (xs : List ℕ) → length (t.put_params p r xs) ≡ copies p xs
params p r [] = refl
params p r (x ∷ xs) =
    omega
    (arith, length-append (put (place_of p x) r) (t.put_params p (suc r) xs), puts (place_of p x) r, params p (suc r) xs, sum_by-cons (λ y. copy (place_of p y)) x xs)

saves : (n : ℕ) → length (t.save_places n) ≡ n
saves zero = refl
saves (suc n) = omega (arith, length-append (t.save_places n) (rv.Sw t1 (place_register n) (negative (8 + 4 * n)) ∷ []), saves n)

restores : (n : ℕ) → length (t.restore_places n) ≡ n
restores zero = refl
restores (suc n) = omega (arith, length-append (t.restore_places n) (rv.Lw (place_register n) t1 (negative (8 + 4 * n)) ∷ []), restores n)

takes_frame : (size saved : ℕ) → length (t.take_frame size saved) ≡ immediate size + 6 + saved
takes_frame size saved =
    omega
    (arith, length-append (load_immediate t0 size) (rv.Sub t1 sp s0 ∷ rv.Bgeu t1 t0 8 ∷ rv.Ebreak ∷ rv.Sub sp sp t0 ∷ rv.Add t1 sp t0 ∷ rv.Sw t1 ra (negative 4) ∷ t.save_places saved), loads t0 size, saves saved)

gives_frame : (size saved : ℕ) → length (t.give_frame size saved) ≡ immediate size + 4 + saved
gives_frame size saved =
    omega (
      arith,
      length-append (load_immediate t0 size ++ rv.Add t1 sp t0 ∷ t.restore_places saved) (rv.Lw ra t1 (negative 4) ∷ rv.Addi sp t1 0 ∷ rv.Jalr x0 ra 0 ∷ []),
      length-append (load_immediate t0 size) (rv.Add t1 sp t0 ∷ t.restore_places saved),
      loads t0 size,
      restores saved,
    )

clears : (offset size : ℕ) → length (t.clear_code offset size) ≡ immediate offset + immediate ((size + 3) / 4 * 4) + 5
clears offset size =
    omega (
      arith,
      length-append (load_immediate t0 offset ++ rv.Add t0 t0 sp ∷ load_immediate t1 ((size + 3) / 4 * 4))
          (rv.Add t1 t1 t0 ∷ rv.Sw t0 x0 0 ∷ rv.Addi t0 t0 4 ∷ rv.Bltu t0 t1 (negative 8) ∷ []),
      length-append (load_immediate t0 offset) (rv.Add t0 t0 sp ∷ load_immediate t1 ((size + 3) / 4 * 4)),
      loads t0 offset,
      loads t1 ((size + 3) / 4 * 4),
    )

-- ---- items

size-append : (xs ys : List Item) → items_size (xs ++ ys) ≡ items_size xs + items_size ys
size-append xs ys = sum_by-append item_size xs ys

instr_bytes : (p : PlainPlaces) (os : List PlainObject) (i : linear.Instr) → items_size (instr_items p os i) ≡ 4 * instr_count p os i
instr_bytes p os (linear.const l w) =
    words_of (t.with_none (place_of p l) (λ rd. load_immediate rd w)) _ (with_none (place_of p l) (λ rd. load_immediate rd w) _ (loads (out_of (place_of p l)) w))
instr_bytes p os (linear.undef l) = refl
instr_bytes p os (linear.object_address l k) =
    let offset = object_at p.count os k in
    let code = λ (rd : ℕ). load_immediate t0 offset ++ rv.Add rd t0 sp ∷ [] in
    let rd = out_of (place_of p l) in
    words_of (t.with_none (place_of p l) code) _
    (with_none (place_of p l) code (immediate offset + 1) (omega (arith, length-append (load_immediate t0 offset) (rv.Add rd t0 sp ∷ []), loads t0 offset)))
instr_bytes p os (linear.global_address l k) =
    omega (arith, sum_by-cons item_size (Address (out_of (place_of p l)) k) (words (store_out (place_of p l))), words_bytes (store_out (place_of p l)), stores_out (place_of p l))
instr_bytes p os (linear.binary o l a b) =
    words_of (t.with_two (place_of p l) (place_of p a) (place_of p b) (t.binary_code o)) _
    (with_two (place_of p l) (place_of p a) (place_of p b) (t.binary_code o) _ (binary o (out_of (place_of p l)) (in_of (place_of p a) t0) (in_of (place_of p b) t1)))
instr_bytes p os (linear.unary o l a) =
    words_of (t.with_one (place_of p l) (place_of p a) (t.unary_code o)) _
    (with_one (place_of p l) (place_of p a) (t.unary_code o) _ (unary o (out_of (place_of p l)) (in_of (place_of p a) t0)))
instr_bytes p os (linear.load width l a) =
    let code = λ (rd r : ℕ). t.load_instr width rd r ∷ [] in
    words_of (t.with_one (place_of p l) (place_of p a) code) _ (with_one (place_of p l) (place_of p a) code 1 refl)
instr_bytes p os (linear.store width a v) =
    let last = t.store_instr width (in_of (place_of p a) t0) (in_of (place_of p v) t1) ∷ [] in
    words_of (load_in t0 (place_of p a) ++ load_in t1 (place_of p v) ++ last) _
    (omega (arith, length-append (load_in t0 (place_of p a) ++ load_in t1 (place_of p v)) last, length-append (load_in t0 (place_of p a)) (load_in t1 (place_of p v)), loads_in t0 (place_of p a), loads_in t1 (place_of p v)))
instr_bytes p os (linear.clear k) = words_of (t.clear_code (object_at p.count os k) (size_of os k)) _ (clears (object_at p.count os k) (size_of os k))
instr_bytes p os (linear.equal_pointers l a b) =
    words_of (t.with_two (place_of p l) (place_of p a) (place_of p b) (t.binary_code op.Eq)) _
    (with_two (place_of p l) (place_of p a) (place_of p b) (t.binary_code op.Eq) 2 refl)
instr_bytes p os (linear.move l a) =
    words_of (t.move_between p.temporaries (slice_index p.of l) (slice_index p.of a)) _ (moves_between p.temporaries (slice_index p.of l) (slice_index p.of a))
instr_bytes p os (linear.call f l xs) =
    omega
    (arith, size-append (words (t.get_arguments p a0 xs)) (Call f ∷ words (put (place_of p l) a0)), sum_by-cons item_size (Call f) (words (put (place_of p l) a0)), words_bytes (t.get_arguments p a0 xs), words_bytes (put (place_of p l) a0), arguments p a0 xs, puts (place_of p l) a0)
instr_bytes p os (linear.put a) =
    omega (arith, size-append (words (get a0 (place_of p a))) (Stub 0 ∷ []), sum_by-cons item_size (Stub 0) [], words_bytes (get a0 (place_of p a)), gets a0 (place_of p a))
instr_bytes p os (linear.get l) =
    omega (arith, sum_by-cons item_size (Stub 1) (words (put (place_of p l) a0)), words_bytes (put (place_of p l) a0), puts (place_of p l) a0)
instr_bytes p os (linear.exit a) =
    let last = rv.Addi a7 x0 exit_call ∷ rv.Ecall ∷ [] in
    words_of (get a0 (place_of p a) ++ last) _ (omega (arith, length-append (get a0 (place_of p a)) last, gets a0 (place_of p a)))

branch_bytes : (x : Location) (over : ℕ → List Instr) (n k : ℕ) → length (over (in_of x t0)) ≡ n → items_size (t.branch_items x over k) ≡ 4 * (operand x + n + 1)
branch_bytes x over n k h =
    let code = load_in t0 x ++ over (in_of x t0) in
    omega
    (arith, size-append (words code) (Jump k ∷ []), sum_by-cons item_size (Jump k) [], words_bytes code, length-append (load_in t0 x) (over (in_of x t0)), loads_in t0 x)

pub line_bytes : (p : PlainPlaces) (os : List PlainObject) (l : Line) → items_size (line_items p os l) ≡ 4 * line_count p os l
line_bytes p os (enter xs) =
    let first = t.take_frame (frame_size p.count os) (saved_of p.count) in
    words_of (first ++ t.put_params p a0 xs) _
    (omega (arith, length-append first (t.put_params p a0 xs), takes_frame (frame_size p.count os) (saved_of p.count), params p a0 xs))
line_bytes p os (leave v) =
    let last = t.give_frame (frame_size p.count os) (saved_of p.count) in
    words_of (get a0 (place_of p v) ++ last) _
    (omega (arith, length-append (get a0 (place_of p v)) last, gives_frame (frame_size p.count os) (saved_of p.count), gets a0 (place_of p v)))
line_bytes p os (done i) = instr_bytes p os i
line_bytes p os (branch_not_zero x k) = omega (arith, branch_bytes (place_of p x) (λ r. rv.Beq r x0 8 ∷ []) 1 k refl)
line_bytes p os (branch_zero x k) = omega (arith, branch_bytes (place_of p x) (λ r. rv.Bne r x0 8 ∷ []) 1 k refl)
line_bytes p os (branch_equal x n k) =
    let over = λ (r : ℕ). load_immediate t1 n ++ rv.Bne r t1 8 ∷ [] in
    let r = in_of (place_of p x) t0 in
    omega
    (arith, branch_bytes (place_of p x) over (immediate n + 1) k (omega (arith, length-append (load_immediate t1 n) (rv.Bne r t1 8 ∷ []), loads t1 n)))
line_bytes p os (jump k) = refl
line_bytes p os (label k) = refl
