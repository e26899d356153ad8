-- The instructions of templates fit their formats.
use Rattle.std.proofs.Common.{ℕ, zero, suc, ◌+◌, ◌*◌, ◌/◌, ◌%◌, ◌^◌, ◌<◌, ◌≤◌, ◌==◌, ◌⊎◌, if◌then◌else◌, cond, Bool, true, false, List, [], ◌∷◌, ◌++◌, unwrap_or, refl, arith, inl, inr, lit<}
use Rattle.std.proofs.lemmas.Bool.{cases_lt, lt-ltb, le-ltb}
use Rattle.val_core.specs.declared.operation.Op1.{Op1}
use Rattle.val_core.specs.declared.operation.Op1.TheVariants.{Sext8, Zext8, Sext16, Zext16}
use Rattle.val_core.specs.declared.operation.Op2.{Op2}
use Rattle.val_core.specs.declared.operation.Op2.TheVariants as op
use Rattle.rv_isa.specs.Formats.{IsSigned}
use Rattle.rv_isa.specs.Registers.{x0, ra, sp, t0, t1, s0}
use Rattle.rv_isa.specs.Words.{FitsFormat}
use Rattle.rv_isa.specs.WordParts.{upper_part}
use Rattle.rv_isa.specs.declared.instruction.Instr.{Instr}
use Rattle.rv_isa.specs.declared.instruction.Instr.TheVariants as rv
use Rattle.rv_isa.proofs.lemmas.WordParts.{low_part_fits}
use Rattle.rv_machine.specs.Standing.{AllFit}
use Rattle.rv_machine.proofs.lemmas.Standing.{fits-append}
use Rattle.rv_layout.specs.declared.item.Item.{Item}
use Rattle.rv_layout.specs.declared.item.Item.TheVariants.{Word, Mark, Jump, Call, Stub, Address}
use Rattle.rv_layout.specs.Conditions.{CanJump}
use Rattle.rv_layout.specs.Layout.{offset_to, item_code, items_code}
use Rattle.rv_layout.specs.Sequences.{load_address}
use Rattle.rv_layout.specs.Sequences as sequences
use Rattle.s_select.specs.declared.location.Location.{Location}
use Rattle.s_select.specs.declared.location.Location.TheVariants.{Register, Near, Far}
use Rattle.s_select.specs.Operands.{negative, place_register, load_immediate, get, put, in_of, load_in, out_of, store_out}
use Rattle.s_select.specs.Templates.{words, save_places, restore_places, take_frame, give_frame, binary_code, unary_code, load_instr, store_instr, with_two, with_one, with_none, move_code, clear_code}
use Rattle.s_select_keeps.specs.Formats.{WordsFit, ItemsFit}

pub words-fit : (code : List Instr) → AllFit code → WordsFit (words code)
words-fit [] fit = tt
words-fit (i ∷ code) fit = (fit.0, words-fit code fit.1)

pub items-append : (is more : List Item) → WordsFit is → WordsFit more → WordsFit (is ++ more)
items-append [] more fit fit' = fit'
items-append (Word i ∷ is) more fit fit' = (fit.0, items-append is more fit.1 fit')
items-append (Address r k ∷ is) more fit fit' = (fit.0, items-append is more fit.1 fit')
items-append (Mark l ∷ is) more fit fit' = items-append is more fit fit'
items-append (Jump l ∷ is) more fit fit' = items-append is more fit fit'
items-append (Call f ∷ is) more fit fit' = items-append is more fit fit'
items-append (Stub s ∷ is) more fit fit' = items-append is more fit fit'

-- ---- words in registers

upper-fits : (v : ℕ) → upper_part v < 2 ^ 20
upper-fits v = omega arith

pub address-fits : (rd v : ℕ) → rd < 32 → AllFit (load_address rd v)
unfolding FitsFormat
address-fits rd v low = ((upper-fits v, low), ((low_part_fits v, low, low), tt))

pub immediate-fits : (rd v : ℕ) → rd < 32 → v < 2 ^ 32 → AllFit (load_immediate rd v)
unfolding FitsFormat
immediate-fits rd v low word = by (cases_lt ((v + 2048) % 2 ^ 32) 4096)
  where
    by : ((v + 2048) % 2 ^ 32 < 4096) ⊎ (4096 ≤ (v + 2048) % 2 ^ 32) → AllFit (load_immediate rd v)
    by (inl small) = rw (lt-ltb ((v + 2048) % 2 ^ 32) 4096 small) (((word, omega (arith, small)), lit< tt, low), tt)
    by (inr large) = rw (le-ltb ((v + 2048) % 2 ^ 32) 4096 large) (address-fits rd v low)

-- ---- places

-- a register, or an offset that an instruction holds
abbrev pub IsInReach : Location → Type 0
IsInReach (Register r) = r < 32
IsInReach (Near o) = o < 2048
IsInReach (Far o) = Unit {0}

near-fits : (o : ℕ) → o < 2048 → IsSigned 12 o
near-fits o small = (omega (arith, small), omega (arith, small))

pub get-fits : (rd : ℕ) (l : Location) → rd < 32 → IsInReach l → AllFit (get rd l)
unfolding FitsFormat
get-fits rd (Register r) low reach = (((lit< tt, lit< tt), reach, low), tt)
get-fits rd (Near o) low reach = ((near-fits o reach, lit< tt, low), tt)
get-fits rd (Far o) low reach = ((upper-fits o, lit< tt), ((lit< tt, lit< tt, lit< tt), ((low_part_fits o, lit< tt, low), tt)))

pub put-fits : (l : Location) (rs : ℕ) → rs < 32 → IsInReach l → AllFit (put l rs)
unfolding FitsFormat
put-fits (Register r) rs low reach = (((lit< tt, lit< tt), low, reach), tt)
put-fits (Near o) rs low reach = ((near-fits o reach, low, lit< tt), tt)
put-fits (Far o) rs low reach = ((upper-fits o, lit< tt), ((lit< tt, lit< tt, lit< tt), ((low_part_fits o, low, lit< tt), tt)))

pub load-fits : (scratch : ℕ) (l : Location) → scratch < 32 → IsInReach l → AllFit (load_in scratch l)
load-fits scratch (Register r) low reach = tt
load-fits scratch (Near o) low reach = get-fits scratch (Near o) low reach
load-fits scratch (Far o) low reach = get-fits scratch (Far o) low reach

pub store-fits : (l : Location) → IsInReach l → AllFit (store_out l)
store-fits (Register r) reach = tt
store-fits (Near o) reach = put-fits (Near o) 5 (lit< tt) reach
store-fits (Far o) reach = put-fits (Far o) 5 (lit< tt) reach

pub in-fits : (l : Location) (scratch : ℕ) → scratch < 32 → IsInReach l → in_of l scratch < 32
in-fits (Register r) scratch low reach = reach
in-fits (Near o) scratch low reach = low
in-fits (Far o) scratch low reach = low

pub out-fits : (l : Location) → IsInReach l → out_of l < 32
out-fits (Register r) reach = reach
out-fits (Near o) reach = lit< tt
out-fits (Far o) reach = lit< tt

-- ---- operations

pub binary-fits : (o : Op2) (rd a b : ℕ) → rd < 32 → a < 32 → b < 32 → AllFit (binary_code o rd a b)
unfolding FitsFormat
binary-fits op.Add rd a b r x y = ((y, x, r), tt)
binary-fits op.Sub rd a b r x y = ((y, x, r), tt)
binary-fits op.Mul rd a b r x y = ((y, x, r), tt)
binary-fits op.Div rd a b r x y = ((y, x, r), tt)
binary-fits op.Rem rd a b r x y = ((y, x, r), tt)
binary-fits op.Divu rd a b r x y = ((y, x, r), tt)
binary-fits op.Remu rd a b r x y = ((y, x, r), tt)
binary-fits op.And rd a b r x y = ((y, x, r), tt)
binary-fits op.Or rd a b r x y = ((y, x, r), tt)
binary-fits op.Xor rd a b r x y = ((y, x, r), tt)
binary-fits op.Sll rd a b r x y = ((y, x, r), tt)
binary-fits op.Srl rd a b r x y = ((y, x, r), tt)
binary-fits op.Sra rd a b r x y = ((y, x, r), tt)
binary-fits op.Slt rd a b r x y = ((y, x, r), tt)
binary-fits op.Sltu rd a b r x y = ((y, x, r), tt)
binary-fits op.Eq rd a b r x y = ((y, x, r), (((lit< tt, lit< tt), r, r), tt))
binary-fits op.Ne rd a b r x y = ((y, x, r), ((r, lit< tt, r), tt))

pub unary-fits : (o : Op1) (rd a : ℕ) → rd < 32 → a < 32 → AllFit (unary_code o rd a)
unfolding FitsFormat
unary-fits Sext8 rd a r x = ((lit< tt, x, r), ((lit< tt, r, r), tt))
unary-fits Zext8 rd a r x = (((lit< tt, lit< tt), x, r), tt)
unary-fits Sext16 rd a r x = ((lit< tt, x, r), ((lit< tt, r, r), tt))
unary-fits Zext16 rd a r x = ((lit< tt, x, r), ((lit< tt, r, r), tt))

-- ---- items become code

-- a jump that reaches its label
jump-fits : (from to : ℕ) → CanJump from to → FitsFormat (rv.Jal x0 (offset_to from to))
unfolding FitsFormat
jump-fits from to can =
    let back = can.back in
    let forth = can.forth in
    let even = can.from_aligned in
    let even' = can.to_aligned in
    ((omega arith, omega (arith, back, forth)), omega (arith, back, forth, even, even'), lit< tt)

pub call-fits : (distance : ℕ) → AllFit (sequences.call distance)
unfolding FitsFormat
call-fits distance = ((upper-fits distance, lit< tt), ((low_part_fits distance, lit< tt, lit< tt), tt))

pub items_fit : ItemsFit
items_fit addresses labels at [] fit reach = tt
items_fit addresses labels at (Word i ∷ is) fit reach = (fit.0, items_fit addresses labels (at + 4) is fit.1 reach.1)
items_fit addresses labels at (Mark l ∷ is) fit reach = items_fit addresses labels (at + 0) is fit reach.1
items_fit addresses labels at (Jump l ∷ is) fit reach = (jump-fits at (unwrap_or (labels l) 0) reach.0, items_fit addresses labels (at + 4) is fit reach.1)
items_fit addresses labels at (Call f ∷ is) fit reach =
    fits-append (item_code addresses labels at (Call f)) (items_code addresses labels (at + 8) is) (call-fits _) (items_fit addresses labels (at + 8) is fit reach.1)
items_fit addresses labels at (Stub s ∷ is) fit reach =
    fits-append (item_code addresses labels at (Stub s)) (items_code addresses labels (at + 8) is) (call-fits _) (items_fit addresses labels (at + 8) is fit reach.1)
items_fit addresses labels at (Address r k ∷ is) fit reach =
    fits-append (item_code addresses labels at (Address r k)) (items_code addresses labels (at + 8) is) (address-fits r _ fit.0)
    (items_fit addresses labels (at + 8) is fit.1 reach.1)

-- ---- frames

-- an offset below a frame's end
negative-fits : (d : ℕ) → 0 < d → d ≤ 2048 → IsSigned 12 (negative d)
negative-fits d some few = (omega (arith, some), omega (arith, some, few))

pub place-fits : (n : ℕ) → n < 15 → place_register n < 32
place-fits n few = by (n == 0)
  where
    by : (test : Bool) → (if test then 9 else n + 17) < 32
    by true = omega arith
    by false = omega (arith, few)

saves-fit : (n : ℕ) → n ≤ 11 → AllFit (save_places n)
unfolding FitsFormat
saves-fit zero few = tt
saves-fit (suc n) few =
    fits-append (save_places n) (rv.Sw t1 (place_register n) (negative (8 + 4 * n)) ∷ []) (saves-fit n (omega (arith, few)))
    ((negative-fits (8 + 4 * n) (omega arith) (omega (arith, few)), place-fits n (omega (arith, few)), lit< tt), tt)

restores-fit : (n : ℕ) → n ≤ 11 → AllFit (restore_places n)
unfolding FitsFormat
restores-fit zero few = tt
restores-fit (suc n) few =
    fits-append (restore_places n) (rv.Lw (place_register n) t1 (negative (8 + 4 * n)) ∷ []) (restores-fit n (omega (arith, few)))
    ((negative-fits (8 + 4 * n) (omega arith) (omega (arith, few)), lit< tt, place-fits n (omega (arith, few))), tt)

pub taken-fits : (size saved : ℕ) → size < 2 ^ 32 → saved ≤ 11 → AllFit (take_frame size saved)
unfolding FitsFormat
taken-fits size saved low few =
    fits-append (load_immediate t0 size) (rv.Sub t1 sp s0 ∷ rv.Bgeu t1 t0 8 ∷ rv.Ebreak ∷ rv.Sub sp sp t0 ∷ rv.Add t1 sp t0 ∷ rv.Sw t1 ra (negative 4)
    ∷ save_places saved)
    (immediate-fits t0 size (lit< tt) low) (
      (lit< tt, lit< tt, lit< tt),
      (
        ((lit< tt, lit< tt), refl, lit< tt, lit< tt),
        (tt, ((lit< tt, lit< tt, lit< tt), ((lit< tt, lit< tt, lit< tt), ((negative-fits 4 (lit< tt) (omega arith), lit< tt, lit< tt), saves-fit saved few)))),
      ),
    )

pub given-fits : (size saved : ℕ) → size < 2 ^ 32 → saved ≤ 11 → AllFit (give_frame size saved)
unfolding FitsFormat
given-fits size saved low few =
    fits-append (load_immediate t0 size ++ rv.Add t1 sp t0 ∷ restore_places saved) (rv.Lw ra t1 (negative 4) ∷ rv.Addi sp t1 0 ∷ rv.Jalr x0 ra 0 ∷ [])
    (fits-append (load_immediate t0 size) (rv.Add t1 sp t0 ∷ restore_places saved) (immediate-fits t0 size (lit< tt) low)
    ((lit< tt, lit< tt, lit< tt), restores-fit saved few))
    ((negative-fits 4 (lit< tt) (omega arith), lit< tt, lit< tt), (((lit< tt, lit< tt), lit< tt, lit< tt), (((lit< tt, lit< tt), lit< tt, lit< tt), tt)))

-- ---- templates

pub two-fits : (t a b : Location) (code : ℕ → ℕ → ℕ → List Instr) → IsInReach t → IsInReach a → IsInReach b
    → ((rd x y : ℕ) → rd < 32 → x < 32 → y < 32 → AllFit (code rd x y))
    → AllFit (with_two t a b code)
two-fits t a b code rt ra rb fit =
    fits-append (load_in t0 a ++ load_in t1 b ++ code (out_of t) (in_of a t0) (in_of b t1)) (store_out t)
    (fits-append (load_in t0 a ++ load_in t1 b) (code (out_of t) (in_of a t0) (in_of b t1))
    (fits-append (load_in t0 a) (load_in t1 b) (load-fits t0 a (lit< tt) ra) (load-fits t1 b (lit< tt) rb))
    (fit (out_of t) (in_of a t0) (in_of b t1) (out-fits t rt) (in-fits a t0 (lit< tt) ra) (in-fits b t1 (lit< tt) rb)))
    (store-fits t rt)

pub one-fits : (t a : Location) (code : ℕ → ℕ → List Instr) → IsInReach t → IsInReach a → ((rd x : ℕ) → rd < 32 → x < 32 → AllFit (code rd x))
    → AllFit (with_one t a code)
one-fits t a code rt ra fit =
    fits-append (load_in t0 a ++ code (out_of t) (in_of a t0)) (store_out t)
    (fits-append (load_in t0 a) (code (out_of t) (in_of a t0)) (load-fits t0 a (lit< tt) ra) (fit (out_of t) (in_of a t0) (out-fits t rt) (in-fits a t0 (lit< tt) ra)))
    (store-fits t rt)

pub none-fits : (t : Location) (code : ℕ → List Instr) → IsInReach t → ((rd : ℕ) → rd < 32 → AllFit (code rd)) → AllFit (with_none t code)
none-fits t code rt fit = fits-append (code (out_of t)) (store_out t) (fit (out_of t) (out-fits t rt)) (store-fits t rt)

pub move-fits : (t a : Location) → IsInReach t → IsInReach a → AllFit (move_code t a)
move-fits (Register r) a rt ra = get-fits r a rt ra
move-fits (Near o) a rt ra = fits-append (load_in t0 a) (put (Near o) (in_of a t0)) (load-fits t0 a (lit< tt) ra)
    (put-fits (Near o) (in_of a t0) (in-fits a t0 (lit< tt) ra) rt)
move-fits (Far o) a rt ra = fits-append (load_in t0 a) (put (Far o) (in_of a t0)) (load-fits t0 a (lit< tt) ra)
    (put-fits (Far o) (in_of a t0) (in-fits a t0 (lit< tt) ra) rt)

pub load-width : (width rd a : ℕ) → rd < 32 → a < 32 → FitsFormat (load_instr width rd a)
unfolding FitsFormat
load-width width rd a r x = by (width == 1) (width == 2)
  where
    by : (one two : Bool) → FitsFormat (cond one (rv.Lbu rd a 0) (cond two (rv.Lhu rd a 0) (rv.Lw rd a 0)))
    by true two = ((lit< tt, lit< tt), x, r)
    by false true = ((lit< tt, lit< tt), x, r)
    by false false = ((lit< tt, lit< tt), x, r)

pub store-width : (width a v : ℕ) → a < 32 → v < 32 → FitsFormat (store_instr width a v)
unfolding FitsFormat
store-width width a v x y = by (width == 1) (width == 2)
  where
    by : (one two : Bool) → FitsFormat (cond one (rv.Sb a v 0) (cond two (rv.Sh a v 0) (rv.Sw a v 0)))
    by true two = ((lit< tt, lit< tt), y, x)
    by false true = ((lit< tt, lit< tt), y, x)
    by false false = ((lit< tt, lit< tt), y, x)

pub clear-fits : (offset size : ℕ) → offset < 2 ^ 32 → size + 3 < 2 ^ 32 → AllFit (clear_code offset size)
unfolding FitsFormat
clear-fits offset size low small =
    fits-append (load_immediate t0 offset ++ rv.Add t0 t0 sp ∷ load_immediate t1 ((size + 3) / 4 * 4))
    (rv.Add t1 t1 t0 ∷ rv.Sw t0 x0 0 ∷ rv.Addi t0 t0 4 ∷ rv.Bltu t0 t1 (negative 8) ∷ [])
    (fits-append (load_immediate t0 offset) (rv.Add t0 t0 sp ∷ load_immediate t1 ((size + 3) / 4 * 4)) (immediate-fits t0 offset (lit< tt) low)
    ((lit< tt, lit< tt, lit< tt), immediate-fits t1 ((size + 3) / 4 * 4) (lit< tt) (omega (arith, small))))
    ((lit< tt, lit< tt, lit< tt), (((lit< tt, lit< tt), lit< tt, lit< tt), (((lit< tt, lit< tt), lit< tt, lit< tt), (((lit< tt, lit< tt), refl, lit< tt, lit< tt), tt))))
