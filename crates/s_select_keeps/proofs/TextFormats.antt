-- The instructions of a whole text fit their formats.
use Rattle.std.proofs.Common.{◌≡◌, ℕ, ◌+◌, ◌-◌, ◌/◌, ◌%◌, ◌^◌, ◌&&◌, ◌<◌, ◌≤◌, true, List, [], ◌∷◌, ◌++◌, length, slice_index, refl, arith, lit<}
use Rattle.std.proofs.lemmas.Bool.{and_parts, ltb-true}
use Rattle.std.proofs.lemmas.Bool.Decides.{nat_tests}
use Rattle.std.proofs.lemmas.List.Sums.{sum_by-cons}
use Rattle.elf_file.specs.Image.{text_at, stack_size}
use Rattle.g_graph.specs.WellFormed.{all_of}
use Rattle.rv_isa.specs.Calls.{read_call, write_call, exit_call}
use Rattle.rv_isa.specs.Registers.{x0, ra, sp, t0, s0, a0, a1, a2, a7}
use Rattle.rv_isa.specs.Words.{FitsFormat}
use Rattle.rv_isa.specs.declared.instruction.Instr.TheVariants as rv
use Rattle.rv_machine.specs.Standing.{AllFit}
use Rattle.rv_machine.proofs.lemmas.Standing.{fits-append}
use Rattle.rv_layout.specs.declared.item.Item.{Item}
use Rattle.rv_layout.specs.declared.item.Item.TheVariants.{Word, Mark, Jump, Call, Stub, Address}
use Rattle.rv_layout.specs.Conditions.{is_marked_once, labels_are_marked, is_within_reach, item_fits, function_fits, Reaches}
use Rattle.rv_layout.specs.Items.{item_size, items_size, marks, label_at}
use Rattle.rv_layout.specs.Layout.{Addresses, function_code, functions_code, functions_at, addresses_of}
use Rattle.rv_layout.specs.Sequences.{load_address, call, start_code, put_stub, get_stub}
use Rattle.rv_layout.proofs.lemmas.Items.{label_within, item_size-aligned, items_size-aligned}
use Rattle.s_select_keeps.specs.Formats.{JumpsReach, EachFits, TextFits}
use Rattle.s_select_keeps.proofs.Formats.{address-fits, call-fits, items_fit}

-- ---- jumps reach their labels

module _ (items : List Item) (at : ℕ) (short : items_size items < 2 ^ 20) (even : at % 4 ≡ 0) where
  item-reaches : (here : ℕ) (i : Item) → is_marked_once items i ≡ true → at ≤ here → here ≤ at + items_size items → here % 4 ≡ 0
      → Reaches (λ l. label_at l at items) here i
  item-reaches here (Jump l) marked low high aligned =
      let once : marks l items ≡ 1 = grind (arith, nat_tests) in
      let w = label_within l at items (omega (arith, once)) in
      let from = w.from in
      let to = w.to in
      let same = w.aligned in
      record {
        back = omega (arith, high, from, short);
        forth = omega (arith, low, to, short);
        from_aligned = aligned;
        to_aligned = omega (arith, same, even);
      }
  item-reaches here (Word i) marked low high aligned = tt
  item-reaches here (Mark l) marked low high aligned = tt
  item-reaches here (Call k) marked low high aligned = tt
  item-reaches here (Stub s) marked low high aligned = tt
  item-reaches here (Address r k) marked low high aligned = tt

  jumps-reach : (is : List Item) (here : ℕ) → all_of (is_marked_once items) is ≡ true → at ≤ here → here + items_size is ≤ at + items_size items → here % 4 ≡ 0
      → JumpsReach (λ l. label_at l at items) here is
  jumps-reach [] here marked low high aligned = tt
  jumps-reach (i ∷ is) here marked low high aligned =
      let parts = and_parts (is_marked_once items i) (all_of (is_marked_once items) is) marked in
      let sum = sum_by-cons item_size i is in
      let four = item_size-aligned i in (
        item-reaches here i parts.0 low (omega (arith, high, sum)) aligned,
        jumps-reach is (here + item_size i) parts.1 (omega (arith, low)) (omega (arith, high, sum)) (omega (arith, aligned, four)),
      )

-- ---- functions

functions-fit : (addresses : Addresses) (functions globals at : ℕ) (fs : List (List Item)) → all_of (function_fits functions globals) fs ≡ true → EachFits fs → at % 4 ≡ 0
    → AllFit (functions_code addresses at fs)
functions-fit addresses functions globals at [] fit words even = tt
functions-fit addresses functions globals at (f ∷ fs) fit words even =
    let parts = and_parts (function_fits functions globals f) (all_of (function_fits functions globals) fs) fit in
    let both = and_parts (labels_are_marked f && is_within_reach f) (all_of (item_fits functions globals) f) parts.0 in
    let pair = and_parts (labels_are_marked f) (is_within_reach f) both.0 in
    let short = ltb-true (items_size f) (2 ^ 20) pair.1 in
    let four = items_size-aligned f in
    fits-append (function_code addresses at f) (functions_code addresses (at + items_size f) fs)
    (items_fit addresses (λ l. label_at l at f) at f words.0 (jumps-reach f at short even f at pair.0 (omega arith) (omega arith) even))
    (functions-fit addresses functions globals (at + items_size f) fs parts.1 words.1 (omega (arith, even, four)))

-- ---- the code that every program has

start-fits : (stack main : ℕ) → AllFit (start_code stack main)
unfolding FitsFormat
start-fits stack main =
    fits-append (load_address s0 stack ++ rv.Lui t0 (stack_size / 2 ^ 12) ∷ rv.Add sp s0 t0 ∷ call (main - (text_at + 16))) (rv.Addi a7 x0 exit_call ∷ rv.Ecall ∷ [])
    (fits-append (load_address s0 stack) (rv.Lui t0 (stack_size / 2 ^ 12) ∷ rv.Add sp s0 t0 ∷ call (main - (text_at + 16))) (address-fits s0 stack (lit< tt))
    ((lit< tt, lit< tt), ((lit< tt, lit< tt, lit< tt), call-fits (main - (text_at + 16)))))
    (((lit< tt, lit< tt), lit< tt, lit< tt), (tt, tt))

put-stub-fits : (buffer : ℕ) → AllFit (put_stub buffer)
unfolding FitsFormat
put-stub-fits buffer =
    fits-append (load_address t0 buffer) (rv.Sb t0 a0 0 ∷ rv.Addi a0 x0 1 ∷ rv.Addi a1 t0 0 ∷ rv.Addi a2 x0 1 ∷ rv.Addi a7 x0 write_call ∷ rv.Ecall
    ∷ rv.Jalr x0 ra 0 ∷ [])
    (address-fits t0 buffer (lit< tt)) (
      ((lit< tt, lit< tt), lit< tt, lit< tt),
      (
        ((lit< tt, lit< tt), lit< tt, lit< tt),
        (
          ((lit< tt, lit< tt), lit< tt, lit< tt),
          (
            ((lit< tt, lit< tt), lit< tt, lit< tt),
            (((lit< tt, lit< tt), lit< tt, lit< tt), (tt, (((lit< tt, lit< tt), lit< tt, lit< tt), tt))),
          ),
        ),
      ),
    )

get-stub-fits : (buffer : ℕ) → AllFit (get_stub buffer)
unfolding FitsFormat
get-stub-fits buffer =
    fits-append (load_address t0 buffer)
    (rv.Addi a0 x0 0 ∷ rv.Addi a1 t0 0 ∷ rv.Addi a2 x0 1 ∷ rv.Addi a7 x0 read_call ∷ rv.Ecall ∷ rv.Beq a0 x0 12 ∷ rv.Lbu a0 a1 0 ∷ rv.Jalr x0 ra 0
    ∷ rv.Addi a0 x0 (2 ^ 32 - 1) ∷ rv.Jalr x0 ra 0 ∷ [])
    (address-fits t0 buffer (lit< tt)) (
      ((lit< tt, lit< tt), lit< tt, lit< tt),
      (
        ((lit< tt, lit< tt), lit< tt, lit< tt),
        (
          ((lit< tt, lit< tt), lit< tt, lit< tt),
          (
            ((lit< tt, lit< tt), lit< tt, lit< tt),
            (
              tt,
              (
                ((lit< tt, lit< tt), refl, lit< tt, lit< tt),
                (
                  ((lit< tt, lit< tt), lit< tt, lit< tt),
                  (
                    ((lit< tt, lit< tt), lit< tt, lit< tt),
                    (((lit< tt, lit< tt), lit< tt, lit< tt), (((lit< tt, lit< tt), lit< tt, lit< tt), tt)),
                  ),
                ),
              ),
            ),
          ),
        ),
      ),
    )

pub text_fits : TextFits
text_fits fs ds main can words =
    let a = addresses_of fs ds in
    fits-append (start_code a.stack_at (slice_index a.functions main) ++ put_stub a.data_at ++ get_stub a.data_at) (functions_code a functions_at fs)
    (fits-append (start_code a.stack_at (slice_index a.functions main) ++ put_stub a.data_at) (get_stub a.data_at)
    (fits-append (start_code a.stack_at (slice_index a.functions main)) (put_stub a.data_at) (start-fits a.stack_at (slice_index a.functions main))
    (put-stub-fits a.data_at))
    (get-stub-fits a.data_at))
    (functions-fit a (length fs) (length ds) functions_at fs can.functions_fit words refl)
