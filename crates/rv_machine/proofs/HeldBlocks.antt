-- Accesses within one block.
use Rattle.std.proofs.Common.{◌≡◌, ℕ, ◌+◌, ◌-◌, ◌<◌, ◌≤◌, true, false, not, take, drop, get_or, vec_len, bit_and, sym, ap, ◌∙◌, arith, length-drop, eq-eqb}
use Rattle.std.proofs.lemmas.Nat.{and_le_l}
use Rattle.std.proofs.lemmas.List.{get_or-drop}
use Rattle.rv_machine.specs.declared.block.Block.{Block}
use Rattle.rv_machine.specs.declared.memory.Memory.{Memory}
use Rattle.rv_machine.specs.Blocks.{bytes_of, allowance_of, IsBlockAt, IsOutside}
use Rattle.rv_machine.specs.Memory.{has_flag, allowed, load_bytes, number}
use Rattle.rv_machine.proofs.Access.{allowed_all, allowed_bad, load_same}

pub zero_flags : (flag : ℕ) → has_flag 0 flag ≡ false
zero_flags flag = ap not (eq-eqb (bit_and 0 flag) 0 (omega (arith, and_le_l 0 flag)))

pub outside-allowed : (m : Memory) (flag a w : ℕ) → 0 < w → IsOutside m a → allowed (allowance_of m) flag a w ≡ false
outside-allowed m flag a w some out =
    let here : allowance_of m (a + 0) ≡ 0 = ap (allowance_of m) (omega arith) ∙ out.flags in
    allowed_bad (allowance_of m) flag a w 0 some (ap (λ f. has_flag f flag) here ∙ zero_flags flag)

module _ (m : Memory) (a : ℕ) (b : Block) (part : IsBlockAt m a b) where
  pub block-bad : (flag w : ℕ) → 0 < w → has_flag b.flags flag ≡ false → allowed (allowance_of m) flag a w ≡ false
  block-bad flag w some bad =
      let here : allowance_of m (a + 0) ≡ b.flags = ap (allowance_of m) (omega arith) ∙ part.flags a part.above part.below in
      allowed_bad (allowance_of m) flag a w 0 some (ap (λ f. has_flag f flag) here ∙ bad)

  pub block-allowed : (flag w : ℕ) → a + w ≤ b.at + vec_len b.bytes → has_flag b.flags flag ≡ true → allowed (allowance_of m) flag a w ≡ true
  block-allowed flag w within good =
      allowed_all (allowance_of m) flag a w (λ j below.
      ap (λ f. has_flag f flag) (part.flags (a + j) (omega (arith, part.above)) (omega arith)) ∙ good)

  pub block-load : (w : ℕ) → a + w ≤ b.at + vec_len b.bytes
      → load_bytes (bytes_of m) a w ≡ number (take w (drop (a - b.at) b.bytes.items))
  block-load w within =
      load_same (bytes_of m) a w (drop (a - b.at) b.bytes.items) (omega (arith, length-drop (a - b.at) b.bytes.items, b.bytes.ok, part.above)) (λ j below.
      part.bytes (a + j) (omega (arith, part.above)) (omega arith)
      ∙ ap (λ k. get_or b.bytes.items k 0) (omega (arith, part.above))
      ∙ sym (get_or-drop (a - b.at) b.bytes.items j 0))
