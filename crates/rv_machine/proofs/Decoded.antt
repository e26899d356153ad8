-- Text that was decoded: it is what the memory of segments has, and a store leaves it.
use Rattle.std.proofs.Common.{◌≡◌, ℕ, ◌+◌, ◌*◌, ◌%◌, ◌<◌, ◌≤◌, ◌==◌, true, false, List, length, map, drop, get_or, vec_len, Option, Some, refl, sym, ap, ◌∙◌, arith, length-drop, eq-eqb, inl, inr}
use Rattle.std.specs.Prelude.{AllPairs, option_map}
use Rattle.std.proofs.lemmas.Bool.{cases_eq, ne_eqb}
use Rattle.std.proofs.lemmas.List.{get_or-drop}
use Rattle.elf_file.specs.Segments.{AreApart}
use Rattle.rv_isa.specs.Encodings.{decoded}
use Rattle.rv_isa.specs.declared.instruction.Instr.{Instr}
use Rattle.rv_machine.specs.declared.block.Block.{Block}
use Rattle.rv_machine.specs.Block.{segment_of, outline_of}
use Rattle.rv_machine.specs.Machine.{State, look, fetched}
use Rattle.rv_machine.specs.Memory.{has_flag, allowed, load_bytes, store_bytes, memory_of, flags_of, to_write, to_execute}
use Rattle.rv_machine.specs.Text.{AreDecoded, IsText, IsWordAt}
use Rattle.rv_machine.proofs.Access.{allowed_all, load_same}
use Rattle.rv_machine.proofs.Lookups.{IsAt, is_at, memory_at, flags_at, holds-true}
use Rattle.rv_machine.proofs.Unwritable.{outside}
use Rattle.rv_machine.proofs.lemmas.Stores.{store_leaves_others, load-agrees}

text-stored : (flags mem : ℕ → ℕ) (at : ℕ) (ws : List (Option Instr)) (address n w : ℕ) → allowed flags to_write address w ≡ true
    → IsText flags mem at ws → IsText flags (store_bytes mem address n w) at ws
text-stored flags mem at ws address n w good text = record {
  aligned = text.aligned;
  executable = text.executable;
  fixed = text.fixed;
  each = λ i d below.
      text.each i d below
      ∙ ap decoded (sym (load-agrees mem (store_bytes mem address n w) (at + 4 * i) 4 (λ j under.
      store_leaves_others mem address n w (at + 4 * i + j)
      (outside flags (at + 4 * i + j) (text.fixed (at + 4 * i + j) (omega arith) (omega arith)) address w good))));
}

-- a write within a segment leaves the text
pub text_stays : (flags flags' mem mem' : ℕ → ℕ) (at : ℕ) (ws : List (Option Instr)) (address n w : ℕ) → flags' ≡ flags → mem' ≡ store_bytes mem address n w
    → allowed flags to_write address w ≡ true → IsText flags mem at ws → IsText flags' mem' at ws
text_stays flags flags' mem mem' at ws address n w e f good text = rw e rw f (text-stored flags mem at ws address n w good text)

module _ (xs : List Block) (k : ℕ) (b : Block) (apart : AllPairs AreApart (map outline_of xs)) (within : k < length xs) (is : get_or xs k b ≡ b) where
  here : IsAt (map segment_of xs) k (segment_of b)
  here = is_at xs k b apart within is

  flags-here : (a : ℕ) → b.at ≤ a → a < b.at + vec_len b.bytes → flags_of (map segment_of xs) a ≡ b.flags
  flags-here a above below = flags_at (map segment_of xs) k (segment_of b) a here (holds-true (segment_of b) a above below)

  load-here : (i : ℕ) → 4 * i + 4 ≤ length b.bytes.items
      → (j : ℕ) → j < 4 → memory_of (map segment_of xs) (b.at + 4 * i + j) ≡ get_or (drop (4 * i) b.bytes.items) j 0
  load-here i long j under =
      let a : ℕ = b.at + 4 * i + j in
      memory_at (map segment_of xs) k (segment_of b) a here (holds-true (segment_of b) a (omega arith) (omega (arith, b.bytes.ok)))
      ∙ ap (λ n. get_or b.bytes.items n 0) (omega arith)
      ∙ sym (get_or-drop (4 * i) b.bytes.items j 0)

  -- a segment's words are text
  pub text_of : (at : ℕ) (ws : List (Option Instr)) → has_flag b.flags to_execute ≡ true → has_flag b.flags to_write ≡ false → b.at % 4 ≡ 0
      → at ≡ b.at → AreDecoded b.bytes.items ws → IsText (flags_of (map segment_of xs)) (memory_of (map segment_of xs)) at ws
  text_of at ws executable fixed aligned e words =
      rw e (record {
        aligned = aligned;
        executable = λ a above below.
            ap (λ f. has_flag f to_execute) (flags-here a above (omega (arith, words.within, b.bytes.ok))) ∙ executable;
        fixed = λ a above below.
            ap (λ f. has_flag f to_write) (flags-here a above (omega (arith, words.within, b.bytes.ok))) ∙ fixed;
        each = λ i d below.
            let long : 4 * i + 4 ≤ length b.bytes.items = omega (arith, words.within) in
            words.each i d below
            ∙ ap decoded (sym (load_same (memory_of (map segment_of xs)) (b.at + 4 * i) 4 (drop (4 * i) b.bytes.items)
            (omega (arith, length-drop (4 * i) b.bytes.items)) (load-here i long)));
      })

-- the word at pc is fetched from there
pub text_fetched : (flags : ℕ → ℕ) (s : State) (at : ℕ) (ws : List (Option Instr)) (word : Option Instr) → IsText flags s.mem at ws → IsWordAt at ws s.pc word
    → Some word ≡ option_map decoded (fetched flags s)
unfolding fetched
text_fetched flags s at ws word text (i, below, e, is) =
    let aligned : (s.pc % 4 == 0) ≡ true = eq-eqb (s.pc % 4) 0 (omega (arith, text.aligned)) in
    let good : allowed flags to_execute s.pc 4 ≡ true = allowed_all flags to_execute s.pc 4 (λ j under. text.executable (s.pc + j) (omega arith) (omega arith)) in
    let same : word ≡ decoded (load_bytes s.mem s.pc 4) = sym is ∙ text.each i word below ∙ ap (λ a. decoded (load_bytes s.mem a 4)) (sym e) in
    rw aligned rw good (ap Some same)

-- register 0 is 0, so a look needs no test
pub look-zero : (rs : List ℕ) (r : ℕ) → get_or rs 0 0 ≡ 0 → get_or rs r 0 ≡ look (λ k. get_or rs k 0) r
look-zero rs r zero = elim (cases_eq r 0) [
  | inl e ↦ rw e zero
  | inr other ↦ rw (ne_eqb r 0 other) refl
]
