-- The code of a segment stands in memory.
use Rattle.std.proofs.Common.{◌≡◌, ℕ, zero, suc, ◌+◌, ◌-◌, ◌*◌, ◌%◌, ◌<◌, ◌^◌, true, false, List, [], ◌∷◌, length, take, slice_index, slice_index_or, ap, sym, refl, ◌∙◌, arith}
use Rattle.std.specs.List.{flat_map}
use Rattle.std.proofs.lemmas.List.{length-take-le}
use Rattle.std.proofs.lemmas.List.Concat.{get_or-flat_map}
use Rattle.elf_file.specs.Header.{word}
use Rattle.elf_file.specs.Segments.{HasAddress}
use Rattle.rv_isa.proofs.lemmas.EncodedFitsWord.{encoded_fits_word}
use Rattle.rv_isa.specs.Words.{word_of, FitsFormat}
use Rattle.rv_isa.specs.declared.instruction.Instr.{Instr}
use Rattle.rv_isa.specs.declared.instruction.Instr.TheVariants.{Ebreak}
use Rattle.rv_machine.specs.Memory.{load_bytes, has_flag, memory_of, flags_of, to_execute, to_write}
use Rattle.rv_machine.specs.Standing.{Text, StandsAt, AllFit}
use Rattle.rv_machine.specs.StandingLaws.{SegmentCodeStands}
use Rattle.rv_machine.proofs.lemmas.Standing.{code-from-each}
use Rattle.rv_machine.proofs.lemmas.Texts.{segment_is_in_memory, contained-at, flags_allow}

-- ---- the bytes of code

abbrev bytes : List Instr → List ℕ
bytes code = flat_map (λ i. word (word_of i)) code

length-bytes : (code : List Instr) → length (bytes code) ≡ 4 * length code
length-bytes [] = refl
length-bytes (i ∷ is) = omega (arith, length-bytes is)

-- the j-th byte of the k-th instruction
bytes-at : (code : List Instr) (k j : ℕ) → k < length code → j < 4
    → slice_index (bytes code) (4 * k + j) ≡ slice_index (word (word_of (slice_index_or code k Ebreak))) j
bytes-at code k j in_code in_word =
    let front : length (bytes (take k code)) ≡ 4 * k = length-bytes (take k code) ∙ ap (λ n. 4 * n) (length-take-le k code (omega arith)) in
    ap (λ n. slice_index (bytes code) (n + j)) (sym front)
    ∙ get_or-flat_map (λ i. word (word_of i)) code k j Ebreak 0 in_code in_word

-- a word of four bytes
four_bytes : (w : ℕ) → w < 2 ^ 32
    → slice_index (word w) 0 + 256 * (slice_index (word w) 1 + 256 * (slice_index (word w) 2 + 256 * (slice_index (word w) 3 + 256 * 0))) ≡ w
four_bytes w small = omega arith

fits-at : (code : List Instr) → AllFit code → (k : ℕ) → k < length code → FitsFormat (slice_index_or code k Ebreak)
fits-at [] fit k below = absurd (omega (arith, below))
fits-at (i ∷ is) fit zero below = fit.0
fits-at (i ∷ is) fit (suc k) below = fits-at is fit.1 k (omega (arith, below))

-- the words of code are in memory from an address on, where they may be executed and not written
record HasCode (text : Text) (at : ℕ) (code : List Instr) : Type 0 where
  here : (k : ℕ) → k < 4 * length code → text.bytes (at + k) ≡ slice_index (bytes code) k
  executable : (k : ℕ) → k < 4 * length code → has_flag (text.flags (at + k)) to_execute ≡ true
  fixed : (k : ℕ) → k < 4 * length code → has_flag (text.flags (at + k)) to_write ≡ false
  aligned : at % 4 ≡ 0

module _ (text : Text) (at : ℕ) (code : List Instr) (h : HasCode text at code) where
  byte-here : (k j address : ℕ) → k < length code → j < 4 → address ≡ at + (4 * k + j)
      → text.bytes address ≡ slice_index (word (word_of (slice_index_or code k Ebreak))) j
  byte-here k j address in_code in_word place =
      ap (text.bytes) place ∙ h.here (4 * k + j) (omega (arith, in_code, in_word)) ∙ bytes-at code k j in_code in_word

  word-here : AllFit code → (k : ℕ) → k < length code → load_bytes text.bytes (at + 4 * k) 4 ≡ word_of (slice_index_or code k Ebreak)
  unfolding load_bytes
  word-here fit k in_code =
      let a = at + 4 * k in
      let w = word_of (slice_index_or code k Ebreak) in
      let b0 : text.bytes a ≡ slice_index (word w) 0 = byte-here k 0 a in_code (omega arith) (omega arith) in
      let b1 : text.bytes (suc a) ≡ slice_index (word w) 1 = byte-here k 1 (suc a) in_code (omega arith) (omega arith) in
      let b2 : text.bytes (suc (suc a)) ≡ slice_index (word w) 2 = byte-here k 2 (suc (suc a)) in_code (omega arith) (omega arith) in
      let b3 : text.bytes (suc (suc (suc a))) ≡ slice_index (word w) 3 = byte-here k 3 (suc (suc (suc a))) in_code (omega arith) (omega arith) in
      rw (b0, b1, b2, b3) (four_bytes w (encoded_fits_word (slice_index_or code k Ebreak) (fits-at code fit k in_code)))

  each-there : AllFit code → (k : ℕ) → k < length code → StandsAt text (at + 4 * k) (slice_index_or code k Ebreak)
  each-there fit k in_code = record {
    word = word-here fit k in_code;
    executable =
        flags_allow text.flags to_execute (at + 4 * k) 4 (λ j below.
        let place : at + 4 * k + j ≡ at + (4 * k + j) = omega arith in
        ap (λ a. has_flag (text.flags a) to_execute) place ∙ h.executable (4 * k + j) (omega (arith, in_code, below)));
    fixed = λ j below.
        let place : at + 4 * k + j ≡ at + (4 * k + j) = omega arith in
        ap (λ a. has_flag (text.flags a) to_write) place ∙ h.fixed (4 * k + j) (omega (arith, in_code, below));
    aligned = (let even = h.aligned in omega (arith, even));
    fits = fits-at code fit k in_code;
  }

-- ---- segments

pub segment_code_stands : SegmentCodeStands
segment_code_stands segments k s code sound there is_code aligned executable fixed fit =
    code-from-each text s.at code (each-there text s.at code has fit)
  where
    text : Text
    text = record { flags = flags_of segments; bytes = memory_of segments }

    size : length s.bytes ≡ 4 * length code
    size = ap length is_code ∙ length-bytes code

    within : (j : ℕ) → j < 4 * length code → HasAddress s (s.at + j)
    within j below = let part = (contained-at segments k s sound there).part in (omega arith, omega (arith, below, part, size))

    flag : (f j : ℕ) → j < 4 * length code → has_flag (flags_of segments (s.at + j)) f ≡ has_flag s.flags f
    flag f j below = ap (λ n. has_flag n f) (segment_is_in_memory segments k s (s.at + j) sound there (within j below)).1

    has : HasCode text s.at code
    has = record {
      here = λ j below.
          let back : s.at + j - s.at ≡ j = omega arith in
          (segment_is_in_memory segments k s (s.at + j) sound there (within j below)).0 ∙ ap (slice_index s.bytes) back ∙ ap (λ bs. slice_index bs j) is_code;
      executable = λ j below. flag to_execute j below ∙ executable;
      fixed = λ j below. flag to_write j below ∙ fixed;
      aligned = aligned;
    }
