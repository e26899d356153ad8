-- The image of a constant exits with its low byte.
use Rattle.std.proofs.Common.{◌≡◌, ℕ, suc, ◌+◌, ◌-◌, ◌*◌, ◌%◌, ◌<◌, ◌≤◌, ◌^◌, ◌==◌, true, false, nat_lt, List, [], ◌∷◌, ◌++◌, length, Ok, refl, ap, ◌∙◌, if◌then◌else◌, arith, inl, inr, lit≤}
use Rattle.std.proofs.lemmas.Bool.{cases_lt, lt-ltb, ltb-true, le-ltb}
use Rattle.elf_file.proofs.lemmas.RoundTrip.{written_loads}
use Rattle.elf_file.specs.Image.{Sections, IsPlaced, data_size}
use Rattle.elf_file.specs.Laws.{LoadedIsSound, executable_for, text_segment, data_segment}
use Rattle.elf_file.specs.Loading.{LoadedSegment}
use Rattle.elf_file.specs.Segments.{AreSound}
use Rattle.elf_file.specs.Written.{file_of}
use Rattle.rv_isa.specs.declared.instruction.Instr.{Instr}
use Rattle.rv_isa.specs.declared.instruction.Instr.TheVariants.{Lui, Addi}
use Rattle.rv_machine.specs.Laws.{Reaches}
use Rattle.rv_machine.specs.Machine.{State, next, exit, act, give}
use Rattle.rv_machine.specs.Memory.{Bytes, allowed, load_bytes, store_bytes, put_at, memory_of, flags_of, has_flag, to_read, to_write}
use Rattle.rv_machine.specs.Run.{run, running, executed, executed_if_loaded, image_at, standing, ended}
use Rattle.rv_machine.specs.Standing.{Text, StandsAt, AllFit}
use Rattle.rv_machine.proofs.lemmas.Codes.{segment_code_stands}
use Rattle.rv_machine.proofs.lemmas.Standing.{standing_reaches, each_stands}
use Rattle.rv_machine.proofs.lemmas.Texts.{segment_is_in_memory, flags_allow}
use Rattle.rv_layout.proofs.lemmas.Placed.{length-bytes_of}
use Rattle.rv_layout.specs.declared.item.Item.{Item}
use Rattle.rv_layout.specs.Layout.{laid_out}
use Rattle.rv_layout.specs.Sequences.{bytes_of}
use Rattle.s_select.specs.Operands.{load_immediate}
use Rattle.s_select.specs.Templates.{words, take_frame}
use Rattle.cc_compile.specs.Constant.{image_of_constant}
use Rattle.cc_compile.specs.ConstantExits.{ExitsWithin, ConstantExits}
use Rattle.cc_compile.proofs.ConstantRun.{program, last_code, TextStands, StackAllows, s0, s13, a0, b0, front-reaches, a-ends, b-ends}
use Rattle.rv_isa.specs.Formats.{IsSigned}
use Rattle.rv_isa.specs.WordParts.{upper_part, low_part}
use Rattle.rv_isa.proofs.lemmas.WordParts.{low_part_fits, parts_make_word}
use Rattle.cc_compile.proofs.ProgramFits.{small_fits, large_fits}

-- ---- the segments

pub segments : Sections → List LoadedSegment
segments p = text_segment p ∷ data_segment p ∷ []

-- the text of an image without fixed bytes
abbrev text_of : Sections → Text
text_of p = record { flags = flags_of (segments p); bytes = memory_of (segments p) }

-- ---- the program of a constant

-- the items of `main`, its constant loaded by these instructions, and the sections of the program
abbrev main_items : List Instr → List Item
main_items li = words (take_frame 16 1) ++ (words (li ++ []) ++ (words last_code ++ []))

abbrev sections_by : List Instr → Sections
sections_by li = laid_out (main_items li ∷ []) [] 0

-- the sections of an image of this text, with its data on the second page
pub record IsImageOf (p : Sections) (li : List Instr) (count : ℕ) : Type 0 where
  pub text : p.text ≡ bytes_of (program li)
  pub fixed : p.fixed ≡ []
  pub data_at : p.data_at ≡ 69632
  pub fixed_at : p.fixed_at ≡ 69632
  pub stack_at : p.stack_at ≡ 73728
  pub globals : length p.globals ≡ 8
  pub counted : length (program li) ≡ count
  pub small : count ≤ 46
  pub most : 37 ≤ count
  pub fits : AllFit (program li)

image_text_length : {p : Sections} {li : List Instr} {count : ℕ} → IsImageOf p li count → length p.text ≡ 4 * count
image_text_length {p} {li} h = ap length h.text ∙ length-bytes_of (program li) ∙ ap (λ n. 4 * n) h.counted

image_placed : {p : Sections} {li : List Instr} {count : ℕ} → IsImageOf p li count → IsPlaced p
image_placed {p} h =
    let len = image_text_length h in
    let none : length p.fixed ≡ 0 = ap length h.fixed in
    record {
      fixed_place = omega (arith, h.fixed_at, h.small, h.most);
      globals_place = omega (arith, h.data_at, h.fixed_at);
      stack_place = omega (arith, h.data_at, h.stack_at, h.globals);
      sizes = omega (arith, h.data_at, h.stack_at, h.small);
    }

image_segments : {p : Sections} {li : List Instr} {count : ℕ} → IsImageOf p li count → executable_for p ≡ record { entry = 65536; segments = segments p }
unfolding executable_for segments
image_segments h = rw h.fixed refl

image_sound : LoadedIsSound → {p : Sections} {li : List Instr} {count : ℕ} → IsImageOf p li count → AreSound (segments p)
image_sound loads {p} h =
    loads (file_of p) (record { entry = 65536; segments = segments p }) (written_loads p (image_placed h) ∙ ap Ok (image_segments h))

-- four bytes of the data segment may be read and written
data_allows : (p : Sections) → AreSound (segments p) → (flag a : ℕ) → has_flag 6 flag ≡ true → p.data_at ≤ a → a + 4 ≤ p.data_at + data_size p
    → allowed (flags_of (segments p)) flag a 4 ≡ true
unfolding segments
data_allows p sound flag a has low high =
    flags_allow (flags_of (segments p)) flag a 4 (λ j below.
    ap (λ f. has_flag f flag) (segment_is_in_memory (segments p) 1 (data_segment p) (a + j) sound refl (omega (arith, low), omega (arith, high, below))).1 ∙ has)

image_allows : LoadedIsSound → {p : Sections} {li : List Instr} {count : ℕ} → IsImageOf p li count → StackAllows (flags_of (segments p))
image_allows loads {p} h =
    let at : (flag a : ℕ) → has_flag 6 flag ≡ true → 73728 ≤ a → a + 4 ≤ 8462336 → allowed (flags_of (segments p)) flag a 4 ≡ true =
    (λ flag a has low high. data_allows p (image_sound loads h) flag a has (omega (arith, h.data_at, low)) (omega (arith, h.data_at, h.stack_at, high))) in
    record {
      w1 = at to_write 8462332 refl (omega arith) (omega arith);
      w2 = at to_write 8462328 refl (omega arith) (omega arith);
      r1 = at to_read 8462332 refl (omega arith) (omega arith);
      r2 = at to_read 8462328 refl (omega arith) (omega arith);
    }

pub image_stands : LoadedIsSound → {p : Sections} {li : List Instr} {count : ℕ} → IsImageOf p li count → (expected : ℕ) → expected ≤ count
    → TextStands (text_of p) expected (program li)
unfolding segments bytes_of
image_stands loads {p} {li} h expected within k inside =
    each_stands (text_of p) 65536 (65536 + 4 * length (program li)) k (program li)
    (segment_code_stands (segments p) 0 (text_segment p) (program li) (image_sound loads h) refl h.text refl refl refl h.fits)
    (omega (arith, ltb-true k expected inside, h.counted, within))

small_image : (n : ℕ) → n < 2048 → IsImageOf (sections_by (Addi 9 0 n ∷ [])) (Addi 9 0 n ∷ []) 45
small_image n small = record {
  text = refl;
  fixed = refl;
  data_at = refl;
  fixed_at = refl;
  stack_at = refl;
  globals = refl;
  counted = refl;
  small = lit≤ tt;
  most = lit≤ tt;
  fits = small_fits n small;
}

large_image : (u l : ℕ) → u < 2 ^ 20 → IsSigned 12 l → IsImageOf (sections_by (Lui 9 u ∷ Addi 9 9 l ∷ [])) (Lui 9 u ∷ Addi 9 9 l ∷ []) 46
large_image u l upper low = record {
  text = refl;
  fixed = refl;
  data_at = refl;
  fixed_at = refl;
  stack_at = refl;
  globals = refl;
  counted = refl;
  small = lit≤ tt;
  most = lit≤ tt;
  fits = large_fits u l upper low;
}

-- ---- the run

-- a run of the image is a run from its start
pub image_run : {p : Sections} {li : List Instr} {count : ℕ} → IsImageOf p li count → (n : ℕ) (input : List ℕ)
    → image_at n (file_of p) input ≡ Ok (run (flags_of (segments p)) n (running (s0 (memory_of (segments p)))) input)
unfolding executed
image_run {p} h n input =
    ap (λ l. executed_if_loaded n l input) (written_loads p (image_placed h) ∙ ap Ok (image_segments h)) ∙ refl

-- ---- the constant is loaded

put_twice : (map : ℕ → ℕ) (at first second : ℕ) → put_at (put_at map at first) at second ≡ put_at map at second
put_twice map at first second =
    let each : (z : ℕ) → put_at (put_at map at first) at second z ≡ put_at map at second z =
    (λ z. elim (z == at) as (λ b. (if b then second else (if b then first else map z)) ≡ (if b then second else map z)) [ true ↦ refl | false ↦ refl ]) in
    λ i. λ z. each z i

-- the first instruction that loads it stands
load_stands : (text : Text) (i : Instr) (li : List Instr) (count : ℕ) → nat_lt 37 count ≡ true → TextStands text count (program (i ∷ li)) → StandsAt text (s13 text.bytes).pc i
unfolding give
load_stands text i li count within code = code 37 within

loads-small : (text : Text) (n : ℕ) → act text.flags (Addi 9 0 n) (s13 text.bytes) ≡ next (a0 text.bytes ((0 + n) % 2 ^ 32))
unfolding act give load_bytes store_bytes
loads-small text n = refl

-- between the two instructions of a large constant
half_loaded : Bytes → ℕ → State
half_loaded m u = give (s13 m) 9 (u * 2 ^ 12)

loads-upper : (text : Text) (u : ℕ) → act text.flags (Lui 9 u) (s13 text.bytes) ≡ next (half_loaded text.bytes u)
unfolding act give load_bytes store_bytes half_loaded
loads-upper text u = refl

loads-lower : (text : Text) (u l : ℕ) → act text.flags (Addi 9 9 l) (half_loaded text.bytes u) ≡ next (b0 text.bytes ((u * 2 ^ 12 + l) % 2 ^ 32))
unfolding act give load_bytes store_bytes half_loaded
loads-lower text u l =
    ap (λ regs. next (record { pc = 65692; regs = regs; mem = (s13 text.bytes).mem })) (put_twice (s13 text.bytes).regs 9 (u * 2 ^ 12) ((u * 2 ^ 12 + l) % 2 ^ 32))

-- the second of them stands
half_stands : (text : Text) (u l : ℕ) → TextStands text 46 (program (Lui 9 u ∷ Addi 9 9 l ∷ [])) → StandsAt text (half_loaded text.bytes u).pc (Addi 9 9 l)
unfolding give half_loaded
half_stands text u l code = code 38 refl

-- ---- both cases

small_exits : LoadedIsSound → (n : ℕ) → n < 2048 → ExitsWithin 23 (file_of (sections_by (Addi 9 0 n ∷ []))) (n % 256)
small_exits loads n small count input enough =
    let li = Addi 9 0 n ∷ [] in
    let image = small_image n small in
    let text = text_of (sections_by li) in
    let m = text.bytes in
    let whole = image_stands loads image 45 (lit≤ tt) in
    let front = image_stands loads image 37 (lit≤ tt) in
    let allows = image_allows loads image in
    let v = (0 + n) % 2 ^ 32 in
    let loaded_at : Reaches text.flags 14 (s0 m) input [] (a0 m v) input =
    standing_reaches text 13 (s0 m) (s13 m) (a0 m v) (Addi 9 0 n) input [] input (λ a fixed. refl)
    (front-reaches text li input front allows) (load_stands text (Addi 9 0 n) [] 45 refl whole) (loads-small text n) in
    let same : (v + 0) % 2 ^ 32 % 256 ≡ n % 256 = omega arith in
    let steps : count ≡ 22 + suc (count - 23) = omega arith in
    image_run image count input
    ∙ ap (λ k. Ok (run text.flags k (running (s0 m)) input)) steps
    ∙ ap Ok (a-ends text v n input whole allows loaded_at (count - 23))
    ∙ ap (λ status. Ok (standing (ended (exit status)) input)) same

pub large_exits : LoadedIsSound → (n u l : ℕ) → u < 2 ^ 20 → IsSigned 12 l → (u * 2 ^ 12 + l) % 2 ^ 32 ≡ n
    → ExitsWithin 24 (file_of (sections_by (Lui 9 u ∷ Addi 9 9 l ∷ []))) (n % 256)
large_exits loads n u l upper low sum count input enough =
    let li = Lui 9 u ∷ Addi 9 9 l ∷ [] in
    let image = large_image u l upper low in
    let text = text_of (sections_by li) in
    let m = text.bytes in
    let whole = image_stands loads image 46 (lit≤ tt) in
    let front = image_stands loads image 37 (lit≤ tt) in
    let allows = image_allows loads image in
    let v = (u * 2 ^ 12 + l) % 2 ^ 32 in
    let half : Reaches text.flags 14 (s0 m) input [] (half_loaded m u) input =
    standing_reaches text 13 (s0 m) (s13 m) (half_loaded m u) (Lui 9 u) input [] input (λ a fixed. refl)
    (front-reaches text li input front allows) (load_stands text (Lui 9 u) (Addi 9 9 l ∷ []) 46 refl whole) (loads-upper text u) in
    let loaded_at : Reaches text.flags 15 (s0 m) input [] (b0 m v) input =
    standing_reaches text 14 (s0 m) (half_loaded m u) (b0 m v) (Addi 9 9 l) input [] input (λ a fixed. refl) half (half_stands text u l whole) (loads-lower text u l) in
    let same : (v + 0) % 2 ^ 32 % 256 ≡ n % 256 = omega (arith, sum) in
    let steps : count ≡ 23 + suc (count - 24) = omega arith in
    image_run image count input
    ∙ ap (λ k. Ok (run text.flags k (running (s0 m)) input)) steps
    ∙ ap Ok (b-ends text v u l input whole allows loaded_at (count - 24))
    ∙ ap (λ status. Ok (standing (ended (exit status)) input)) same

-- the image whose constant is loaded by these instructions
image_by : List Instr → List ℕ
image_by li = file_of (sections_by li)

exits_by : (at starts ends n bound : ℕ) (li : List Instr) → load_immediate 9 (n % 2 ^ 32) ≡ li → ExitsWithin bound (image_by li) (n % 256) →
    ExitsWithin bound (image_of_constant at starts ends n) (n % 256)
unfolding image_by
exits_by at starts ends n bound li same exits count input enough = ap (λ code. image_at count (image_by code) input) same ∙ exits count input enough

pub constant_exits : LoadedIsSound → ConstantExits
unfolding image_by
constant_exits loads at starts ends n bound = let low : n % 2 ^ 32 ≡ n = omega (arith, bound) in elim (cases_lt n 2048) [
  | inl small ↦
      let one : load_immediate 9 n ≡ Addi 9 0 n ∷ [] = rw (lt-ltb ((n + 2048) % 2 ^ 32) 4096 (omega arith)) refl in
      rw (lt-ltb n 2048 small) (exits_by at starts ends n 23 (Addi 9 0 n ∷ []) (ap (load_immediate 9) low ∙ one) (small_exits loads n small))
  | inr large ↦
      let two : load_immediate 9 n ≡ Lui 9 (upper_part n) ∷ Addi 9 9 (low_part n) ∷ [] = rw (le-ltb ((n + 2048) % 2 ^ 32) 4096 (omega arith)) refl in
      rw (le-ltb n 2048 large)
      (exits_by at starts ends n 24 (Lui 9 (upper_part n) ∷ Addi 9 9 (low_part n) ∷ []) (ap (load_immediate 9) low ∙ two)
      (large_exits loads n (upper_part n) (low_part n) (omega arith) (low_part_fits n) (parts_make_word n (omega arith))))
]
