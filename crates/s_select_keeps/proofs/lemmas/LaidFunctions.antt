-- The functions of a program that is laid out can run once its image is loaded.
use Rattle.std.proofs.Common.{◌≡◌, ◌⊎◌, ℕ, zero, suc, ◌+◌, ◌%◌, ◌^◌, ◌<◌, ◌≤◌, ◌==◌, if◌then◌else◌, Bool, true, false, List, [], ◌∷◌, ◌++◌, map, length, slice_get, slice_index, Some, None, option_map, get_or, refl, ap, subst, ◌∙◌, arith, inl, inr}
use Rattle.std.specs.List.{sum_by}
use Rattle.std.proofs.lemmas.List.{get_or_past}
use Rattle.std.proofs.lemmas.List.Sums.{sum_by-cons}
use Rattle.std.proofs.lemmas.Option.{same_Some, slice_get-map, slice_get_cases}
use Rattle.elf_file.specs.Image.{Sections, IsPlaced, stack_size}
use Rattle.elf_file.specs.Laws.{executable_for, text_segment, fixed_segment, data_segment}
use Rattle.elf_file.specs.Segments.{AreSound}
use Rattle.rv_machine.specs.Memory.{has_flag, flags_of, to_read, to_write}
use Rattle.rv_machine.specs.Standing.{Text, CodeStands}
use Rattle.rv_machine.proofs.lemmas.Texts.{segment_is_in_memory}
use Rattle.rv_layout.specs.declared.item.Item.{Item}
use Rattle.rv_layout.specs.Items.{items_size, label_at}
use Rattle.rv_layout.specs.Layout.{Addresses, functions_at, functions_from, function_code, addresses_of, laid_out}
use Rattle.rv_layout.proofs.lemmas.Addresses.{length-functions_from}
use Rattle.rv_layout.proofs.lemmas.Items.{items_size-aligned}
use Rattle.s_linear.specs.Linear.{LinearFunction}
use Rattle.s_select_keeps.specs.Formats.{EachFits}
use Rattle.s_select_keeps.specs.Functions.{FunctionStands, FunctionCanRun, Layout}
use Rattle.s_select_keeps.specs.LaidFunctions.{function_items, loaded_program, LaidProgramCanRun, LaidProgramStarts}
use Rattle.s_select_keeps.specs.Programs.{ProgramStands, text_loaded}
use Rattle.s_select_keeps.specs.Starts.{main_returns}
use Rattle.s_select_keeps.specs.Standing.{FunctionsStandFrom}
use Rattle.s_select_keeps.proofs.lemmas.CodeFormats.{function-fits}
use Rattle.s_select_keeps.proofs.Items.{items_are_resolved}
use Rattle.s_select_keeps.proofs.Programs.{laid_program_stands}

-- ---- where functions are

-- a function among those that stand
function-there : (text : Text) (addresses : Addresses) (fs : List (List Item)) (ats : List ℕ) (k : ℕ) (f : List Item) → FunctionsStandFrom text addresses fs ats
    → slice_get fs k ≡ Some f
    → CodeStands text (slice_index ats k) (function_code addresses (slice_index ats k) f) (slice_index ats k + items_size f)
function-there text addresses [] ats k f all there = absurd cc
function-there text addresses (g ∷ fs) [] k f all there = absurd all
function-there text addresses (g ∷ fs) (at ∷ ats) zero f all there =
    subst (λ x. CodeStands text at (function_code addresses at x) (at + items_size x)) (same_Some g f there) all.0
function-there text addresses (g ∷ fs) (at ∷ ats) (suc k) f all there = function-there text addresses fs ats k f all.1 there

-- functions end within their bytes together
ends-within : (fs : List (List Item)) (at k : ℕ) (f : List Item) → slice_get fs k ≡ Some f
    → slice_index (functions_from at fs) k + items_size f ≤ at + sum_by items_size fs
ends-within [] at k f there = absurd cc
ends-within (g ∷ fs) at zero f there =
    let sum = sum_by-cons items_size g fs in
    let same : items_size g ≡ items_size f = ap items_size (same_Some g f there) in
    omega (arith, sum, same)
ends-within (g ∷ fs) at (suc k) f there = let sum = sum_by-cons items_size g fs in let h = ends-within fs (at + items_size g) k f there in omega (arith, sum, h)

-- each is at a multiple of 4
starts-even : (fs : List (List Item)) (at k : ℕ) → at % 4 ≡ 0 → slice_index (functions_from at fs) k % 4 ≡ 0
starts-even [] at k even = refl
starts-even (f ∷ fs) at zero even = even
starts-even (f ∷ fs) at (suc k) even = starts-even fs (at + items_size f) k (let h = items_size-aligned f in omega (arith, even, h))

-- ---- memory that may be read and written

-- from the data on to the end of the stack
data-there : (i : Sections) (x : ℕ) → AreSound (executable_for i).segments → i.data_at ≤ x → x < i.stack_at + stack_size → flags_of (executable_for i).segments x ≡ 6
unfolding executable_for
data-there i x sound from to = by (length i.fixed == 0) sound
  where
    by : (test : Bool) → AreSound (text_segment i ∷ (if test then [] else fixed_segment i ∷ []) ++ data_segment i ∷ [])
        → flags_of (text_segment i ∷ (if test then [] else fixed_segment i ∷ []) ++ data_segment i ∷ []) x ≡ 6
    by true sound = (segment_is_in_memory (text_segment i ∷ data_segment i ∷ []) 1 (data_segment i) x sound refl (from, omega (arith, from, to))).1
    by false sound = (segment_is_in_memory (text_segment i ∷ fixed_segment i ∷ data_segment i ∷ []) 2 (data_segment i) x sound refl (from, omega (arith, from, to))).1

data_may_be_read : (i : Sections) (x : ℕ) → AreSound (executable_for i).segments → i.data_at ≤ x → x < i.stack_at + stack_size
    → has_flag (flags_of (executable_for i).segments x) to_read ≡ true
data_may_be_read i x sound from to = ap (λ n. has_flag n to_read) (data-there i x sound from to)

data_may_be_written : (i : Sections) (x : ℕ) → AreSound (executable_for i).segments → i.data_at ≤ x → x < i.stack_at + stack_size
    → has_flag (flags_of (executable_for i).segments x) to_write ≡ true
data_may_be_written i x sound from to = ap (λ n. has_flag n to_write) (data-there i x sound from to)

-- ---- the whole program

each-fits : (places : Layout) (globals : ℕ) (fs : List LinearFunction) → ((k : ℕ) (f : LinearFunction) → slice_get fs k ≡ Some f → FunctionCanRun globals (places f) f)
    → EachFits (map (function_items places) fs)
each-fits places globals [] can = tt
each-fits places globals (f ∷ fs) can = (function-fits globals (places f) f (can 0 f refl), each-fits places globals fs (λ k g there. can (suc k) g there))

pub laid_program_can_run : LaidProgramCanRun
laid_program_can_run places fs ds main global can sound runs marked = record {
  functions = function;
  entries = entry;
  stubs = stands.stubs;
  readable = data_may_be_read (laid_out (map (function_items places) fs) ds main) (addresses_of (map (function_items places) fs) ds).data_at sound (omega arith) (omega arith);
  writable = data_may_be_written (laid_out (map (function_items places) fs) ds main) (addresses_of (map (function_items places) fs) ds).data_at sound (omega arith) (omega arith);
}
  where
    stands : ProgramStands (map (function_items places) fs) ds main
    stands = laid_program_stands (map (function_items places) fs) ds main can (each-fits places (length (addresses_of (map (function_items places) fs) ds).globals) fs runs) sound

    function : (k : ℕ) (f : LinearFunction) → slice_get fs k ≡ Some f
        → FunctionStands (loaded_program places fs ds main global) (slice_index (addresses_of (map (function_items places) fs) ds).functions k) (places f) f
    function k f there =
        let at = slice_index (functions_from functions_at (map (function_items places) fs)) k in
        let found : slice_get (map (function_items places) fs) k ≡ Some (function_items places f) = slice_get-map (function_items places) fs k ∙ ap (option_map (function_items places)) there in
        let code = function-there (text_loaded (map (function_items places) fs) ds main) (addresses_of (map (function_items places) fs) ds) (map (function_items places) fs)
        (functions_from functions_at (map (function_items places) fs)) k
        (function_items places f) stands.functions found in
        let end = ends-within (map (function_items places) fs) functions_at k (function_items places f) found in
        let memory = can.fits_memory in
        record {
          labels = λ l. label_at l at (function_items places f);
          end = at + items_size (function_items places f);
          there =
              items_are_resolved (text_loaded (map (function_items places) fs) ds main) (addresses_of (map (function_items places) fs) ds) at (at + items_size (function_items places f))
              (function_items places f) (marked k f there) code;
          low = omega (arith, end, memory);
          can = runs k f there;
        }

    entry : (k : ℕ) → (slice_index (functions_from functions_at (map (function_items places) fs)) k < 2 ^ 32)
        × (slice_index (functions_from functions_at (map (function_items places) fs)) k % 2 ≡ 0)
    entry k = (
      by (slice_get_cases (map (function_items places) fs) k).1,
      let even = starts-even (map (function_items places) fs) functions_at k refl in omega (arith, even),
    )
      where
        by : ((x : List Item) × (k < length (map (function_items places) fs)) × (slice_get (map (function_items places) fs) k ≡ Some x) × (get_or (map (function_items places) fs) k x ≡ x))
            ⊎ ((length (map (function_items places) fs) ≤ k) × (slice_get (map (function_items places) fs) k ≡ None))
            → slice_index (functions_from functions_at (map (function_items places) fs)) k < 2 ^ 32
        by (inl h) = let end = ends-within (map (function_items places) fs) functions_at k h.0 h.2 in let memory = can.fits_memory in omega (arith, end, memory)
        by (inr h) =
            let high = h.0 in
            let same = length-functions_from functions_at (map (function_items places) fs) in
            let zero_is : slice_index (functions_from functions_at (map (function_items places) fs)) k ≡ 0 =
            get_or_past (functions_from functions_at (map (function_items places) fs)) k 0 (omega (arith, high, same)) in
            omega (arith, zero_is)

-- ---- its start

starts-after : (fs : List (List Item)) (at k : ℕ) (f : List Item) → slice_get fs k ≡ Some f → at ≤ slice_index (functions_from at fs) k
starts-after [] at k f there = absurd cc
starts-after (g ∷ fs) at zero f there = omega arith
starts-after (g ∷ fs) at (suc k) f there = let h = starts-after fs (at + items_size g) k f there in omega (arith, h)

-- a placed program ends below 2^32
placed-low : (i : Sections) → IsPlaced i → i.stack_at + stack_size < 2 ^ 32
placed-low i placed =
    let a = placed.fixed_place in
    let b = placed.globals_place in
    let c = placed.stack_place in
    let sizes = placed.sizes in
    omega (arith, a, b, c, sizes)

pub laid_program_starts : LaidProgramStarts
unfolding executable_for
laid_program_starts places fs ds main global blocks bases input can placed sound runs shows has bytes = record {
  has_text = λ a fixed. refl;
  pc = refl;
  there = stands.start;
  low = placed-low (laid_out (map (function_items places) fs) ds main) placed;
  aligned = omega arith;
  after = by (slice_get_cases (map (function_items places) fs) main).1;
  readable = λ a from to. data_may_be_read (laid_out (map (function_items places) fs) ds main) a sound (omega (arith, from)) to;
  writable = λ a from to. data_may_be_written (laid_out (map (function_items places) fs) ds main) a sound (omega (arith, from)) to;
  memory = shows;
  blocks_are = has;
  bytes = bytes;
}
  where
    stands : ProgramStands (map (function_items places) fs) ds main
    stands = laid_program_stands (map (function_items places) fs) ds main can (each-fits places (length (addresses_of (map (function_items places) fs) ds).globals) fs runs) sound

    by : ((x : List Item) × (main < length (map (function_items places) fs)) × (slice_get (map (function_items places) fs) main ≡ Some x) × (get_or (map (function_items places) fs) main x ≡ x))
        ⊎ ((length (map (function_items places) fs) ≤ main) × (slice_get (map (function_items places) fs) main ≡ None))
        → main_returns ≤ slice_index (functions_from functions_at (map (function_items places) fs)) main
    by (inl h) = let after = starts-after (map (function_items places) fs) functions_at main h.0 h.2 in omega (arith, after)
    by (inr h) = let past = h.0 in let inside = can.has_main in absurd (omega (arith, past, inside))
