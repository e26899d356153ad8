-- The sections of globals in memory, once an image is loaded.
use Rattle.std.proofs.Common.{◌≡◌, ℕ, ◌+◌, ◌-◌, ◌<◌, ◌≤◌, ◌==◌, if◌then◌else◌, Bool, true, false, List, [], ◌∷◌, ◌++◌, length, slice_index, refl, arith, eqb-true}
use Rattle.elf_file.specs.Image.{Sections, stack_size}
use Rattle.elf_file.specs.Loading.{LoadedSegment}
use Rattle.elf_file.specs.Laws.{executable_for, text_segment, fixed_segment, data_segment}
use Rattle.elf_file.specs.Segments.{AreSound}
use Rattle.rv_machine.specs.Memory.{memory_of, flags_of}
use Rattle.rv_machine.proofs.lemmas.Texts.{segment_is_in_memory}

-- memory has this byte, with these flags
abbrev Has : List LoadedSegment → (x byte flags : ℕ) → Type 0
Has segments x byte flags = (memory_of segments x ≡ byte) × (flags_of segments x ≡ flags)

abbrev segments_for : Sections → (no_fixed : Bool) → List LoadedSegment
segments_for i test = text_segment i ∷ (if test then [] else fixed_segment i ∷ []) ++ data_segment i ∷ []

pub data_there : (i : Sections) (x : ℕ) → AreSound (executable_for i).segments → i.data_at ≤ x → x < i.stack_at + stack_size
    → Has (executable_for i).segments x (slice_index i.globals (x - i.data_at)) 6
unfolding executable_for
data_there i x sound from to = by (length i.fixed == 0) sound
  where
    by : (test : Bool) → AreSound (segments_for i test) → Has (segments_for i test) x (slice_index i.globals (x - i.data_at)) 6
    by true sound = segment_is_in_memory (segments_for i true) 1 (data_segment i) x sound refl (from, omega (arith, from, to))
    by false sound = segment_is_in_memory (segments_for i false) 2 (data_segment i) x sound refl (from, omega (arith, from, to))

pub fixed_there : (i : Sections) (x : ℕ) → AreSound (executable_for i).segments → i.fixed_at ≤ x → x < i.fixed_at + length i.fixed
    → Has (executable_for i).segments x (slice_index i.fixed (x - i.fixed_at)) 4
unfolding executable_for
fixed_there i x sound from to = by (length i.fixed == 0) refl sound
  where
    by : (test : Bool) → (length i.fixed == 0) ≡ test → AreSound (segments_for i test) → Has (segments_for i test) x (slice_index i.fixed (x - i.fixed_at)) 4
    by true none sound = let empty = eqb-true (length i.fixed) 0 none in absurd (omega (arith, empty, from, to))
    by false some sound = segment_is_in_memory (segments_for i false) 1 (fixed_segment i) x sound refl (from, to)
