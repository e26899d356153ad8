-- Two globals, worked by evaluation: a fixed one of five bytes, and one that holds its address.
use Rattle.std.proofs.Common.{◌≡◌, ℕ, List, [], ◌∷◌, Some, true, false, refl}
use Rattle.elf_file.specs.Laws.{executable_for}
use Rattle.val_core.specs.declared.leaf.Leaf.{Leaf}
use Rattle.val_core.specs.declared.values.Value.TheVariants.{Num, At}
use Rattle.val_core.specs.Memory.{load}
use Rattle.g_graph.specs.Plain.{PlainDelta}
use Rattle.g_mean.specs.Calls.{global_of, first_memory}
use Rattle.rv_machine.specs.Memory.{load_bytes, memory_of, flags_of}
use Rattle.rv_layout.specs.Layout.{addresses_of, laid_out}
use Rattle.rv_layout.specs.Sequences.{bytes_of}
use Rattle.s_select_keeps.specs.Globals.{bases_of}

leaf : ℕ → ℕ → Leaf
leaf offset width = record { offset = offset; width = width }

five : PlainDelta
five = record { bytes = 1 ∷ 2 ∷ 3 ∷ 4 ∷ 5 ∷ []; leaves = leaf 0 4 ∷ leaf 4 1 ∷ []; links = []; fixed = true }

pointer : PlainDelta
pointer = record { bytes = 0 ∷ 0 ∷ 0 ∷ 0 ∷ []; leaves = leaf 0 4 ∷ []; links = record { at = 0; delta = 0 } ∷ []; fixed = false }

globals : List PlainDelta
globals = five ∷ pointer ∷ []

mem : ℕ → ℕ
mem = memory_of (executable_for (laid_out [] globals 0)).segments

flags : ℕ → ℕ
flags = flags_of (executable_for (laid_out [] globals 0)).segments

five-stands : bases_of (addresses_of [] globals) 0 ≡ 0x11000
unfolding globals five pointer
five-stands = refl

pointer-stands : bases_of (addresses_of [] globals) 1 ≡ 0x12008
unfolding globals five pointer
pointer-stands = refl

word-meant : load 4 (global_of globals 0) (first_memory globals) ≡ Some (Num 0x04030201)
unfolding globals five pointer leaf
word-meant = refl

word-shown : load_bytes mem 0x11000 4 ≡ 0x04030201
unfolding mem globals five pointer load_bytes memory_of executable_for bytes_of
word-shown = refl

byte-shown : load_bytes mem 0x11004 1 ≡ 5
unfolding mem globals five pointer load_bytes memory_of executable_for bytes_of
byte-shown = refl

address-meant : load 4 (global_of globals 1) (first_memory globals) ≡ Some (At (record { number = 0; size = 5 }) 0)
unfolding globals five pointer leaf
address-meant = refl

address-shown : load_bytes mem 0x12008 4 ≡ 0x11000
unfolding mem globals five pointer load_bytes memory_of executable_for bytes_of
address-shown = refl

five-is-fixed : flags 0x11000 ≡ 4
unfolding flags globals five pointer flags_of executable_for bytes_of
five-is-fixed = refl

pointer-may-change : flags 0x12008 ≡ 6
unfolding flags globals five pointer flags_of executable_for bytes_of
pointer-may-change = refl
