-- A file that loads has no more bytes than a file may have.
use Rattle.std.proofs.Common.{◌≡◌, ◌<◌, ◌≤◌, ℕ, List, Ok, Err, length, refl, sym, ◌∙◌, inl, inr, arith}
use Rattle.std.proofs.lemmas.Bool.{cases_lt, lt-ltb}
use Rattle.elf_file.specs.Loading.{file_limit, loaded, fault_of, Executable}
use Rattle.elf_file.specs.declared.fault.ElfFault.TheVariants.{LongFile}

too_long : (bytes : List ℕ) → file_limit < length bytes → loaded bytes ≡ Err LongFile
unfolding fault_of
too_long bytes long = rw (lt-ltb file_limit (length bytes) long) refl

pub loaded_is_short : (bytes : List ℕ) (e : Executable) → loaded bytes ≡ Ok e → length bytes ≤ file_limit
loaded_is_short bytes e loads =
    elim (cases_lt file_limit (length bytes)) [ inl long ↦ let clash = sym (too_long bytes long) ∙ loads in absurd cc | inr short ↦ omega (arith, short) ]
