-- The numbers and names of the faults, as they are reported.
use Rattle.std.specs.Prelude.{ℕ, List, codes}
use Rattle.elf_file.specs.declared.fault.ElfFault.{ElfFault}
use Rattle.elf_file.specs.declared.fault.ElfFault.TheVariants.{Short, NotElf, NotProfile, BadSegment, LongFile}

abbrev pub number_of : ElfFault → ℕ
number_of Short = 1
number_of NotElf = 2
number_of NotProfile = 3
number_of BadSegment = 4
number_of LongFile = 5

abbrev pub name_of : ElfFault → List ℕ
name_of Short = codes "Short"
name_of NotElf = codes "NotElf"
name_of NotProfile = codes "NotProfile"
name_of BadSegment = codes "BadSegment"
name_of LongFile = codes "LongFile"
