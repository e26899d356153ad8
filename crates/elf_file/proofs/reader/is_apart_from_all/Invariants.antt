use Rattle.std.proofs.Common.{◌≡◌, ◌+◌, ◌*◌, ◌-◌}
use Rattle.std.specs.List.{list_all}
use Rattle.elf_file.specs.Header.{header_of}
use Rattle.elf_file.specs.Loading.{is_apart, loads_from}
use Rattle.elf_file.proofs.reader.is_apart_from_all.Given as goal

abbrev pub invariant-loop-k : goal.invariant-loop-k
invariant-loop-k l =
    list_all (is_apart (header_of l.header)) (loads_from l.bytes l.at l.count)
    ≡ list_all (is_apart (header_of l.header)) (loads_from l.bytes (l.at + 32 * l.k) (l.count - l.k))
