use Rattle.std.proofs.Common.{◌≡◌, ◌+◌, ◌*◌, ◌-◌, ◌^◌, ◌≤◌, length}
use Rattle.elf_file.specs.Loading.{loads_from, are_separate, total_memory}
use Rattle.elf_file.proofs.reader.may_be_loaded.Given as goal

abbrev pub invariant-loop-k : goal.invariant-loop-k
invariant-loop-k l = record {
  separate : are_separate (length l.bytes) (loads_from l.bytes l.at l.count)
      ≡ are_separate (length l.bytes) (loads_from l.bytes (l.at + 32 * l.k) (l.count - l.k));
  memory : total_memory (loads_from l.bytes l.at l.count)
      ≡ l.total + total_memory (loads_from l.bytes (l.at + 32 * l.k) (l.count - l.k));
  small : l.total ≤ l.k * 2 ^ 32;
}
