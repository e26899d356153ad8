-- The environment calls by the number in a7, as Linux has them on RISC-V.
use Rattle.std.specs.Prelude.{ℕ}

abbrev pub read_call : ℕ
read_call = 63

abbrev pub write_call : ℕ
write_call = 64

abbrev pub exit_call : ℕ
exit_call = 93
