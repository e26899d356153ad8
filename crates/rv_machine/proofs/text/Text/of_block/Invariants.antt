use Rattle.std.proofs.Common.{◌≡◌, ℕ, ◌*◌, ◌<◌, length, take, drop, get_or, Option}
use Rattle.rv_isa.specs.Encodings.{decoded}
use Rattle.rv_isa.specs.declared.instruction.Instr.{Instr}
use Rattle.rv_machine.specs.Memory.{number}
use Rattle.rv_machine.proofs.text.Text.of_block.Given as goal

abbrev pub invariant-loop-i : goal.invariant-loop-i
invariant-loop-i l = record {
  long : length l.words.items ≡ l.i;
  each : (k : ℕ) (d : Option Instr) → k < l.i → get_or l.words.items k d ≡ decoded (number (take 4 (drop (4 * k) l.block.bytes.items)));
}
