-- Small programs, run by evaluation.
use Rattle.std.proofs.Common.{◌≡◌, [], ◌∷◌, refl}
use Rattle.elf_file.specs.Loading.{Executable}
use Rattle.rv_isa.specs.Encodings.{decoded}
use Rattle.rv_machine.specs.Machine.{exit, act, give, call, fetched, next_effect}
use Rattle.rv_machine.specs.Memory.{load_bytes, allowed, memory_of, flags_of}
use Rattle.rv_machine.specs.Run.{run_state, run, executed, standing, ended}

-- addi a0, x0, 42; addi a7, x0, 93; ecall
exit_42 : Executable
exit_42 = record {
  entry = 0x10000;
  segments = record {
    at = 0x10000;
    size = 12;
    flags = 5;
    bytes = 0x13 ∷ 0x05 ∷ 0xa0 ∷ 0x02 ∷ 0x93 ∷ 0x08 ∷ 0xd0 ∷ 0x05 ∷ 0x73 ∷ 0x00 ∷ 0x00 ∷ 0x00 ∷ [];
  } ∷ [];
}

exits_after_three : executed 3 exit_42 [] ≡ standing (ended (exit 42)) []
unfolding exit_42 executed run run_state next_effect fetched act give call decoded load_bytes allowed memory_of flags_of
exits_after_three = refl
