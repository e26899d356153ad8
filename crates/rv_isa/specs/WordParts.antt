-- A word as the sum of an upper part, which lui and auipc take, and a low part, which addi, jalr, loads and stores
-- take: %hi and %lo of the assembler (RISC-V ELF psABI). The low part is sign-extended, so the upper part rounds.
use Rattle.std.specs.Prelude.{◌≡◌, ℕ, ◌+◌, ◌-◌, ◌*◌, ◌/◌, ◌%◌, ◌^◌, ◌<◌, nat_lt, if◌then◌else◌}
use Rattle.rv_isa.specs.Formats.{IsSigned}

-- the upper 20 bits, one more where the low part is negative
abbrev pub upper_part : ℕ → ℕ
upper_part v = (v + 0x800) % 2 ^ 32 / 2 ^ 12

-- the low 12 bits, sign-extended
abbrev pub low_part : ℕ → ℕ
low_part v = if nat_lt (v % 2 ^ 12) 0x800 then v % 2 ^ 12 else v % 2 ^ 12 + (2 ^ 32 - 2 ^ 12)

-- ---- laws

-- The low part fits the immediate of formats I and S.
abbrev pub LowPartFits : Type 0
LowPartFits = (v : ℕ) → IsSigned 12 (low_part v)

-- lui, and then an addition of the low part.
abbrev pub PartsMakeWord : Type 0
PartsMakeWord = (v : ℕ) → v < 2 ^ 32 → (upper_part v * 2 ^ 12 + low_part v) % 2 ^ 32 ≡ v

-- auipc at an address, and then an addition of the low part.
abbrev pub PartsMakeOffset : Type 0
PartsMakeOffset = (address v : ℕ) → v < 2 ^ 32
    → ((address + upper_part v * 2 ^ 12) % 2 ^ 32 + low_part v) % 2 ^ 32 ≡ (address + v) % 2 ^ 32
