-- The integer registers by number, under the names of the calling convention (RISC-V ELF psABI, "Integer Register
-- Convention").
use Rattle.std.specs.Prelude.{ℕ}

-- the register that is always 0
abbrev pub x0 : ℕ
x0 = 0

-- the return address, and the stack pointer
abbrev pub ra : ℕ
ra = 1

abbrev pub sp : ℕ
sp = 2

-- temporary registers
abbrev pub t0 : ℕ
t0 = 5

abbrev pub t1 : ℕ
t1 = 6

-- registers that a call keeps: s0, and s1 to s11 by their numbers
abbrev pub s0 : ℕ
s0 = 8

abbrev pub s1 : ℕ
s1 = 9

-- arguments, and in a0 the result
abbrev pub a0 : ℕ
a0 = 10

abbrev pub a1 : ℕ
a1 = 11

abbrev pub a2 : ℕ
a2 = 12

-- the number of an environment call
abbrev pub a7 : ℕ
a7 = 17
