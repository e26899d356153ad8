-- What a run of the program that returns a constant comes to.
use Rattle.std.specs.Prelude.{◌≡◌, ℕ, ◌%◌, ◌<◌, ◌≤◌, ◌^◌, nat_lt, List, Ok, if◌then◌else◌}
use Rattle.rv_machine.specs.Machine.{exit}
use Rattle.rv_machine.specs.Run.{image_at, standing, ended}
use Rattle.cc_compile.specs.Constant.{image_of_constant}

-- Whatever the input, this many instructions and any more of the file end with this status, with nothing
-- written and nothing read.
abbrev pub ExitsWithin : (count : ℕ) → List ℕ → (status : ℕ) → Type 0
ExitsWithin count bytes status =
    (n : ℕ) (input : List ℕ) → count ≤ n → image_at n bytes input ≡ Ok (standing (ended (exit status)) input)

-- how many instructions a program that returns this constant has
abbrev pub instruction_count : ℕ → ℕ
instruction_count n = if nat_lt n 2048 then 23 else 24

-- The image of a constant exits with its low byte, after 23 instructions where it is below 2048, and else after 24.
abbrev pub ConstantExits : Type 0
ConstantExits =
    (at starts ends n : ℕ) → n < 2 ^ 31 → ExitsWithin (instruction_count n) (image_of_constant at starts ends n) (n % 256)
