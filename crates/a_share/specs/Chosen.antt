-- The places that names may share, in the order in which they are tried.
use Rattle.std.specs.Prelude.{◌+◌, ◌-◌, ℕ, nat_lt, if◌then◌else◌}

abbrev pub candidate : (number : ℕ) → ℕ
candidate k = if nat_lt k 4 then k + 11 else if nat_lt k 15 then k - 4 else k
