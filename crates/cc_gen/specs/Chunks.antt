-- What is known of a sink that gathers bytes for another one.
use Rattle.std.specs.Prelude.{ℕ, List, Option, None, Some, length}

-- how many bytes a sink holds, where they are known
abbrev pub held_length : Option (List ℕ) → ℕ
held_length None = 0
held_length (Some held) = length held

-- The rest of a sink that gathers bytes: which `&mut` is lent, by its ghost name, what the other sink held first, and
-- the rest of the other sink.
pub record RestOfChunks (R : Type 0) : Type 0 where
  pub lender : ℕ
  pub first : Option (List ℕ)
  pub rest : R
