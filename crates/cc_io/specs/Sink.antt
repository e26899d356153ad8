-- What a sink holds, which may be unknown.
use Rattle.std.specs.Prelude.{ℕ, List, ◌++◌, Option, None, Some}

-- what is held once these bytes are appended
abbrev pub append : Option (List ℕ) → List ℕ → Option (List ℕ)
append None piece = None
append (Some held) piece = Some (held ++ piece)
