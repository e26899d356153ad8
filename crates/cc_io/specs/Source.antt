-- What a source has left, which may be unknown.
use Rattle.std.specs.Prelude.{◌≡◌, ℕ, List, [], ◌++◌, Option, None, Some, IfSome}

-- what was left before these bytes were taken from the front of it
abbrev pub prepend : List ℕ → Option (List ℕ) → Option (List ℕ)
prepend taken None = None
prepend taken (Some rest) = Some (taken ++ rest)

-- where what is left is known, it is nothing
abbrev pub IsAtEnd : Option (List ℕ) → Type 0
IsAtEnd left = IfSome left (λ bytes. bytes ≡ [])
