-- What names mean at a point of a program, and the scopes around it (ISO/IEC 9899:2011, 6.2.1).
use Rattle.std.specs.Prelude.{ℕ, nat_eq, Bool, false, List, [], ◌∷◌, Option, None, is_some}
use Rattle.std.specs.Cmp.Lexicographic.{pointwise}
use Rattle.std.specs.Map.{lookup}
use Rattle.std.specs.Option.{option_or}

-- the bytes of an identifier
abbrev pub Name : Type 0
Name = List ℕ

abbrev pub same_name : Name → Name → Bool
same_name = pointwise nat_eq

-- names with their meanings, the latest first
abbrev pub Scope : Type 0 → Type 0
Scope T = List (Name × T)

-- scopes within each other, the innermost first
abbrev pub Scopes : Type 0 → Type 0
Scopes T = List (Scope T)

module _ {T : Type 0} where
  -- what a name means: the meaning that the innermost scope with it gives it
  abbrev pub meaning : Scopes T → Name → Option T
  meaning [] name = None
  meaning (s ∷ outer) name = option_or (lookup (same_name name) s) (meaning outer name)

  -- whether the innermost scope has the name
  abbrev pub is_declared : Scopes T → Name → Bool
  is_declared [] name = false
  is_declared (s ∷ outer) name = is_some (lookup (same_name name) s)

  -- the scopes after the innermost one gets the name
  abbrev pub with_declaration : Scopes T → Name → T → Scopes T
  with_declaration [] name t = ((name, t) ∷ []) ∷ []
  with_declaration (s ∷ outer) name t = ((name, t) ∷ s) ∷ outer

  -- the scopes around the innermost one; around the outermost there is an empty one
  abbrev pub outer : Scopes T → Scopes T
  outer [] = [] ∷ []
  outer (s ∷ []) = [] ∷ []
  outer (s ∷ t ∷ rest) = t ∷ rest
