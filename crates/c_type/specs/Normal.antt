-- Types without arrays of one element and structs of one member: one of a few leaves is not high.
use Rattle.std.specs.Prelude.{◌≡◌, ℕ, ◌==◌, ◌&&◌, not, Bool, true, false, List, [], ◌∷◌, length}
use Rattle.c_type.specs.Trees.{TypeTree, void_type, scalar_type, pointer_to, array_of, struct_type}
use Rattle.c_type.specs.Layout.{Definitions, is_complete, size, align, leaves_at, members}

-- no array of one element, and no struct of one member
abbrev pub is_normal : Definitions → TypeTree → Bool
is_normal defs void_type = false
is_normal defs (scalar_type s) = true
is_normal defs (pointer_to t) = true
is_normal defs (array_of t n) = not (n == 1) && is_normal defs t
is_normal defs (struct_type tag) = not (length (members defs tag) == 1)

-- a normal type that occupies what a complete one does
pub record IsNormalOf (defs : Definitions) (t u : TypeTree) : Type 0 where
  pub complete : is_complete defs t ≡ true
  pub also_complete : is_complete defs u ≡ true
  pub size_is : size defs u ≡ size defs t
  pub align_is : align defs u ≡ align defs t
  pub leaves_are : (at : ℕ) → leaves_at defs u at ≡ leaves_at defs t at
  pub normal : is_normal defs u ≡ true

-- such types, one for each of these
abbrev pub AreNormalOf : Definitions → List TypeTree → List TypeTree → Type 0
AreNormalOf defs [] [] = Unit {0}
AreNormalOf defs (t ∷ ts) (u ∷ us) = IsNormalOf defs t u × AreNormalOf defs ts us
AreNormalOf defs _ _ = ⊥
