-- A tag keeps its number when it is declared.
use Rattle.std.proofs.Common.{◌≡◌, Bool, true, false, [], ◌∷◌, if◌then◌else◌, refl, arith}
use Rattle.std.specs.Cmp.Lexicographic.{nat_list_eq_equiv}
use Rattle.std.specs.List.{position_or_len}
use Rattle.std.specs.Map.{keys_of}
use Rattle.c_check_scope.specs.Scopes.{Name, same_name}
use Rattle.c_check_scope.specs.Tags.{Tags, tag_number, with_declared_tag}

first : (test : Name → Bool) (name : Name) → test name ≡ true → position_or_len test [] ≡ position_or_len test (name ∷ [])
first test name h = grind arith

place : (b : Bool) (e : Name × Bool) (es rest : Tags) (test : Name → Bool) → test e.0 ≡ b → position_or_len test (keys_of es) ≡ position_or_len test (keys_of rest)
    → position_or_len test (keys_of (e ∷ es)) ≡ position_or_len test (keys_of (if b then (e.0, true) ∷ es else e ∷ rest))
place true e es rest test h same = grind arith
place false e es rest test h same = grind arith

pub declared_keeps : (tags : Tags) (name : Name) → tag_number tags name ≡ tag_number (with_declared_tag tags name) name
declared_keeps [] name = first (same_name name) name (nat_list_eq_equiv.refl name)
declared_keeps (e ∷ es) name = place (same_name name e.0) e es (with_declared_tag es name) (same_name name) refl (declared_keeps es name)
