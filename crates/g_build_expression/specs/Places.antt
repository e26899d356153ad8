-- Where the variables of the slots stand among the variables in scope.
use Rattle.std.specs.Prelude.{ℕ, zero, suc, Bool, true, false, List, [], ◌∷◌}
use Rattle.g_graph.specs.declared.op.Origin.{Origin}
use Rattle.g_build_def.specs.Writer.{SlotOrigin, held, object, hidden}

abbrev pub is_hidden : SlotOrigin → Bool
is_hidden (held o) = false
is_hidden (object n) = false
is_hidden (hidden o) = true

-- the places of the slots, where the first variable stands at this one
abbrev pub slot_places : ℕ → List SlotOrigin → List ℕ
slot_places n [] = []
slot_places n (held o ∷ xs) = n ∷ slot_places (suc n) xs
slot_places n (object k ∷ xs) = n ∷ slot_places (suc n) xs
slot_places n (hidden o ∷ xs) = slot_places (suc n) xs

abbrev pub slot_set : SlotOrigin → Origin → SlotOrigin
slot_set (held o) p = held p
slot_set (object n) p = object n
slot_set (hidden o) p = hidden o

-- the value variable at a place has another origin
abbrev pub held_set : List SlotOrigin → (place : ℕ) → Origin → List SlotOrigin
held_set [] i p = []
held_set (x ∷ xs) zero p = slot_set x p ∷ xs
held_set (x ∷ xs) (suc i) p = x ∷ held_set xs i p
