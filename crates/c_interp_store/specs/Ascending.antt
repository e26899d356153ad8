-- Lists in ascending order of a number.
use Rattle.std.specs.Prelude.{◌≡◌, ◌≢◌, ℕ, suc, ◌<◌, ◌&&◌, nat_le, Bool, true, List, [], ◌∷◌, length, slice_index_or}
use Rattle.val_core.specs.declared.leaf.Leaf.{Leaf}

-- each has a greater number than the one before it, and none has one below `from`
abbrev pub ascends : {X : Type 0} → (X → ℕ) → (from : ℕ) → List X → Bool
ascends key from [] = true
ascends key from (x ∷ xs) = nat_le from (key x) && ascends key (suc (key x)) xs

abbrev pub leaf_offset : Leaf → ℕ
leaf_offset l = l.offset

-- what stands at this index has this number
pub record IsFoundAt {X : Type 0} (key : X → ℕ) (xs : List X) (number i : ℕ) : Type 0 where
  pub inside : i < length xs
  pub number_is : (d : X) → key (slice_index_or xs i d) ≡ number

-- nothing has this number
abbrev pub IsAbsent : {X : Type 0} → (X → ℕ) → List X → (number : ℕ) → Type 0
IsAbsent {X} key xs n = (i : ℕ) (d : X) → i < length xs → key (slice_index_or xs i d) ≢ n
