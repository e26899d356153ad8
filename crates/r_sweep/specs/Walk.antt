-- A walk along elements with numbers: what stands before the cursor, and what is left from it on. A cursor past the last
-- is None.
use Rattle.std.specs.Prelude.{ℕ, ◌==◌, if◌then◌else◌, List, [], ◌∷◌}
use Rattle.std.specs.declared.option.Option.{Option}
use Rattle.std.specs.declared.option.Option.TheVariants.{Some, None}

-- the elements before the first of this number, and that element with those after it
abbrev pub until : {X : Type 0} → (X → ℕ) → ℕ → List X → List X
until number n [] = []
until number n (x ∷ xs) = if number x == n then [] else x ∷ until number n xs

abbrev pub onward : {X : Type 0} → (X → ℕ) → ℕ → List X → List X
onward number n [] = []
onward number n (x ∷ xs) = if number x == n then x ∷ xs else onward number n xs

abbrev pub passed : {X : Type 0} → (X → ℕ) → (cursor : Option ℕ) → List X → List X
passed number None xs = xs
passed number (Some n) xs = until number n xs

abbrev pub left : {X : Type 0} → (X → ℕ) → (cursor : Option ℕ) → List X → List X
left number None xs = []
left number (Some n) xs = onward number n xs
