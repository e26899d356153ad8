-- The names of an instruction are those that it writes and then those that it reads.
use Rattle.std.proofs.Common.{◌≡◌, ℕ, List, ◌++◌, take, drop, ap, ◌∙◌}
use Rattle.std.proofs.lemmas.List.{append_assoc, take-append-drop}

pub names_whole : (before xs : List ℕ) (k : ℕ) → (before ++ take k xs) ++ drop k xs ≡ before ++ xs
names_whole before xs k = append_assoc before (take k xs) (drop k xs) ∙ ap (λ z. before ++ z) (take-append-drop k xs)
