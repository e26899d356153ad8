-- Texts without a byte, and pairs of words.
use Rattle.std.specs.Prelude.{◌≢◌, ℕ, List, ◌∷◌, ◌++◌, decimal}
use Rattle.std.specs.List.{AllByRecursion}

abbrev pub HasNo : (byte : ℕ) → List ℕ → Type 0
HasNo byte text = AllByRecursion (λ b. b ≢ byte) text

-- two numbers with a blank between them
abbrev pub pair_text : (before after : ℕ) → List ℕ
pair_text before after = decimal before ++ (32 ∷ decimal after)

-- a name and two numbers
abbrev pub named_text : (name : List ℕ) → (before after : ℕ) → List ℕ
named_text name before after = name ++ (32 ∷ pair_text before after)
