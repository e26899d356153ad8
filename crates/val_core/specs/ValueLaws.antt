-- Laws of the operations on words and values.
use Rattle.std.specs.Prelude.{ℕ, ◌^◌, ◌<◌}
use Rattle.val_core.specs.Words.{word1, word2}
use Rattle.val_core.specs.Values.{Value, value1, value2, IsLessDefined, IsSound}
use Rattle.val_core.specs.declared.operation.Op1.{Op1}
use Rattle.val_core.specs.declared.operation.Op2.{Op2}

-- an operation on two words gives a word
abbrev pub GivesWord2 : Type 0
GivesWord2 = (op : Op2) (a b : ℕ) → a < 2 ^ 32 → b < 2 ^ 32 → word2 op a b < 2 ^ 32

-- and so does one on one word
abbrev pub GivesWord1 : Type 0
GivesWord1 = (op : Op1) (a : ℕ) → a < 2 ^ 32 → word1 op a < 2 ^ 32

-- an operation on less defined values gives a less defined value
abbrev pub KeepsLessDefined2 : Type 0
KeepsLessDefined2 =
    (op : Op2) (x x' y y' : Value) → IsLessDefined x x' → IsLessDefined y y' → IsLessDefined (value2 op x y) (value2 op x' y')

abbrev pub KeepsLessDefined1 : Type 0
KeepsLessDefined1 = (op : Op1) (x x' : Value) → IsLessDefined x x' → IsLessDefined (value1 op x) (value1 op x')

-- an operation on sound values gives a sound value
abbrev pub KeepsSound2 : Type 0
KeepsSound2 = (op : Op2) (x y : Value) → IsSound x → IsSound y → IsSound (value2 op x y)

abbrev pub KeepsSound1 : Type 0
KeepsSound1 = (op : Op1) (x : Value) → IsSound x → IsSound (value1 op x)
