-- Laws of code where it stands, and of the words that its instructions give.
use Rattle.std.specs.Prelude.{◌≡◌, ℕ, ◌^◌, ◌<◌, ◌≤◌, List, ◌++◌, map, Option}
use Rattle.val_core.specs.declared.operation.Op1.{Op1}
use Rattle.val_core.specs.declared.operation.Op2.{Op2}
use Rattle.val_core.specs.Words.{word1, word2}
use Rattle.rv_isa.specs.declared.instruction.Instr.{Instr}
use Rattle.rv_layout.specs.declared.item.Item.{Item}
use Rattle.rv_layout.specs.declared.item.Item.TheVariants.{Word}
use Rattle.rv_layout.specs.Items.{marks, label_at}
use Rattle.rv_layout.specs.Layout.{Addresses, functions_from, function_code, functions_code}
use Rattle.s_select_keeps.specs.Computed.{computed1, computed2}
use Rattle.rv_machine.specs.Standing.{Text, CodeStands}
use Rattle.s_select_keeps.specs.Standing.{ItemsStand, FunctionsStandFrom}

-- Functions stand at their addresses.
abbrev pub FunctionsStand : Type 0
FunctionsStand = (text : Text) (addresses : Addresses) (at b : ℕ) (fs : List (List Item)) → CodeStands text at (functions_code addresses at fs) b
    → FunctionsStandFrom text addresses fs (functions_from at fs)

-- The items of a function stand one after the other, and its labels are resolved, where each is marked once at most.
abbrev pub ItemsAreResolved : Type 0
ItemsAreResolved = (text : Text) (addresses : Addresses) (at b : ℕ) (items : List Item) → ((l : ℕ) → marks l items ≤ 1)
    → CodeStands text at (function_code addresses at items) b → ItemsStand text addresses (λ l. label_at l at items) at items b

-- Items one after the other are cut as code is, and items that are instructions are code.
abbrev pub ItemsAreCut : Type 0
ItemsAreCut = (text : Text) (addresses : Addresses) (labels : ℕ → Option ℕ) (a b : ℕ) (first second : List Item) → ItemsStand text addresses labels a (first ++ second) b
    → (m : ℕ) × ItemsStand text addresses labels a first m × ItemsStand text addresses labels m second b

abbrev pub WordsStand : Type 0
WordsStand = (text : Text) (addresses : Addresses) (labels : ℕ → Option ℕ) (a b : ℕ) (code : List Instr) → ItemsStand text addresses labels a (map Word code) b
    → CodeStands text a code b

-- The instructions of each operation give its words.
pub record WordsAreTheSame : Type 0 where
  pub two : (o : Op2) (a b : ℕ) → a < 2 ^ 32 → b < 2 ^ 32 → computed2 o a b ≡ word2 o a b
  pub one : (o : Op1) (a : ℕ) → a < 2 ^ 32 → computed1 o a ≡ word1 o a
