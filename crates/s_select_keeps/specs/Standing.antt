-- Where the items of a function stand in memory, whose labels are resolved.
use Rattle.std.specs.Prelude.{◌≡◌, ℕ, ◌+◌, List, [], ◌∷◌, Option, Some}
use Rattle.rv_machine.specs.Standing.{Text, CodeStands}
use Rattle.rv_layout.specs.declared.item.Item.{Item}
use Rattle.rv_layout.specs.declared.item.Item.TheVariants.{Mark}
use Rattle.rv_layout.specs.Items.{item_size, items_size}
use Rattle.rv_layout.specs.Layout.{Addresses, item_code, function_code}

-- a label is resolved to where it is marked
abbrev pub IsResolved : (labels : ℕ → Option ℕ) → (at : ℕ) → Item → Type 0
IsResolved labels at (Mark l) = labels l ≡ Some at
IsResolved labels at _ = Unit {0}

-- items one after the other, from address a up to b
abbrev pub ItemsStand : Text → Addresses → (labels : ℕ → Option ℕ) → (a : ℕ) → List Item → (b : ℕ) → Type 0
ItemsStand text addresses labels a [] b = a ≡ b
ItemsStand text addresses labels a (i ∷ is) b =
    IsResolved labels a i × CodeStands text a (item_code addresses labels a i) (a + item_size i)
    × ItemsStand text addresses labels (a + item_size i) is b

-- each function's code from its address on
abbrev pub FunctionsStandFrom : Text → Addresses → List (List Item) → List ℕ → Type 0
FunctionsStandFrom text addresses [] [] = Unit {0}
FunctionsStandFrom text addresses (f ∷ fs) (at ∷ more) =
    CodeStands text at (function_code addresses at f) (at + items_size f) × FunctionsStandFrom text addresses fs more
FunctionsStandFrom text addresses _ _ = ⊥
