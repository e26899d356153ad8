-- The items of a function: instructions, and what becomes instructions once addresses are known.
use Rattle.std.specs.Prelude.{ℕ, ◌+◌, ◌==◌, if◌then◌else◌, List, [], ◌∷◌, sum_by, Option, None, Some}
use Rattle.rv_layout.specs.declared.item.Item.{Item}
use Rattle.rv_layout.specs.declared.item.Item.TheVariants.{Word, Mark, Jump, Call, Stub, Address}

-- the bytes of its instructions
abbrev pub item_size : Item → ℕ
item_size (Word i) = 4
item_size (Mark l) = 0
item_size (Jump l) = 4
item_size (Call f) = 8
item_size (Stub s) = 8
item_size (Address r k) = 8

abbrev pub items_size : List Item → ℕ
items_size items = sum_by item_size items

-- how often a label is marked
abbrev pub marks : (label : ℕ) → List Item → ℕ
marks l [] = 0
marks l (Mark n ∷ is) = (if n == l then 1 else 0) + marks l is
marks l (_ ∷ is) = marks l is

-- the address at which a label is marked first, of items that begin at an address
abbrev pub label_at : (label at : ℕ) → List Item → Option ℕ
label_at l at [] = None
label_at l at (Mark n ∷ is) = if n == l then Some at else label_at l at is
label_at l at (i ∷ is) = label_at l (at + item_size i) is
