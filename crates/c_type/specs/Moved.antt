-- Leaves moved by so many bytes.
use Rattle.std.specs.Prelude.{ℕ, ◌+◌, ◌^◌, ◌<◌, List, [], ◌∷◌}
use Rattle.val_core.specs.declared.leaf.Leaf.{Leaf}

abbrev pub moved : (by : ℕ) → Leaf → Leaf
moved by l = record { offset = l.offset + by; width = l.width }

-- none of the offsets then passes 32 bits
abbrev pub CanMove : (by : ℕ) → List Leaf → Type 0
CanMove by [] = Unit {0}
CanMove by (l ∷ ls) = (l.offset + by < 2 ^ 32) × CanMove by ls
