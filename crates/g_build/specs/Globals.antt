-- The items that are written in a global, one after another.
use Rattle.std.specs.Prelude.{ℕ, ◌+◌, ◌-◌, ◌≤◌, List, [], ◌∷◌, length}
use Rattle.c_typed.specs.Typed.{WrittenTree, word_at, link_at, characters_at}
use Rattle.g_build_def.specs.Globals.{bytes_from}

-- they stand in order and apart, from an offset on
abbrev pub StandApart : (from : ℕ) → List WrittenTree → Type 0
StandApart from [] = Unit {0}
StandApart from (word_at offset width w ∷ ws) = (from ≤ offset) × StandApart (offset + width) ws
StandApart from (link_at offset k ∷ ws) = (from ≤ offset) × StandApart (offset + 4) ws
StandApart from (characters_at offset cs ∷ ws) = (from ≤ offset) × StandApart (offset + length cs) ws

-- where the bytes of an item end, if those before it end at `from`: a link has none
abbrev pub bytes_end : (from : ℕ) → WrittenTree → ℕ
bytes_end from (word_at offset width w) = offset + width
bytes_end from (link_at offset k) = from
bytes_end from (characters_at offset cs) = offset + length cs

-- the bytes of an item, with the zeros before it
abbrev pub item_bytes : (from : ℕ) → WrittenTree → List ℕ
item_bytes from x = bytes_from (x ∷ []) from (bytes_end from x - from)
