-- The blocks of objects are sound, and so are their addresses.
use Rattle.std.proofs.Common.{ℕ, List, [], ◌∷◌, ◌++◌, map, Option, None, Some, arith, lit<, mod-lt}
use Rattle.val_core.specs.declared.leaf.Leaf.{Leaf}
use Rattle.val_core.specs.Values.{IsSound}
use Rattle.val_core.specs.Memory.{Memory, BlockShape, new_cell, AreSoundCells, IsSoundMemory}
use Rattle.val_core.specs.Objects.{block_address, opened}
use Rattle.val_core.specs.MemoryLaws.{OpenedIsSound, AddressesAreSound}

new-sound : (ls : List Leaf) → AreSoundCells (map new_cell ls)
new-sound [] = tt
new-sound (l ∷ ls) = (tt, new-sound ls)

opened-sound : (shapes : List BlockShape) → IsSoundMemory (opened shapes)
opened-sound [] = tt
opened-sound (s ∷ shapes) = (new-sound s.leaves, opened-sound shapes)

append-sound : (m k : Memory) → IsSoundMemory m → IsSoundMemory k → IsSoundMemory (m ++ k)
append-sound [] k s t = t
append-sound (b ∷ m) k s t = (s.0, append-sound m k s.1 t)

pub opened_is_sound : OpenedIsSound
opened_is_sound shapes m s = append-sound m (opened shapes) s (opened-sound shapes)

pub address-sound : (n : ℕ) (size : Option ℕ) → IsSound (block_address n size)
address-sound n None = tt
address-sound n (Some size) = (omega arith, mod-lt size (lit< tt))

pub addresses_are_sound : AddressesAreSound
addresses_are_sound base sizes k = address-sound _ _
