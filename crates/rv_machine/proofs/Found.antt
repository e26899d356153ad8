-- What finding the segment of an address says of a memory.
use Rattle.std.proofs.Common.{◌≡◌, ℕ, ◌<◌, true, List, [], ◌∷◌, length, map, get_or, arith}
use Rattle.std.specs.Prelude.{AllPairs}
use Rattle.std.proofs.lemmas.List.{get_or-map, length-map}
use Rattle.elf_file.specs.Segments.{AreApart}
use Rattle.rv_machine.specs.declared.block.Block.{Block}
use Rattle.rv_machine.specs.declared.memory.Memory.{Memory}
use Rattle.rv_machine.specs.Block.{segment_of, outline_of}
use Rattle.rv_machine.specs.Blocks.{IsBlockAt, IsAbsent, IsOutside}
use Rattle.rv_machine.specs.Memory.{holds}
use Rattle.rv_machine.proofs.Lookups.{IsAt, NoneHolds, is_at, holds-above, holds-below, holds-true, memory_at, flags_at, flags_absent, bytes_absent}

pub block_of : (m : Memory) (address k : ℕ) (b : Block) → AllPairs AreApart (map outline_of m.blocks.items)
    → k < length m.blocks.items → get_or m.blocks.items k b ≡ b → holds (segment_of b) address ≡ true → IsBlockAt m address b
block_of m address k b apart within is h =
    let at : IsAt (map segment_of m.blocks.items) k (segment_of b) = is_at m.blocks.items k b apart within is in
    record {
      above = holds-above (segment_of b) address h;
      below = holds-below (segment_of b) address h;
      bytes = λ x above below. memory_at (map segment_of m.blocks.items) k (segment_of b) x at (holds-true (segment_of b) x above below);
      flags = λ x above below. flags_at (map segment_of m.blocks.items) k (segment_of b) x at (holds-true (segment_of b) x above below);
    }

none_of : (xs : List Block) (address : ℕ) → IsAbsent xs address → NoneHolds (map segment_of xs) address
none_of [] address absent = record { none = λ j d below. absurd (omega arith) }
none_of (y ∷ ys) address absent = record {
  none = λ j d below.
      let listed : j < length (y ∷ ys) = omega (arith, length-map (y ∷ ys) segment_of) in
      rw (get_or-map segment_of (y ∷ ys) j y d listed) (absent j y listed);
}

pub outside_of : (m : Memory) (address : ℕ) → IsAbsent m.blocks.items address → IsOutside m address
outside_of m address absent =
    let none : NoneHolds (map segment_of m.blocks.items) address = none_of m.blocks.items address absent in
    record {
      bytes = bytes_absent (map segment_of m.blocks.items) address none;
      flags = flags_absent (map segment_of m.blocks.items) address none;
    }
