-- What a segment in memory shows.
use Rattle.std.specs.Prelude.{◌≡◌, ◌-◌, [], ◌++◌, length, replicate, vec_len}
use Rattle.elf_file.specs.Loading.{LoadedSegment}
use Rattle.rv_machine.specs.declared.block.Block.{Block}

abbrev pub segment_of : Block → LoadedSegment
segment_of b = record { at = b.at; size = vec_len b.bytes; flags = b.flags; bytes = b.bytes.items }

-- the same segment with the zeros that follow its bytes
abbrev pub padded : LoadedSegment → LoadedSegment
padded s = record {
  at = s.at;
  size = s.size;
  flags = s.flags;
  bytes = s.bytes ++ replicate (s.size - length s.bytes) 0;
}

-- the address, the size and the flags stay
pub record SameBounds (old new : Block) : Type 0 where
  pub at : new.at ≡ old.at
  pub size : vec_len new.bytes ≡ vec_len old.bytes
  pub flags : new.flags ≡ old.flags

-- the segment without its bytes
abbrev pub outline_of : Block → LoadedSegment
outline_of b = record { at = b.at; size = vec_len b.bytes; flags = b.flags; bytes = [] }
