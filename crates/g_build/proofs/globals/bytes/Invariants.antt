use Rattle.std.proofs.Common.{length, map, drop}
use Rattle.c_typed.specs.ProgramEncoding.{written_of}
use Rattle.g_build.specs.Globals.{StandApart}
use Rattle.g_build.proofs.WrittenBytes.{AreBytesBefore}
use Rattle.g_build.proofs.globals.bytes.Given as goal

abbrev pub invariant-loop-item : goal.invariant-loop-item
invariant-loop-item l = record {
  bytes : AreBytesBefore (map written_of (drop l.item-index l.written)) (map written_of l.written) l.bytes.items;
  apart : StandApart (length l.bytes.items) (map written_of (drop l.item-index l.written));
}
