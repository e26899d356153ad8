use Rattle.std.proofs.Common.{◌≡◌, ◌++◌, map, drop}
use Rattle.c_typed.specs.ProgramEncoding.{written_of}
use Rattle.g_build_def.specs.Globals.{links_in}
use Rattle.g_build.proofs.globals.links.Given as goal

abbrev pub invariant-loop-item : goal.invariant-loop-item
invariant-loop-item l =
    l.links.items ++ links_in (map written_of (drop l.item-index l.written)) ≡ links_in (map written_of l.written)
