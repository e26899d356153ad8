use Rattle.std.proofs.Common.{◌≡◌, ◌++◌, map, drop}
use Rattle.g_build_def.specs.Globals.{global_made, globals_made}
use Rattle.g_build.proofs.globals.build_globals.Given as goal

abbrev pub invariant-loop-i : goal.invariant-loop-i
invariant-loop-i l = l.deltas.items ++ map (global_made l.typed.structs) (drop l.i l.typed.globals) ≡ globals_made l.typed
