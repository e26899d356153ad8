use Rattle.std.proofs.Common.{◌≡◌, ◌<◌, ◌^◌, ◌++◌, IsTrue, drop, length, sum_by}
use Rattle.std.specs.List.{flat_map}
use Rattle.g_graph.specs.WellFormed.{all_of}
use Rattle.rv_layout.specs.Globals.{global_room, globals_where, global_bytes}
use Rattle.rv_layout.specs.Conditions.{global_fits}
use Rattle.rv_layout.proofs.globals.push_globals.Given as goal

-- with what is left, all of it
abbrev pub invariant-loop-global : goal.invariant-loop-global
invariant-loop-global l = record {
  bytes :
      l.section.items ++ flat_map (global_bytes l.addresses) (globals_where l.fixed (drop l.global-index l.globals))
      ≡ l.fn.section.items ++ flat_map (global_bytes l.addresses) (globals_where l.fixed l.globals);
  room : sum_by global_room (globals_where l.fixed (drop l.global-index l.globals)) < 2 ^ 32;
  fits : IsTrue (all_of (global_fits (length l.addresses)) (drop l.global-index l.globals));
}
