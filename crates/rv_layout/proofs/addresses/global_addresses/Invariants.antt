use Rattle.std.proofs.Common.{◌≡◌, ◌+◌, ◌++◌, true, false, drop, sum_by}
use Rattle.rv_layout.specs.Globals.{global_room, globals_where, globals_from}
use Rattle.rv_layout.proofs.addresses.global_addresses.Given as goal

-- with what is left, all of them
abbrev pub invariant-loop-global : goal.invariant-loop-global
invariant-loop-global l = record {
  addresses : l.all.items ++ globals_from l.fixed l.other (drop l.global-index l.globals) ≡ globals_from l.fn.fixed l.fn.other l.globals;
  fixed_end :
      l.fixed + sum_by global_room (globals_where true (drop l.global-index l.globals)) ≡ l.fn.fixed + sum_by global_room (globals_where true l.globals);
  other_end :
      l.other + sum_by global_room (globals_where false (drop l.global-index l.globals)) ≡ l.fn.other + sum_by global_room (globals_where false l.globals);
}
