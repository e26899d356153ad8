use Rattle.std.proofs.Common.{◌≡◌, ◌+◌, drop, sum_by}
use Rattle.rv_layout.specs.Globals.{global_room, globals_where}
use Rattle.rv_layout.proofs.addresses.room_of.Given as goal

-- with that of the globals that are left, the whole
abbrev pub invariant-loop-global : goal.invariant-loop-global
invariant-loop-global l =
    l.room + sum_by global_room (globals_where l.fixed (drop l.global-index l.globals)) ≡ sum_by global_room (globals_where l.fixed l.globals)
