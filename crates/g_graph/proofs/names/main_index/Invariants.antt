use Rattle.std.proofs.Common.{◌≡◌, ◌+◌, drop, option_map}
use Rattle.g_graph.specs.Program.{name_index, main_name}
use Rattle.g_graph.proofs.names.main_index.Given as goal

abbrev pub invariant-loop-i : goal.invariant-loop-i
invariant-loop-i l = option_map (λ k. l.i + k) (name_index main_name (drop l.i l.names)) ≡ name_index main_name l.names
