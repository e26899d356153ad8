use Rattle.std.proofs.Common.{◌≡◌, drop, map}
use Rattle.std.specs.declared.option.Option.TheVariants.{Some, None}
use Rattle.g_graph.specs.Scope.{last_index}
use Rattle.g_graph.proofs.states.last_arg.Given as goal

abbrev pub invariant-loop-index : goal.invariant-loop-index
invariant-loop-index l = last_index l.kind l.index (map Some (drop l.index l.args)) l.found ≡ last_index l.kind 0 (map Some l.args) None
