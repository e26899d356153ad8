use Rattle.std.proofs.Common.{◌≡◌, map, take}
use Rattle.s_sequence.specs.Scope.{name_in}
use Rattle.s_sequence.proofs.scope.Scope.names.Given as goal

abbrev pub invariant-loop-origin : goal.invariant-loop-origin
invariant-loop-origin l = l.names.items ≡ map (name_in l.self) (take l.origin-index l.origins)
