use Rattle.std.proofs.Common.{◌≡◌, ◌+◌, drop, map}
use Rattle.std.specs.declared.option.Option.TheVariants.{Some}
use Rattle.s_sequence.specs.Sequence.{values_in}
use Rattle.s_sequence.specs.Ports.{ports_from, ports_added}
use Rattle.s_sequence.proofs.ports.ports_of.Given as goal

abbrev pub invariant-loop-kind : goal.invariant-loop-kind
invariant-loop-kind l =
    (ports_added l.ports (map Some (drop l.kind-index l.kinds)) ≡ ports_from l.first (map Some l.kinds))
    × (l.ports.end + values_in (map Some (drop l.kind-index l.kinds)) ≡ l.first + values_in (map Some l.kinds))
