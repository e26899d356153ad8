use Rattle.std.proofs.Common.{◌≡◌, ◌+◌, ◌++◌, drop, map}
use Rattle.s_linear.specs.Lines.{done}
use Rattle.s_sequence.specs.Sequence.{values_in, kept, moves}
use Rattle.s_sequence.specs.Ports.{ports_from, ports_added}
use Rattle.s_sequence.specs.Scope.{name_in, kind_in}
use Rattle.s_sequence.proofs.moves.write_exits.Given as goal

abbrev pub invariant-loop-result : goal.invariant-loop-result
invariant-loop-result l = record {
  lines : l.w.lines ++ map done (moves l.outputs.end
      (kept (map (kind_in l.scope) (drop l.result-index l.results)) (map (name_in l.scope) (drop l.result-index l.results))))
      ≡ l.fn.w.lines ++ map done (moves l.first (kept (map (kind_in l.scope) l.results) (map (name_in l.scope) l.results)));
  next : l.w.next ≡ l.fn.w.next;
  label : l.w.label ≡ l.fn.w.label;
  outputs : ports_added l.outputs (map (kind_in l.scope) (drop l.result-index l.results)) ≡ ports_from l.first (map (kind_in l.scope) l.results);
  room : l.outputs.end + values_in (map (kind_in l.scope) (drop l.result-index l.results)) ≡ l.first + values_in (map (kind_in l.scope) l.results);
}
