use Rattle.std.proofs.Common.{◌≡◌, ◌++◌, map, drop}
use Rattle.g_build_def.specs.Switch.{labels_made}
use Rattle.g_build_expression.specs.Work.{made}
use Rattle.g_build.specs.LabelViews.{label_of}
use Rattle.g_build.proofs.select.select.Given as goal

abbrev pub invariant-loop-label : goal.invariant-loop-label
invariant-loop-label l = record {
  work :
      made l.b (labels_made l.value l.default (map label_of (drop l.label-index l.labels)) l.number l.b.point)
      ≡ made l.initial.b (labels_made l.value l.default (map label_of l.labels) l.initial.number l.initial.b.point);
  number :
      (labels_made l.value l.default (map label_of (drop l.label-index l.labels)) l.number l.b.point).value.number
      ≡ (labels_made l.value l.default (map label_of l.labels) l.initial.number l.initial.b.point).value.number;
  equals :
      l.equals.items ++ (labels_made l.value l.default (map label_of (drop l.label-index l.labels)) l.number l.b.point).value.equals
      ≡ (labels_made l.value l.default (map label_of l.labels) l.initial.number l.initial.b.point).value.equals;
}
