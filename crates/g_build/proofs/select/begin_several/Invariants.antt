use Rattle.std.proofs.Common.{◌≡◌, map, drop}
use Rattle.g_build_def.specs.Switch.{groups_moved}
use Rattle.g_build_expression.specs.Work.{made}
use Rattle.g_build.specs.LabelViews.{label_of}
use Rattle.g_build.proofs.select.begin_several.Given as goal

abbrev pub invariant-loop-k : goal.invariant-loop-k
invariant-loop-k l = record {
  work :
      made l.b (groups_moved l.default (map label_of (drop l.k l.labels)) (drop l.k l.equals) l.number l.b.point)
      ≡ made l.initial.b (groups_moved l.default (map label_of l.labels) l.equals l.initial.number l.initial.b.point);
  value :
      (groups_moved l.default (map label_of (drop l.k l.labels)) (drop l.k l.equals) l.number l.b.point).value
      ≡ (groups_moved l.default (map label_of l.labels) l.equals l.initial.number l.initial.b.point).value;
}
