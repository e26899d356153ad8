use Rattle.std.proofs.Common.{◌≡◌, drop}
use Rattle.c_typed.specs.StmtViews.{items_of}
use Rattle.g_build_def.specs.Functions.{straight_made}
use Rattle.g_build_expression.specs.Work.{made}
use Rattle.g_build.proofs.straight_body.straight.Given as goal

abbrev pub invariant-loop-i : goal.invariant-loop-i
invariant-loop-i l = record {
  work :
      made l.b (straight_made l.is_main l.objects (items_of (drop l.i l.items)) l.b.point)
      ≡ made l.initial.b (straight_made l.is_main l.objects (items_of l.items) l.initial.b.point);
  value :
      (straight_made l.is_main l.objects (items_of (drop l.i l.items)) l.b.point).value
      ≡ (straight_made l.is_main l.objects (items_of l.items) l.initial.b.point).value;
}
