use Rattle.std.proofs.Common.{◌≡◌, ◌++◌, IsTrue, drop, length, map}
use Rattle.g_graph.specs.WellFormed.{all_of}
use Rattle.s_linear.specs.Lines.{does}
use Rattle.s_linear.specs.Views.{line_of}
use Rattle.s_select.specs.Templates.{items_of}
use Rattle.s_select.specs.Conditions.{has_few_arguments, has_few_params, names_have_places}
use Rattle.s_linear.specs.Operands.{has_its_object}
use Rattle.s_select.proofs.selecting.select.Given as goal

-- with what is left, all of them
abbrev pub invariant-loop-line : goal.invariant-loop-line
invariant-loop-line l = record {
  items : l.items.items ++ items_of l.places l.objects (map line_of (drop l.line-index l.line-items)) ≡ items_of l.places l.objects l.linear;
  placed : IsTrue (all_of (names_have_places l.places) (map line_of (drop l.line-index l.line-items)));
  named : IsTrue (all_of (does (has_its_object (length l.objects))) (map line_of (drop l.line-index l.line-items)));
  params : IsTrue (all_of has_few_params (map line_of (drop l.line-index l.line-items)));
  arguments : IsTrue (all_of (does has_few_arguments) (map line_of (drop l.line-index l.line-items)));
}
