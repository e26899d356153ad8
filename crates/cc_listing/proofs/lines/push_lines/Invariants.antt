-- With the lines that are left, all lines are listed.
use Rattle.std.proofs.Common.{◌≡◌, ◌++◌, ◌+◌, ◌*◌, ◌≤◌, IsTrue, drop, flat_map, length, map}
use Rattle.g_graph.specs.WellFormed.{all_of}
use Rattle.s_linear.specs.Lines.{does}
use Rattle.s_linear.specs.Operands.{has_its_object}
use Rattle.s_linear.specs.Views.{line_of}
use Rattle.rv_layout.specs.Items.{items_size}
use Rattle.s_select.specs.Conditions.{has_few_arguments, has_few_params, names_have_places}
use Rattle.s_select.specs.Templates.{items_of}
use Rattle.cc_listing.specs.Lines.{lines_from, listed_text}
use Rattle.cc_listing.proofs.lines.push_lines.Given as goal

-- with what is left, all of them
abbrev pub invariant-loop-position : goal.invariant-loop-position
invariant-loop-position l = record {
  text :
      l.out.items
      ++ flat_map (listed_text l.names)
      (lines_from l.function.places.now l.function.objects.now l.position l.here (map line_of (drop l.position l.lines)) l.rest)
      ≡ l.fn.out.items
      ++ flat_map (listed_text l.names) (lines_from l.function.places.now l.function.objects.now 0 l.at (map line_of l.lines) l.words);
  whole : items_size (items_of l.function.places.now l.function.objects.now (map line_of (drop l.position l.lines))) ≤ 4 * length l.rest;
  here :
      l.here + items_size (items_of l.function.places.now l.function.objects.now (map line_of (drop l.position l.lines)))
      ≡ l.at + items_size (items_of l.function.places.now l.function.objects.now (map line_of l.lines));
  placed : IsTrue (all_of (names_have_places l.function.places.now) (map line_of (drop l.position l.lines)));
  named : IsTrue (all_of (does (has_its_object (length l.function.objects.now))) (map line_of (drop l.position l.lines)));
  params : IsTrue (all_of has_few_params (map line_of (drop l.position l.lines)));
  arguments : IsTrue (all_of (does has_few_arguments) (map line_of (drop l.position l.lines)));
}
