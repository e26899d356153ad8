use Rattle.std.proofs.Common.{◌≡◌, ◌+◌, ◌++◌, IsTrue, drop}
use Rattle.g_graph.specs.WellFormed.{all_of}
use Rattle.s_select.specs.Templates.{words, get_arguments}
use Rattle.s_select.specs.Conditions.{has_place}
use Rattle.s_select.proofs.function.Function.push_arguments.Given as goal

-- with what is left, all of it
abbrev pub invariant-loop-name : goal.invariant-loop-name
invariant-loop-name l = record {
  code :
      l.items.items ++ words (get_arguments l.self.places.now l.register (drop l.name-index l.arguments))
      ≡ l.fn.items.items ++ words (get_arguments l.self.places.now 10 l.arguments);
  register : l.register ≡ 10 + l.name-index;
  placed : IsTrue (all_of (has_place l.self.places.now) (drop l.name-index l.arguments));
}
