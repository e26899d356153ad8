use Rattle.std.proofs.Common.{◌≡◌, ◌+◌, ◌++◌, IsTrue, drop}
use Rattle.g_graph.specs.WellFormed.{all_of}
use Rattle.s_select.specs.Templates.{words, put_params}
use Rattle.s_select.specs.Conditions.{has_place}
use Rattle.s_select.proofs.function.Function.push_params.Given as goal

-- with what is left, all of it
abbrev pub invariant-loop-name : goal.invariant-loop-name
invariant-loop-name l = record {
  code :
      l.items.items ++ words (put_params l.self.places.now l.register (drop l.name-index l.params))
      ≡ l.fn.items.items ++ words (put_params l.self.places.now 10 l.params);
  register : l.register ≡ 10 + l.name-index;
  placed : IsTrue (all_of (has_place l.self.places.now) (drop l.name-index l.params));
}
