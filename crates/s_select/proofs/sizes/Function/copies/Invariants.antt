-- With the copies of the names that are left, those of all names.
use Rattle.std.proofs.Common.{◌≡◌, ◌+◌, ◌*◌, ◌≤◌, IsTrue, drop}
use Rattle.g_graph.specs.WellFormed.{all_of}
use Rattle.s_select.specs.Conditions.{has_place}
use Rattle.s_select.specs.Sizes.{copies}
use Rattle.s_select.proofs.sizes.Function.copies.Given as goal

-- with what is left, all of them
abbrev pub invariant-loop-name : goal.invariant-loop-name
invariant-loop-name l = record {
  sum : l.count + copies l.self.places.now (drop l.name-index l.names) ≡ copies l.self.places.now l.names;
  few : l.count ≤ 3 * l.name-index;
  placed : IsTrue (all_of (has_place l.self.places.now) (drop l.name-index l.names));
}
