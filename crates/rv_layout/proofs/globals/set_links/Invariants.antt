use Rattle.std.proofs.Common.{◌≡◌, IsTrue, drop, length}
use Rattle.g_graph.specs.WellFormed.{all_of}
use Rattle.rv_layout.specs.Globals.{with_links}
use Rattle.rv_layout.specs.Conditions.{link_has_global, link_is_within}
use Rattle.rv_layout.proofs.globals.set_links.Given as goal

-- the links that are left lead from the bytes so far to those with all links
abbrev pub invariant-loop-link : goal.invariant-loop-link
invariant-loop-link l = record {
  linked : with_links l.addresses (drop l.link-index l.links) l.bytes ≡ with_links l.addresses l.links l.fn.bytes;
  size : length l.bytes ≡ length l.fn.bytes;
  named : IsTrue (all_of (link_has_global (length l.addresses)) (drop l.link-index l.links));
  within : IsTrue (all_of (link_is_within (length l.bytes)) (drop l.link-index l.links));
}
