-- A region stays well formed where the uses of one value become uses of another that is known wherever the first is.
use Rattle.std.proofs.Common.{◌≡◌, ℕ, ◌⊎◌, inl, inr, Bool, true, false, ◌&&◌, List, [], map, refl, sym, ap, ◌∙◌}
use Rattle.std.specs.Prelude.{◌==◌, ◌||◌, not, if◌then◌else◌}
use Rattle.std.specs.declared.option.Option.TheVariants.{Some, None}
use Rattle.std.proofs.lemmas.Bool.{and_parts}
use Rattle.g_graph.specs.declared.op.Kind.{Kind}
use Rattle.g_graph.specs.declared.op.Kind.TheVariants.{Value, Memory, Io}
use Rattle.g_graph.specs.declared.op.Origin.{Origin}
use Rattle.g_graph.specs.declared.op.Origin.TheVariants.{Arg, Out}
use Rattle.g_graph.specs.Plain.{region, NodeTrees, no_nodes}
use Rattle.g_graph.specs.Scope.{is_of, same_origin, known}
use Rattle.g_graph.specs.WellFormed.{all_of, some_of, one_state_each, is_last_of, is_last, nodes_fit, results_are_last, returns_state, region_has_one_state_each, region_fits, every_region, every_in_nodes}
use Rattle.g_graph.specs.Replace.{nodes_redirected, region_redirected, origin_replaced}
use Rattle.g_graph.specs.Splice.{joined_nodes}
use Rattle.g_graph.proofs.lemmas.Redirects.{kind_after-redirected, state_after-redirected, gives-redirected, every_in_nodes-redirected}
use Rattle.g_graph.proofs.lemmas.Splices.{joined_none}
use Rattle.g_graph.proofs.lemmas.Unique.{same_number}
use Rattle.g_graph.proofs.NestLemmas.{SameScope, known_same, last_same, RegionKept}
use Rattle.g_graph.proofs.ScopeMaps.{ScopeMap, mapped_all, mapped_nodes_fit}

pub same_origin_true : (a b : Origin) → same_origin a b ≡ true → a ≡ b
same_origin_true (Arg j) (Arg k) e = ap Arg (same_number j k e)
same_origin_true (Arg j) (Out n p) e = absurd (cc)
same_origin_true (Out n p) (Arg k) e = absurd (cc)
same_origin_true (Out n p) (Out m q) e = λ i. Out (same_number n m (and_parts (n == m) (p == q) e).0 i) (same_number p q (and_parts (n == m) (p == q) e).1 i)

-- after some of the nodes the one origin is not known, or both are values
pub record ValueFor (args : List Kind) (ns : NodeTrees) (from to : Origin) : Type 0 where
  pub after : (front rest : NodeTrees) → ns ≡ joined_nodes front rest → (known args front from ≡ None) ⊎ ((known args front from ≡ Some Value) × (known args front to ≡ Some Value))

pub last_is_known : (args : List Kind) (bs : NodeTrees) (o : Origin) → is_last args bs o ≡ true → known args bs o ≡ None → ⊥
last_is_known args bs o e n =
    let wrong : false ≡ true = sym (ap (λ x. is_last_of x args bs o) n) ∙ e in
    absurd (cc)

moved_one : (args : List Kind) (bs cs : NodeTrees) (from to o : Origin) → SameScope bs cs →
    (known args bs from ≡ None) ⊎ ((known args bs from ≡ Some Value) × (known args bs to ≡ Some Value)) → is_last args bs o ≡ true →
    (known args cs (origin_replaced from to o) ≡ known args bs o) × (is_last args cs (origin_replaced from to o) ≡ true)
moved_one args bs cs from to o s v e = by_test (same_origin from o) refl v
  where
    by_test : (t : Bool) → same_origin from o ≡ t → (known args bs from ≡ None) ⊎ ((known args bs from ≡ Some Value) × (known args bs to ≡ Some Value)) →
        (known args cs (if t then to else o) ≡ known args bs o) × (is_last args cs (if t then to else o) ≡ true)
    by_test false q w = (known_same args bs cs s o, last_same args bs cs s o ∙ e)
    by_test true q (inl n) = absurd (last_is_known args bs o e (ap (known args bs) (sym (same_origin_true from o q)) ∙ n))
    by_test true q (inr w) =
        let to_value : known args cs to ≡ Some Value = known_same args bs cs s to ∙ w.1 in
        (to_value ∙ sym w.0 ∙ ap (known args bs) (same_origin_true from o q), ap (λ x. is_last_of x args cs to) to_value)

moved_scope : (args : List Kind) (ns front rest : NodeTrees) (from to : Origin) → ValueFor args ns from to → ns ≡ joined_nodes front rest →
    ScopeMap args front args (nodes_redirected (origin_replaced from to) front) (origin_replaced from to)
moved_scope args ns front rest from to v w = record {
  one = λ o e. moved_one args front (nodes_redirected (origin_replaced from to) front) from to o
      (record { kinds = λ n p found. kind_after-redirected (origin_replaced from to) front n p found; states = λ k found. state_after-redirected (origin_replaced from to) k front found })
      (v.after front rest w) e;
}

pub moved_kept : (objects : ℕ) (from to : Origin) (args : List Kind) (nodes : NodeTrees) (results : List Origin) → ValueFor args nodes from to →
    every_region (region_fits objects) (region args nodes results) ≡ true → RegionKept objects (region args nodes results) (region_redirected (origin_replaced from to) (region args nodes results))
moved_kept objects from to args nodes results v e =
    let r = region args nodes results in
    let own = (and_parts (region_fits objects r) (every_in_nodes (region_fits objects) nodes) e).0 in
    let inside = (and_parts (region_fits objects r) (every_in_nodes (region_fits objects) nodes) e).1 in
    let to_io = (and_parts (nodes_fit objects r && results_are_last r && returns_state Memory r && returns_state Io r) (region_has_one_state_each r) own).0 in
    let to_memory = (and_parts (nodes_fit objects r && results_are_last r && returns_state Memory r) (returns_state Io r) to_io).0 in
    let to_last = (and_parts (nodes_fit objects r && results_are_last r) (returns_state Memory r) to_memory).0 in
    let fit = (and_parts (nodes_fit objects r) (results_are_last r) to_last).0 in
    let last : all_of (is_last args nodes) results ≡ true = (and_parts (nodes_fit objects r) (results_are_last r) to_last).1 in
    let all = mapped_all args nodes args (nodes_redirected (origin_replaced from to) nodes) (origin_replaced from to) (moved_scope args nodes nodes no_nodes from to v (sym (joined_none nodes)))
    results last in
    let moved_fit = mapped_nodes_fit objects args args (origin_replaced from to) [] [] nodes (λ front rest w. moved_scope args nodes front rest from to v w) fit in
    let same : region_fits objects (region_redirected (origin_replaced from to) r) ≡ region_fits objects r =
    λ i.
    (moved_fit ∙ sym fit) i && (all.1 ∙ sym last) i && (not (gives-redirected (origin_replaced from to) Memory nodes i) || some_of (is_of Memory) (all.0 i))
    && (not (gives-redirected (origin_replaced from to) Io nodes i) || some_of (is_of Io) (all.0 i)) && (one_state_each (map Some args) && one_state_each (all.0 i)) in
    record { args = refl; results = all.0; inside = λ i. (same ∙ own) i && (every_in_nodes-redirected (region_fits objects) (origin_replaced from to) nodes ∙ inside) i }
