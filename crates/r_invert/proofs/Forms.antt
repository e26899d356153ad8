-- The parts of a loop that may be inverted, in its region.
use Rattle.std.specs.Prelude.{◌==◌, ◌&&◌, not, option_and_then}
use Rattle.std.proofs.Common.{◌≡◌, ℕ, Bool, true, false, List, [], ◌∷◌, Option, None, Some, refl, ap, arith}
use Rattle.std.proofs.lemmas.Bool.{and_parts}
use Rattle.std.proofs.lemmas.Bool.Decides.{nat_tests}
use Rattle.std.proofs.lemmas.Option.{cond_some}
use Rattle.g_graph.specs.declared.op.Kind.{Kind}
use Rattle.g_graph.specs.declared.op.Op.TheVariants.{Gamma}
use Rattle.g_graph.specs.declared.op.Origin.{Origin}
use Rattle.g_graph.specs.Plain.{RegionTree, region, NodeTree, node, NodeTrees, no_nodes, node_then, no_regions, region_then}
use Rattle.g_graph.specs.Splice.{joined_nodes}
use Rattle.g_graph.specs.WellFormed.{all_of}
use Rattle.r_invert.specs.Rule.{Parts, last_node, but_last, is_output_of, takes_both_states, giving, word_given, is_zero, is_other, parts_with, parts_of}

-- the Gamma at the end
abbrev pub ending : (g : ℕ) → (inputs : List Origin) → (z b : RegionTree) → NodeTree
ending g inputs z b = node g Gamma inputs (region_then z (region_then b no_regions))

pub record Ends (args : List Kind) (before : NodeTrees) (results : List Origin) (x : NodeTree) (p : Parts) : Type 0 where
  pub g : ℕ
  pub inputs : List Origin
  pub z : RegionTree
  pub b : RegionTree
  pub predicate : Origin
  pub variables : List Origin
  pub node : x ≡ ending g inputs z b
  pub results_are : results ≡ predicate ∷ variables
  pub states : takes_both_states z ≡ true
  pub outputs : all_of (is_output_of g) (predicate ∷ variables) ≡ true
  pub zero_word : is_zero (word_given g predicate z) ≡ true
  pub other_word : is_other (word_given g predicate b) ≡ true
  pub parts : record { test = region args before inputs; stop = giving g variables z; go = giving g variables b } ≡ p

pub ends : (args : List Kind) (before : NodeTrees) (results : List Origin) (x : NodeTree) (p : Parts) → parts_with args before results x ≡ Some p → Ends args before results x p
ends args before (o ∷ os) (node g Gamma inputs (region_then z (region_then b no_regions))) p e =
    let made : Parts = record { test = region args before inputs; stop = giving g os z; go = giving g os b } in
    let all = takes_both_states z && all_of (is_output_of g) (o ∷ os) && is_zero (word_given g o z) in
    let c = cond_some (all && is_other (word_given g o b)) made p e in
    let last = and_parts all (is_other (word_given g o b)) c.0 in
    let third = and_parts (takes_both_states z && all_of (is_output_of g) (o ∷ os)) (is_zero (word_given g o z)) last.0 in
    let second = and_parts (takes_both_states z) (all_of (is_output_of g) (o ∷ os)) third.0 in
    record {
      g = g;
      inputs = inputs;
      z = z;
      b = b;
      predicate = o;
      variables = os;
      node = refl;
      results_are = refl;
      states = second.0;
      outputs = second.1;
      zero_word = third.1;
      other_word = last.1;
      parts = c.1;
    }
ends args before [] x p e = absurd cc
ends args before (o ∷ os) (node g Gamma inputs no_regions) p e = absurd cc
ends args before (o ∷ os) (node g Gamma inputs (region_then z no_regions)) p e = absurd cc
ends args before (o ∷ os) (node g Gamma inputs (region_then z (region_then b (region_then r rs)))) p e = absurd cc
ends args before (o ∷ os) (node g _ inputs rs) p e = absurd cc

pub split-last : (ns : NodeTrees) (x : NodeTree) → last_node ns ≡ Some x → ns ≡ joined_nodes (but_last ns) (node_then x no_nodes)
split-last no_nodes x e = absurd cc
split-last (node_then y no_nodes) x e =
    let same : y ≡ x = cc in
    ap (λ z. node_then z no_nodes) same
split-last (node_then y (node_then z ns)) x e = ap (λ ms. node_then y ms) (split-last (node_then z ns) x e)

pub record Form (args : List Kind) (nodes : NodeTrees) (results : List Origin) (p : Parts) : Type 0 where
  pub before : NodeTrees
  pub last : NodeTree
  pub whole : nodes ≡ joined_nodes before (node_then last no_nodes)
  pub ends : Ends args before results last p

pub form-of : (args : List Kind) (nodes : NodeTrees) (results : List Origin) (p : Parts) → parts_of (region args nodes results) ≡ Some p → Form args nodes results p
form-of args nodes results p e = by (last_node nodes) refl e
  where
    by : (found : Option NodeTree) → last_node nodes ≡ found → option_and_then (parts_with args (but_last nodes) results) found ≡ Some p → Form args nodes results p
    by None d f = absurd cc
    by (Some x) d f = record { before = but_last nodes; last = x; whole = split-last nodes x d; ends = ends args (but_last nodes) results x p f }

-- ---- words

pub word-zero : (w : Option ℕ) → is_zero w ≡ true → w ≡ Some 0
word-zero None e = absurd cc
word-zero (Some w) e = let same : w ≡ 0 = grind (arith, nat_tests) in ap Some same

pub word-other : (w : Option ℕ) → is_other w ≡ true → (u : ℕ) × (w ≡ Some u) × ((u == 0) ≡ false)
word-other None e = absurd cc
word-other (Some w) e = (w, refl, by (w == 0) e)
  where
    by : (t : Bool) → not t ≡ true → t ≡ false
    by true e = absurd cc
    by false e = refl
