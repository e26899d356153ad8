-- The loop that is unrolled, in its region.
use Rattle.std.specs.Prelude.{option_and_then}
use Rattle.std.proofs.Common.{◌≡◌, ℕ, true, List, Option, None, Some, option_map, refl, sym, ap, ◌∙◌}
use Rattle.std.proofs.lemmas.Option.{cond_some, same_Some}
use Rattle.g_graph.specs.declared.op.Kind.{Kind}
use Rattle.g_graph.specs.declared.op.Op.TheVariants.{Theta}
use Rattle.g_graph.specs.declared.op.Origin.{Origin}
use Rattle.g_graph.specs.Plain.{RegionTree, region, NodeTree, node, NodeTrees, node_then, no_regions, region_then, id_of}
use Rattle.g_graph.specs.Nodes.{node_at, node_set}
use Rattle.g_graph.specs.Splice.{joined_nodes}
use Rattle.g_graph.proofs.lemmas.Found.{found_at}
use Rattle.r_edit.proofs.lemmas.Loops.{loop_node}
use Rattle.r_unroll.specs.Rule.{unrolled, may_unroll, node_unrolled, unroll_here}

record IsUnrolled (values next : ℕ) (x y : NodeTree) : Type 0 where
  id : ℕ
  inputs : List Origin
  body : RegionTree
  is : x ≡ loop_node id inputs body
  can : may_unroll values next body ≡ true
  now : y ≡ loop_node id inputs (unrolled next body)

is-unrolled : (values next : ℕ) (x y : NodeTree) → node_unrolled values next x ≡ Some y → IsUnrolled values next x y
is-unrolled values next (node id Theta inputs (region_then r no_regions)) y e =
    let c = cond_some (may_unroll values next r) (loop_node id inputs (unrolled next r)) y e in
    record { id = id; inputs = inputs; body = r; is = refl; can = c.0; now = sym c.1 }
is-unrolled values next (node id Theta inputs no_regions) y e = absurd cc
is-unrolled values next (node id Theta inputs (region_then r (region_then t rs))) y e = absurd cc
is-unrolled values next (node id _ inputs rs) y e = absurd cc

-- the region with the nodes before and after the loop, and what it becomes
pub record Unrolls (values next n : ℕ) (args : List Kind) (nodes : NodeTrees) (results : List Origin) (s : RegionTree) : Type 0 where
  pub inputs : List Origin
  pub body : RegionTree
  pub before : NodeTrees
  pub after : NodeTrees
  pub can : may_unroll values next body ≡ true
  pub found : node_at n nodes ≡ Some (loop_node n inputs body)
  pub set : s ≡ region args (node_set n (loop_node n inputs (unrolled next body)) nodes) results
  pub whole : nodes ≡ joined_nodes before (node_then (loop_node n inputs body) after)
  pub result : s ≡ region args (joined_nodes before (node_then (loop_node n inputs (unrolled next body)) after)) results

pub unrolls-at : (values next n : ℕ) (args : List Kind) (nodes : NodeTrees) (results : List Origin) (s : RegionTree) → unroll_here values next n (region args nodes results) ≡ Some s →
    Unrolls values next n args nodes results s
unrolls-at values next n args nodes results s e = by (node_at n nodes) refl e
  where
    by-node : (x : NodeTree) → node_at n nodes ≡ Some x → (changed : Option NodeTree) → node_unrolled values next x ≡ changed →
        option_map (λ y. region args (node_set n y nodes) results) changed ≡ Some s → Unrolls values next n args nodes results s
    by-node x d None c f = absurd cc
    by-node x d (Some y) c f =
        let found = found_at n nodes x d in
        let u = is-unrolled values next x y c in
        let number : u.id ≡ n = ap id_of (sym u.is) ∙ found.number in
        let is : x ≡ loop_node n u.inputs u.body = u.is ∙ ap (λ m. loop_node m u.inputs u.body) number in
        let now : y ≡ loop_node n u.inputs (unrolled next u.body) = u.now ∙ ap (λ m. loop_node m u.inputs (unrolled next u.body)) number in
        let same : s ≡ region args (node_set n y nodes) results = sym (same_Some (region args (node_set n y nodes) results) s f) in
        record {
          inputs = u.inputs;
          body = u.body;
          before = found.before;
          after = found.after;
          can = u.can;
          found = d ∙ ap Some is;
          set = same ∙ ap (λ z. region args (node_set n z nodes) results) now;
          whole = found.is ∙ ap (λ z. joined_nodes found.before (node_then z found.after)) is;
          result = same ∙ ap (λ ns. region args ns results) (found.first y ∙ ap (λ z. joined_nodes found.before (node_then z found.after)) now);
        }

    by : (found : Option NodeTree) → node_at n nodes ≡ found →
        option_map (λ y. region args (node_set n y nodes) results) (option_and_then (node_unrolled values next) found) ≡ Some s → Unrolls values next n args nodes results s
    by None d f = absurd cc
    by (Some x) d f = by-node x d (node_unrolled values next x) refl f
