-- The call that is inlined, in its region.
use Rattle.std.specs.Prelude.{◌+◌, ◌==◌, ◌&&◌, option_and_then}
use Rattle.std.proofs.Common.{◌≡◌, ℕ, List, length, Option, None, Some, option_map, refl, sym, ap, ◌∙◌}
use Rattle.std.proofs.lemmas.Bool.{and_parts}
use Rattle.std.proofs.lemmas.Option.{cond_some, same_Some}
use Rattle.g_graph.specs.declared.op.Kind.{Kind}
use Rattle.g_graph.specs.declared.op.Op.TheVariants.{Apply}
use Rattle.g_graph.specs.declared.op.Origin.{Origin}
use Rattle.g_graph.specs.Plain.{RegionTree, region, NodeTree, node, NodeTrees, RegionTrees, id_of, PlainLambda}
use Rattle.g_graph.specs.Nodes.{node_at}
use Rattle.g_graph.specs.Splice.{region_spliced}
use Rattle.g_graph.proofs.lemmas.Found.{found_node, node_at-joined}
use Rattle.g_graph.proofs.lemmas.Splices.{Split, split_at}
use Rattle.g_graph.proofs.lemmas.Unique.{same_number}
use Rattle.r_inline.specs.Rule.{inputs_of_call, inlined, inline_here}

-- a node is a call of the callee
record IsCall (callee : PlainLambda) (x : NodeTree) (inputs : List Origin) : Type 0 where
  id : ℕ
  regions : RegionTrees
  is : x ≡ node id (Apply callee.number) inputs regions
  count : length inputs ≡ callee.params + 2

is-call : (callee : PlainLambda) (x : NodeTree) (inputs : List Origin) → inputs_of_call callee x ≡ Some inputs → IsCall callee x inputs
is-call callee (node id (Apply f) is rs) inputs e =
    let c = cond_some ((f == callee.number) && (length is == callee.params + 2)) is inputs e in
    let p = and_parts (f == callee.number) (length is == callee.params + 2) c.0 in
    record {
      id = id;
      regions = rs;
      is = λ i. node id (Apply (same_number f callee.number p.0 i)) (c.1 i) rs;
      count = ap length (sym c.1) ∙ same_number (length is) (callee.params + 2) p.1;
    }
is-call callee (node id _ is rs) inputs e = absurd cc

-- the region with the nodes before and after the call, and what comes in its place
pub record Inlined (next n : ℕ) (callee : PlainLambda) (args : List Kind) (nodes : NodeTrees) (results : List Origin) (s : RegionTree) : Type 0 where
  pub inputs : List Origin
  pub regions : RegionTrees
  pub split : Split n nodes
  pub here : split.here ≡ node n (Apply callee.number) inputs regions
  pub count : length inputs ≡ callee.params + 2
  pub result : s ≡ region_spliced n (inlined next callee inputs) (region args nodes results)

pub inlined-at : (next n : ℕ) (callee : PlainLambda) (args : List Kind) (nodes : NodeTrees) (results : List Origin) (s : RegionTree) →
    inline_here next n callee (region args nodes results) ≡ Some s → Inlined next n callee args nodes results s
inlined-at next n callee args nodes results s e = by (node_at n nodes) refl e
  where
    by-call : (x : NodeTree) → node_at n nodes ≡ Some x → (inputs : Option (List Origin)) → inputs_of_call callee x ≡ inputs →
        option_map (λ is. region_spliced n (inlined next callee is) (region args nodes results)) inputs ≡ Some s → Inlined next n callee args nodes results s
    by-call x d None c f = absurd cc
    by-call x d (Some inputs) c f =
        let call = is-call callee x inputs c in
        let split = split_at n nodes (found_node n nodes x d) in
        let found : node_at n nodes ≡ Some split.here = ap (node_at n) split.whole ∙ node_at-joined n split.before split.here split.after split.none_before split.numbered in
        let same : split.here ≡ node call.id (Apply callee.number) inputs call.regions = same_Some split.here x (sym found ∙ d) ∙ call.is in
        let number : call.id ≡ n = ap id_of (sym same) ∙ same_number (id_of split.here) n split.numbered in
        record {
          inputs = inputs;
          regions = call.regions;
          split = split;
          here = same ∙ ap (λ m. node m (Apply callee.number) inputs call.regions) number;
          count = call.count;
          result = sym (same_Some (region_spliced n (inlined next callee inputs) (region args nodes results)) s f);
        }

    by : (found : Option NodeTree) → node_at n nodes ≡ found →
        option_map (λ is. region_spliced n (inlined next callee is) (region args nodes results)) (option_and_then (inputs_of_call callee) found) ≡ Some s → Inlined next n callee args nodes results s
    by None d f = absurd cc
    by (Some x) d f = by-call x d (inputs_of_call callee x) refl f
