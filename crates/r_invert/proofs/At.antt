-- The loop that is inverted, in its region.
use Rattle.std.specs.Prelude.{option_and_then}
use Rattle.std.proofs.Common.{◌≡◌, ℕ, true, cond, List, Option, None, Some, option_map, refl, sym, ap, ◌∙◌}
use Rattle.std.proofs.lemmas.Option.{cond_some, same_Some}
use Rattle.g_graph.specs.declared.op.Kind.{Kind}
use Rattle.g_graph.specs.declared.op.Op.TheVariants.{Theta}
use Rattle.g_graph.specs.declared.op.Origin.{Origin}
use Rattle.g_graph.specs.Plain.{RegionTree, region, NodeTree, node, NodeTrees, no_regions, region_then, id_of}
use Rattle.g_graph.specs.Nodes.{node_at}
use Rattle.g_graph.specs.Replace.{region_redirected}
use Rattle.g_graph.specs.Splice.{args_to_inputs, region_spliced}
use Rattle.g_graph.proofs.lemmas.Found.{found_node, node_at-joined}
use Rattle.g_graph.proofs.lemmas.Splices.{Split, split_at}
use Rattle.g_graph.proofs.lemmas.Unique.{same_number}
use Rattle.r_edit.proofs.lemmas.Loops.{loop_node}
use Rattle.r_invert.specs.Rule.{Parts, parts_of, inverted, may_invert, in_place, invert_here}

-- what comes in its place
abbrev pub placed : (next : ℕ) → (inputs : List Origin) → Parts → RegionTree
placed next inputs p = region_redirected (args_to_inputs inputs) (inverted next p)

record IsInverted (values next : ℕ) (x : NodeTree) (part : RegionTree) : Type 0 where
  id : ℕ
  inputs : List Origin
  body : RegionTree
  parts : Parts
  is : x ≡ loop_node id inputs body
  form : parts_of body ≡ Some parts
  may : may_invert values next body parts ≡ true
  now : placed next inputs parts ≡ part

is-inverted : (values next : ℕ) (x : NodeTree) (part : RegionTree) → in_place values next x ≡ Some part → IsInverted values next x part
is-inverted values next (node id Theta inputs (region_then r no_regions)) part e = by (parts_of r) refl e
  where
    by : (found : Option Parts) → parts_of r ≡ found →
        option_and_then (λ p. cond (may_invert values next r p) (Some (placed next inputs p)) None) found ≡ Some part → IsInverted values next (loop_node id inputs r) part
    by None d f = absurd cc
    by (Some p) d f =
        let c = cond_some (may_invert values next r p) (placed next inputs p) part f in
        record { id = id; inputs = inputs; body = r; parts = p; is = refl; form = d; may = c.0; now = c.1 }
is-inverted values next (node id Theta inputs no_regions) part e = absurd cc
is-inverted values next (node id Theta inputs (region_then r (region_then t rs))) part e = absurd cc
is-inverted values next (node id _ inputs rs) part e = absurd cc

-- the region with the nodes before and after the loop, and what comes in its place
pub record Inverts (values next n : ℕ) (args : List Kind) (nodes : NodeTrees) (results : List Origin) (s : RegionTree) : Type 0 where
  pub inputs : List Origin
  pub body : RegionTree
  pub parts : Parts
  pub split : Split n nodes
  pub found : node_at n nodes ≡ Some (loop_node n inputs body)
  pub here : split.here ≡ loop_node n inputs body
  pub form : parts_of body ≡ Some parts
  pub may : may_invert values next body parts ≡ true
  pub result : s ≡ region_spliced n (placed next inputs parts) (region args nodes results)

pub inverts-at : (values next n : ℕ) (args : List Kind) (nodes : NodeTrees) (results : List Origin) (s : RegionTree) → invert_here values next n (region args nodes results) ≡ Some s →
    Inverts values next n args nodes results s
inverts-at values next n args nodes results s e = by (node_at n nodes) refl e
  where
    by-node : (x : NodeTree) → node_at n nodes ≡ Some x → (part : Option RegionTree) → in_place values next x ≡ part →
        option_map (λ t. region_spliced n t (region args nodes results)) part ≡ Some s → Inverts values next n args nodes results s
    by-node x d None c f = absurd cc
    by-node x d (Some part) c f =
        let u = is-inverted values next x part c in
        let split = split_at n nodes (found_node n nodes x d) in
        let at : node_at n nodes ≡ Some split.here = ap (node_at n) split.whole ∙ node_at-joined n split.before split.here split.after split.none_before split.numbered in
        let same : split.here ≡ loop_node u.id u.inputs u.body = same_Some split.here x (sym at ∙ d) ∙ u.is in
        let number : u.id ≡ n = ap id_of (sym same) ∙ same_number (id_of split.here) n split.numbered in
        let here : split.here ≡ loop_node n u.inputs u.body = same ∙ ap (λ m. loop_node m u.inputs u.body) number in
        record {
          inputs = u.inputs;
          body = u.body;
          parts = u.parts;
          split = split;
          found = at ∙ ap Some here;
          here = here;
          form = u.form;
          may = u.may;
          result = sym (same_Some (region_spliced n part (region args nodes results)) s f) ∙ ap (λ t. region_spliced n t (region args nodes results)) (sym u.now);
        }

    by : (found : Option NodeTree) → node_at n nodes ≡ found →
        option_map (λ t. region_spliced n t (region args nodes results)) (option_and_then (in_place values next) found) ≡ Some s → Inverts values next n args nodes results s
    by None d f = absurd cc
    by (Some x) d f = by-node x d (in_place values next x) refl f
