-- A region of one node that takes its arguments and gives its results.
use Rattle.std.specs.Prelude.{◌&&◌}
use Rattle.std.proofs.Common.{◌≡◌, ℕ, zero, suc, true, cond, List, [], ◌∷◌, map, length, None, Some, slice_get, ap, ◌∙◌}
use Rattle.g_graph.specs.declared.op.Kind.{Kind}
use Rattle.g_graph.specs.declared.op.Kind.TheVariants.{Memory, Io}
use Rattle.g_graph.specs.declared.op.Op.{Op}
use Rattle.g_graph.specs.declared.op.Origin.{Origin}
use Rattle.g_graph.specs.declared.op.Origin.TheVariants.{Arg, Out}
use Rattle.g_graph.specs.Plain.{node, NodeTrees, no_nodes, node_then, RegionTrees}
use Rattle.g_graph.specs.Scope.{is_of, known, last_index, origin_at, last_state}
use Rattle.g_graph.specs.Signatures.{joined, inputs_of, outputs_of}
use Rattle.g_graph.specs.WellFormed.{some_of, are, one_state_each, has_its_regions, regions_fit, theta_has_states, has_its_width, has_its_object, gives, node_fits, region_fits, every_region, every_in_regions}
use Rattle.g_graph.proofs.lemmas.Indexes.{same_number_true}
use Rattle.g_graph.proofs.lemmas.KindLists.{are_themselves}
use Rattle.r_edit.proofs.lemmas.AddedFit.{fits-from}
use Rattle.r_edit.proofs.lemmas.Kept.{IsState}
use Rattle.r_edit.specs.Origins.{origins_from}
use Rattle.r_edit.proofs.lemmas.Consecutive.{all-known, all-last}
use Rattle.r_invert.specs.Compose.{alone}
use Rattle.r_invert.proofs.Sequence.{HaveStates, given-where}

-- what the node asks of its op and regions
pub record NodeAsks (objects id : ℕ) (op : Op) (ins outs : List Kind) (rs : RegionTrees) : Type 0 where
  pub inputs : (count : ℕ) → inputs_of op count rs ≡ ins
  pub outputs : outputs_of op rs ≡ map Some outs
  pub shape : (is : List Origin) → has_its_regions (node id op is rs) ≡ true
  pub regions : (is : List Origin) → regions_fit (node id op is rs) ≡ true
  pub theta : (is : List Origin) → theta_has_states (node id op is rs) ≡ true
  pub width : (is : List Origin) → has_its_width (node id op is rs) ≡ true
  pub object : (is : List Origin) → has_its_object objects (node id op is rs) ≡ true

module _ (objects id : ℕ) (op : Op) (ins outs : List Kind) (rs : RegionTrees) (asks : NodeAsks objects id op ins outs rs) (first : one_state_each (map Some ins) ≡ true)
    (second : one_state_each (map Some outs) ≡ true) where
  abbrev is : List Origin
  is = origins_from Arg 0 (length ins)

  abbrev own : NodeTrees
  own = node_then (node id op is rs) no_nodes

  there : (ks : List Kind) (p : ℕ) (k : Kind) → slice_get ks p ≡ Some k → joined (slice_get (map Some ks) p) ≡ Some k
  there [] p k e = absurd cc
  there (j ∷ ks) zero k e = e
  there (j ∷ ks) (suc p) k e = there ks p k e

  argument-last : (k : Kind) → IsState k → (p : ℕ) → last_index k 0 (map Some ins) None ≡ Some p → last_state k ins no_nodes ≡ Some (Arg p)
  argument-last k s p e = ap (λ i. origin_at Arg i None) e

  output-known : (p : ℕ) (k : Kind) → slice_get outs p ≡ Some k → known ins own (Out id p) ≡ Some k
  output-known p k e =
      ap (λ t. cond t (joined (slice_get (outputs_of op rs) p)) None) (same_number_true id) ∙ ap (λ ks. joined (slice_get ks p)) asks.outputs ∙ there outs p k e

  output-last : (k : Kind) → IsState k → (p : ℕ) → last_index k 0 (map Some outs) None ≡ Some p → last_state k ins own ≡ Some (Out id p)
  output-last k s p e =
      let start = origin_at Arg (last_index k 0 (map Some ins) None) None in
      ap (λ ks. origin_at (λ q. Out id q) (last_index k 0 ks None) start) asks.outputs ∙ ap (λ i. origin_at (λ q. Out id q) i start) e

  inputs-known : map (known ins no_nodes) is ≡ map Some ins
  inputs-known = all-known ins no_nodes Arg ins first (λ p k e. e) argument-last

  pub alone-kinds : map (known ins own) (origins_from (Out id) 0 (length outs)) ≡ map Some outs
  alone-kinds = all-known ins own (Out id) outs second output-known output-last

  node-fits : node_fits objects ins no_nodes (node id op is rs) ≡ true
  node-fits =
      let inputs : are (map (known ins no_nodes) is) (inputs_of op (length is) rs) ≡ true =
      (λ i. are (inputs-known i) (asks.inputs (length is) i)) ∙ are_themselves ins in
      let last = all-last ins no_nodes Arg ins first (λ p k e. e) argument-last in
      let states = ap one_state_each inputs-known ∙ first in
      let given = ap one_state_each asks.outputs ∙ second in
      λ i.
      inputs i && last i && (states i && given i) && asks.shape is i && asks.regions is i && asks.theta is i && asks.width is i && asks.object is i

  pub alone-fits : HaveStates (map Some outs) → every_in_regions (region_fits objects) rs ≡ true → every_region (region_fits objects) (alone id op ins (length outs) rs) ≡ true
  alone-fits states inside =
      let results = origins_from (Out id) 0 (length outs) in
      fits-from objects ins own results
      (record {
        each = λ i. node-fits i && true;
        last = all-last ins own (Out id) outs second output-known output-last;
        memory_given = given-where (gives Memory own) (some_of (is_of Memory) (map (known ins own) results)) (ap (some_of (is_of Memory)) alone-kinds ∙ states.memory);
        io_given = given-where (gives Io own) (some_of (is_of Io) (map (known ins own) results)) (ap (some_of (is_of Io)) alone-kinds ∙ states.io);
        first = first;
        second = ap one_state_each alone-kinds ∙ second;
        inside = λ i. inside i && true;
      })
