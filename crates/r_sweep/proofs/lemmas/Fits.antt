-- What the regions of a Gamma and of a Theta take and give, in the list of a well-formed lambda.
use Rattle.std.proofs.Common.{◌≡◌, ◌<◌, ◌&&◌, ℕ, zero, suc, true, Option, None, Some, List, [], ◌∷◌, map, length, refl, sym, ap, subst, ◌∙◌, arith}
use Rattle.std.specs.Prelude.{slice_get}
use Rattle.std.proofs.lemmas.Bool.{and_parts}
use Rattle.std.proofs.lemmas.Option.{same_Some}
use Rattle.g_graph.specs.declared.op.Kind.{Kind}
use Rattle.g_graph.specs.declared.op.Kind.TheVariants.{Value}
use Rattle.g_graph.specs.declared.op.Op.TheVariants.{Gamma, Theta}
use Rattle.g_graph.specs.Plain.{RegionTree, region, NodeTree, node, node_then, nodes_of, RegionTrees, no_regions, region_then, args_of, PlainLambda}
use Rattle.g_graph.specs.Scope.{known}
use Rattle.g_graph.specs.Signatures.{first_args, outputs_of, result_kinds, kind_of, kind_after, inputs_of}
use Rattle.g_graph.specs.Splice.{joined_nodes}
use Rattle.g_graph.specs.WellFormed.{are, same, all_regions, kinds_of, inputs_fit, inputs_are_last, node_has_one_state_each, has_its_regions, regions_fit, theta_has_states, has_its_width, has_its_object, node_fits, IsWellFormed}
use Rattle.g_graph.proofs.lemmas.KindLists.{kinds_of_some}
use Rattle.g_graph.proofs.lemmas.Nodes.{are_kinds, same_kinds, each_here}
use Rattle.g_arena_def.specs.Flat.{FlatRegion, FlatNode, Flat, region_flat, regions_flat, flat_of}
use Rattle.g_arena_def.specs.Reads.{found}
use Rattle.r_sweep.proofs.lemmas.Blocks.{Within}
use Rattle.r_sweep.proofs.lemmas.Kept.{Fitting, fitting, here}
use Rattle.r_sweep.proofs.lemmas.Reading.{start_node, node_is_found}
use Rattle.r_sweep.proofs.lemmas.Standing.{within}
use Rattle.r_sweep.proofs.lemmas.There.{region_parts}
use Rattle.r_sweep.specs.Fast.{IsWhole}

-- region j of a node has so many arguments, and a result for each output
pub record RegionFit (x : FlatNode) (entries j : ℕ) : Type 0 where
  pub region : FlatRegion
  pub there : slice_get x.regions j ≡ Some region
  pub args : length region.args ≡ entries
  pub results : length region.results ≡ length x.outputs

pub record GammaFits (x : FlatNode) : Type 0 where
  pub entries : ℕ
  pub inputs : length x.inputs ≡ suc entries
  pub each : (j : ℕ) → j < length x.regions → RegionFit x entries j
  pub some : 0 < length x.regions

-- a Theta has one region, whose arguments are of the kinds of the outputs
pub record ThetaFits (x : FlatNode) : Type 0 where
  pub region : FlatRegion
  pub regions : x.regions ≡ region ∷ []
  pub args : region.args ≡ x.outputs
  pub inputs : length x.inputs ≡ length x.outputs
  pub results : length region.results ≡ suc (length x.outputs)

-- ---- lists

counted : {X Y : Type 0} (f : X → Y) (xs : List X) → length (map f xs) ≡ length xs
counted f [] = refl
counted f (x ∷ xs) = ap suc (counted f xs)

are_count : (xs : List (Option Kind)) (ks : List Kind) → are xs ks ≡ true → length xs ≡ length ks
are_count xs ks e = ap length (are_kinds xs ks e) ∙ counted Some ks

results_count : (r : RegionTree) → length (result_kinds r) ≡ length (region_flat r).results
results_count (region args ns results) = counted (kind_of args (λ n p. kind_after ns n p None)) results

args_same : (r : RegionTree) → (region_flat r).args ≡ args_of r
args_same (region args ns results) = refl

-- ---- regions

record Fit (qs : RegionTrees) (entries count j : ℕ) : Type 0 where
  region : FlatRegion
  there : slice_get (regions_flat qs) j ≡ Some region
  args : length region.args ≡ entries
  results : length region.results ≡ count

each_fits : (first kinds : List Kind) (qs : RegionTrees) → all_regions (λ r. same (args_of r) first && are (result_kinds r) kinds) qs ≡ true → (j : ℕ) → j < length (regions_flat qs) → Fit qs (length first) (length kinds) j
each_fits first kinds no_regions e j lt = absurd (omega (arith, lt))
each_fits first kinds (region_then r rs) e zero lt =
    let both = and_parts (same (args_of r) first && are (result_kinds r) kinds) (all_regions (λ q. same (args_of q) first && are (result_kinds q) kinds) rs) e in
    let own = and_parts (same (args_of r) first) (are (result_kinds r) kinds) both.0 in
    record {
      region = region_flat r;
      there = refl;
      args = ap length (args_same r ∙ same_kinds (args_of r) first own.0);
      results = sym (results_count r) ∙ are_count (result_kinds r) kinds own.1;
    }
each_fits first kinds (region_then r rs) e (suc j) lt =
    let both = and_parts (same (args_of r) first && are (result_kinds r) kinds) (all_regions (λ q. same (args_of q) first && are (result_kinds q) kinds) rs) e in
    let f = each_fits first kinds rs both.1 j (omega (arith, lt)) in
    record { region = f.region; there = f.there; args = f.args; results = f.results }

-- ---- the node

module _ (n : ℕ) (l : PlainLambda) (w : Within n l) (well : IsWellFormed l) where
  abbrev fit : Fitting n l w
  fit = fitting n l w well

  abbrev own_node : NodeTree
  own_node = node n w.op w.inputs w.regions

  abbrev x : FlatNode
  x = start_node n l w

  node_test : node_fits (length l.objects) w.args (joined_nodes (nodes_of []) w.before) own_node ≡ true
  node_test =
      each_here (node_fits (length l.objects) w.args) [] w.before own_node w.after
      (region_parts (length l.objects) w.args (joined_nodes w.before (node_then own_node w.after)) w.results fit.region).nodes

  its_regions : has_its_regions own_node ≡ true
  its_regions =
      let before = joined_nodes (nodes_of []) w.before in
      let a = inputs_fit w.args before own_node && inputs_are_last w.args before own_node && node_has_one_state_each w.args before own_node in
      let b = a && has_its_regions own_node in
      let c = b && regions_fit own_node in
      let d = c && theta_has_states own_node in
      let f = d && has_its_width own_node in
      (and_parts a (has_its_regions own_node) (and_parts b (regions_fit own_node) (and_parts c (theta_has_states own_node)
      (and_parts d (has_its_width own_node) (and_parts f (has_its_object (length l.objects) own_node) node_test).0).0).0).0).1

  input_count : length w.inputs ≡ length (inputs_of w.op (length w.inputs) w.regions)
  input_count = sym (counted (known w.args w.before) w.inputs) ∙ are_count (map (known w.args w.before) w.inputs) (inputs_of w.op (length w.inputs) w.regions) (here n l w fit).inputs

  gamma : w.op ≡ Gamma → GammaFits x
  gamma g =
      let fits : regions_fit (node n Gamma w.inputs w.regions) ≡ true = ap (λ o. regions_fit (node n o w.inputs w.regions)) (sym g) ∙ (here n l w fit).regions in
      let outputs : kinds_of (outputs_of w.op w.regions) ≡ kinds_of (outputs_of Gamma w.regions) = ap (λ o. kinds_of (outputs_of o w.regions)) g in
      record {
        entries = length (first_args w.regions);
        inputs = input_count ∙ ap (λ o. length (inputs_of o (length w.inputs) w.regions)) g;
        each = λ j lt. let f = each_fits (first_args w.regions) (kinds_of (outputs_of Gamma w.regions)) w.regions fits j lt in
            record { region = f.region; there = f.there; args = f.args; results = f.results ∙ ap length (sym outputs) };
        some = by w.regions (ap (λ o. has_its_regions (node n o w.inputs w.regions)) (sym g) ∙ its_regions);
      }
    where
      by : (qs : RegionTrees) → has_its_regions (node n Gamma w.inputs qs) ≡ true → 0 < length (regions_flat qs)
      by no_regions e = absurd cc
      by (region_then r rs) e = omega arith

  -- by its regions
  theta_by : (qs : RegionTrees) → has_its_regions (node n Theta w.inputs qs) ≡ true → regions_fit (node n Theta w.inputs qs) ≡ true → length w.inputs ≡ length (first_args qs) →
      ThetaFits (record x { regions = regions_flat qs; outputs = kinds_of (outputs_of Theta qs) })
  theta_by no_regions h e i = absurd cc
  theta_by (region_then r (region_then q qs)) h e i = absurd cc
  theta_by (region_then (region args ns outs) no_regions) h e i =
      let both = and_parts (are (result_kinds (region args ns outs)) (Value ∷ args)) true e in
      let kinds = kinds_of_some args in
      record {
        region = record { args = args; results = outs };
        regions = refl;
        args = sym kinds;
        inputs = i ∙ ap length (sym kinds);
        results = sym (results_count (region args ns outs)) ∙ are_count (result_kinds (region args ns outs)) (Value ∷ args) both.0 ∙ ap (λ ks. suc (length ks)) (sym kinds);
      }

  theta : w.op ≡ Theta → ThetaFits x
  theta g =
      subst (λ ks. ThetaFits (record x { outputs = ks })) (λ i. kinds_of (outputs_of (sym g i) w.regions))
      (theta_by w.regions (ap (λ o. has_its_regions (node n o w.inputs w.regions)) (sym g) ∙ its_regions) (ap (λ o. regions_fit (node n o w.inputs w.regions)) (sym g) ∙ (here n l w fit).regions)
      (input_count ∙ ap (λ o. length (inputs_of o (length w.inputs) w.regions)) g))

-- a node that is found
module _ (n : ℕ) (a : Flat) (y : FlatNode) (h : IsWhole a) (e : found n a.nodes ≡ Some y) where
  abbrev l : PlainLambda
  l = h.lambda

  there : found n (flat_of l).nodes ≡ Some y
  there = ap (λ (b : Flat). found n b.nodes) (sym h.stands) ∙ e

  abbrev w : Within n l
  w = within n l y h.well there

  node_is : start_node n l w ≡ y
  node_is = same_Some (start_node n l w) y (sym (node_is_found n l w) ∙ there)

  pub gamma_fits : y.op ≡ Gamma → GammaFits y
  gamma_fits g = subst GammaFits node_is (gamma n l w h.well (ap (λ (z : FlatNode). z.op) node_is ∙ g))

  pub theta_fits : y.op ≡ Theta → ThetaFits y
  theta_fits g = subst ThetaFits node_is (theta n l w h.well (ap (λ (z : FlatNode). z.op) node_is ∙ g))
