-- What the inputs of a Gamma and of a Theta are, in the list of a well-formed lambda.
use Rattle.std.proofs.Common.{◌≡◌, ◌<◌, ◌==◌, ◌&&◌, ℕ, zero, suc, true, false, None, Some, List, [], ◌∷◌, ◌++◌, map, length, refl, sym, ap, subst, ◌∙◌, arith}
use Rattle.std.specs.Prelude.{if◌then◌else◌, slice_get}
use Rattle.std.proofs.lemmas.Bool.{and_parts, false_from_ne_true, or_parts}
use Rattle.std.proofs.lemmas.Option.{same_Some}
use Rattle.g_graph.specs.declared.op.Kind.{Kind}
use Rattle.g_graph.specs.declared.op.Op.TheVariants.{Gamma, Theta}
use Rattle.g_graph.specs.declared.op.Origin.{Origin}
use Rattle.g_graph.specs.declared.op.Origin.TheVariants.{Arg, Out}
use Rattle.g_graph.specs.Plain.{region, NodeTree, node, NodeTrees, no_nodes, node_then, nodes_of, RegionTrees, no_regions, region_then, PlainLambda}
use Rattle.g_graph.specs.Ids.{node_ids}
use Rattle.g_graph.specs.Scope.{known, each_node}
use Rattle.g_graph.specs.Change.{has_node}
use Rattle.g_graph.specs.Signatures.{joined, first_args, inputs_of, outputs_of, output_kinds, kind_after}
use Rattle.g_graph.specs.Splice.{joined_nodes}
use Rattle.g_graph.specs.WellFormed.{some_of, kinds_of, inputs_fit, inputs_are_last, node_has_one_state_each, has_its_regions, regions_fit, theta_has_states, has_its_width, has_its_object, node_fits, IsWellFormed}
use Rattle.g_graph.proofs.lemmas.Indexes.{kind_absent, kind_known}
use Rattle.g_graph.proofs.lemmas.KindLists.{kinds_of_some}
use Rattle.g_graph.proofs.lemmas.Nodes.{are_kinds, has_times, own_times}
use Rattle.g_graph.proofs.lemmas.Splices.{kind_after-joined}
use Rattle.g_graph.proofs.lemmas.Unique.{times, same_number}
use Rattle.r_edit.proofs.lemmas.CarriedExits.{get_map}
use Rattle.g_arena_def.specs.Flat.{FlatRegion, FlatNode, Flat, regions_flat, flat_of}
use Rattle.g_arena_def.specs.Reads.{found, kind_in}
use Rattle.r_sweep.proofs.lemmas.Blocks.{Within}
use Rattle.r_sweep.proofs.lemmas.FromLast.{is_beyond}
use Rattle.r_sweep.proofs.lemmas.Kept.{IsOther, Fitting, fitting, here, unread_own}
use Rattle.r_sweep.proofs.lemmas.Kinds.{HaveKinds, kinds_here}
use Rattle.r_sweep.proofs.lemmas.Reading.{start_node, node_is_found}
use Rattle.r_sweep.proofs.lemmas.Standing.{within, kinds_are, own_kinds}
use Rattle.r_sweep.proofs.lemmas.There.{region_parts}
use Rattle.r_sweep.specs.Fast.{IsWhole}
use Rattle.r_sweep.proofs.lemmas.Fits.{gamma_fits}

-- Of a Gamma the arguments of the first region are of the kinds of the inputs behind the predicate, and what is a result of it
-- is of the kind of the output.
pub record GammaReads (n : ℕ) (a : Flat) (x : FlatNode) : Type 0 where
  pub region : FlatRegion
  pub rest : List FlatRegion
  pub regions : x.regions ≡ region ∷ rest
  pub outputs : (p k : ℕ) (j : Kind) → slice_get region.results p ≡ Some (Arg k) → slice_get x.outputs p ≡ Some j → slice_get region.args k ≡ Some j
  pub inputs : (k : ℕ) (o : Origin) (j : Kind) → slice_get x.inputs (suc k) ≡ Some o → slice_get region.args k ≡ Some j → kind_in x.home o a ≡ Some j

-- of a Theta the inputs are of the kinds of the outputs
pub record ThetaReads (n : ℕ) (a : Flat) (x : FlatNode) : Type 0 where
  pub inputs : (k : ℕ) (o : Origin) (j : Kind) → slice_get x.inputs k ≡ Some o → slice_get x.outputs k ≡ Some j → kind_in x.home o a ≡ Some j

some_of_map : {X : Type 0} (xs : List X) (k : ℕ) (x : X) → slice_get xs k ≡ Some x → slice_get (map Some xs) k ≡ Some (Some x)
some_of_map xs k x e = get_map Some xs k x e

get_other : (n : ℕ) (inputs : List Origin) → some_of (is_beyond n 0) inputs ≡ false → (k : ℕ) (o : Origin) → slice_get inputs k ≡ Some o → IsOther n o
get_other n [] h k o e = absurd cc
get_other n (i ∷ inputs) h zero o e = subst (IsOther n) (same_Some i o e) (or_parts (is_beyond n 0 i) (some_of (is_beyond n 0) inputs) h).0
get_other n (i ∷ inputs) h (suc k) o e = get_other n inputs (or_parts (is_beyond n 0 i) (some_of (is_beyond n 0) inputs) h).1 k o e

-- each node of a well-formed region has a kind for each of its outputs
fits_regions : (objects : ℕ) (args : List Kind) (before : NodeTrees) (x : NodeTree) → node_fits objects args before x ≡ true → regions_fit x ≡ true
fits_regions objects args before x e =
    let d = inputs_fit args before x && inputs_are_last args before x && node_has_one_state_each args before x && has_its_regions x in
    let f = d && regions_fit x in
    let g = f && theta_has_states x in
    let h = g && has_its_width x in
    let to_h = (and_parts h (has_its_object objects x) e).0 in
    let to_g = (and_parts g (has_its_width x) to_h).0 in
    let to_f = (and_parts f (theta_has_states x) to_g).0 in
    (and_parts d (regions_fit x) to_f).1

have_kinds : (objects : ℕ) (args : List Kind) (done : List NodeTree) (ns : NodeTrees) → each_node (node_fits objects args) done ns ≡ true → HaveKinds ns
have_kinds objects args done no_nodes e = tt
have_kinds objects args done (node_then (node id op inputs rs) xs) e =
    let both = and_parts (node_fits objects args (nodes_of done) (node id op inputs rs)) (each_node (node_fits objects args) (done ++ node id op inputs rs ∷ []) xs) e in
    (kinds_are op id inputs rs (fits_regions objects args (nodes_of done) (node id op inputs rs) both.0), have_kinds objects args (done ++ node id op inputs rs ∷ []) xs both.1)

module _ (n : ℕ) (l : PlainLambda) (w : Within n l) (well : IsWellFormed l) where
  abbrev fit : Fitting n l w
  fit = fitting n l w well

  abbrev own : NodeTree
  own = node n w.op w.inputs w.regions

  abbrev nodes : NodeTrees
  nodes = joined_nodes w.before (node_then own w.after)

  once : (m : ℕ) → has_node m w.before ≡ true → has_node m w.after ≡ false
  once m h = false_from_ne_true (has_node m w.after) (λ g. omega (arith, has_times m w.before h, has_times m w.after g, (here n l w fit).once m))

  apart : (m : ℕ) → has_node m w.before ≡ true → (n == m) ≡ false
  apart m h =
      false_from_ne_true (n == m)
      (λ g. omega (arith, has_times m w.before h, own_times own, ap (λ k. times k (node_ids own)) (same_number n m g), (here n l w fit).once m))

  -- what is known before the node is known in the region
  known_still : (o : Origin) (j : Kind) → known w.args w.before o ≡ Some j → known w.args nodes o ≡ Some j
  known_still (Arg k) j e = e
  known_still (Out m p) j e =
      let there = kind_known w.before m p j e in
      kind_after-joined w.before (node_then own w.after) m p None
      ∙ kind_absent w.after m p (if n == m then joined (slice_get (output_kinds own) p) else kind_after w.before m p None) (once m there)
      ∙ ap (λ t. if t then joined (slice_get (output_kinds own) p) else kind_after w.before m p None) (apart m there) ∙ e

  kind_is : (o : Origin) → kind_in w.around.place o (flat_of l) ≡ known w.args nodes o
  kind_is o =
      let parts = region_parts (length l.objects) w.args nodes w.results fit.region in
      kinds_here n l w.around w.args nodes w.results w.is (have_kinds (length l.objects) w.args [] nodes parts.nodes) o

  pub input_kind : (k : ℕ) (o : Origin) (j : Kind) → slice_get w.inputs k ≡ Some o → slice_get (inputs_of w.op (length w.inputs) w.regions) k ≡ Some j →
      kind_in w.around.place o (flat_of l) ≡ Some j
  input_kind k o j e f =
      let ks = inputs_of w.op (length w.inputs) w.regions in
      let kinds : map (known w.args w.before) w.inputs ≡ map Some ks = are_kinds (map (known w.args w.before) w.inputs) ks (here n l w fit).inputs in
      let was : known w.args w.before o ≡ Some j =
      same_Some (known w.args w.before o) (Some j) (sym (get_map (known w.args w.before) w.inputs k o e) ∙ ap (λ xs. slice_get xs k) kinds ∙ some_of_map ks k j f) in
      kind_is o ∙ known_still o j was

  -- ---- by its regions

  abbrev x : FlatNode
  x = start_node n l w

  -- of a Gamma
  gamma_by : (rs : RegionTrees) → w.regions ≡ rs → w.op ≡ Gamma → 0 < length (regions_flat rs) → GammaReads n (flat_of l) x
  gamma_by no_regions is g some = absurd (omega (arith, some))
  gamma_by (region_then (region args ns outs) qs) is g some = record {
    region = record { args = args; results = outs };
    rest = regions_flat qs;
    regions = ap regions_flat is;
    outputs = λ p k j e f.
        let kinds : map (known args ns) outs ≡ map Some x.outputs = sym (ap (λ rs. outputs_of Gamma rs) is) ∙ ap (λ o. outputs_of o w.regions) (sym g) ∙ own_kinds n l w fit in
        same_Some (slice_get args k) (Some j) (sym (get_map (known args ns) outs p (Arg k) e) ∙ ap (λ ks. slice_get ks p) kinds ∙ some_of_map x.outputs p j f);
    inputs = λ k o j e f.
        input_kind (suc k) o j e ((λ i. slice_get (inputs_of (g i) (length w.inputs) (is i)) (suc k)) ∙ f);
  }

  -- of a Theta
  theta_by : w.op ≡ Theta → ThetaReads n (flat_of l) x
  theta_by t = record {
    inputs = λ k o j e f.
        let kinds : x.outputs ≡ first_args w.regions = ap (λ o. kinds_of (outputs_of o w.regions)) t ∙ kinds_of_some (first_args w.regions) in
        input_kind k o j e (ap (λ q. slice_get (inputs_of q (length w.inputs) w.regions) k) t ∙ ap (λ ks. slice_get ks k) (sym kinds) ∙ f);
  }

-- a node that is found
module _ (n : ℕ) (a : Flat) (y : FlatNode) (h : IsWhole a) (e : found n a.nodes ≡ Some y) where
  abbrev l : PlainLambda
  l = h.lambda

  there : found n (flat_of l).nodes ≡ Some y
  there = ap (λ (b : Flat). found n b.nodes) (sym h.stands) ∙ e

  abbrev w : Within n l
  w = within n l y h.well there

  node_is : start_node n l w ≡ y
  node_is = same_Some (start_node n l w) y (sym (node_is_found n l w) ∙ there)

  pub input_other : (k : ℕ) (o : Origin) → slice_get y.inputs k ≡ Some o → IsOther n o
  input_other k o d = get_other n w.inputs (unread_own n l w (fitting n l w h.well)) k o (ap (λ (z : FlatNode). slice_get z.inputs k) node_is ∙ d)

  pub gamma_reads : y.op ≡ Gamma → GammaReads n a y
  gamma_reads g =
      let some : 0 < length (regions_flat w.regions) = subst (λ (z : FlatNode). 0 < length z.regions) (sym node_is) (gamma_fits n a y h e g).some in
      subst (λ b. GammaReads n b y) (sym h.stands) (subst (GammaReads n (flat_of l)) node_is (gamma_by n l w h.well w.regions refl (ap (λ (z : FlatNode). z.op) node_is ∙ g) some))

  pub theta_reads : y.op ≡ Theta → ThetaReads n a y
  theta_reads t = subst (λ b. ThetaReads n b y) (sym h.stands) (subst (ThetaReads n (flat_of l)) node_is (theta_by n l w h.well (ap (λ (z : FlatNode). z.op) node_is ∙ t)))
