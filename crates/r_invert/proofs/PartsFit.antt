-- The parts of a loop's region fit.
use Rattle.std.specs.Prelude.{◌&&◌, if◌then◌else◌}
use Rattle.std.proofs.Common.{◌≡◌, ℕ, true, List, [], ◌∷◌, ◌++◌, map, None, Some, slice_get, refl, sym, ap, subst, ◌∙◌}
use Rattle.std.proofs.lemmas.Bool.{and_parts}
use Rattle.g_graph.specs.declared.op.Kind.{Kind}
use Rattle.g_graph.specs.declared.op.Kind.TheVariants.{Value, Memory, Io}
use Rattle.g_graph.specs.declared.op.Origin.{Origin}
use Rattle.g_graph.specs.declared.op.Origin.TheVariants.{Arg, Out}
use Rattle.g_graph.specs.Plain.{RegionTree, region, NodeTree, NodeTrees, no_nodes, node_then, no_regions, region_then, nodes_of, args_of}
use Rattle.g_graph.specs.Ids.{region_ids, nodes_ids}
use Rattle.g_graph.specs.Scope.{same_kind, is_of, known, each_node}
use Rattle.g_graph.specs.Signatures.{joined, result_kinds, kind_after}
use Rattle.g_graph.specs.Splice.{outputs_to_results, joined_nodes}
use Rattle.g_graph.specs.WellFormed.{all_of, some_of, are, same, kinds_of, distinct, one_state_each, inputs_fit, inputs_are_last, node_has_one_state_each, has_its_regions, regions_fit, theta_has_states, has_its_width, has_its_object, gives, node_fits, region_fits, every_region, every_in_nodes, every_in_regions}
use Rattle.g_graph.proofs.lemmas.Indexes.{same_number_true, each_node-joined}
use Rattle.g_graph.proofs.lemmas.Nodes.{each_here, are_kinds, same_kinds}
use Rattle.g_graph.proofs.lemmas.Splices.{nodes_ids-joined, kind_after-joined, every_in_nodes-joined}
use Rattle.g_graph.proofs.lemmas.Unique.{same_number}
use Rattle.g_mean.proofs.lemmas.Edits.{distinct-split}
use Rattle.r_edit.proofs.lemmas.AddedFit.{Fits, fits-parts, fits-from}
use Rattle.r_invert.specs.Laws.{IsLoopRegion}
use Rattle.r_invert.specs.Rule.{is_output_of, takes_both_states, giving}
use Rattle.r_invert.proofs.Chosen.{output_kind, all-chosen}
use Rattle.r_invert.proofs.Forms.{ending}
use Rattle.r_invert.proofs.Pieces.{Part}
use Rattle.g_graph.proofs.lemmas.KindLists.{some_kind}
use Rattle.r_invert.proofs.Sequence.{HaveStates, given-where, list-of}
use Rattle.r_invert.proofs.Whole.{PartsFit}

-- ---- the sentences of a node

pub record NodeSays (objects : ℕ) (args : List Kind) (before : NodeTrees) (x : NodeTree) : Type 0 where
  pub inputs : inputs_fit args before x ≡ true
  pub last : inputs_are_last args before x ≡ true
  pub states : node_has_one_state_each args before x ≡ true
  pub regions : regions_fit x ≡ true
  pub theta : theta_has_states x ≡ true

pub node-says : (objects : ℕ) (args : List Kind) (before : NodeTrees) (x : NodeTree) → node_fits objects args before x ≡ true → NodeSays objects args before x
node-says objects args before x e =
    let a = inputs_fit args before x in
    let b = inputs_are_last args before x in
    let c = node_has_one_state_each args before x in
    let d = has_its_regions x in
    let f = regions_fit x in
    let g = theta_has_states x in
    let h = has_its_width x in
    let to_h = (and_parts (a && b && c && d && f && g && h) (has_its_object objects x) e).0 in
    let to_g = (and_parts (a && b && c && d && f && g) h to_h).0 in
    let of_g = and_parts (a && b && c && d && f) g to_g in
    let of_f = and_parts (a && b && c && d) f of_g.0 in
    let of_c = and_parts (a && b) c (and_parts (a && b && c) d of_f.0).0 in
    let of_b = and_parts a b of_c.0 in
    record { inputs = of_b.0; last = of_b.1; states = of_c.1; regions = of_f.1; theta = of_g.1 }

pub have-states : (r : RegionTree) (ks : List Kind) → args_of r ≡ ks → takes_both_states r ≡ true → HaveStates (map Some ks)
have-states r ks a t =
    let both = and_parts (some_of (same_kind Memory) (args_of r)) (some_of (same_kind Io) (args_of r)) t in
    record {
      memory = some_kind Memory ks ∙ ap (some_of (same_kind Memory)) (sym a) ∙ both.0;
      io = some_kind Io ks ∙ ap (some_of (same_kind Io)) (sym a) ∙ both.1;
    }

-- ---- the parts

module _ (objects : ℕ) (args : List Kind) (before : NodeTrees) (g : ℕ) (inputs : List Origin) (own : List Kind) (ns : NodeTrees) (rs : List Origin)
    (others : List Kind) (ms : NodeTrees) (ss : List Origin)
    (predicate : Origin) (variables : List Origin) where
  abbrev z : RegionTree
  z = region own ns rs

  abbrev b : RegionTree
  b = region others ms ss

  abbrev last : NodeTree
  last = ending g inputs z b

  abbrev nodes : NodeTrees
  nodes = joined_nodes before (node_then last no_nodes)

  module _ (loop : IsLoopRegion objects (region args nodes (predicate ∷ variables))) (states : takes_both_states z ≡ true) (outputs : all_of (is_output_of g) (predicate ∷ variables) ≡ true) where
    whole : Fits objects args nodes (predicate ∷ variables)
    whole = fits-parts objects args nodes (predicate ∷ variables) loop.fits

    says : NodeSays objects args before last
    says = node-says objects args before last (each_here (node_fits objects args) [] before last no_nodes whole.each)

    -- ---- kinds

    abbrev pub exits : List Kind
    exits = kinds_of (result_kinds z)

    regions-say : ((same own own && are (result_kinds z) exits) ≡ true) × ((same others own && are (result_kinds b) exits) ≡ true)
    regions-say =
        let all = and_parts (same own own && are (result_kinds z) exits) ((same others own && are (result_kinds b) exits) && true) says.regions in
        (all.0, (and_parts (same others own && are (result_kinds b) exits) true all.1).0)

    pub z-kinds : map (known own ns) rs ≡ map Some exits
    z-kinds = are_kinds (result_kinds z) exits (and_parts (same own own) (are (result_kinds z) exits) regions-say.0).1

    pub b-kinds : map (known others ms) ss ≡ map Some exits
    b-kinds = are_kinds (result_kinds b) exits (and_parts (same others own) (are (result_kinds b) exits) regions-say.1).1

    b-takes : others ≡ own
    b-takes = same_kinds others own (and_parts (same others own) (are (result_kinds b) exits) regions-say.1).0

    output-known : (o : Origin) → is_output_of g o ≡ true → known args nodes o ≡ output_kind exits o
    output-known (Arg j) t = absurd cc
    output-known (Out n j) t =
        let is : n ≡ g = same_number n g t in
        kind_after-joined before (node_then last no_nodes) n j None
        ∙ ap (λ m. kind_after (node_then last no_nodes) m j (kind_after before n j None)) is
        ∙ ap (λ s. if s then joined (slice_get (result_kinds z) j) else kind_after before n j None) (same_number_true g)
        ∙ ap (λ ks. joined (slice_get ks j)) z-kinds

    all-outputs : (os : List Origin) → all_of (is_output_of g) os ≡ true → map (output_kind exits) os ≡ map (known args nodes) os
    all-outputs [] t = refl
    all-outputs (o ∷ os) t =
        let p = and_parts (is_output_of g o) (all_of (is_output_of g) os) t in
        λ i. sym (output-known o p.0) i ∷ all-outputs os p.1 i

    pub output-kinds : map (output_kind exits) (predicate ∷ variables) ≡ map Some (Value ∷ args)
    output-kinds = all-outputs (predicate ∷ variables) outputs ∙ are_kinds (result_kinds (region args nodes (predicate ∷ variables))) (Value ∷ args) loop.results

    variable-kinds : map (output_kind exits) variables ≡ map Some args
    variable-kinds = tails (output_kind exits predicate) (Some Value) (map (output_kind exits) variables) (map Some args) output-kinds
      where
        tails : {X : Type 0} (x y : X) (xs ys : List X) → x ∷ xs ≡ y ∷ ys → xs ≡ ys
        tails x y xs ys e = cc

    variable-outputs : all_of (is_output_of g) variables ≡ true
    variable-outputs = (and_parts (is_output_of g predicate) (all_of (is_output_of g) variables) outputs).1

    inside : (every_in_nodes (region_fits objects) before ≡ true) × (every_region (region_fits objects) z ≡ true) × (every_region (region_fits objects) b ≡ true)
    inside =
        let split = and_parts (every_in_nodes (region_fits objects) before) (every_in_regions (region_fits objects) (region_then z (region_then b no_regions)) && true)
        (sym (every_in_nodes-joined (region_fits objects) before (node_then last no_nodes)) ∙ whole.inside) in
        let both = (and_parts (every_region (region_fits objects) z && (every_region (region_fits objects) b && true)) true split.1).0 in
        let rest = and_parts (every_region (region_fits objects) z) (every_region (region_fits objects) b && true) both in
        (split.0, rest.0, (and_parts (every_region (region_fits objects) b) true rest.1).0)

    -- ---- numbers

    ids : distinct (nodes_ids before ++ ((g ∷ (region_ids z ++ (region_ids b ++ []))) ++ [])) ≡ true
    ids = subst (λ is. distinct is ≡ true) (nodes_ids-joined before (node_then last no_nodes)) loop.unique

    ids-apart : (distinct (nodes_ids before) ≡ true) × (distinct (region_ids z) ≡ true) × (distinct (region_ids b) ≡ true)
    ids-apart =
        let split = distinct-split (nodes_ids before) ((g ∷ (region_ids z ++ (region_ids b ++ []))) ++ []) ids in
        let node = (distinct-split (g ∷ (region_ids z ++ (region_ids b ++ []))) [] split.1).0 in
        let both = (distinct-split (g ∷ []) (region_ids z ++ (region_ids b ++ [])) node).1 in
        let rest = distinct-split (region_ids z) (region_ids b ++ []) both in
        (split.0, rest.0, (distinct-split (region_ids b) [] rest.1).0)

    -- ---- the test

    input-kinds : map (known args before) inputs ≡ map Some (Value ∷ own)
    input-kinds = are_kinds (map (known args before) inputs) (Value ∷ own) says.inputs

    entries : HaveStates (map Some own)
    entries = have-states z own refl states

    each-before : each_node (node_fits objects args) [] before ≡ true
    each-before =
        let l = list-of before in
        let joined : (each_node (node_fits objects args) [] (nodes_of l.0) && each_node (node_fits objects args) l.0 (node_then last no_nodes)) ≡ true =
        sym (each_node-joined (node_fits objects args) [] l.0 (node_then last no_nodes))
        ∙ ap (λ xs. each_node (node_fits objects args) [] (joined_nodes xs (node_then last no_nodes))) (sym l.1) ∙ whole.each in
        ap (each_node (node_fits objects args) []) l.1 ∙ (and_parts (each_node (node_fits objects args) [] (nodes_of l.0)) (each_node (node_fits objects args) l.0 (node_then last no_nodes)) joined).0

    test-part : Part objects args (Value ∷ own) (region args before inputs)
    test-part =
        record {
          fits = fits-from objects args before inputs
              (record {
                each = each-before;
                last = says.last;
                memory_given = given-where (gives Memory before) (some_of (is_of Memory) (map (known args before) inputs)) (ap (some_of (is_of Memory)) input-kinds ∙ entries.memory);
                io_given = given-where (gives Io before) (some_of (is_of Io) (map (known args before) inputs)) (ap (some_of (is_of Io)) input-kinds ∙ entries.io);
                first = whole.first;
                second = (and_parts (one_state_each (map (known args before) inputs)) (one_state_each (result_kinds z)) says.states).0;
                inside = inside.0;
              });
          unique = ids-apart.0;
          takes = refl;
          gives = input-kinds;
        }

    -- ---- the regions of the last node

    loop-states : HaveStates (map Some args)
    loop-states = have-states (region args nodes (predicate ∷ variables)) args refl loop.states

    region-part : (ks : List Kind) (os : List Origin) (xs : NodeTrees) → map (known ks xs) os ≡ map Some exits → every_region (region_fits objects) (region ks xs os) ≡ true →
        distinct (nodes_ids xs) ≡ true → ks ≡ own → Part objects own args (giving g variables (region ks xs os))
    region-part ks os xs kinds fits unique takes =
        let f = fits-parts objects ks xs os fits in
        let all = all-chosen ks xs os exits kinds f.last g variables args variable-outputs variable-kinds in
        record {
          fits = fits-from objects ks xs (map (outputs_to_results g os) variables)
              (record {
                each = f.each;
                last = all.1;
                memory_given = given-where (gives Memory xs) (some_of (is_of Memory) (map (known ks xs) (map (outputs_to_results g os) variables)))
                    (ap (some_of (is_of Memory)) all.0 ∙ loop-states.memory);
                io_given = given-where (gives Io xs) (some_of (is_of Io) (map (known ks xs) (map (outputs_to_results g os) variables))) (ap (some_of (is_of Io)) all.0 ∙ loop-states.io);
                first = f.first;
                second = ap one_state_each all.0 ∙ whole.first;
                inside = f.inside;
              });
          unique = unique;
          takes = takes;
          gives = all.0;
        }

    pub parts-fit : PartsFit objects args own (record { test = region args before inputs; stop = giving g variables z; go = giving g variables b })
    parts-fit =
        record {
          test = test-part;
          stop = region-part own rs ns z-kinds inside.1 ids-apart.1 refl;
          go = region-part others ss ms b-kinds inside.2 ids-apart.2 b-takes;
          variables = loop-states;
          entries = entries;
        }

    pub regions-fit : (every_region (region_fits objects) z ≡ true) × (every_region (region_fits objects) b ≡ true)
    regions-fit = (inside.1, inside.2)

    pub regions-unique : (distinct (nodes_ids ns) ≡ true) × (distinct (nodes_ids ms) ≡ true)
    regions-unique = (ids-apart.1, ids-apart.2)
