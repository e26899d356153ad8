-- A Theta of which values are read where they come from fits in its place.
use Rattle.std.proofs.Common.{◌≡◌, ℕ, ◌==◌, inl, cond, Option, Some, slice_get, Bool, true, false, ◌&&◌, List, [], map, refl, sym, ap, subst, ◌∙◌, arith}
use Rattle.std.proofs.lemmas.Bool.{and_parts}
use Rattle.std.proofs.lemmas.Option.{same_Some}
use Rattle.g_graph.specs.declared.op.Kind.{Kind}
use Rattle.g_graph.specs.declared.op.Kind.TheVariants.{Value, Memory, Io}
use Rattle.g_graph.specs.declared.op.Op.TheVariants.{Theta}
use Rattle.g_graph.specs.declared.op.Op.{Op}
use Rattle.g_graph.specs.declared.op.Origin.{Origin}
use Rattle.g_graph.specs.Plain.{RegionTree, region, NodeTree, node, NodeTrees, no_nodes, node_then, no_regions, region_then, id_of}
use Rattle.g_graph.specs.Signatures.{joined}
use Rattle.g_graph.specs.Scope.{known}
use Rattle.g_graph.specs.WellFormed.{one_state_each, is_last, nodes_fit, results_are_last, returns_state, region_has_one_state_each, region_fits, every_region, every_in_nodes}
use Rattle.g_graph.specs.Replace.{nodes_redirected}
use Rattle.g_graph.specs.Splice.{joined_nodes}
use Rattle.g_graph.specs.Lists.{RegionOps, NodesOps}
use Rattle.g_graph.proofs.lemmas.Indexes.{same_number_true}
use Rattle.g_graph.proofs.lemmas.Nodes.{NodeFits, KeptWithin, are_kinds}
use Rattle.g_graph.proofs.lemmas.Ops.{redirected_ops}
use Rattle.g_graph.proofs.lemmas.Elements.{get-all}
use Rattle.r_edit.specs.InPlace.{redirected_after, outputs_redirected}
use Rattle.r_edit.specs.Carried.{output_carried}
use Rattle.r_edit.proofs.lemmas.Kept.{kept_none}
use Rattle.r_edit.proofs.lemmas.Placed.{not_before}
use Rattle.r_edit.proofs.lemmas.Carried.{redirected_joined}
use Rattle.r_edit.proofs.lemmas.CarriedExits.{get_map}
use Rattle.r_edit.proofs.lemmas.CarriedFit.{Carries, carried_kept}

module _ (objects : ℕ) (args : List Kind) (before : NodeTrees) (id : ℕ) (inputs : List Origin) (own : List Kind) (nodes : NodeTrees) (outs : List Origin) (after : NodeTrees)
    (cs : List (Option Origin))
    (here : NodeFits objects args before (node id Theta inputs (region_then (region own nodes outs) no_regions)) after)
    (passes : (p : ℕ) (o : Origin) → joined (slice_get cs p) ≡ Some o → (slice_get own p ≡ Some Value) × (slice_get inputs p ≡ Some o)) where
  abbrev x : NodeTree
  x = node id Theta inputs (region_then (region own nodes outs) no_regions)

  carries : (p : ℕ) (o : Origin) → joined (slice_get cs p) ≡ Some o → Carries args before (map Some own) [] p o
  carries p o e =
      let at = passes p o e in
      let kinds : map (known args before) inputs ≡ map Some own = are_kinds (map (known args before) inputs) own here.inputs in
      record {
        kind = Value;
        own = ap joined (get_map Some own p Value at.0);
        outer = same_Some (known args before o) (Some Value) (sym (get_map (known args before) inputs p o at.1) ∙ ap (λ ks. slice_get ks p) kinds ∙ get_map Some own p Value at.0);
        last = get-all (is_last args before) inputs p o here.last at.1;
        goes = inl refl;
      }

  one : one_state_each (map Some own) ≡ true
  one =
      let r = region own nodes outs in
      let whole = (and_parts (every_region (region_fits objects) r) true here.inside).0 in
      let fits = (and_parts (region_fits objects r) (every_in_nodes (region_fits objects) nodes) whole).0 in
      let states = (and_parts (nodes_fit objects r && results_are_last r && returns_state Memory r && returns_state Io r) (region_has_one_state_each r) fits).1 in
      (and_parts (one_state_each (map Some own)) (one_state_each (map (known own nodes) outs)) states).0

  pub uses_carried_fit : (results : List Origin) → every_region (region_fits objects) (region args (joined_nodes before (node_then x after)) results) ≡ true →
      KeptWithin objects (region args (joined_nodes before (node_then x after)) results)
      (outputs_redirected id (output_carried id cs []) (region args (joined_nodes before (node_then x after)) results))
  uses_carried_fit results fits =
      subst (λ ns. KeptWithin objects (region args (joined_nodes before (node_then x after)) results) (region args ns (map (output_carried id cs []) results)))
      (sym (redirected_joined id (output_carried id cs []) before x after (not_before objects args before x after here) (same_number_true id)))
      (carried_kept objects args before x x after cs [] here refl (sym (kept_none (map Some own))) one (λ p e. refl) carries results (λ e. e) (λ e. e) (λ m. omega arith) fits)

-- ---- no op is added

module _ (p : Op → ℕ → Type 0) (f : Origin → Origin) where
  after_ops : (n : ℕ) (ns : NodeTrees) → NodesOps p ns → NodesOps p (redirected_after n f ns)
  after_ops n no_nodes h = h
  after_ops n (node_then x ns) h = by (id_of x == n) (after_ops n ns h.1)
    where
      by : (t : Bool) → NodesOps p (redirected_after n f ns) → NodesOps p (cond t (node_then x (nodes_redirected f ns)) (node_then x (redirected_after n f ns)))
      by true rest = (h.0, redirected_ops p f ns h.1)
      by false rest = (h.0, rest)

  pub outputs_redirected_ops : (n : ℕ) (r : RegionTree) → RegionOps p r → RegionOps p (outputs_redirected n f r)
  outputs_redirected_ops n (region args nodes results) h = after_ops n nodes h
