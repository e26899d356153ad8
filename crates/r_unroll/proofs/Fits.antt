-- The unrolled region is well formed where the region of the loop is.
use Rattle.std.specs.Prelude.{◌&&◌, ◌||◌, ◌+◌, not}
use Rattle.std.proofs.Common.{◌≡◌, ℕ, Bool, true, false, cond, List, [], ◌∷◌, ◌++◌, map, length, None, Some, slice_get, refl, sym, ap, ◌∙◌, inl, zero, suc}
use Rattle.std.proofs.lemmas.Bool.{and_parts, and_from}
use Rattle.std.proofs.lemmas.List.{length-map}
use Rattle.g_graph.specs.declared.op.Kind.{Kind}
use Rattle.g_graph.specs.declared.op.Kind.TheVariants.{Value, Memory, Io}
use Rattle.g_graph.specs.declared.op.Op.TheVariants.{Const, Gamma}
use Rattle.g_graph.specs.declared.op.Origin.{Origin}
use Rattle.g_graph.specs.declared.op.Origin.TheVariants.{Arg, Out}
use Rattle.g_graph.specs.Plain.{RegionTree, region, NodeTree, node, NodeTrees, no_nodes, node_then, no_regions, region_then, nodes_of, args_of}
use Rattle.g_graph.specs.Scope.{is_of, known, last_index, origin_at, state_after, last_state, each_node}
use Rattle.g_graph.specs.Signatures.{joined, result_kinds, output_kinds, kind_after}
use Rattle.g_graph.specs.Splice.{joined_nodes}
use Rattle.g_graph.specs.WellFormed.{all_of, some_of, same, are, one_state_each, kinds_of, gives, is_last, node_fits, region_fits, every_region}
use Rattle.g_graph.proofs.lemmas.Indexes.{same_number_true, gives_last}
use Rattle.g_graph.proofs.lemmas.KindLists.{are_themselves, kinds_of_some}
use Rattle.g_graph.proofs.lemmas.Splices.{joined_none, joined_following, kind_after-joined, state_after-joined, gives-joined, every_in_nodes-joined}
use Rattle.r_edit.specs.Numbering.{region_numbered}
use Rattle.r_edit.proofs.lemmas.Fits.{copies_fit}
use Rattle.r_edit.proofs.lemmas.AddedFit.{Fits, fits-parts, fits-from}
use Rattle.r_edit.proofs.lemmas.Kept.{IsState}
use Rattle.r_edit.proofs.lemmas.Pure.{no-index}
use Rattle.r_edit.proofs.lemmas.Consecutive.{all-known, all-last}
use Rattle.r_edit.specs.Origins.{origins_from}
use Rattle.r_unroll.specs.Rule.{stopping, unrolled}

-- ---- one more node

each-then : (test : NodeTrees → NodeTree → Bool) (earlier : List NodeTree) (ns : NodeTrees) (x : NodeTree) → each_node test earlier ns ≡ true → test (joined_nodes (nodes_of earlier) ns) x ≡ true →
    each_node test earlier (joined_nodes ns (node_then x no_nodes)) ≡ true
each-then test earlier no_nodes x e h = and_from (test (nodes_of earlier) x) true (ap (λ ms. test ms x) (sym (joined_none (nodes_of earlier))) ∙ h) refl
each-then test earlier (node_then y ns) x e h =
    let p = and_parts (test (nodes_of earlier) y) (each_node test (earlier ++ y ∷ []) ns) e in
    and_from (test (nodes_of earlier) y) (each_node test (earlier ++ y ∷ []) (joined_nodes ns (node_then x no_nodes))) p.0
    (each-then test (earlier ++ y ∷ []) ns x p.1 (ap (λ ms. test ms x) (joined_following earlier y ns) ∙ h))

-- ---- the region that stops

module _ (objects id : ℕ) (args : List Kind) (once : one_state_each (map Some args) ≡ true) where
  abbrev zero_node : NodeTrees
  zero_node = node_then (node id (Const 0) [] no_regions) no_nodes

  first-known : known args zero_node (Out id 0) ≡ Some Value
  first-known = ap (λ t. cond t (Some Value) None) (same_number_true id)

  argument-last : (k : Kind) → IsState k → (p : ℕ) → last_index k 0 (map Some args) None ≡ Some p → last_state k args zero_node ≡ Some (Arg p)
  argument-last k s p e =
      ap (λ i. origin_at (λ q. Out id q) i (origin_at Arg (last_index k 0 (map Some args) None) None)) (no-index k s) ∙ ap (λ i. origin_at Arg i None) e

  pub stopping-kinds : map (known args zero_node) (Out id 0 ∷ origins_from Arg 0 (length args)) ≡ map Some (Value ∷ args)
  stopping-kinds = λ i. first-known i ∷ all-known args zero_node Arg args once (λ p k e. e) argument-last i

  pub stopping-fits : every_region (region_fits objects) (stopping id args) ≡ true
  stopping-fits =
      fits-from objects args zero_node (Out id 0 ∷ origins_from Arg 0 (length args))
      (record {
        each = refl;
        last = and_from (is_last args zero_node (Out id 0)) (all_of (is_last args zero_node) (origins_from Arg 0 (length args)))
            (gives_last Value args zero_node (Out id 0) first-known (inl refl)) (all-last args zero_node Arg args once (λ p k e. e) argument-last);
        memory_given = refl;
        io_given = refl;
        first = once;
        second = ap one_state_each stopping-kinds ∙ once;
        inside = refl;
      })

-- ---- the unrolled region

given-too : (a t : Bool) → (not a || t) ≡ true → (not (a || (t || false)) || t) ≡ true
given-too true true e = refl
given-too true false e = absurd cc
given-too false true e = refl
given-too false false e = refl

module _ (objects next : ℕ) (args : List Kind) (nodes : NodeTrees) (results : List Origin) (fits : every_region (region_fits objects) (region args nodes results) ≡ true)
    (kinds : result_kinds (region args nodes results) ≡ map Some (Value ∷ args)) where
  abbrev own : RegionTree
  own = region args nodes results

  abbrev copy : RegionTree
  copy = region_numbered (next + 2) own

  abbrev last : NodeTree
  last = node next Gamma results (region_then (stopping (suc next) args) (region_then copy no_regions))

  abbrev whole : NodeTrees
  whole = joined_nodes nodes (node_then last no_nodes)

  parts : Fits objects args nodes results
  parts = fits-parts objects args nodes results fits

  once : one_state_each (map Some (Value ∷ args)) ≡ true
  once = ap one_state_each (sym kinds) ∙ parts.second

  outputs : output_kinds last ≡ map Some (Value ∷ args)
  outputs = stopping-kinds objects (suc next) args parts.first

  count : length results ≡ length (Value ∷ args)
  count = sym (length-map results (known args nodes)) ∙ ap length kinds ∙ length-map (Value ∷ args) Some

  copy-results : result_kinds copy ≡ map Some (Value ∷ args)
  copy-results = (copies_fit objects (next + 2) own).results ∙ kinds

  last-fits : node_fits objects args nodes last ≡ true
  last-fits =
      let inputs : are (map (known args nodes) results) (Value ∷ args) ≡ true = ap (λ ks. are ks (Value ∷ args)) kinds ∙ are_themselves (Value ∷ args) in
      let given : one_state_each (output_kinds last) ≡ true = ap one_state_each outputs ∙ once in
      let exits : kinds_of (output_kinds last) ≡ Value ∷ args = ap kinds_of outputs ∙ kinds_of_some (Value ∷ args) in
      let gives_them : (r : RegionTree) → args_of r ≡ args → result_kinds r ≡ map Some (Value ∷ args) → (same (args_of r) args && are (result_kinds r) (kinds_of (output_kinds last))) ≡ true
      = λ r a k. (λ i. same (a i) args && are (k i) (exits i)) ∙ (λ i. are_themselves args i && are_themselves (Value ∷ args) i) in
      λ i. inputs i && parts.last i && (parts.second i && given i) && true && (gives_them (stopping (suc next) args) refl outputs i && (gives_them copy refl copy-results i && true)) && true
      && true && true

  output-known : (p : ℕ) (k : Kind) → slice_get (Value ∷ args) p ≡ Some k → known args whole (Out next p) ≡ Some k
  output-known p k e =
      kind_after-joined nodes (node_then last no_nodes) next p None ∙ ap (λ t. cond t (joined (slice_get (output_kinds last) p)) (kind_after nodes next p None)) (same_number_true next)
      ∙ ap (λ ks. joined (slice_get ks p)) outputs ∙ there (Value ∷ args) p e
    where
      there : (ks : List Kind) (p : ℕ) → slice_get ks p ≡ Some k → joined (slice_get (map Some ks) p) ≡ Some k
      there [] p e = absurd cc
      there (j ∷ ks) zero e = e
      there (j ∷ ks) (suc p) e = there ks p e

  output-last : (k : Kind) → IsState k → (p : ℕ) → last_index k 0 (map Some (Value ∷ args)) None ≡ Some p → last_state k args whole ≡ Some (Out next p)
  output-last k s p e =
      let start = origin_at Arg (last_index k 0 (map Some args) None) None in
      state_after-joined k nodes (node_then last no_nodes) start
      ∙ ap (λ ks. origin_at (λ q. Out next q) (last_index k 0 ks None) (state_after k nodes start)) outputs
      ∙ ap (λ i. origin_at (λ q. Out next q) i (state_after k nodes start)) e

  abbrev outs : List Origin
  outs = origins_from (Out next) 0 (length results)

  outs-known : map (known args whole) outs ≡ map Some (Value ∷ args)
  outs-known = ap (λ n. map (known args whole) (origins_from (Out next) 0 n)) count ∙ all-known args whole (Out next) (Value ∷ args) once output-known output-last

  pub unrolled-results : result_kinds (unrolled next own) ≡ result_kinds own
  unrolled-results = outs-known ∙ sym kinds

  state-given : (k : Kind) → (not (gives k nodes) || some_of (is_of k) (map (known args nodes) results)) ≡ true → (not (gives k whole) || some_of (is_of k) (map (known args whole) outs)) ≡ true
  state-given k e =
      let state = some_of (is_of k) (map Some (Value ∷ args)) in
      (λ i. not ((gives-joined k nodes (node_then last no_nodes) ∙ ap (λ ks. gives k nodes || (some_of (is_of k) ks || false)) outputs) i) || some_of (is_of k) (outs-known i))
      ∙ given-too (gives k nodes) state (ap (λ ks. not (gives k nodes) || some_of (is_of k) ks) (sym kinds) ∙ e)

  pub unrolled-fits : every_region (region_fits objects) (unrolled next own) ≡ true
  unrolled-fits =
      fits-from objects args whole outs
      (record {
        each = each-then (node_fits objects args) [] nodes last parts.each last-fits;
        last = ap (λ n. all_of (is_last args whole) (origins_from (Out next) 0 n)) count ∙ all-last args whole (Out next) (Value ∷ args) once output-known output-last;
        memory_given = state-given Memory parts.memory_given;
        io_given = state-given Io parts.io_given;
        first = parts.first;
        second = ap one_state_each outs-known ∙ once;
        inside = every_in_nodes-joined (region_fits objects) nodes (node_then last no_nodes)
            ∙ (λ i. parts.inside i && ((stopping-fits objects (suc next) args parts.first i && (((copies_fit objects (next + 2) own).inside ∙ fits) i && true)) && true));
      })
