-- The changed region fits.
use Rattle.std.proofs.Common.{◌≡◌, ◌≤◌, ◌+◌, ℕ, zero, suc, ◌==◌, Bool, true, false, ◌&&◌, cond, List, []}
use Rattle.std.proofs.Common.{◌∷◌, ◌++◌, map, length, slice_get, Option, None, Some, refl, sym, ap, ◌∙◌, append_assoc, append-nil, arith}
use Rattle.std.proofs.lemmas.Bool.{and_parts, false_from_ne_true}
use Rattle.std.proofs.lemmas.List.{map-append}
use Rattle.g_graph.specs.declared.op.Kind.{Kind}
use Rattle.g_graph.specs.declared.op.Kind.TheVariants.{Value}
use Rattle.g_graph.specs.declared.op.Op.{Op}
use Rattle.g_graph.specs.declared.op.Op.TheVariants.{Gamma}
use Rattle.g_graph.specs.declared.op.Origin.{Origin}
use Rattle.g_graph.specs.declared.op.Origin.TheVariants.{Arg, Out}
use Rattle.g_graph.specs.Plain.{region, NodeTree, node, NodeTrees, no_nodes, node_then, RegionTrees, no_regions, region_then, id_of, args_of}
use Rattle.g_graph.specs.Ids.{nodes_ids, regions_ids}
use Rattle.g_graph.specs.Signatures.{is_pure, joined, first_args, kind_after, outputs_of, output_kinds, result_kinds}
use Rattle.g_graph.specs.Scope.{known}
use Rattle.g_graph.specs.WellFormed.{all_of, all_regions, same, are, one_state_each, kinds_of, is_last, inputs_fit, inputs_are_last}
use Rattle.g_graph.specs.WellFormed.{node_has_one_state_each, has_its_regions, regions_fit, theta_has_states, has_its_width, has_its_object, node_fits, region_fits, every_region}
use Rattle.g_graph.specs.Change.{has_node}
use Rattle.g_graph.specs.Splice.{joined_nodes}
use Rattle.g_graph.proofs.lemmas.Indexes.{same_number_true, kind_absent, kind_known}
use Rattle.g_graph.proofs.lemmas.KindLists.{are_themselves}
use Rattle.g_graph.proofs.lemmas.Nodes.{NodeFits, are_kinds, has_times}
use Rattle.g_graph.proofs.lemmas.Splices.{kind_after-joined}
use Rattle.g_graph.proofs.lemmas.Unique.{times, all_of_append, same_number}
use Rattle.r_edit.specs.Uses.{is_output_of}
use Rattle.r_edit.specs.Entries.{some_reads}
use Rattle.r_edit.proofs.lemmas.AddedFit.{one-added}
use Rattle.r_edit.proofs.lemmas.Exchanged.{exchanged_stays}
use Rattle.r_edit.proofs.lemmas.Kept.{is_not}
use Rattle.r_edit.proofs.lemmas.Pure.{values, values-are-last}
use Rattle.r_edit.proofs.lemmas.Swapped.{RegionStays}
use Rattle.r_pull.specs.Rule.{other_entries, args_from, regions_filled}
use Rattle.r_pull.proofs.Carried.{FirstOutputs}
use Rattle.r_pull.proofs.FilledFit.{with_values, GoneValues, AllFilled, all-filled, first-takes}

-- ---- values after others

more-values : (count : ℕ) (xs : List (Option Kind)) → one_state_each (xs ++ map Some (values count)) ≡ one_state_each xs
more-values zero xs = ap one_state_each (append-nil xs)
more-values (suc count) xs =
    ap one_state_each (sym (append_assoc xs (Some Value ∷ []) (map Some (values count)))) ∙ more-values count (xs ++ Some Value ∷ []) ∙ one-added xs

-- ---- what is known stays known

-- of nodes with unique numbers, what is known after the first ones is known after all
pub known-later : (args : List Kind) (front rest : NodeTrees) → ((m : ℕ) → times m (nodes_ids front) + times m (nodes_ids rest) ≤ 1) → (o : Origin) (k : Kind) → known args front o ≡ Some k →
    known args (joined_nodes front rest) o ≡ Some k
known-later args front rest once (Arg j) k e = e
known-later args front rest once (Out m p) k e =
    kind_after-joined front rest m p None ∙ kind_absent rest m p (kind_after front m p None) none ∙ e
  where
    none : has_node m rest ≡ false
    none = false_from_ne_true (has_node m rest) (λ t. omega (arith, once m, has_times m rest t, has_times m front (kind_known front m p k e)))

pub all-known-later : (args : List Kind) (front rest : NodeTrees) → ((m : ℕ) → times m (nodes_ids front) + times m (nodes_ids rest) ≤ 1) → (os : List Origin) (count : ℕ) →
    map (known args front) os ≡ map Some (values count) →
    map (known args (joined_nodes front rest)) os ≡ map Some (values count)
all-known-later args front rest once [] count e = e
all-known-later args front rest once (o ∷ os) zero e = absurd cc
all-known-later args front rest once (o ∷ os) (suc count) e =
    let first : known args front o ≡ Some Value = cc in
    let others : map (known args front) os ≡ map Some (values count) = cc in
    λ i. known-later args front rest once o Value first i ∷ all-known-later args front rest once os count others i

-- an output of a node that gives one value is its first
pub first-output : (args : List Kind) (front : NodeTrees) (x : NodeTree) (rest : NodeTrees) → output_kinds x ≡ Some Value ∷ [] → has_node (id_of x) rest ≡ false → (p : ℕ) (k : Kind) →
    known args (joined_nodes front (node_then x rest)) (Out (id_of x) p) ≡ Some k → (p ≡ 0) × (k ≡ Value)
first-output args front x rest value none p k e =
    by p (sym (kind_after-joined front (node_then x rest) (id_of x) p None
    ∙ kind_absent rest (id_of x) p (cond (id_of x == id_of x) (joined (slice_get (output_kinds x) p)) (kind_after front (id_of x) p None)) none
    ∙ ap (λ t. cond t (joined (slice_get (output_kinds x) p)) (kind_after front (id_of x) p None)) (same_number_true (id_of x))
    ∙ ap (λ ks. joined (slice_get ks p)) value) ∙ e)
  where
    by : (p : ℕ) → joined (slice_get (Some Value ∷ []) p) ≡ Some k → (p ≡ 0) × (k ≡ Value)
    by zero d = let kind : Value ≡ k = cc in (refl, sym kind)
    by (suc p) d = absurd cc

-- ---- which entries go

module _ (n : ℕ) (f : Origin → Option Kind) (own : (p : ℕ) (k : Kind) → f (Out n p) ≡ Some k → (p ≡ 0) × (k ≡ Value)) where
  is-own : (o : Origin) → is_output_of n o ≡ true → (p : ℕ) × (o ≡ Out n p)
  is-own (Arg k) e = absurd cc
  is-own (Out m p) e = (p, ap (λ k. Out k p) (sym (same_number n m e)))

  pub first-outputs : (entries : List Origin) (kinds : List Kind) → map f entries ≡ map Some kinds → FirstOutputs n entries
  first-outputs [] kinds e = tt
  first-outputs (a ∷ entries) [] e = absurd cc
  first-outputs (a ∷ entries) (k ∷ kinds) e =
      let first : f a ≡ Some k = cc in
      let rest : map f entries ≡ map Some kinds = cc in
      (λ u. let at = is-own a u in at.1 ∙ ap (Out n) (own at.0 k (ap f (sym at.1) ∙ first)).0, first-outputs entries kinds rest)

  pub gone-values : (entries : List Origin) (kinds : List Kind) (count : ℕ) → map f entries ≡ map Some kinds → GoneValues (other_entries n entries) (with_values count kinds)
  gone-values [] kinds count e j k t s = absurd cc
  gone-values (a ∷ entries) [] count e j k t s = absurd cc
  gone-values (a ∷ entries) (i ∷ kinds) count e zero k t s =
      let first : f a ≡ Some i = cc in
      let kind : i ≡ k = cc in
      let at = is-own a (is_not (is_output_of n a) t) in
      sym kind ∙ (own at.0 i (ap f (sym at.1) ∙ first)).1
  gone-values (a ∷ entries) (i ∷ kinds) count e (suc j) k t s =
      let rest : map f entries ≡ map Some kinds = cc in
      gone-values entries kinds count rest j k t s

-- ---- the Gamma with copies

module _ (objects : ℕ) (args : List Kind) (before : NodeTrees) (id : ℕ) (p : Origin) (entries : List Origin) (rs : RegionTrees) (after : NodeTrees)
    (here : NodeFits objects args before (node id Gamma (p ∷ entries) rs) after) (stays : List Bool) (next : ℕ) (op : Op) (pure : is_pure op ≡ true) (carried : List Origin)
    (gone : (count : ℕ) → GoneValues stays (with_values count (first_args rs))) (taken : map (known args before) carried ≡ map Some (values (length carried)))
    (fresh : (m : ℕ) → next ≤ m → times m (regions_ids rs) ≡ 0)
    (copies : some_reads stays rs ≡ true → (copy : ℕ) → node_fits objects (with_values (length carried) (first_args rs)) no_nodes
    (node copy op (args_from (length (first_args rs)) carried) no_regions) ≡ true) where
  abbrev g : NodeTree
  g = node id Gamma (p ∷ entries) rs

  abbrev firsts : List Kind
  firsts = first_args rs

  abbrev ks : List Kind
  ks = kinds_of (output_kinds g)

  abbrev filled : RegionTrees
  filled = regions_filled stays next (length firsts) op carried rs

  abbrev y : NodeTree
  y = node id Gamma ((p ∷ entries) ++ carried) filled

  all : AllFilled objects stays op pure carried firsts ks (gone (length carried)) next rs
  all = all-filled objects stays op pure carried firsts ks (gone (length carried)) next rs here.regions here.inside fresh copies

  takes : (qs : RegionTrees) → has_its_regions (node id Gamma (p ∷ entries) qs) ≡ true →
      (first_args (regions_filled stays next (length (first_args qs)) op carried qs) ≡ with_values (length carried) (first_args qs))
      × (has_its_regions (node id Gamma ((p ∷ entries) ++ carried) (regions_filled stays next (length (first_args qs)) op carried qs)) ≡ true)
  takes no_regions e = absurd cc
  takes (region_then r qs) e = (first-takes stays op carried next (length (args_of r)) r qs, refl)

  inputs_are : map (known args before) (p ∷ entries) ≡ map Some (Value ∷ firsts)
  inputs_are = are_kinds (map (known args before) (p ∷ entries)) (Value ∷ firsts) here.inputs

  inputs_now : map (known args before) ((p ∷ entries) ++ carried) ≡ map Some (Value ∷ with_values (length carried) firsts)
  inputs_now =
      map-append (known args before) (p ∷ entries) carried ∙ (λ i. inputs_are i ++ taken i) ∙ sym (map-append Some (Value ∷ firsts) (values (length carried)))

  fits-now : node_fits objects args before g ≡ true → node_fits objects args before y ≡ true
  fits-now e =
      let fits = inputs_fit args before g in
      let lasts = inputs_are_last args before g in
      let states = node_has_one_state_each args before g in
      let shape = has_its_regions g in
      let regions = regions_fit g in
      let theta = theta_has_states g in
      let width = has_its_width g in
      let to_width = (and_parts (fits && lasts && states && shape && regions && theta && width) (has_its_object objects g) e).0 in
      let to_theta = (and_parts (fits && lasts && states && shape && regions && theta) width to_width).0 in
      let to_regions = (and_parts (fits && lasts && states && shape && regions) theta to_theta).0 in
      let to_shape = (and_parts (fits && lasts && states && shape) regions to_regions).0 in
      let to_states = and_parts (fits && lasts && states) shape to_shape in
      let to_both = and_parts (fits && lasts) states to_states.0 in
      let each = and_parts (one_state_each (map (known args before) (p ∷ entries))) (one_state_each (outputs_of Gamma rs)) to_both.1 in
      let first = takes rs to_states.1 in
      let fit : are (map (known args before) ((p ∷ entries) ++ carried)) (Value ∷ first_args filled) ≡ true =
      (λ i. are (inputs_now i) (Value ∷ first.0 i)) ∙ are_themselves (Value ∷ with_values (length carried) firsts) in
      let last : all_of (is_last args before) ((p ∷ entries) ++ carried) ≡ true =
      all_of_append (is_last args before) (p ∷ entries) carried
      ∙ (λ i. (and_parts fits lasts to_both.0).1 i && values-are-last args before carried (length carried) taken i) in
      let one : one_state_each (map (known args before) ((p ∷ entries) ++ carried)) ≡ true =
      ap one_state_each (map-append (known args before) (p ∷ entries) carried ∙ ap (λ xs. map (known args before) (p ∷ entries) ++ xs) taken)
      ∙ more-values (length carried) (map (known args before) (p ∷ entries)) ∙ each.0 in
      let given = ap one_state_each all.outputs ∙ each.1 in
      let nested : regions_fit y ≡ true =
      (λ i. all_regions (λ r. same (args_of r) (first.0 i) && are (result_kinds r) (kinds_of (all.outputs i))) filled) ∙ all.all_fit in
      λ i. fit i && last i && (one i && given i) && first.1 i && nested i && true && true && true

  pub filled-stays : (results : List Origin) → every_region (region_fits objects) (region args (joined_nodes before (node_then g after)) results) ≡ true →
      RegionStays objects (region args (joined_nodes before (node_then g after)) results) (region args (joined_nodes before (node_then y after)) results)
  filled-stays results fits =
      exchanged_stays objects args before g y after here refl all.outputs results fits-now (λ e. all.inside) fits
