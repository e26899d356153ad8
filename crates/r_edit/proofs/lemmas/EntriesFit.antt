-- A Gamma without some of its entry variables fits in its place.
use Rattle.std.proofs.Common.{◌≡◌, ℕ, ◌⊎◌, Bool, true, false, not, ◌&&◌, ◌||◌, List, [], ◌∷◌, ◌++◌, map, length, Option, None, Some, refl, sym, ap, subst, ◌∙◌, inl, inr, arith}
use Rattle.std.proofs.lemmas.Bool.{and_parts, or_parts}
use Rattle.std.proofs.lemmas.Option.{same_Some}
use Rattle.g_graph.specs.declared.op.Kind.{Kind}
use Rattle.g_graph.specs.declared.op.Kind.TheVariants.{Value, Memory, Io}
use Rattle.g_graph.specs.declared.op.Op.{Op}
use Rattle.g_graph.specs.declared.op.Op.TheVariants.{Gamma}
use Rattle.g_graph.specs.declared.op.Origin.{Origin}
use Rattle.g_graph.specs.declared.op.Origin.TheVariants.{Arg, Out}
use Rattle.g_graph.specs.Plain.{region, NodeTree, node, NodeTrees, no_nodes, node_then, RegionTrees, no_regions, region_then, id_of, args_of}
use Rattle.g_graph.specs.Ids.{regions_ids}
use Rattle.g_graph.specs.Signatures.{first_args, result_kinds, outputs_of, output_kinds}
use Rattle.g_graph.specs.Scope.{is_of, known, last_index, origin_at, state_after, last_state}
use Rattle.g_graph.specs.WellFormed.{all_of, some_of, all_regions, are, same, one_state_each, gives, kinds_of, is_last, has_its_regions, inputs_fit, inputs_are_last, node_has_one_state_each}
use Rattle.g_graph.specs.WellFormed.{regions_fit, theta_has_states, has_its_width, has_its_object, node_fits, nodes_fit, results_are_last, returns_state, region_has_one_state_each, region_fits, every_region, every_in_node, every_in_nodes, every_in_regions}
use Rattle.g_graph.specs.Change.{has_node}
use Rattle.g_graph.specs.Replace.{nodes_redirected}
use Rattle.g_graph.specs.Splice.{joined_nodes}
use Rattle.g_graph.specs.Lists.{RegionOps, NodesOps, RegionsOps}
use Rattle.g_graph.proofs.lemmas.Indexes.{same_number_true, last_gives, gives_last}
use Rattle.g_graph.proofs.lemmas.Moved.{last_is_known}
use Rattle.g_graph.proofs.lemmas.Nodes.{NodeFits, KeptWithin, are_kinds, same_kinds}
use Rattle.g_graph.proofs.lemmas.Ops.{redirected_ops}
use Rattle.g_graph.proofs.lemmas.Redirects.{nodes_ids-redirected, kind_after-redirected, state_after-redirected, gives-redirected, every_in_nodes-redirected}
use Rattle.g_graph.proofs.lemmas.Unique.{times}
use Rattle.r_edit.specs.Uses.{nodes_read, is_read}
use Rattle.r_edit.specs.Places.{stays_at, kept, place_after}
use Rattle.r_edit.specs.Entries.{argument_after, is_gone_argument, some_reads, regions_taking, node_taking, entries_kept}
use Rattle.g_graph.proofs.lemmas.KindLists.{are_themselves}
use Rattle.r_edit.proofs.lemmas.Kept.{from_none, kept_map, kept_get, all_kept, is_not, states_fewer, last_follows}
use Rattle.r_edit.proofs.lemmas.Placed.{not_before}
use Rattle.r_edit.proofs.lemmas.Scopes.{KeepsScope, kept_all, kept_nodes_fit}
use Rattle.r_edit.proofs.lemmas.Entries.{taking_joined}
use Rattle.r_edit.proofs.lemmas.Exchanged.{exchanged_kept}

module _ (stays : List Bool) where
  abbrev move : Origin → Origin
  move = argument_after stays

  abbrev gone : Origin → Bool
  gone = is_gone_argument stays

  -- ---- a region with fewer arguments

  module _ (args : List Kind) where
    last_argument : (k : Kind) (j : ℕ) → last_index k 0 (map Some args) None ≡ Some j → stays_at stays j ≡ true → last_index k 0 (map Some (kept stays args)) None ≡ Some (place_after stays j)
    last_argument k j e t =
        ap (λ ks. last_index k 0 ks None) (kept_map stays Some args)
        ∙ last_follows k (λ i. stays_at stays i ≡ true) (place_after stays) stays 0 0 (map Some args) None None (λ i b. ap (stays_at stays) (omega arith) ∙ b)
        (λ i b. from_none stays i) (λ i d b. absurd cc) j e t

    first_state : (k : Kind) (o : Origin) → gone o ≡ false → origin_at Arg (last_index k 0 (map Some args) None) None ≡ Some o →
        origin_at Arg (last_index k 0 (map Some (kept stays args)) None) None ≡ Some (move o)
    first_state k o u e = by (last_index k 0 (map Some args) None) refl o u e
      where
        by : (l : Option ℕ) → last_index k 0 (map Some args) None ≡ l → (o : Origin) → gone o ≡ false → origin_at Arg l None ≡ Some o →
            origin_at Arg (last_index k 0 (map Some (kept stays args)) None) None ≡ Some (move o)
        by None q o u e = absurd cc
        by (Some j) q (Out n p) u e = absurd cc
        by (Some j) q (Arg i) u e =
            let number : j ≡ i = cc in
            ap (λ l. origin_at Arg l None) (last_argument k i (q ∙ ap Some number) (is_not (stays_at stays i) u))

    states_follow : (k : Kind) (ns : NodeTrees) (now found : Option Origin) → ((o : Origin) → gone o ≡ false → found ≡ Some o → now ≡ Some (move o)) → (o : Origin) → gone o ≡ false →
        state_after k ns found ≡ Some o → state_after k ns now ≡ Some (move o)
    states_follow k no_nodes now found h o u e = h o u e
    states_follow k (node_then z ns) now found h o u e =
        states_follow k ns (origin_at (λ p. Out (id_of z) p) (last_index k 0 (output_kinds z) None) now) (origin_at (λ p. Out (id_of z) p) (last_index k 0 (output_kinds z) None) found)
        (by (last_index k 0 (output_kinds z) None)) o u e
      where
        by : (l : Option ℕ) (a : Origin) → gone a ≡ false → origin_at (λ p. Out (id_of z) p) l found ≡ Some a → origin_at (λ p. Out (id_of z) p) l now ≡ Some (move a)
        by None a v d = h a v d
        by (Some p) a v d = subst (λ b. Some (Out (id_of z) p) ≡ Some (move b)) (same_Some (Out (id_of z) p) a d) refl

    kind_moves : (front : NodeTrees) (o : Origin) → gone o ≡ false → known (kept stays args) (nodes_redirected move front) (move o) ≡ known args front o
    kind_moves front (Arg k) u = kept_get stays args k (is_not (stays_at stays k) u)
    kind_moves front (Out n p) u = kind_after-redirected move front n p None

    scope_takes : (front : NodeTrees) → KeepsScope gone args front (kept stays args) (nodes_redirected move front) move
    scope_takes front = record { one = λ o u e. by o u e (known args front o) refl }
      where
        last : (k : Kind) (o : Origin) → gone o ≡ false → (k ≡ Value) ⊎ (last_state k args front ≡ Some o) →
            (k ≡ Value) ⊎ (last_state k (kept stays args) (nodes_redirected move front) ≡ Some (move o))
        last k o u (inl v) = inl v
        last k o u (inr s) =
            let now = origin_at Arg (last_index k 0 (map Some (kept stays args)) None) None in
            inr (state_after-redirected move k front now ∙ states_follow k front now (origin_at Arg (last_index k 0 (map Some args) None) None) (first_state k) o u s)

        by : (o : Origin) → gone o ≡ false → is_last args front o ≡ true → (k : Option Kind) → known args front o ≡ k →
            (known (kept stays args) (nodes_redirected move front) (move o) ≡ known args front o) × (is_last (kept stays args) (nodes_redirected move front) (move o) ≡ true)
        by o u e None n = absurd (last_is_known args front o e n)
        by o u e (Some k) n =
            let kind = kind_moves front o u in
            (kind, gives_last k (kept stays args) (nodes_redirected move front) (move o) (kind ∙ n) (last k o u (last_gives k args front o n e)))

  -- it gives the same kinds, and is well formed
  pub region_takes : (objects : ℕ) (args : List Kind) (nodes : NodeTrees) (results : List Origin) → is_read gone (region args nodes results) ≡ false →
      every_region (region_fits objects) (region args nodes results) ≡ true →
      (map (known (kept stays args) (nodes_redirected move nodes)) (map move results) ≡ map (known args nodes) results)
      × (every_region (region_fits objects) (region (kept stays args) (nodes_redirected move nodes) (map move results)) ≡ true)
  region_takes objects args nodes results unread e =
      let r = region args nodes results in
      let kinds = map (known args nodes) results in
      let unused = or_parts (nodes_read gone nodes) (some_of gone results) unread in
      let own = (and_parts (region_fits objects r) (every_in_nodes (region_fits objects) nodes) e).0 in
      let nest = (and_parts (region_fits objects r) (every_in_nodes (region_fits objects) nodes) e).1 in
      let to_io = (and_parts (nodes_fit objects r && results_are_last r && returns_state Memory r && returns_state Io r) (region_has_one_state_each r) own).0 in
      let states = (and_parts (nodes_fit objects r && results_are_last r && returns_state Memory r && returns_state Io r) (region_has_one_state_each r) own).1 in
      let to_memory = (and_parts (nodes_fit objects r && results_are_last r && returns_state Memory r) (returns_state Io r) to_io).0 in
      let gives_io = (and_parts (nodes_fit objects r && results_are_last r && returns_state Memory r) (returns_state Io r) to_io).1 in
      let to_last = (and_parts (nodes_fit objects r && results_are_last r) (returns_state Memory r) to_memory).0 in
      let gives_memory = (and_parts (nodes_fit objects r && results_are_last r) (returns_state Memory r) to_memory).1 in
      let fit = (and_parts (nodes_fit objects r) (results_are_last r) to_last).0 in
      let last : all_of (is_last args nodes) results ≡ true = (and_parts (nodes_fit objects r) (results_are_last r) to_last).1 in
      let all = kept_all gone objects args (kept stays args) move nodes (nodes_redirected move nodes) (scope_takes args nodes) results unused.1 last in
      let now = kept_nodes_fit gone objects args (kept stays args) move [] [] nodes (λ front rest w. scope_takes args front) unused.0 fit in
      let each = and_parts (one_state_each (map Some args)) (one_state_each kinds) states in
      let first = ap one_state_each (kept_map stays Some args) ∙ states_fewer stays (map Some args) each.0 in
      let memory_now : (not (gives Memory (nodes_redirected move nodes)) || some_of (is_of Memory) (map (known (kept stays args) (nodes_redirected move nodes)) (map move results))) ≡ true =
      (λ i. not (gives-redirected move Memory nodes i) || some_of (is_of Memory) (all.0 i)) ∙ gives_memory in
      let io_now : (not (gives Io (nodes_redirected move nodes)) || some_of (is_of Io) (map (known (kept stays args) (nodes_redirected move nodes)) (map move results))) ≡ true =
      (λ i. not (gives-redirected move Io nodes i) || some_of (is_of Io) (all.0 i)) ∙ gives_io in
      let second = ap one_state_each all.0 ∙ each.1 in
      let inside = every_in_nodes-redirected (region_fits objects) move nodes ∙ nest in
      (all.0, λ i. now i && all.1 i && memory_now i && io_now i && (first i && second i) && inside i)

  -- ---- the regions of a Gamma

  regions_take : (objects : ℕ) (firsts ks : List Kind) (rs : RegionTrees) → some_reads stays rs ≡ false → all_regions (λ r. same (args_of r) firsts && are (result_kinds r) ks) rs ≡ true →
      every_in_regions (region_fits objects) rs ≡ true →
      (all_regions (λ r. same (args_of r) (kept stays firsts) && are (result_kinds r) ks) (regions_taking stays rs) ≡ true) × (every_in_regions (region_fits objects) (regions_taking stays rs) ≡ true)
  regions_take objects firsts ks no_regions u e h = (refl, refl)
  regions_take objects firsts ks (region_then (region args nodes results) rs) u e h =
      let kinds = map (known args nodes) results in
      let unused = or_parts (is_read gone (region args nodes results)) (some_reads stays rs) u in
      let both = and_parts (same args firsts && are kinds ks) (all_regions (λ r. same (args_of r) firsts && are (result_kinds r) ks) rs) e in
      let own = and_parts (same args firsts) (are kinds ks) both.0 in
      let parts = and_parts (every_region (region_fits objects) (region args nodes results)) (every_in_regions (region_fits objects) rs) h in
      let here = region_takes objects args nodes results unused.0 parts.0 in
      let rest = regions_take objects firsts ks rs unused.1 both.1 parts.1 in
      let taken : same (kept stays args) (kept stays firsts) ≡ true = ap (λ js. same (kept stays js) (kept stays firsts)) (same_kinds args firsts own.0) ∙ are_themselves (kept stays firsts) in
      let given = ap (λ xs. are xs ks) here.0 ∙ own.1 in
      (λ i. (taken i && given i) && rest.0 i, λ i. here.1 i && rest.1 i)

  first_args_kept : (rs : RegionTrees) → first_args (regions_taking stays rs) ≡ kept stays (first_args rs)
  first_args_kept no_regions = refl
  first_args_kept (region_then (region args nodes results) rs) = refl

  gives_same : (objects : ℕ) (rs : RegionTrees) → some_reads stays rs ≡ false → every_in_regions (region_fits objects) rs ≡ true → outputs_of Gamma (regions_taking stays rs) ≡ outputs_of Gamma rs
  gives_same objects no_regions u h = refl
  gives_same objects (region_then (region args nodes results) rs) u h =
      (region_takes objects args nodes results (or_parts (is_read gone (region args nodes results)) (some_reads stays rs) u).0
      (and_parts (every_region (region_fits objects) (region args nodes results)) (every_in_regions (region_fits objects) rs) h).0).0

  pub ids_same : (rs : RegionTrees) → regions_ids (regions_taking stays rs) ≡ regions_ids rs
  ids_same no_regions = refl
  ids_same (region_then (region args nodes results) rs) = λ i. nodes_ids-redirected move nodes i ++ ids_same rs i

  shape_same : (id : ℕ) (inputs others : List Origin) (rs : RegionTrees) → has_its_regions (node id Gamma others (regions_taking stays rs)) ≡ has_its_regions (node id Gamma inputs rs)
  shape_same id inputs others no_regions = refl
  shape_same id inputs others (region_then (region args nodes results) rs) = refl

  -- ---- the node in its place

  module _ (objects : ℕ) (args : List Kind) (before : NodeTrees) (id : ℕ) (inputs : List Origin) (rs : RegionTrees) (after : NodeTrees)
      (here : NodeFits objects args before (node id Gamma inputs rs) after) (unread : some_reads stays rs ≡ false) where
    abbrev x : NodeTree
    x = node id Gamma inputs rs

    abbrev entries : List Origin
    entries = kept (true ∷ stays) inputs

    abbrev y : NodeTree
    y = node id Gamma entries (regions_taking stays rs)

    outputs_same : outputs_of Gamma (regions_taking stays rs) ≡ outputs_of Gamma rs
    outputs_same = gives_same objects rs unread here.inside

    regions_fit_now : regions_fit y ≡ true
    regions_fit_now =
        (λ i. all_regions (λ r. same (args_of r) (first_args_kept rs i) && are (result_kinds r) (kinds_of (outputs_same i))) (regions_taking stays rs))
        ∙ (regions_take objects (first_args rs) (kinds_of (outputs_of Gamma rs)) rs unread here.regions here.inside).0

    inputs_fit_now : are (map (known args before) entries) (Value ∷ first_args (regions_taking stays rs)) ≡ true
    inputs_fit_now =
        let kinds : map (known args before) inputs ≡ map Some (Value ∷ first_args rs) = are_kinds (map (known args before) inputs) (Value ∷ first_args rs) here.inputs in
        let taken : map (known args before) entries ≡ map Some (Value ∷ kept stays (first_args rs)) =
        kept_map (true ∷ stays) (known args before) inputs ∙ ap (kept (true ∷ stays)) kinds ∙ sym (kept_map (true ∷ stays) Some (Value ∷ first_args rs)) in
        (λ i. are (taken i) (Value ∷ first_args_kept rs i)) ∙ are_themselves (Value ∷ kept stays (first_args rs))

    node_fits_now : node_fits objects args before x ≡ true → node_fits objects args before y ≡ true
    node_fits_now e =
        let fits = inputs_fit args before x in
        let lasts = inputs_are_last args before x in
        let states = node_has_one_state_each args before x in
        let shape = has_its_regions x in
        let regions = regions_fit x in
        let theta = theta_has_states x in
        let width = has_its_width x in
        let to_width = (and_parts (fits && lasts && states && shape && regions && theta && width) (has_its_object objects x) e).0 in
        let to_theta = (and_parts (fits && lasts && states && shape && regions && theta) width to_width).0 in
        let to_regions = (and_parts (fits && lasts && states && shape && regions) theta to_theta).0 in
        let to_shape = (and_parts (fits && lasts && states && shape) regions to_regions).0 in
        let to_states = and_parts (fits && lasts && states) shape to_shape in
        let to_both = and_parts (fits && lasts) states to_states.0 in
        let each = and_parts (one_state_each (map (known args before) inputs)) (one_state_each (outputs_of Gamma rs)) to_both.1 in
        let last = all_kept (is_last args before) (true ∷ stays) inputs (and_parts fits lasts to_both.0).1 in
        let taken = ap one_state_each (kept_map (true ∷ stays) (known args before) inputs) ∙ states_fewer (true ∷ stays) (map (known args before) inputs) each.0 in
        let given = ap one_state_each outputs_same ∙ each.1 in
        let shape_now = shape_same id inputs entries rs ∙ to_states.1 in
        λ i. inputs_fit_now i && last i && (taken i && given i) && shape_now i && regions_fit_now i && true && true && true

    inside_now : every_in_node (region_fits objects) x ≡ true → every_in_node (region_fits objects) y ≡ true
    inside_now e = (regions_take objects (first_args rs) (kinds_of (outputs_of Gamma rs)) rs unread here.regions e).1

    pub entries_kept_fit : (results : List Origin) → every_region (region_fits objects) (region args (joined_nodes before (node_then x after)) results) ≡ true →
        KeptWithin objects (region args (joined_nodes before (node_then x after)) results) (entries_kept id stays (region args (joined_nodes before (node_then x after)) results))
    entries_kept_fit results fits =
        let whole = region args (joined_nodes before (node_then x after)) results in
        let is = ap (λ ns. region args ns results) (sym (taking_joined stays id before x after (not_before objects args before x after here) (same_number_true id))) in
        subst (λ s. KeptWithin objects whole s) is
        (exchanged_kept objects args before x y after here refl outputs_same results node_fits_now inside_now (λ m. omega (arith, ap (λ ns. times m (id ∷ ns)) (ids_same rs))) fits)

-- ---- no op is added

-- of a property that does not ask how many inputs a Gamma has
module _ (p : Op → ℕ → Type 0) (any : (m n : ℕ) → p Gamma m → p Gamma n) (stays : List Bool) where
  regions_taking_ops : (rs : RegionTrees) → RegionsOps p rs → RegionsOps p (regions_taking stays rs)
  regions_taking_ops no_regions h = h
  regions_taking_ops (region_then (region args nodes results) rs) h = (redirected_ops p (argument_after stays) nodes h.0, regions_taking_ops rs h.1)

  pub entries_kept_ops : (args : List Kind) (before : NodeTrees) (id : ℕ) (inputs : List Origin) (rs : RegionTrees) (after : NodeTrees) (results : List Origin) → has_node id before ≡ false →
      RegionOps p (region args (joined_nodes before (node_then (node id Gamma inputs rs) after)) results) →
      RegionOps p (entries_kept id stays (region args (joined_nodes before (node_then (node id Gamma inputs rs) after)) results))
  entries_kept_ops args before id inputs rs after results none h =
      subst (NodesOps p) (sym (taking_joined stays id before (node id Gamma inputs rs) after none (same_number_true id))) (by before h)
    where
      by : (front : NodeTrees) → NodesOps p (joined_nodes front (node_then (node id Gamma inputs rs) after)) →
          NodesOps p (joined_nodes front (node_then (node_taking stays (node id Gamma inputs rs)) after))
      by no_nodes k = ((any (length inputs) (length (kept (true ∷ stays) inputs)) k.0.0, regions_taking_ops rs k.0.1), k.1)
      by (node_then z ns) k = (k.0, by ns k.1)
