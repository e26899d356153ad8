-- A Gamma without exit variables that carry one origin in every region fits in its place.
use Rattle.std.proofs.Common.{◌≡◌, ℕ, zero, suc, ◌==◌, ◌⊎◌, inl, inr, cond, Option, None, Some, slice_get, Bool, true, false, not, ◌&&◌, ◌||◌, List, [], ◌∷◌, map, refl, sym, ap, subst, ◌∙◌, arith}
use Rattle.std.proofs.lemmas.Bool.{and_parts}
use Rattle.std.proofs.lemmas.Option.{same_Some}
use Rattle.g_graph.specs.declared.op.Kind.{Kind}
use Rattle.g_graph.specs.declared.op.Kind.TheVariants.{Value, Memory, Io}
use Rattle.g_graph.specs.declared.op.Op.TheVariants.{Gamma}
use Rattle.g_graph.specs.declared.op.Op.{Op}
use Rattle.g_graph.specs.declared.op.Origin.{Origin}
use Rattle.g_graph.specs.declared.op.Origin.TheVariants.{Arg, Out}
use Rattle.g_graph.specs.Plain.{RegionTree, region, NodeTree, node, NodeTrees, no_nodes, node_then, RegionTrees, no_regions, region_then, id_of, args_of}
use Rattle.g_graph.specs.Signatures.{joined, first_args, result_kinds, outputs_of}
use Rattle.g_graph.specs.Scope.{is_of, known, last_state, last_index, origin_at}
use Rattle.g_graph.specs.WellFormed.{all_of, some_of, all_regions, are, same, one_state_each, kinds_of, is_origin, is_last, inputs_are_last}
use Rattle.g_graph.specs.WellFormed.{regions_fit, node_fits, nodes_fit, results_are_last, returns_state, region_has_one_state_each, region_fits, every_region, every_in_node, every_in_nodes, every_in_regions}
use Rattle.g_graph.specs.Replace.{nodes_redirected}
use Rattle.g_graph.specs.Splice.{joined_nodes}
use Rattle.g_graph.specs.Lists.{RegionOps, NodesOps}
use Rattle.g_graph.proofs.lemmas.Indexes.{same_number_true, GivesState, KeepsState, state_cases, last_gives, is_of_true, is_origin_some}
use Rattle.g_graph.proofs.lemmas.KindLists.{kinds_of_some}
use Rattle.g_graph.proofs.lemmas.Nodes.{NodeFits, KeptWithin, are_kinds}
use Rattle.g_graph.proofs.lemmas.Ops.{redirected_ops}
use Rattle.g_graph.proofs.lemmas.Unique.{times}
use Rattle.g_graph.proofs.lemmas.Elements.{get-all}
use Rattle.r_edit.specs.Places.{stays_at, kept}
use Rattle.r_edit.specs.Exits.{regions_giving, node_giving}
use Rattle.r_edit.specs.Carried.{outer, all_pass, passed, output_carried, staying, nodes_carrying, exits_carried}
use Rattle.r_edit.proofs.lemmas.Kept.{kept_map, all_kept, IsState, memory, io, states_fewer}
use Rattle.r_edit.proofs.lemmas.ExitsFit.{first_args_same, gives_kept, ids_same, shape_same, regions_give, exits_are, node_giving_ops}
use Rattle.r_edit.proofs.lemmas.Placed.{not_before}
use Rattle.r_edit.proofs.lemmas.Carried.{outer_is, passed_is, passed_all, stays_none, carrying_joined}
use Rattle.r_edit.proofs.lemmas.CarriedFit.{Carries, carried_kept}

-- ---- lists

pub get_map : {X Y : Type 0} (f : X → Y) (xs : List X) (i : ℕ) (x : X) → slice_get xs i ≡ Some x → slice_get (map f xs) i ≡ Some (f x)
get_map f [] i x e = absurd cc
get_map f (a ∷ xs) zero x e = ap (λ z. Some (f z)) (same_Some a x e)
get_map f (a ∷ xs) (suc i) x e = get_map f xs i x e

some_kind : (ks : List Kind) (i : ℕ) (x : Option Kind) → slice_get (map Some ks) i ≡ Some x → (k : Kind) × ((slice_get ks i ≡ Some k) × (x ≡ Some k))
some_kind [] i x e = absurd cc
some_kind (k ∷ ks) zero x e = (k, (refl, sym (same_Some (Some k) x e)))
some_kind (k ∷ ks) (suc i) x e = some_kind ks i x e

stays_some : (cs : List (Option Origin)) (p : ℕ) (o : Origin) → joined (slice_get cs p) ≡ Some o → stays_at (staying cs) p ≡ false
stays_some [] p o e = absurd cc
stays_some (None ∷ cs) zero o e = absurd cc
stays_some (Some a ∷ cs) zero o e = refl
stays_some (c ∷ cs) (suc p) o e = stays_some cs p o e

goes_some : (cs : List (Option Origin)) (p : ℕ) → stays_at (staying cs) p ≡ false → (o : Origin) × (joined (slice_get cs p) ≡ Some o)
goes_some [] p e = absurd cc
goes_some (None ∷ cs) zero e = absurd cc
goes_some (Some a ∷ cs) zero e = (a, refl)
goes_some (c ∷ cs) (suc p) e = goes_some cs p e

-- ---- a region some of whose results go that are arguments

abbrev ArgumentsGo : (stays : List Bool) → List Origin → Type 0
ArgumentsGo stays results = (p : ℕ) → stays_at stays p ≡ false → (j : ℕ) × (slice_get results p ≡ Some (Arg j))

abbrev AllGo : (stays : List Bool) → RegionTrees → Type 0
AllGo stays no_regions = Unit {0}
AllGo stays (region_then (region args nodes results) rs) = ArgumentsGo stays results × AllGo stays rs

module _ (k : Kind) (state : IsState k) (args : List Kind) (nodes : NodeTrees) (given : GivesState k nodes) where
  not_value : (j : Kind) → IsState j → j ≡ Value → ⊥
  not_value Value s e = elim s [ ]
  not_value Memory memory e = absurd cc
  not_value Io io e = absurd cc

  -- an argument is not the last of a state that a node gives
  no_argument : (o : Origin) (j : ℕ) → o ≡ Arg j → is_last args nodes o ≡ true → (t : Bool) → is_of k (known args nodes o) ≡ t → t ≡ false
  no_argument o j a l false e = refl
  no_argument o j a l true e = by (last_gives k args nodes o (is_of_true k (known args nodes o) e) l)
    where
      by : (k ≡ Value) ⊎ (last_state k args nodes ≡ Some o) → true ≡ false
      by (inl v) = absurd (not_value k state v)
      by (inr s) =
          let wrong : Some (Arg j) ≡ Some (Out given.number given.port) = ap Some (sym a) ∙ sym s ∙ given.from (origin_at Arg (last_index k 0 (map Some args) None) None) in
          absurd cc

  still_some : (stays : List Bool) (results : List Origin) → ArgumentsGo stays results → all_of (is_last args nodes) results ≡ true → some_of (is_of k) (map (known args nodes) results) ≡ true →
      some_of (is_of k) (map (known args nodes) (kept stays results)) ≡ true
  still_some stays [] go l e = absurd cc
  still_some [] (o ∷ os) go l e = e
  still_some (true ∷ ts) (o ∷ os) go l e =
      by (is_of k (known args nodes o)) e (still_some ts os (λ p t. go (suc p) t) (and_parts (is_last args nodes o) (all_of (is_last args nodes) os) l).1)
    where
      by : (t : Bool) → (t || some_of (is_of k) (map (known args nodes) os)) ≡ true →
          (some_of (is_of k) (map (known args nodes) os) ≡ true → some_of (is_of k) (map (known args nodes) (kept ts os)) ≡ true) →
          (t || some_of (is_of k) (map (known args nodes) (kept ts os))) ≡ true
      by true d h = refl
      by false d h = h d
  still_some (false ∷ ts) (o ∷ os) go l e =
      let both = and_parts (is_last args nodes o) (all_of (is_last args nodes) os) l in
      let argument = go 0 refl in
      let none = no_argument o argument.0 (same_Some o (Arg argument.0) argument.1) both.0 (is_of k (known args nodes o)) refl in
      still_some ts os (λ p t. go (suc p) t) both.1 (sym (ap (λ b. b || some_of (is_of k) (map (known args nodes) os)) none) ∙ e)

returns_still : (k : Kind) → IsState k → (stays : List Bool) (args : List Kind) (nodes : NodeTrees) (results : List Origin) → ArgumentsGo stays results → all_of (is_last args nodes) results ≡ true →
    returns_state k (region args nodes results) ≡ true → returns_state k (region args nodes (kept stays results)) ≡ true
returns_still k state stays args nodes results go l e = by (state_cases k nodes)
  where
    by : GivesState k nodes ⊎ KeepsState k nodes → returns_state k (region args nodes (kept stays results)) ≡ true
    by (inr none) = ap (λ b. not b || some_of (is_of k) (map (known args nodes) (kept stays results))) none.given
    by (inl given) =
        let gave : some_of (is_of k) (map (known args nodes) results) ≡ true = sym (ap (λ b. not b || some_of (is_of k) (map (known args nodes) results)) given.given) ∙ e in
        let now = still_some k state args nodes given stays results go l gave in
        ap (λ b. not b || some_of (is_of k) (map (known args nodes) (kept stays results))) given.given ∙ now

module _ (stays : List Bool) (objects : ℕ) where
  fits_inside : (args : List Kind) (nodes : NodeTrees) (results : List Origin) → ArgumentsGo stays results → every_region (region_fits objects) (region args nodes results) ≡ true →
      every_region (region_fits objects) (region args nodes (kept stays results)) ≡ true
  fits_inside args nodes results go e =
      let r = region args nodes results in
      let own = (and_parts (region_fits objects r) (every_in_nodes (region_fits objects) nodes) e).0 in
      let nest = (and_parts (region_fits objects r) (every_in_nodes (region_fits objects) nodes) e).1 in
      let to_io = (and_parts (nodes_fit objects r && results_are_last r && returns_state Memory r && returns_state Io r) (region_has_one_state_each r) own).0 in
      let states = (and_parts (nodes_fit objects r && results_are_last r && returns_state Memory r && returns_state Io r) (region_has_one_state_each r) own).1 in
      let to_memory = (and_parts (nodes_fit objects r && results_are_last r && returns_state Memory r) (returns_state Io r) to_io).0 in
      let gives_io = (and_parts (nodes_fit objects r && results_are_last r && returns_state Memory r) (returns_state Io r) to_io).1 in
      let to_last = (and_parts (nodes_fit objects r && results_are_last r) (returns_state Memory r) to_memory).0 in
      let gives_memory = (and_parts (nodes_fit objects r && results_are_last r) (returns_state Memory r) to_memory).1 in
      let fit = (and_parts (nodes_fit objects r) (results_are_last r) to_last).0 in
      let were_last : all_of (is_last args nodes) results ≡ true = (and_parts (nodes_fit objects r) (results_are_last r) to_last).1 in
      let last = all_kept (is_last args nodes) stays results were_last in
      let memory_now = returns_still Memory memory stays args nodes results go were_last gives_memory in
      let io_now = returns_still Io io stays args nodes results go were_last gives_io in
      let each = and_parts (one_state_each (map Some args)) (one_state_each (map (known args nodes) results)) states in
      let given : one_state_each (map (known args nodes) (kept stays results)) ≡ true =
      ap one_state_each (kept_map stays (known args nodes) results) ∙ states_fewer stays (map (known args nodes) results) each.1 in
      λ i. (fit i && last i && memory_now i && io_now i && (each.0 i && given i)) && nest i

  regions_inside : (rs : RegionTrees) → AllGo stays rs → every_in_regions (region_fits objects) rs ≡ true → every_in_regions (region_fits objects) (regions_giving stays rs) ≡ true
  regions_inside no_regions go h = refl
  regions_inside (region_then (region args nodes results) rs) go h =
      let parts = and_parts (every_region (region_fits objects) (region args nodes results)) (every_in_regions (region_fits objects) rs) h in
      let own = fits_inside args nodes results go.0 parts.0 in
      let rest = regions_inside rs go.1 parts.1 in
      λ i. own i && rest i

-- ---- the node in its place

module _ (objects : ℕ) (args : List Kind) (before : NodeTrees) (id : ℕ) (inputs : List Origin) (rs : RegionTrees) (after : NodeTrees) (cs : List (Option Origin))
    (here : NodeFits objects args before (node id Gamma inputs rs) after) (passes : (p : ℕ) (o : Origin) → joined (slice_get cs p) ≡ Some o → passed inputs p rs ≡ Some o) where
  abbrev stays : List Bool
  stays = staying cs

  abbrev x : NodeTree
  x = node id Gamma inputs rs

  abbrev y : NodeTree
  y = node id Gamma inputs (regions_giving stays rs)

  carries_first : (own : List Kind) (nodes : NodeTrees) (outs : List Origin) (qs : RegionTrees) → rs ≡ region_then (region own nodes outs) qs → (p : ℕ) (o : Origin) →
      joined (slice_get cs p) ≡ Some o →
      Carries args before (outputs_of Gamma rs) stays p o
  carries_first own nodes outs qs is p o e =
      let at = (passed_is inputs p own nodes outs qs o (sym (ap (passed inputs p) is) ∙ passes p o e)).first in
      let kinds : map (known args before) inputs ≡ map Some (Value ∷ own) =
      are_kinds (map (known args before) inputs) (Value ∷ own) (sym (ap (λ q. are (map (known args before) inputs) (Value ∷ first_args q)) is) ∙ here.inputs) in
      let found = some_kind own at.argument (known args before o) (sym (ap (λ ks. slice_get ks (suc at.argument)) kinds) ∙ get_map (known args before) inputs (suc at.argument) o at.input) in
      record {
        kind = found.0;
        own = ap (λ q. joined (slice_get (outputs_of Gamma q) p)) is ∙ ap joined (get_map (known own nodes) outs p (Arg at.argument) at.result) ∙ found.1.0;
        outer = found.1.1;
        last = get-all (is_last args before) inputs (suc at.argument) o here.last at.input;
        goes = inr (stays_some cs p o e);
      }

  carries : (p : ℕ) (o : Origin) → joined (slice_get cs p) ≡ Some o → Carries args before (outputs_of Gamma rs) stays p o
  carries p o e = by rs refl
    where
      by : (qs : RegionTrees) → rs ≡ qs → Carries args before (outputs_of Gamma rs) stays p o
      by no_regions is = let wrong : None ≡ Some o = sym (ap (passed inputs p) is) ∙ passes p o e in absurd cc
      by (region_then (region own nodes outs) qs) is = carries_first own nodes outs qs is p o e

  all_go : (qs : RegionTrees) → ((p : ℕ) (o : Origin) → joined (slice_get cs p) ≡ Some o → all_pass inputs o p qs ≡ true) → AllGo stays qs
  all_go no_regions h = tt
  all_go (region_then (region own nodes outs) qs) h = (first, all_go qs (λ p o e. (and_parts (is_origin (outer inputs (slice_get outs p)) o) (all_pass inputs o p qs) (h p o e)).1))
    where
      first : ArgumentsGo stays outs
      first p t =
          let some = goes_some cs p t in
          let at = outer_is inputs (slice_get outs p) some.0
          (is_origin_some (outer inputs (slice_get outs p)) some.0 (and_parts (is_origin (outer inputs (slice_get outs p)) some.0) (all_pass inputs some.0 p qs) (h p some.0 some.1)).0) in
          (at.argument, at.result)

  exits_one : (qs : RegionTrees) → every_in_regions (region_fits objects) qs ≡ true → one_state_each (outputs_of Gamma qs) ≡ true
  exits_one no_regions e = refl
  exits_one (region_then (region own nodes outs) qs) e =
      let r = region own nodes outs in
      let whole = (and_parts (every_region (region_fits objects) r) (every_in_regions (region_fits objects) qs) e).0 in
      let fits = (and_parts (region_fits objects r) (every_in_nodes (region_fits objects) nodes) whole).0 in
      let states = (and_parts (nodes_fit objects r && results_are_last r && returns_state Memory r && returns_state Io r) (region_has_one_state_each r) fits).1 in
      (and_parts (one_state_each (map Some own)) (one_state_each (map (known own nodes) outs)) states).1

  abbrev exits : List Kind
  exits = kinds_of (outputs_of Gamma rs)

  exits_now : kinds_of (outputs_of Gamma (regions_giving stays rs)) ≡ kept stays exits
  exits_now =
      ap kinds_of (gives_kept stays rs ∙ ap (kept stays) (exits_are stays id inputs rs here.regions) ∙ sym (kept_map stays Some exits)) ∙ kinds_of_some (kept stays exits)

  regions_fit_now : regions_fit y ≡ true
  regions_fit_now =
      (λ i. all_regions (λ r. same (args_of r) (first_args_same stays rs i) && are (result_kinds r) (exits_now i)) (regions_giving stays rs)) ∙ regions_give stays (first_args rs) exits rs here.regions

  states_now : one_state_each (outputs_of Gamma (regions_giving stays rs)) ≡ true
  states_now = ap one_state_each (gives_kept stays rs) ∙ states_fewer stays (outputs_of Gamma rs) (exits_one rs here.inside)

  node_fits_now : node_fits objects args before x ≡ true → node_fits objects args before y ≡ true
  node_fits_now e =
      let same_states = states_now ∙ sym (exits_one rs here.inside) in
      let same_node : node_fits objects args before y ≡ node_fits objects args before x =
      λ i.
      are (map (known args before) inputs) (Value ∷ first_args_same stays rs i) && inputs_are_last args before x && (one_state_each (map (known args before) inputs) && same_states i)
      && shape_same stays id inputs rs i && (regions_fit_now ∙ sym here.regions) i && true && true && true in
      same_node ∙ e

  inside_now : every_in_node (region_fits objects) x ≡ true → every_in_node (region_fits objects) y ≡ true
  inside_now e = regions_inside stays objects rs (all_go rs (λ p o w. passed_all inputs p rs o (passes p o w))) e

  pub exits_carried_fit : (results : List Origin) → every_region (region_fits objects) (region args (joined_nodes before (node_then x after)) results) ≡ true →
      KeptWithin objects (region args (joined_nodes before (node_then x after)) results) (exits_carried id cs (region args (joined_nodes before (node_then x after)) results))
  exits_carried_fit results fits =
      subst (λ ns. KeptWithin objects (region args (joined_nodes before (node_then x after)) results) (region args ns (map (output_carried id cs stays) results)))
      (sym (carrying_joined id cs before x after (not_before objects args before x after here) (same_number_true id)))
      (carried_kept objects args before x y after cs stays here refl (gives_kept stays rs) (exits_one rs here.inside) (stays_none cs) carries results node_fits_now inside_now
      (λ m. omega (arith, ap (λ ns. times m (id ∷ ns)) (ids_same stays rs))) fits)

-- ---- no op is added

module _ (p : Op → ℕ → Type 0) (cs : List (Option Origin)) where
  nodes_carrying_ops : (n : ℕ) (ns : NodeTrees) → NodesOps p ns → NodesOps p (nodes_carrying n cs ns)
  nodes_carrying_ops n no_nodes h = h
  nodes_carrying_ops n (node_then x ns) h = by (id_of x == n) (nodes_carrying_ops n ns h.1)
    where
      by : (t : Bool) → NodesOps p (nodes_carrying n cs ns) →
          NodesOps p (cond t (node_then (node_giving (staying cs) x) (nodes_redirected (output_carried n cs (staying cs)) ns)) (node_then x (nodes_carrying n cs ns)))
      by true rest = (node_giving_ops p (staying cs) x h.0, redirected_ops p (output_carried n cs (staying cs)) ns h.1)
      by false rest = (h.0, rest)

  pub exits_carried_ops : (n : ℕ) (r : RegionTree) → RegionOps p r → RegionOps p (exits_carried n cs r)
  exits_carried_ops n (region args nodes results) h = nodes_carrying_ops n nodes h
