-- The kind of an origin, in the list of nodes and in the region.
use Rattle.std.proofs.Common.{◌≡◌, ◌≤◌, ◌⊎◌, inl, inr, ℕ, zero, suc, ◌==◌, ◌&&◌, ◌||◌, Bool, true, false, Option, None, Some, option_and_then, List, [], ◌∷◌, ◌++◌, map, length, refl, sym, ap, subst, ◌∙◌, arith, append_assoc}
use Rattle.std.specs.Prelude.{slice_get, if◌then◌else◌}
use Rattle.std.proofs.lemmas.Bool.{cases_Bool, and_parts, or_parts}
use Rattle.g_graph.specs.declared.op.Kind.{Kind}
use Rattle.g_graph.specs.declared.op.Origin.{Origin}
use Rattle.g_graph.specs.declared.op.Origin.TheVariants.{Arg, Out}
use Rattle.g_graph.specs.Plain.{RegionTree, region, NodeTree, node, NodeTrees, no_nodes, node_then, nodes_of, PlainLambda}
use Rattle.g_graph.specs.Ids.{region_ids, nodes_ids, regions_ids}
use Rattle.g_graph.specs.Signatures.{joined, outputs_of, output_kinds, kind_after}
use Rattle.g_graph.specs.Scope.{same_origin, known, each_node}
use Rattle.g_graph.specs.Replace.{nodes_redirected, region_redirected, origin_replaced}
use Rattle.g_graph.specs.Change.{has_node}
use Rattle.g_graph.specs.WellFormed.{kinds_of, inputs_fit, inputs_are_last, node_has_one_state_each, has_its_regions, regions_fit, theta_has_states, has_its_width, has_its_object, node_fits, region_fits, every_region}
use Rattle.g_graph.proofs.lemmas.Indexes.{kind_absent}
use Rattle.g_graph.proofs.lemmas.Moved.{same_origin_true}
use Rattle.g_graph.proofs.lemmas.Nodes.{has_times}
use Rattle.g_graph.proofs.lemmas.Redirects.{kind_after-redirected}
use Rattle.g_graph.proofs.lemmas.Unique.{times, times_append, same_number}
use Rattle.g_arena_def.specs.declared.place.Place.{Place}
use Rattle.g_arena_def.specs.Flat.{FlatRegion, FlatNode, region_flat, regions_flat, in_region, in_nodes, in_regions, flat_of, same_node}
use Rattle.g_arena_def.specs.Reads.{found, region_at, output_kind, kind_in}
use Rattle.r_sweep.proofs.lemmas.Outside.{AreOnce, times_head, at_most_first, AreOutside, AreApart, IsNone, none_of_both, none_of_rest, regions_outside, regions_apart}
use Rattle.r_sweep.specs.Removals.{uses_moved}
use Rattle.r_sweep.proofs.lemmas.Regions.{IsAlike, has_none}
use Rattle.r_sweep.proofs.lemmas.Around.{Around, with_nodes, found_past}
use Rattle.r_sweep.proofs.lemmas.Inputs.{same_place_self}
use Rattle.r_sweep.proofs.lemmas.UsesMove.{uses_are_moved, redirected_is}
use Rattle.r_sweep.proofs.lemmas.There.{region_parts}
use Rattle.r_sweep.proofs.lemmas.Standing.{kinds_are}

-- each node of these has a kind for each of its outputs
abbrev pub HaveKinds : NodeTrees → Type 0
HaveKinds no_nodes = Unit {0}
HaveKinds (node_then x xs) = (output_kinds x ≡ map Some (kinds_of (output_kinds x))) × HaveKinds xs

port_kind : (ks : List Kind) (q : ℕ) → joined (slice_get (map Some ks) q) ≡ slice_get ks q
port_kind [] q = refl
port_kind (k ∷ ks) zero = refl
port_kind (k ∷ ks) (suc q) = port_kind ks q

-- outputs of nodes that are apart have no kind there
no_kind : (p : Place) (m q : ℕ) (xs : List FlatNode) → AreApart p xs → option_and_then (output_kind p q) (found m xs) ≡ None
no_kind p m q [] h = refl
no_kind p m q (x ∷ xs) h = by (x.id == m) (no_kind p m q xs h.1)
  where
    by : (t : Bool) → option_and_then (output_kind p q) (found m xs) ≡ None → option_and_then (output_kind p q) (if t then Some x else found m xs) ≡ None
    by true g = ap (λ u. if u then slice_get x.outputs q else None) h.0
    by false g = g

-- behind nodes that are apart
past_kind : (p : Place) (m q : ℕ) (xs ys : List FlatNode) → AreApart p xs → AreOutside m xs ⊎ (option_and_then (output_kind p q) (found m ys) ≡ None) →
    option_and_then (output_kind p q) (found m (xs ++ ys)) ≡ option_and_then (output_kind p q) (found m ys)
past_kind p m q xs ys h (inl o) = ap (option_and_then (output_kind p q)) (found_past m xs ys o)
past_kind p m q [] ys h (inr e) = refl
past_kind p m q (x ∷ xs) ys h (inr e) = by (x.id == m) (past_kind p m q xs ys h.1 (inr e))
  where
    by : (t : Bool) → option_and_then (output_kind p q) (found m (xs ++ ys)) ≡ option_and_then (output_kind p q) (found m ys) →
        option_and_then (output_kind p q) (if t then Some x else found m (xs ++ ys)) ≡ option_and_then (output_kind p q) (found m ys)
    by true g = ap (λ u. if u then slice_get x.outputs q else None) h.0 ∙ sym e
    by false g = g

module _ (p : Place) (m q : ℕ) (rest : List FlatNode) (apart : AreApart p rest) where
  -- a number that is none of the nodes' has no kind
  kind_none : (ns : NodeTrees) → IsNone p.node (nodes_ids ns) → has_node m ns ≡ false → option_and_then (output_kind p q) (found m (in_nodes p ns ++ rest)) ≡ None
  kind_none no_nodes none h = no_kind p m q rest apart
  kind_none (node_then (node id op inputs rs) xs) none h =
      let both = none_of_both p.node (id ∷ regions_ids rs) (nodes_ids xs) none in
      let own = none_of_rest p.node id (regions_ids rs) both.0 in
      let parts = or_parts (id == m) (has_node m xs) h in
      let x : FlatNode = record { id = id; op = op; inputs = inputs; outputs = kinds_of (outputs_of op rs); regions = regions_flat rs; home = p } in
      let later = kind_none xs both.1 parts.1 in
      ap (λ t. option_and_then (output_kind p q) (if t then Some x else found m ((in_regions id 0 rs ++ in_nodes p xs) ++ rest))) parts.0
      ∙ ap (λ ys. option_and_then (output_kind p q) (found m ys)) (append_assoc (in_regions id 0 rs) (in_nodes p xs) rest)
      ∙ past_kind p m q (in_regions id 0 rs) (in_nodes p xs ++ rest) (regions_apart p id 0 rs own.0 own.1) (inr later) ∙ later

  -- else it has that of the node's output
  kind_some : (ns : NodeTrees) → IsNone p.node (nodes_ids ns) → AreOnce (nodes_ids ns) → HaveKinds ns → has_node m ns ≡ true → (b : Option Kind) →
      option_and_then (output_kind p q) (found m (in_nodes p ns ++ rest)) ≡ kind_after ns m q b
  kind_some no_nodes none once kinds h b = absurd cc
  kind_some (node_then (node id op inputs rs) xs) none once kinds h b =
      by (id == m) refl h (λ g c. kind_some xs both.1 later kinds.1 g c)
    where
      both : IsNone p.node (id ∷ regions_ids rs) × IsNone p.node (nodes_ids xs)
      both = none_of_both p.node (id ∷ regions_ids rs) (nodes_ids xs) none

      later : AreOnce (nodes_ids xs)
      later k = omega (arith, once k, times_append k (id ∷ regions_ids rs) (nodes_ids xs))

      own : (same_node (Some id) p.node ≡ false) × IsNone p.node (regions_ids rs)
      own = none_of_rest p.node id (regions_ids rs) both.0

      x : FlatNode
      x = record { id = id; op = op; inputs = inputs; outputs = kinds_of (outputs_of op rs); regions = regions_flat rs; home = p }

      by : (t : Bool) → (id == m) ≡ t → (t || has_node m xs) ≡ true →
          (has_node m xs ≡ true → (c : Option Kind) → option_and_then (output_kind p q) (found m (in_nodes p xs ++ rest)) ≡ kind_after xs m q c) →
          option_and_then (output_kind p q) (if t then Some x else found m ((in_regions id 0 rs ++ in_nodes p xs) ++ rest)) ≡ kind_after xs m q (if t then joined (slice_get (outputs_of op rs) q) else b)
      by true t g f =
          let same = same_number id m t in
          let none_later : times m (nodes_ids xs) ≡ 0 =
          omega (arith, once id, times_append id (id ∷ regions_ids rs) (nodes_ids xs), times_head id (regions_ids rs), ap (λ k. times k (nodes_ids xs)) same) in
          ap (λ u. if u then slice_get (kinds_of (outputs_of op rs)) q else None) (same_place_self p)
          ∙ sym (port_kind (kinds_of (outputs_of op rs)) q) ∙ ap (λ ks. joined (slice_get ks q)) (sym kinds.0)
          ∙ sym (kind_absent xs m q (joined (slice_get (outputs_of op rs) q)) (has_none m xs none_later))
      by false t g f =
          let absent : times m (regions_ids rs) ≡ 0 =
          omega (arith, once m, times_append m (id ∷ regions_ids rs) (nodes_ids xs), at_most_first m id (regions_ids rs), present xs g) in
          ap (λ ys. option_and_then (output_kind p q) (found m ys)) (append_assoc (in_regions id 0 rs) (in_nodes p xs) rest)
          ∙ past_kind p m q (in_regions id 0 rs) (in_nodes p xs ++ rest) (regions_apart p id 0 rs own.0 own.1) (inl (regions_outside m id 0 rs absent t)) ∙ f g b
        where
          present : (ns : NodeTrees) → has_node m ns ≡ true → 1 ≤ times m (nodes_ids ns)
          present ns c = has_times m ns c

-- The kind of an origin in the region that holds node n.
pub kinds_here : (n : ℕ) (l : PlainLambda) (z : Around n l) (args : List Kind) (ns : NodeTrees) (results : List Origin) → z.here ≡ region args ns results → HaveKinds ns → (o : Origin) →
    kind_in z.place o (flat_of l) ≡ known args ns o
kinds_here n l z args ns results is kinds o = by o
  where
    r : FlatRegion
    r = record { args = args; results = results }

    start : flat_of l ≡ with_nodes l (z.body r) (z.before r ++ (in_nodes z.place ns ++ z.after))
    start =
        ap (λ b. flat_of (record l { body = b })) (sym z.is) ∙ z.flat_is z.here (record { args = refl; results = refl })
        ∙ ap (λ h. with_nodes l (z.body (region_flat h)) (z.before (region_flat h) ++ (in_region z.place h ++ z.after))) is

    none : IsNone z.place.node (nodes_ids ns)
    none = subst (λ h. IsNone z.place.node (region_ids h)) is z.own

    once : AreOnce (nodes_ids ns)
    once m = subst (λ h. times m (region_ids h) ≤ 1) is (z.once m)

    by_test : (m q : ℕ) → (has_node m ns ≡ true) ⊎ (has_node m ns ≡ false) →
        option_and_then (output_kind z.place q) (found m (z.before r ++ (in_nodes z.place ns ++ z.after))) ≡ kind_after ns m q None
    by_test m q (inl h) =
        let there : 1 ≤ times m (region_ids z.here) = subst (λ g. 1 ≤ times m (region_ids g)) (sym is) (has_times m ns h) in
        ap (option_and_then (output_kind z.place q)) (found_past m (z.before r) (in_nodes z.place ns ++ z.after) (z.outside m there r).0)
        ∙ kind_some z.place m q z.after (z.apart r).1 ns none once kinds h None
    by_test m q (inr h) =
        let later = kind_none z.place m q z.after (z.apart r).1 ns none h in
        past_kind z.place m q (z.before r) (in_nodes z.place ns ++ z.after) (z.apart r).0 (inr later) ∙ later ∙ sym (kind_absent ns m q None h)

    by : (p : Origin) → kind_in z.place p (flat_of l) ≡ known args ns p
    by (Arg k) = ap (kind_in z.place (Arg k)) start ∙ ap (option_and_then (λ (s : FlatRegion). slice_get s.args k)) (z.gets r (in_nodes z.place ns ++ z.after))
    by (Out m q) = ap (kind_in z.place (Out m q)) start ∙ by_test m q (cases_Bool (has_node m ns))

-- ---- well-formed regions

fits_regions : (objects : ℕ) (args : List Kind) (before : NodeTrees) (x : NodeTree) → node_fits objects args before x ≡ true → regions_fit x ≡ true
fits_regions objects args before x e =
    let d = inputs_fit args before x && inputs_are_last args before x && node_has_one_state_each args before x && has_its_regions x in
    let f = d && regions_fit x in
    let g = f && theta_has_states x in
    let h = g && has_its_width x in
    let to_h = (and_parts h (has_its_object objects x) e).0 in
    let to_g = (and_parts g (has_its_width x) to_h).0 in
    let to_f = (and_parts f (theta_has_states x) to_g).0 in
    (and_parts d (regions_fit x) to_f).1

have_kinds : (objects : ℕ) (args : List Kind) (done : List NodeTree) (ns : NodeTrees) → each_node (node_fits objects args) done ns ≡ true → HaveKinds ns
have_kinds objects args done no_nodes e = tt
have_kinds objects args done (node_then (node id op inputs rs) xs) e =
    let both = and_parts (node_fits objects args (nodes_of done) (node id op inputs rs)) (each_node (node_fits objects args) (done ++ node id op inputs rs ∷ []) xs) e in
    (kinds_are op id inputs rs (fits_regions objects args (nodes_of done) (node id op inputs rs) both.0), have_kinds objects args (done ++ node id op inputs rs ∷ []) xs both.1)

-- where uses come from another origin of the same kind, the region takes and gives the same
pub replaced_alike : (from to : Origin) (args : List Kind) (ns : NodeTrees) (results : List Origin) → known args ns from ≡ known args ns to →
    IsAlike (region args ns results) (region_redirected (origin_replaced from to) (region args ns results))
replaced_alike from to args ns results e = record { args = refl; results = by results }
  where
    move : Origin → Origin
    move = origin_replaced from to

    same : (o : Origin) → known args (nodes_redirected move ns) o ≡ known args ns o
    same (Arg k) = refl
    same (Out m q) = kind_after-redirected move ns m q None

    one : (o : Origin) → known args ns (move o) ≡ known args ns o
    one o = by_test (same_origin from o) refl
      where
        by_test : (t : Bool) → same_origin from o ≡ t → known args ns (if t then to else o) ≡ known args ns o
        by_test true t = sym e ∙ ap (known args ns) (same_origin_true from o t)
        by_test false t = refl

    by : (os : List Origin) → map (known args (nodes_redirected move ns)) (map move os) ≡ map (known args ns) os
    by [] = refl
    by (o ∷ os) = λ i. (same (move o) ∙ one o) i ∷ by os i

-- Uses of an origin in the region that holds node n move to another origin of the same kind.
pub uses_go : (n : ℕ) (l : PlainLambda) (z : Around n l) (from to : Origin) → every_region (region_fits (length l.objects)) z.here ≡ true → same_origin from to ≡ false →
    kind_in z.place from (flat_of l) ≡ kind_in z.place to (flat_of l) →
    uses_moved z.place from to (flat_of l) ≡ flat_of (record l { body = z.fill (region_redirected (origin_replaced from to) z.here) })
uses_go n l z from to fits other same = by z.here refl
  where
    by : (h : RegionTree) → z.here ≡ h → uses_moved z.place from to (flat_of l) ≡ flat_of (record l { body = z.fill (region_redirected (origin_replaced from to) z.here) })
    by (region args ns results) is =
        let r : FlatRegion = record { args = args; results = results } in
        let parts = region_parts (length l.objects) args ns results (ap (every_region (region_fits (length l.objects))) (sym is) ∙ fits) in
        let kinds = have_kinds (length l.objects) args [] ns parts.nodes in
        let equal = sym (kinds_here n l z args ns results is kinds from) ∙ same ∙ kinds_here n l z args ns results is kinds to in
        let alike = subst (λ h. IsAlike h (region_redirected (origin_replaced from to) h)) (sym is) (replaced_alike from to args ns results equal) in
        let start : flat_of l ≡ with_nodes l (z.body r) (z.before r ++ (in_nodes z.place ns ++ z.after)) =
        ap (λ b. flat_of (record l { body = b })) (sym z.is) ∙ z.flat_is z.here (record { args = refl; results = refl })
        ∙ ap (λ h. with_nodes l (z.body (region_flat h)) (z.before (region_flat h) ++ (in_region z.place h ++ z.after))) is in
        let there : region_at z.place (flat_of l) ≡ Some r = ap (region_at z.place) start ∙ z.gets r (in_nodes z.place ns ++ z.after) in
        uses_are_moved z.place from to other (flat_of l) r there ∙ redirected_is n l z (origin_replaced from to) alike
