-- The node that left and the node that it left fit in their place.
use Rattle.std.specs.Prelude.{unwrap_or}
use Rattle.std.proofs.Common.{◌≡◌, ◌≤◌, ◌+◌, ℕ, zero, suc, ◌==◌, Bool, true, false, not, ◌&&◌, ◌||◌, cond, List, [], ◌∷◌, ◌++◌, map, length, slice_get, Option, None, Some, option_map, refl, sym, ap, subst, ◌∙◌, inl, arith}
use Rattle.std.proofs.lemmas.Bool.{and_parts}
use Rattle.std.proofs.lemmas.List.{map-append}
use Rattle.std.proofs.lemmas.Option.{same_Some}
use Rattle.g_graph.specs.declared.op.Kind.{Kind}
use Rattle.g_graph.specs.declared.op.Kind.TheVariants.{Value, Memory, Io}
use Rattle.g_graph.specs.declared.op.Op.TheVariants.{Const, Undef, Local, Delta, Bin, Un, Load, Store, Clear, PtrEq, Apply, Put, Exit, Get, Gamma, Theta}
use Rattle.g_graph.specs.declared.op.Origin.{Origin}
use Rattle.g_graph.specs.declared.op.Origin.TheVariants.{Arg, Out}
use Rattle.g_graph.specs.Plain.{RegionTree, region, NodeTree, node, NodeTrees, no_nodes, node_then, RegionTrees, no_regions, region_then, id_of, args_of, PlainLambda}
use Rattle.g_graph.specs.Ids.{region_ids, node_ids, nodes_ids, regions_ids}
use Rattle.g_graph.specs.Signatures.{joined, kind_after, first_args, result_kinds, outputs_of, output_kinds}
use Rattle.g_graph.specs.Scope.{same_kind, is_of, known, last_index}
use Rattle.g_graph.specs.WellFormed.{all_of, some_of, all_regions, same, are, one_state_each, kinds_of, is_last, inputs_fit, inputs_are_last, node_has_one_state_each, has_its_regions, regions_fit, theta_has_states, has_its_width, has_its_object, node_fits, region_fits, every_region, every_in_node, every_in_regions, distinct}
use Rattle.g_graph.specs.Change.{has_node}
use Rattle.g_graph.specs.Replace.{nodes_redirected, origin_replaced}
use Rattle.g_graph.specs.Splice.{args_to_inputs, joined_nodes}
use Rattle.g_graph.proofs.lemmas.Indexes.{same_number_true, gives_last}
use Rattle.g_graph.proofs.lemmas.KindLists.{are_themselves}
use Rattle.g_graph.proofs.lemmas.Moved.{last_is_known}
use Rattle.g_graph.proofs.lemmas.Nodes.{NodeFits, KeptWithin, are_kinds, each_here}
use Rattle.g_graph.proofs.lemmas.Redirects.{all_unmoved}
use Rattle.g_graph.proofs.lemmas.Splices.{kind_after-joined}
use Rattle.g_graph.proofs.lemmas.Unique.{times, times_append}
use Rattle.g_graph.proofs.lemmas.Elements.{get-added}
use Rattle.g_mean.specs.Copies.{IsAmong, known_after, IsClosed}
use Rattle.g_mean.specs.Edits.{IsPartOf}
use Rattle.g_mean.proofs.lemmas.Copies.{among-left, test-other}
use Rattle.g_mean.proofs.lemmas.Edits.{distinct-split}
use Rattle.g_mean.proofs.lemmas.Inside.{node-here, as-many, regions-closed, inner-distinct}
use Rattle.r_edit.specs.Removal.{nodes_without}
use Rattle.r_edit.specs.Added.{input_added}
use Rattle.r_edit.proofs.lemmas.Scopes.{KeepsScope, kept_all, kept_node_fits}
use Rattle.r_edit.proofs.lemmas.AddedFit.{nothing, none-of, one_more, index-added, some-added, with_value, one-argument-more, fits-parts, result_added_fits, all-added}
use Rattle.r_push.specs.Rule.{names_argument, leaving_one, is_invariant, leaving_loop, regions_carried, looped, placed, pushed}
use Rattle.r_push.proofs.Stays.{known-stays}
use Rattle.r_push.proofs.LeavingNode.{Leaves, leaves}
use Rattle.r_push.proofs.Gammas.{AllTake, leaving-among, one-among}
use Rattle.r_push.proofs.Thetas.{invariant-arguments}
use Rattle.r_push.proofs.Replaced.{Outside, one-outside, leaves-outside, take-all, not-known}
use Rattle.r_edit.proofs.lemmas.Pure.{pure-outputs}
use Rattle.r_push.proofs.TwoFit.{GivesAsMuch, scope-first, two-fit}
use Rattle.r_push.proofs.RegionsFit.{CarriedFits, numbers_of, leaving-fits, InnerFits, inner-fits, one-fits, AllCarried, all-fit}
use Rattle.val_core.proofs.lemmas.Options.{get-last}

-- ---- the node outside

entry-at : (args : List Kind) (before : NodeTrees) (entries : List Origin) (kinds : List Kind) → map (known args before) entries ≡ map Some kinds → all_of (is_last args before) entries ≡ true →
    (k : ℕ) (j : Kind) (d : Origin) → slice_get kinds k ≡ Some j →
    (known args before (unwrap_or (slice_get entries k) d) ≡ Some j) × (is_last args before (unwrap_or (slice_get entries k) d) ≡ true)
entry-at args before [] [] e l k j d s = absurd cc
entry-at args before [] (i ∷ kinds) e l k j d s = absurd cc
entry-at args before (a ∷ entries) [] e l k j d s = absurd cc
entry-at args before (a ∷ entries) (i ∷ kinds) e l zero j d s =
    let kind : known args before a ≡ Some i = cc in
    (kind ∙ s, (and_parts (is_last args before a) (all_of (is_last args before) entries) l).0)
entry-at args before (a ∷ entries) (i ∷ kinds) e l (suc k) j d s =
    let rest : map (known args before) entries ≡ map Some kinds = cc in
    entry-at args before entries kinds rest (and_parts (is_last args before a) (all_of (is_last args before) entries) l).1 k j d s

abbrev no_argument : Origin → Bool
no_argument o = not (names_argument o)

arguments-alone : (os : List Origin) → all_of names_argument os ≡ true → some_of no_argument os ≡ false
arguments-alone [] e = refl
arguments-alone (Arg k ∷ os) e = arguments-alone os e
arguments-alone (Out n p ∷ os) e = absurd cc

scope-outside : (args firsts : List Kind) (bs before : NodeTrees) (entries : List Origin) → map (known args before) entries ≡ map Some firsts → all_of (is_last args before) entries ≡ true →
    KeepsScope no_argument firsts bs args before (args_to_inputs entries)
scope-outside args firsts bs before entries kinds last = record { one = λ o u e. by o u e }
  where
    by : (o : Origin) → no_argument o ≡ false → is_last firsts bs o ≡ true →
        (known args before (args_to_inputs entries o) ≡ known firsts bs o) × (is_last args before (args_to_inputs entries o) ≡ true)
    by (Out n p) u e = absurd cc
    by (Arg k) u e = of (slice_get firsts k) refl
      where
        of : (j : Option Kind) → slice_get firsts k ≡ j →
            (known args before (unwrap_or (slice_get entries k) (Arg k)) ≡ slice_get firsts k) × (is_last args before (unwrap_or (slice_get entries k) (Arg k)) ≡ true)
        of None d = absurd (last_is_known firsts bs (Arg k) e d)
        of (Some j) d = let h = entry-at args before entries firsts kinds last k j (Arg k) d in (h.0 ∙ sym d, h.1)

outside-fits : (objects : ℕ) (args firsts : List Kind) (before : NodeTrees) (entries : List Origin) → map (known args before) entries ≡ map Some firsts → all_of (is_last args before) entries ≡ true →
    (n count : ℕ) (y : NodeTree) (out : Outside n count y) → InnerFits objects firsts y → node_fits objects args before (node n out.op (map (args_to_inputs entries) out.inputs) out.regions) ≡ true
outside-fits objects args firsts before entries kinds last n count y out inner =
    kept_node_fits no_argument objects firsts args (args_to_inputs entries) inner.before before (scope-outside args firsts inner.before before entries kinds last) n out.op out.inputs out.regions
    (arguments-alone out.inputs out.all) (ap (node_fits objects firsts inner.before) (sym out.node_is) ∙ inner.fits)

outside-inside : (objects : ℕ) (firsts : List Kind) (n count : ℕ) (y : NodeTree) (out : Outside n count y) → InnerFits objects firsts y → every_in_regions (region_fits objects) out.regions ≡ true
outside-inside objects firsts n count y out inner = ap (every_in_node (region_fits objects)) (sym out.node_is) ∙ inner.inside

-- ---- one more input

record MoreInputs (args : List Kind) (ns : NodeTrees) (inputs : List Origin) (ks : List Kind) : Type 0 where
  pub fit : are (map (known args ns) inputs) ks ≡ true
  pub last : all_of (is_last args ns) inputs ≡ true
  pub states : one_state_each (map (known args ns) inputs) ≡ true

more-inputs : (objects : ℕ) (args : List Kind) (before : NodeTrees) (n : ℕ) (y : NodeTree) → id_of y ≡ n → output_kinds y ≡ Some Value ∷ [] →
    KeepsScope nothing args before args (joined_nodes before (node_then y no_nodes)) (λ o. o) → (inputs : List Origin) (ks : List Kind) → map (known args before) inputs ≡ map Some ks →
    all_of (is_last args before) inputs ≡ true → one_state_each (map (known args before) inputs) ≡ true →
    MoreInputs args (joined_nodes before (node_then y no_nodes)) (inputs ++ Out n 0 ∷ []) (with_value ks)
more-inputs objects args before n y number value scope inputs ks kinds last states =
    let ns = joined_nodes before (node_then y no_nodes) in
    let all = subst (λ os. (map (known args ns) os ≡ map (known args before) inputs) × (all_of (is_last args ns) os ≡ true)) (all_unmoved (λ o. o) (λ o. refl) inputs)
    (kept_all nothing objects args args (λ o. o) before ns scope inputs (none-of inputs) last) in
    let carried : known args ns (Out n 0) ≡ Some Value =
    kind_after-joined before (node_then y no_nodes) n 0 None ∙ ap (λ m. cond (m == n) (joined (slice_get (output_kinds y) 0)) (kind_after before n 0 None)) number
    ∙ ap (λ t. cond t (joined (slice_get (output_kinds y) 0)) (kind_after before n 0 None)) (same_number_true n) ∙ ap (λ js. joined (slice_get js 0)) value in
    let now : map (known args ns) (inputs ++ Out n 0 ∷ []) ≡ map Some (with_value ks) =
    map-append (known args ns) inputs (Out n 0 ∷ []) ∙ (λ i. (all.0 ∙ kinds) i ++ carried i ∷ []) ∙ sym (map-append Some ks (Value ∷ [])) in
    record {
      fit = ap (λ js. are js (with_value ks)) now ∙ are_themselves (with_value ks);
      last = all-added (is_last args ns) inputs (Out n 0) all.1 (gives_last Value args ns (Out n 0) carried (inl refl));
      states = ap one_state_each now ∙ one-argument-more ks (ap one_state_each (sym kinds) ∙ states);
    }

-- ---- the parts of a node that fits

record NodeParts (objects : ℕ) (args : List Kind) (before : NodeTrees) (x : NodeTree) : Type 0 where
  pub states : node_has_one_state_each args before x ≡ true
  pub shape : has_its_regions x ≡ true
  pub theta : theta_has_states x ≡ true

node-parts : (objects : ℕ) (args : List Kind) (before : NodeTrees) (x : NodeTree) → node_fits objects args before x ≡ true → NodeParts objects args before x
node-parts objects args before x e =
    let fits = inputs_fit args before x in
    let lasts = inputs_are_last args before x in
    let states = node_has_one_state_each args before x in
    let shape = has_its_regions x in
    let regions = regions_fit x in
    let theta = theta_has_states x in
    let width = has_its_width x in
    let to_width = (and_parts (fits && lasts && states && shape && regions && theta && width) (has_its_object objects x) e).0 in
    let to_theta = (and_parts (fits && lasts && states && shape && regions && theta) width to_width).0 in
    let to_regions = and_parts (fits && lasts && states && shape && regions) theta to_theta in
    let to_shape = (and_parts (fits && lasts && states && shape) regions to_regions.0).0 in
    let to_states = and_parts (fits && lasts && states) shape to_shape in
    record { states = (and_parts (fits && lasts) states to_states.0).1; shape = to_states.1; theta = to_regions.1 }

parts-here : (l : PlainLambda) (args : List Kind) (before : NodeTrees) (x : NodeTree) (after : NodeTrees) (results : List Origin) →
    IsPartOf l (region args (joined_nodes before (node_then x after)) results) →
    NodeParts (length l.objects) args before x
parts-here l args before x after results part =
    node-parts (length l.objects) args before x
    (each_here (node_fits (length l.objects) args) [] before x after (fits-parts (length l.objects) args (joined_nodes before (node_then x after)) results part.fits).each)

-- a number that is not known is of no node
not-has : (n : ℕ) (known : List ℕ) (ns : NodeTrees) → (IsAmong n (known_after known ns) → ⊥) → has_node n ns ≡ false
not-has n known no_nodes late = refl
not-has n known (node_then w ns) late =
    let own = test-other (id_of w) n (λ e. late (known-stays n (id_of w ∷ known) ns (inl (sym e)))) in
    λ i. own i || not-has n (id_of w ∷ known) ns late i

-- ---- a Gamma

shape-carried : (n id : ℕ) (inputs others : List Origin) (rs : RegionTrees) → has_its_regions (node id Gamma inputs rs) ≡ true → has_its_regions (node id Gamma others (regions_carried n rs)) ≡ true
shape-carried n id inputs others no_regions e = absurd cc
shape-carried n id inputs others (region_then r rs) e = refl

gamma-fits : (l : PlainLambda) (args : List Kind) (before : NodeTrees) (id : ℕ) (p : Origin) (entries : List Origin) (rs : RegionTrees) (after : NodeTrees) (results : List Origin) →
    IsPartOf l (region args (joined_nodes before (node_then (node id Gamma (p ∷ entries) rs) after)) results) → (n : ℕ) (y : NodeTree) → leaving_one n rs ≡ Some y →
    KeptWithin (length l.objects) (region args (joined_nodes before (node_then (node id Gamma (p ∷ entries) rs) after)) results)
    (region args (joined_nodes before (joined_nodes (placed entries y (input_added (Out n 0) (node id Gamma (p ∷ entries) (regions_carried n rs)))) after)) results)
gamma-fits l args before id p entries rs after results part n y e =
    subst (λ z. KeptWithin objects (region args (joined_nodes before (node_then x after)) results) (region args (joined_nodes before (joined_nodes (placed entries z x') after)) results))
    (sym out.node_is)
    (two-fit objects args before x y' x' after refl value gives_all fresh results part.fits y-fits x-fits (outside-inside objects firsts n (length entries) y out inner) carried.regions.inside fewer)
  where
    objects : ℕ
    objects = length l.objects

    x : NodeTree
    x = node id Gamma (p ∷ entries) rs

    x' : NodeTree
    x' = input_added (Out n 0) (node id Gamma (p ∷ entries) (regions_carried n rs))

    firsts : List Kind
    firsts = first_args rs

    here : NodeFits objects args before x after
    here = node-here l args before x after results part

    parts : NodeParts objects args before x
    parts = parts-here l args before x after results part

    inputs_are : map (known args before) (p ∷ entries) ≡ map Some (Value ∷ firsts)
    inputs_are = are_kinds (map (known args before) (p ∷ entries)) (Value ∷ firsts) here.inputs

    entries_are : map (known args before) entries ≡ map Some firsts
    entries_are = cc inputs_are

    many : length entries ≡ length firsts
    many = let all = as-many (known args before) entries firsts (ap (λ js. are js firsts) entries_are ∙ are_themselves firsts) in all

    out : Outside n (length entries) y
    out = one-outside n (length entries) y rs (regions-closed l args before id Gamma (p ∷ entries) rs after results part)
        (subst (λ k. AllTake k rs) (sym many) (take-all firsts (λ r. are (result_kinds r) (kinds_of (output_kinds x))) rs here.regions)) e

    y' : NodeTree
    y' = node n out.op (map (args_to_inputs entries) out.inputs) out.regions

    value : output_kinds y' ≡ Some Value ∷ []
    value = pure-outputs out.op out.pure out.regions

    carried : AllCarried objects n firsts (kinds_of (output_kinds x)) y rs
    carried = all-fit objects n firsts (kinds_of (output_kinds x)) y rs (regions-closed l args before id Gamma (p ∷ entries) rs after results part)
        (inner-distinct l args before id Gamma (p ∷ entries) rs after results part) here.regions here.inside e

    inner : InnerFits objects firsts y
    inner = one-fits objects n firsts (kinds_of (output_kinds x)) y rs here.regions here.inside e

    among : IsAmong n (regions_ids rs)
    among = one-among n y rs e

    fresh : has_node n (joined_nodes before (node_then x after)) ≡ false
    fresh = not-has n [] (joined_nodes before (node_then x after)) (not-known l args before id Gamma (p ∷ entries) rs after results part n among)

    gives_all : GivesAsMuch (output_kinds x) (output_kinds x')
    gives_all =
        record {
          kinds = λ q k d. ap (λ ks. joined (slice_get ks q)) carried.outputs ∙ d;
          index = λ k s. ap (λ ks. last_index k 0 ks None) carried.outputs;
          state = λ k s. ap (some_of (is_of k)) carried.outputs;
        }

    last : all_of (is_last args before) (p ∷ entries) ≡ true
    last = here.last

    y-fits : node_fits objects args before y' ≡ true
    y-fits = outside-fits objects args firsts before entries entries_are (and_parts (is_last args before p) (all_of (is_last args before) entries) last).1 n (length entries) y out inner

    x-fits : node_fits objects args (joined_nodes before (node_then y' no_nodes)) x' ≡ true
    x-fits =
        let states = and_parts (one_state_each (map (known args before) (p ∷ entries))) (one_state_each (outputs_of Gamma rs)) parts.states in
        let inputs = more-inputs objects args before n y' refl value (scope-first objects args before x y' x' after refl value gives_all fresh) (p ∷ entries)
        (Value ∷ firsts) inputs_are last states.0 in
        let fit = ap (λ ks. are (map (known args (joined_nodes before (node_then y' no_nodes))) ((p ∷ entries) ++ Out n 0 ∷ [])) (Value ∷ ks)) carried.first ∙ inputs.fit in
        let outputs = ap one_state_each carried.outputs ∙ states.1 in
        let regions : regions_fit x' ≡ true =
        (λ i. all_regions (λ r. same (args_of r) (carried.first i) && are (result_kinds r) (kinds_of (carried.outputs i))) (regions_carried n rs)) ∙ carried.regions.all in
        λ i. fit i && inputs.last i && (inputs.states i && outputs i) && shape-carried n id (p ∷ entries) ((p ∷ entries) ++ Out n 0 ∷ []) rs parts.shape i && regions i && true && true && true

    fewer : (m : ℕ) → times m (node_ids y') + times m (node_ids x') ≤ times m (node_ids x)
    fewer m =
        omega (
          arith,
          ap (λ z. times m (node_ids z)) out.node_is,
          carried.regions.ids m,
          times_append m (id ∷ []) (regions_ids rs),
          times_append m (id ∷ []) (regions_ids (regions_carried n rs)),
        )

-- ---- a Theta

value-more : (own : List Kind) → GivesAsMuch (map Some own) (map Some (with_value own))
value-more own =
    let is : one_more (map Some own) ≡ map Some (with_value own) = sym (map-append Some own (Value ∷ [])) in
    subst (λ ks. GivesAsMuch (map Some own) ks) is
    (record { kinds = λ q k d. by q k (slice_get (map Some own) q) refl d; index = λ k s. index-added k s 0 (map Some own) None; state = λ k s. some-added k s (map Some own) })
  where
    by : (q : ℕ) (k : Kind) (found : Option (Option Kind)) → slice_get (map Some own) q ≡ found → joined found ≡ Some k → joined (slice_get (one_more (map Some own)) q) ≡ Some k
    by q k None f d = absurd cc
    by q k (Some j) f d = ap joined (get-added (map Some own) (Some Value ∷ []) q j f) ∙ d

some-left : {X : Type 0} (test : X → Bool) (xs ys : List X) → some_of test xs ≡ true → some_of test (xs ++ ys) ≡ true
some-left test [] ys e = absurd cc
some-left test (x ∷ xs) ys e = by (test x) e (some-left test xs ys)
  where
    by : (t : Bool) → (t || some_of test xs) ≡ true → (some_of test xs ≡ true → some_of test (xs ++ ys) ≡ true) → (t || some_of test (xs ++ ys)) ≡ true
    by true d h = refl
    by false d h = h d

theta-fits : (l : PlainLambda) (args : List Kind) (before : NodeTrees) (id : ℕ) (inputs : List Origin) (own : List Kind) (nodes : NodeTrees) (outs : List Origin) (after : NodeTrees)
    (results : List Origin) →
    IsPartOf l (region args (joined_nodes before (node_then (node id Theta inputs (region_then (region own nodes outs) no_regions)) after)) results) → (n : ℕ) (y : NodeTree) →
    leaving_loop n (region own nodes outs) ≡ Some y →
    KeptWithin (length l.objects) (region args (joined_nodes before (node_then (node id Theta inputs (region_then (region own nodes outs) no_regions)) after)) results)
    (region args (joined_nodes before (joined_nodes (placed inputs y (input_added (Out n 0) (node id Theta inputs (region_then (looped n (region own nodes outs)) no_regions)))) after)) results)
theta-fits l args before id inputs own nodes outs after results part n y e =
    subst (λ z. KeptWithin objects (region args (joined_nodes before (node_then x after)) results) (region args (joined_nodes before (joined_nodes (placed inputs z x') after)) results))
    (sym out.node_is)
    (two-fit objects args before x y' x' after refl value (value-more own) fresh results part.fits y-fits x-fits (outside-inside objects own n (length inputs) y out inner) inside-now fewer)
  where
    objects : ℕ
    objects = length l.objects

    r : RegionTree
    r = region own nodes outs

    rs : RegionTrees
    rs = region_then r no_regions

    x : NodeTree
    x = node id Theta inputs rs

    x' : NodeTree
    x' = input_added (Out n 0) (node id Theta inputs (region_then (looped n r) no_regions))

    here : NodeFits objects args before x after
    here = node-here l args before x after results part

    parts : NodeParts objects args before x
    parts = parts-here l args before x after results part

    inputs_are : map (known args before) inputs ≡ map Some own
    inputs_are = are_kinds (map (known args before) inputs) own here.inputs

    results_are : map (known own nodes) outs ≡ map Some (Value ∷ own)
    results_are = are_kinds (map (known own nodes) outs) (Value ∷ own) (and_parts (are (map (known own nodes) outs) (Value ∷ own)) true here.regions).0

    closed : IsClosed r
    closed = (regions-closed l args before id Theta inputs rs after results part).0

    unique : distinct (nodes_ids nodes) ≡ true
    unique = (distinct-split (nodes_ids nodes) [] (inner-distinct l args before id Theta inputs rs after results part)).0

    own_fits : every_region (region_fits objects) r ≡ true
    own_fits = (and_parts (every_region (region_fits objects) r) true here.inside).0

    at : Leaves (is_invariant outs) n nodes y
    at = leaves (is_invariant outs) n own nodes outs y e

    out : Outside n (length inputs) y
    out = leaves-outside (is_invariant outs) n (length inputs) own nodes outs y (as-many (known args before) inputs own here.inputs) closed at (invariant-arguments outs at.inputs at.all)

    y' : NodeTree
    y' = node n out.op (map (args_to_inputs inputs) out.inputs) out.regions

    value : output_kinds y' ≡ Some Value ∷ []
    value = pure-outputs out.op out.pure out.regions

    inner : InnerFits objects own y
    inner = inner-fits (is_invariant outs) objects n own nodes outs y own_fits at

    taken : CarriedFits objects n (numbers_of y) r
    taken = leaving-fits (is_invariant outs) objects n own nodes outs y closed unique own_fits at

    move : Origin → Origin
    move = origin_replaced (Out n 0) (Arg (length own))

    ends : (map (known (with_value own) (nodes_without n (nodes_redirected move nodes))) (map move outs ++ Arg (length own) ∷ [])
        ≡ one_more (map (known (with_value own) (nodes_without n (nodes_redirected move nodes))) (map move outs))) × (every_region (region_fits objects) (looped n r) ≡ true)
    ends = result_added_fits objects (with_value own) (nodes_without n (nodes_redirected move nodes)) (map move outs) (Arg (length own)) (get-last own Value) taken.fits

    inside-now : every_in_node (region_fits objects) x' ≡ true
    inside-now = λ i. ends.1 i && true

    among : IsAmong n (regions_ids rs)
    among = among-left n (nodes_ids nodes) [] (leaving-among (is_invariant outs) n nodes y at)

    fresh : has_node n (joined_nodes before (node_then x after)) ≡ false
    fresh = not-has n [] (joined_nodes before (node_then x after)) (not-known l args before id Theta inputs rs after results part n among)

    last : all_of (is_last args before) inputs ≡ true
    last = here.last

    y-fits : node_fits objects args before y' ≡ true
    y-fits = outside-fits objects args own before inputs inputs_are last n (length inputs) y out inner

    x-fits : node_fits objects args (joined_nodes before (node_then y' no_nodes)) x' ≡ true
    x-fits =
        let states = and_parts (one_state_each (map (known args before) inputs)) (one_state_each (map Some own)) parts.states in
        let more = more-inputs objects args before n y' refl value (scope-first objects args before x y' x' after refl value (value-more own) fresh) inputs own inputs_are last states.0 in
        let outputs = one-argument-more own states.1 in
        let gives : are (result_kinds (looped n r)) (Value ∷ with_value own) ≡ true =
        ap (λ ks. are ks (Value ∷ with_value own)) (ends.0 ∙ ap one_more (taken.results ∙ results_are) ∙ sym (map-append Some (Value ∷ own) (Value ∷ []))) ∙ are_themselves (Value ∷ with_value own) in
        let each = and_parts (some_of (same_kind Memory) own && some_of (same_kind Io) own) true parts.theta in
        let both = and_parts (some_of (same_kind Memory) own) (some_of (same_kind Io) own) each.0 in
        λ i. more.fit i && more.last i && (more.states i && outputs i) && true && (gives i && true)
        && ((some-left (same_kind Memory) own (Value ∷ []) both.0 i && some-left (same_kind Io) own (Value ∷ []) both.1 i) && true) && true && true

    fewer : (m : ℕ) → times m (node_ids y') + times m (node_ids x') ≤ times m (node_ids x)
    fewer m =
        omega (
          arith,
          ap (λ z. times m (node_ids z)) out.node_is,
          taken.ids m,
          times_append m (id ∷ []) (region_ids r ++ []),
          times_append m (region_ids r) [],
          times_append m (id ∷ []) (region_ids (looped n r) ++ []),
          times_append m (region_ids (looped n r)) [],
        )

-- ---- the rule

pub left-fits : (l : PlainLambda) (args : List Kind) (before : NodeTrees) (x : NodeTree) (after : NodeTrees) (results : List Origin) →
    IsPartOf l (region args (joined_nodes before (node_then x after)) results) → (n : ℕ) (two : NodeTrees) → pushed n x ≡ Some two →
    KeptWithin (length l.objects) (region args (joined_nodes before (node_then x after)) results) (region args (joined_nodes before (joined_nodes two after)) results)
left-fits l args before (node id Gamma (p ∷ entries) rs) after results part n two e = by (leaving_one n rs) refl e
  where
    by : (found : Option NodeTree) → leaving_one n rs ≡ found →
        option_map (λ y. placed entries y (input_added (Out n 0) (node id Gamma (p ∷ entries) (regions_carried n rs)))) found ≡ Some two →
        KeptWithin (length l.objects) (region args (joined_nodes before (node_then (node id Gamma (p ∷ entries) rs) after)) results)
        (region args (joined_nodes before (joined_nodes two after)) results)
    by None d f = absurd cc
    by (Some y) d f =
        subst (λ ns. KeptWithin (length l.objects) (region args (joined_nodes before (node_then (node id Gamma (p ∷ entries) rs) after)) results)
        (region args (joined_nodes before (joined_nodes ns after)) results))
        (same_Some _ two f) (gamma-fits l args before id p entries rs after results part n y d)
left-fits l args before (node id Theta inputs (region_then (region own nodes outs) no_regions)) after results part n two e = by (leaving_loop n (region own nodes outs)) refl e
  where
    x : NodeTree
    x = node id Theta inputs (region_then (region own nodes outs) no_regions)

    by : (found : Option NodeTree) → leaving_loop n (region own nodes outs) ≡ found →
        option_map (λ y. placed inputs y (input_added (Out n 0) (node id Theta inputs (region_then (looped n (region own nodes outs)) no_regions)))) found ≡ Some two →
        KeptWithin (length l.objects) (region args (joined_nodes before (node_then x after)) results) (region args (joined_nodes before (joined_nodes two after)) results)
    by None d f = absurd cc
    by (Some y) d f =
        subst (λ ns. KeptWithin (length l.objects) (region args (joined_nodes before (node_then x after)) results) (region args (joined_nodes before (joined_nodes ns after)) results))
        (same_Some _ two f)
        (theta-fits l args before id inputs own nodes outs after results part n y d)
left-fits l args before (node id Gamma [] rs) after results part n two e = absurd cc
left-fits l args before (node id Theta inputs no_regions) after results part n two e = absurd cc
left-fits l args before (node id Theta inputs (region_then (region own nodes outs) (region_then s rs))) after results part n two e = absurd cc
left-fits l args before (node id (Const w) inputs rs) after results part n two e = absurd cc
left-fits l args before (node id Undef inputs rs) after results part n two e = absurd cc
left-fits l args before (node id (Local k) inputs rs) after results part n two e = absurd cc
left-fits l args before (node id (Delta k) inputs rs) after results part n two e = absurd cc
left-fits l args before (node id (Bin o) inputs rs) after results part n two e = absurd cc
left-fits l args before (node id (Un o) inputs rs) after results part n two e = absurd cc
left-fits l args before (node id (Load w) inputs rs) after results part n two e = absurd cc
left-fits l args before (node id (Store w) inputs rs) after results part n two e = absurd cc
left-fits l args before (node id (Clear k) inputs rs) after results part n two e = absurd cc
left-fits l args before (node id PtrEq inputs rs) after results part n two e = absurd cc
left-fits l args before (node id (Apply f) inputs rs) after results part n two e = absurd cc
left-fits l args before (node id Put inputs rs) after results part n two e = absurd cc
left-fits l args before (node id Exit inputs rs) after results part n two e = absurd cc
left-fits l args before (node id Get inputs rs) after results part n two e = absurd cc
