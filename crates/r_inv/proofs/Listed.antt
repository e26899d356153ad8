-- The rule on the list of nodes of a well-formed lambda is the rule on the lambda.
use Rattle.std.proofs.Common.{◌≡◌, ◌≤◌, ◌+◌, ℕ, zero, suc, ◌==◌, ◌&&◌, ◌||◌, nat_lt, Bool, true, false, Option, None, Some, is_some, unwrap_or, option_map, option_and_then, not, List, [], ◌∷◌, ◌++◌, map, length, refl, sym, ap, subst, ◌∙◌, arith}
use Rattle.std.specs.Prelude.{slice_get, if◌then◌else◌}
use Rattle.std.specs.List.{remove}
use Rattle.std.proofs.lemmas.Bool.{and_parts, or_parts}
use Rattle.std.proofs.lemmas.Bool.Decides.{nat_tests}
use Rattle.std.proofs.lemmas.Option.{same_Some}
use Rattle.g_graph.specs.declared.op.Kind.{Kind}
use Rattle.g_graph.specs.declared.op.Kind.TheVariants.{Value as ValueKind}
use Rattle.g_graph.specs.declared.op.Op.{Op}
use Rattle.g_graph.specs.declared.op.Op.TheVariants.{Gamma, Theta}
use Rattle.g_graph.specs.declared.op.Origin.{Origin}
use Rattle.g_graph.specs.declared.op.Origin.TheVariants.{Arg, Out}
use Rattle.g_graph.specs.Plain.{RegionTree, region, NodeTree, node, NodeTrees, no_nodes, node_then, RegionTrees, no_regions, region_then, id_of, count_of, PlainLambda}
use Rattle.g_graph.specs.Signatures.{joined, outputs_of}
use Rattle.g_graph.specs.Scope.{same_kind}
use Rattle.g_graph.specs.Change.{has_node}
use Rattle.g_graph.specs.WellFormed.{some_of, is_origin, kinds_of, IsWellFormed}
use Rattle.g_graph.specs.Nodes.{is_used}
use Rattle.g_graph.specs.Replace.{nodes_redirected}
use Rattle.g_graph.specs.Splice.{joined_nodes}
use Rattle.g_graph.proofs.lemmas.Indexes.{same_number_true, same_kind_true}
use Rattle.g_graph.proofs.lemmas.KindLists.{kinds_of_some}
use Rattle.g_graph.proofs.lemmas.Unique.{equal_back}
use Rattle.g_arena_def.specs.Flat.{FlatNode, in_nodes, in_regions, regions_flat, flat_of}
use Rattle.g_arena_def.specs.Reads.{uses_in}
use Rattle.g_arena_def.specs.Edits.{inputs_at}
use Rattle.r_edit.specs.Places.{kept, place_after}
use Rattle.r_edit.specs.Uses.{nodes_read}
use Rattle.r_edit.specs.Exits.{regions_giving}
use Rattle.r_edit.specs.InPlace.{redirected_after, outputs_redirected}
use Rattle.r_edit.specs.Carried.{outer, all_pass, passed, output_carried, staying}
use Rattle.r_edit.specs.Carried as tree
use Rattle.r_edit.proofs.lemmas.Kept.{kept_map}
use Rattle.r_edit.proofs.lemmas.Placed.{read_after}
use Rattle.r_edit.proofs.lemmas.ExitsFit.{gives_kept}
use Rattle.r_edit.proofs.lemmas.Carried.{carrying_joined}
use Rattle.r_edit.proofs.lemmas.CarriedExits.{exits_carried_fit}
use Rattle.r_edit.proofs.lemmas.CarriedUses.{uses_carried_fit}
use Rattle.r_inv.specs.Rule.{exits_from, variables_from, some_used, carried_exits, exits_moved, uses_moved, moved, inv_here, inv}
use Rattle.r_sweep.specs.Removals.{from_last, uses_carried, exits_carried}
use Rattle.r_sweep.proofs.lemmas.Regions.{IsAlike}
use Rattle.r_sweep.proofs.lemmas.Around.{Around}
use Rattle.r_sweep.proofs.lemmas.Inputs.{inputs_nodes}
use Rattle.r_sweep.proofs.lemmas.Blocks.{Within, state, state_start, state_end, region_now, flat_with, node_now, none_parts, place}
use Rattle.r_sweep.proofs.lemmas.FromLast.{from_last-kept, is_beyond, same_origins, same_nodes}
use Rattle.r_sweep.proofs.lemmas.Regional.{results_are}
use Rattle.r_sweep.proofs.lemmas.Kept.{IsOther, Fitting, fitting, here, none_first, unread_own, unread_beyond, before_stay, all_fixed, count_same, alike_by, gamma_within, theta_within}
use Rattle.r_sweep.proofs.lemmas.Carried.{AreOther, origin_moved, origin_gone, moved_state, gone_state, gone_fixes, moved_fixes, moved_is, gone_is}
use Rattle.r_sweep.proofs.lemmas.Listed.{filled, changed_if, change_by, is_listed}
use Rattle.r_sweep.proofs.lemmas.Reading.{region_times, unused, unused_times, start_node, uses_here}
use Rattle.r_sweep.proofs.lemmas.Standing.{own_kinds}
use Rattle.r_sweep_def.proofs.lemmas.{listed_sweeps}
use Rattle.r_inv.specs.Listed.{all_pass_in, passed_in, exits_in, some_use, gamma_in, theta_in, moved_in, inv_in}
use Rattle.r_inv.specs.SweepLaws.{InvIsListed, inv_change, InvSweepsAreListed}

-- ---- tests

same_test : (a b : Bool) → (a ≡ false → b ≡ false) → (b ≡ false → a ≡ false) → a ≡ b
same_test true true f g = refl
same_test false false f g = refl
same_test true false f g = g refl
same_test false true f g = sym (f refl)

used_is : (o : Origin) (r : RegionTree) → is_used o r ≡ nat_lt 0 (region_times o r)
used_is o r = same_test (is_used o r) (nat_lt 0 (region_times o r)) (λ e. less (region_times o r) (unused_times o r e)) (λ e. unused o r (none (region_times o r) e))
  where
    less : (c : ℕ) → c ≡ 0 → nat_lt 0 c ≡ false
    less c e = grind (arith, nat_tests)

    none : (c : ℕ) → nat_lt 0 c ≡ false → c ≡ 0
    none c e = grind (arith, nat_tests)

regions_count : (rs : RegionTrees) → length (regions_flat rs) ≡ count_of rs
regions_count no_regions = refl
regions_count (region_then r rs) = ap suc (regions_count rs)

if_some : {X Y : Type 0} (f : X → Y) (t : Bool) (x : X) → (if t then Some (f x) else None) ≡ option_map f (if t then Some x else None)
if_some f true x = refl
if_some f false x = refl

-- ---- what is carried

pass_same : (inputs : List Origin) (o : Origin) (p : ℕ) (rs : RegionTrees) → all_pass_in inputs o p (regions_flat rs) ≡ all_pass inputs o p rs
pass_same inputs o p no_regions = refl
pass_same inputs o p (region_then (region args nodes results) rs) = ap (λ t. is_origin (outer inputs (slice_get results p)) o && t) (pass_same inputs o p rs)

passed_same : (inputs : List Origin) (p : ℕ) (rs : RegionTrees) → passed_in inputs p (regions_flat rs) ≡ passed inputs p rs
passed_same inputs p no_regions = refl
passed_same inputs p (region_then (region args nodes results) rs) = by (outer inputs (slice_get results p))
  where
    by : (c : Option Origin) → option_and_then (λ o. if all_pass_in inputs o p (regions_flat rs) then Some o else None) c ≡ option_and_then (λ o. if all_pass inputs o p rs then Some o else None) c
    by None = refl
    by (Some o) = ap (λ t. if t then Some o else None) (pass_same inputs o p rs)

exits_same : (inputs : List Origin) (rs : RegionTrees) (p : ℕ) (ks : List Kind) → exits_in inputs (regions_flat rs) p ks ≡ exits_from inputs rs p (map Some ks)
exits_same inputs rs p [] = refl
exits_same inputs rs p (k ∷ ks) = λ i. passed_same inputs p rs i ∷ exits_same inputs rs (suc p) ks i

get_other : (n : ℕ) (inputs : List Origin) → some_of (is_beyond n 0) inputs ≡ false → (k : ℕ) (b : Origin) → slice_get inputs k ≡ Some b → IsOther n b
get_other n [] h k b e = absurd cc
get_other n (o ∷ inputs) h zero b e = subst (IsOther n) (same_Some o b e) (or_parts (is_beyond n 0 o) (some_of (is_beyond n 0) inputs) h).0
get_other n (o ∷ inputs) h (suc k) b e = get_other n inputs (or_parts (is_beyond n 0 o) (some_of (is_beyond n 0) inputs) h).1 k b e

outer_other : (n : ℕ) (inputs : List Origin) → some_of (is_beyond n 0) inputs ≡ false → (c : Option Origin) (b : Origin) → outer inputs c ≡ Some b → IsOther n b
outer_other n inputs h None b e = absurd cc
outer_other n inputs h (Some (Arg k)) b e = get_other n inputs h (suc k) b e
outer_other n inputs h (Some (Out m q)) b e = absurd cc

passed_other : (n : ℕ) (inputs : List Origin) → some_of (is_beyond n 0) inputs ≡ false → (p : ℕ) (rs : RegionTrees) (b : Origin) → passed inputs p rs ≡ Some b → IsOther n b
passed_other n inputs h p no_regions b e = absurd cc
passed_other n inputs h p (region_then (region args nodes results) rs) b e = by (outer inputs (slice_get results p)) refl e
  where
    by_all : (t : Bool) (o : Origin) → outer inputs (slice_get results p) ≡ Some o → (if t then Some o else None) ≡ Some b → IsOther n b
    by_all true o c d = outer_other n inputs h (slice_get results p) b (c ∙ d)
    by_all false o c d = absurd cc

    by : (c : Option Origin) → outer inputs (slice_get results p) ≡ c → option_and_then (λ o. if all_pass inputs o p rs then Some o else None) c ≡ Some b → IsOther n b
    by None c d = absurd cc
    by (Some o) c d = by_all (all_pass inputs o p rs) o c d

other_then : (n : ℕ) (c : Option Origin) (cs : List (Option Origin)) → ((b : Origin) → c ≡ Some b → IsOther n b) → AreOther n cs → AreOther n (c ∷ cs)
other_then n None cs h g = g
other_then n (Some b) cs h g = (h b refl, g)

exits_other : (n : ℕ) (inputs : List Origin) → some_of (is_beyond n 0) inputs ≡ false → (rs : RegionTrees) (p : ℕ) (ks : List (Option Kind)) → AreOther n (exits_from inputs rs p ks)
exits_other n inputs h rs p [] = tt
exits_other n inputs h rs p (k ∷ ks) = other_then n (passed inputs p rs) (exits_from inputs rs (suc p) ks) (λ b e. passed_other n inputs h p rs b e) (exits_other n inputs h rs (suc p) ks)

exits_at : (inputs : List Origin) (rs : RegionTrees) (p : ℕ) (ks : List (Option Kind)) (i : ℕ) (o : Origin) → joined (slice_get (exits_from inputs rs p ks) i) ≡ Some o → passed inputs (p + i) rs ≡ Some o
exits_at inputs rs p [] i o e = absurd cc
exits_at inputs rs p (k ∷ ks) zero o e = let here : p + 0 ≡ p = omega arith in ap (λ q. passed inputs q rs) here ∙ e
exits_at inputs rs p (k ∷ ks) (suc i) o e = let here : p + suc i ≡ suc p + i = omega arith in ap (λ q. passed inputs q rs) here ∙ exits_at inputs rs (suc p) ks i o e

variables_at : (inputs outs : List Origin) (p : ℕ) (js : List Kind) (i : ℕ) (o : Origin) → joined (slice_get (variables_from inputs outs p js) i) ≡ Some o → (slice_get js i ≡ Some ValueKind) × (slice_get inputs (p + i) ≡ Some o)
variables_at inputs outs p [] i o e = absurd cc
variables_at inputs outs p (j ∷ js) zero o e = by (same_kind ValueKind j && is_origin (slice_get outs (suc p)) (Arg p)) refl e
  where
    by : (t : Bool) → (same_kind ValueKind j && is_origin (slice_get outs (suc p)) (Arg p)) ≡ t → (if t then slice_get inputs p else None) ≡ Some o → (Some j ≡ Some ValueKind) × (slice_get inputs (p + 0) ≡ Some o)
    by true c d =
        let here : p + 0 ≡ p = omega arith in
        (ap Some (sym (same_kind_true ValueKind j (and_parts (same_kind ValueKind j) (is_origin (slice_get outs (suc p)) (Arg p)) c).0)), ap (slice_get inputs) here ∙ d)
    by false c d = absurd cc
variables_at inputs outs p (j ∷ js) (suc i) o e =
    let here : suc p + i ≡ p + suc i = omega arith in
    let rest = variables_at inputs outs (suc p) js i o e in
    (rest.0, ap (slice_get inputs) (sym here) ∙ rest.1)

variables_other : (n : ℕ) (inputs : List Origin) → some_of (is_beyond n 0) inputs ≡ false → (outs : List Origin) (p : ℕ) (js : List Kind) → AreOther n (variables_from inputs outs p js)
variables_other n inputs h outs p [] = tt
variables_other n inputs h outs p (j ∷ js) =
    other_then n (if same_kind ValueKind j && is_origin (slice_get outs (suc p)) (Arg p) then slice_get inputs p else None) (variables_from inputs outs (suc p) js)
    (λ b e. by (same_kind ValueKind j && is_origin (slice_get outs (suc p)) (Arg p)) b e) (variables_other n inputs h outs (suc p) js)
  where
    by : (t : Bool) (b : Origin) → (if t then slice_get inputs p else None) ≡ Some b → IsOther n b
    by true b e = get_other n inputs h p b e
    by false b e = absurd cc

-- ---- uses that follow alike

read_before : (test : Origin → Bool) (before : NodeTrees) (x : NodeTree) (after : NodeTrees) → nodes_read test (joined_nodes before (node_then x after)) ≡ false → nodes_read test before ≡ false
read_before test no_nodes x after e = refl
read_before test (node_then (node id op inputs rs) before) x after e =
    let both = or_parts (some_of test inputs) (nodes_read test (joined_nodes before (node_then x after))) e in
    λ i. both.0 i || read_before test before x after both.1 i

none_of : (os : List Origin) → some_of (λ o. false) os ≡ false
none_of [] = refl
none_of (o ∷ os) = none_of os

none_read : (ns : NodeTrees) → nodes_read (λ o. false) ns ≡ false
none_read no_nodes = refl
none_read (node_then (node id op inputs rs) ns) = λ i. none_of inputs i || none_read ns i

module _ (n : ℕ) (l : PlainLambda) (w : Within n l) (fit : Fitting n l w) where
  abbrev x : FlatNode
  x = start_node n l w

  use_is : (o : Origin) → nat_lt 0 (uses_in x.home o (flat_of l)) ≡ is_used o w.around.here
  use_is o = ap (nat_lt 0) (uses_here n l w.around o) ∙ sym (used_is o w.around.here)

  some_same : (k : ℕ) (cs : List (Option Origin)) → some_use (flat_of l) x.home n k cs ≡ some_used n w.around.here k cs
  some_same k [] = refl
  some_same k (c ∷ cs) = λ i. (is_some c && use_is (Out n k) i) || some_same (suc k) cs i

  agree_state : (f g : Origin → Origin) (c : ℕ) → length (outputs_of w.op w.regions) ≤ c → ((o : Origin) → is_beyond n c o ≡ false → f o ≡ g o) → (outputs : List Kind) (inputs : List Origin) (rs : RegionTrees) →
      state n l w f outputs inputs rs ≡ state n l w g outputs inputs rs
  agree_state f g c h agree outputs inputs rs =
      let ns = joined_nodes w.before (node_then (node n w.op w.inputs w.regions) w.after) in
      let beyond = or_parts (nodes_read (is_beyond n c) ns) (some_of (is_beyond n c) w.results) (unread_beyond n l w fit c h) in
      let both : (o : Origin) → false ≡ false → is_beyond n c o ≡ false → f o ≡ g o = λ o u e. agree o e in
      let results = same_origins f g (λ o. false) (is_beyond n c) both w.results (none_of w.results) beyond.1 in
      let after = same_nodes f g (λ o. false) (is_beyond n c) both w.after (none_read w.after) (read_after (is_beyond n c) w.before (node n w.op w.inputs w.regions) w.after beyond.0) in
      let before = same_nodes f g (λ o. false) (is_beyond n c) both w.before (none_read w.before) (read_before (is_beyond n c) w.before (node n w.op w.inputs w.regions) w.after beyond.0) in
      let p = place n l w in
      let none = none_parts n l w in
      let y = node_now n l w outputs inputs rs in
      let bs : map (inputs_at p f) (in_nodes p w.before) ≡ map (inputs_at p g) (in_nodes p w.before) =
      inputs_nodes p f w.before none.0 ∙ ap (in_nodes p) before ∙ sym (inputs_nodes p g w.before none.0) in
      let xs : map (inputs_at p f) (in_nodes p w.after) ≡ map (inputs_at p g) (in_nodes p w.after) =
      inputs_nodes p f w.after none.2 ∙ ap (in_nodes p) after ∙ sym (inputs_nodes p g w.after none.2) in
      λ i. flat_with n l w (record { args = w.args; results = results i }) (bs i ++ (y ∷ (in_regions n 0 rs ++ (xs i ++ w.around.after))))

-- what an output carries names no output of the node
carried_other : (n : ℕ) (cs : List (Option Origin)) (stays : List Bool) (o : Origin) → IsOther n o → output_carried n cs stays o ≡ o
carried_other n cs stays (Arg k) h = refl
carried_other n cs stays (Out m q) h = ap (λ t. if t then unwrap_or (joined (slice_get cs q)) (Out m (place_after stays q)) else Out m q) (equal_back n m ∙ first (m == n) (nat_lt q 0) (grind (arith, nat_tests)) h)
  where
    first : (t u : Bool) → u ≡ false → (t && not u) ≡ false → t ≡ false
    first false u e f = refl
    first true true e f = absurd cc
    first true false e f = absurd cc

-- ---- a Gamma

module _ (n : ℕ) (l : PlainLambda) (z : Around n l) (args : List Kind) (before : NodeTrees) (inputs : List Origin) (rs : RegionTrees) (after : NodeTrees) (results : List Origin)
    (is : z.here ≡ region args (joined_nodes before (node_then (node n Gamma inputs rs) after)) results) (fit : Fitting n l (gamma_within n l z args before inputs rs after results is)) where
  abbrev gamma : Within n l
  gamma = gamma_within n l z args before inputs rs after results is

  abbrev cs : List (Option Origin)
  cs = carried_exits inputs rs

  abbrev whole_gamma : RegionTree
  whole_gamma = region args (joined_nodes before (node_then (node n Gamma inputs rs) after)) results

  abbrev outs : List Kind
  outs = kinds_of (outputs_of Gamma rs)

  abbrev carry : Origin → Origin
  carry = output_carried n cs (staying cs)

  carried_same : exits_in inputs (regions_flat rs) 0 outs ≡ cs
  carried_same = exits_same inputs rs 0 outs ∙ ap (exits_from inputs rs 0) (sym (own_kinds n l gamma fit))

  other : AreOther n cs
  other = exits_other n inputs (unread_own n l gamma fit) rs 0 (outputs_of Gamma rs)

  carried_go : exits_carried n (length (regions_flat rs)) z.place 0 cs (flat_of l) ≡ filled n l z (tree.exits_carried n cs z.here)
  carried_go =
      let objects = length l.objects in
      let giving = regions_giving (staying cs) rs in
      let passes : (p : ℕ) (o : Origin) → joined (slice_get cs p) ≡ Some o → passed inputs p rs ≡ Some o =
      λ p o e. let here : p ≡ 0 + p = omega arith in ap (λ q. passed inputs q rs) here ∙ exits_at inputs rs 0 (outputs_of Gamma rs) p o e in
      let kept_fit = exits_carried_fit objects args before n inputs rs after cs (here n l gamma fit) passes results fit.region in
      let now : region_now n l gamma carry inputs giving ≡ tree.exits_carried n cs whole_gamma =
      ap (λ ns. region args ns (map carry results)) (sym (carrying_joined n cs before (node n Gamma inputs rs) after (none_first n l gamma fit) (same_number_true n))) in
      let alike : IsAlike z.here (region_now n l gamma carry inputs giving) =
      alike_by whole_gamma (tree.exits_carried n cs whole_gamma) z.here (region_now n l gamma carry inputs giving) is now objects kept_fit in
      let kinds = own_kinds n l gamma fit in
      let outputs : from_last (λ j ys. remove ys j) 0 (staying cs) outs ≡ kinds_of (outputs_of Gamma giving) =
      from_last-kept 0 (staying cs) outs
      ∙ sym (ap kinds_of (gives_kept (staying cs) rs ∙ ap (kept (staying cs)) kinds ∙ sym (kept_map (staying cs) Some outs)) ∙ kinds_of_some (kept (staying cs) outs)) in
      ap (λ c. exits_carried n c z.place 0 cs (flat_of l)) (regions_count rs) ∙ ap (exits_carried n (count_of rs) z.place 0 cs) (state_start n l gamma)
      ∙ gone_state n l gamma (count_of rs) 0 cs other outs inputs rs refl
      ∙ (λ i. state n l gamma (origin_gone n 0 cs outs) (outputs i) (all_fixed n (origin_gone n 0 cs outs) (λ o e. gone_fixes n 0 cs outs o e) inputs (unread_own n l gamma fit) i) (results_are (staying cs) rs i))
      ∙ agree_state n l gamma fit (origin_gone n 0 cs outs) carry (length outs) (count_same (outputs_of Gamma rs) outs kinds) (λ o e. gone_is n cs other outs o e) (kinds_of (outputs_of Gamma giving)) inputs giving
      ∙ state_end n l gamma carry inputs giving alike (before_stay n l gamma fit carry (λ o e. carried_other n cs (staying cs) o e))
      ∙ ap (filled n l z) (now ∙ ap (tree.exits_carried n cs) (sym is))

  pub gamma_is : gamma_in (flat_of l) (start_node n l gamma) (exits_in inputs (regions_flat rs) 0 outs) ≡ option_map (filled n l z) (exits_moved n z.here cs)
  gamma_is =
      ap (gamma_in (flat_of l) (start_node n l gamma)) carried_same
      ∙ (λ i. if some_same n l gamma fit 0 cs i then Some (carried_go i) else None) ∙ if_some (filled n l z) (some_used n z.here 0 cs) (tree.exits_carried n cs z.here)

-- ---- a Theta

redirected_joined : (n : ℕ) (f : Origin → Origin) (before : NodeTrees) (x : NodeTree) (after : NodeTrees) → has_node n before ≡ false → (id_of x == n) ≡ true →
    redirected_after n f (joined_nodes before (node_then x after)) ≡ joined_nodes before (node_then x (nodes_redirected f after))
redirected_joined n f no_nodes x after b e = ap (λ t. if t then node_then x (nodes_redirected f after) else node_then x (redirected_after n f after)) e
redirected_joined n f (node_then y before) x after b e =
    let both = or_parts (id_of y == n) (has_node n before) b in
    let rest = joined_nodes before (node_then x after) in
    ap (λ t. if t then node_then y (nodes_redirected f rest) else node_then y (redirected_after n f rest)) both.0 ∙ ap (node_then y) (redirected_joined n f before x after both.1 e)

module _ (n : ℕ) (l : PlainLambda) (z : Around n l) (args : List Kind) (before : NodeTrees) (inputs : List Origin) (own : List Kind) (nodes : NodeTrees) (outs : List Origin) (after : NodeTrees)
    (results : List Origin) (is : z.here ≡ region args (joined_nodes before (node_then (node n Theta inputs (region_then (region own nodes outs) no_regions)) after)) results)
    (fit : Fitting n l (theta_within n l z args before inputs own nodes outs after results is)) where
  abbrev theta : Within n l
  theta = theta_within n l z args before inputs own nodes outs after results is

  abbrev vs : List (Option Origin)
  vs = variables_from inputs outs 0 own

  abbrev loop : RegionTrees
  loop = region_then (region own nodes outs) no_regions

  abbrev whole_theta : RegionTree
  whole_theta = region args (joined_nodes before (node_then (node n Theta inputs loop) after)) results

  abbrev bring : Origin → Origin
  bring = output_carried n vs []

  others : AreOther n vs
  others = variables_other n inputs (unread_own n l theta fit) outs 0 own

  uses_go : uses_carried n z.place 0 vs (flat_of l) ≡ filled n l z (outputs_redirected n bring z.here)
  uses_go =
      let objects = length l.objects in
      let carries : (p : ℕ) (o : Origin) → joined (slice_get vs p) ≡ Some o → (slice_get own p ≡ Some ValueKind) × (slice_get inputs p ≡ Some o) =
      λ p o e.
      let here : 0 + p ≡ p = omega arith in
      let at = variables_at inputs outs 0 own p o e in
      (at.0, ap (slice_get inputs) (sym here) ∙ at.1) in
      let kept_fit = uses_carried_fit objects args before n inputs own nodes outs after vs (here n l theta fit) carries results fit.region in
      let now : region_now n l theta bring inputs loop ≡ outputs_redirected n bring whole_theta =
      ap (λ ns. region args ns (map bring results)) (sym (redirected_joined n bring before (node n Theta inputs loop) after (none_first n l theta fit) (same_number_true n))) in
      let alike : IsAlike z.here (region_now n l theta bring inputs loop) =
      alike_by whole_theta (outputs_redirected n bring whole_theta) z.here (region_now n l theta bring inputs loop) is now objects kept_fit in
      let kinds = kinds_of (map Some own) in
      ap (uses_carried n z.place 0 vs) (state_start n l theta) ∙ moved_state n l theta 0 vs others kinds inputs loop refl
      ∙ ap (λ js. state n l theta (origin_moved n 0 vs) kinds js loop) (all_fixed n (origin_moved n 0 vs) (λ o e. moved_fixes n 0 vs o e) inputs (unread_own n l theta fit))
      ∙ agree_state n l theta fit (origin_moved n 0 vs) bring (length (map Some own)) (omega arith) (λ o e. moved_is n vs others o) kinds inputs loop
      ∙ state_end n l theta bring inputs loop alike (before_stay n l theta fit bring (λ o e. carried_other n vs [] o e))
      ∙ ap (filled n l z) (now ∙ ap (outputs_redirected n bring) (sym is))

  pub theta_is : theta_in (flat_of l) (start_node n l theta) vs ≡ option_map (filled n l z) (uses_moved n z.here vs)
  theta_is = (λ i. if some_same n l theta fit 0 vs i then Some (uses_go i) else None) ∙ if_some (filled n l z) (some_used n z.here 0 vs) (outputs_redirected n bring z.here)

-- ---- the rule at a node

module _ (n : ℕ) (l : PlainLambda) (z : Around n l) (well : IsWellFormed l) where
  abbrev parts : (args : List Kind) (before : NodeTrees) (op : Op) (inputs : List Origin) (rs : RegionTrees) (after : NodeTrees) (results : List Origin) →
      z.here ≡ region args (joined_nodes before (node_then (node n op inputs rs) after)) results → Within n l
  parts args before op inputs rs after results is = record { around = z; args = args; before = before; op = op; inputs = inputs; regions = rs; after = after; results = results; is = is }

  moved_here : (args : List Kind) (before : NodeTrees) (op : Op) (inputs : List Origin) (rs : RegionTrees) (after : NodeTrees) (results : List Origin)
      (is : z.here ≡ region args (joined_nodes before (node_then (node n op inputs rs) after)) results) →
      moved_in (flat_of l) (start_node n l (parts args before op inputs rs after results is)) ≡ option_map (filled n l z) (moved z.here (node n op inputs rs))
  moved_here args before Gamma inputs rs after results is =
      gamma_is n l z args before inputs rs after results is (fitting n l (gamma_within n l z args before inputs rs after results is) well)
  moved_here args before Theta inputs no_regions after results is = refl
  moved_here args before Theta inputs (region_then (region own nodes outs) no_regions) after results is =
      theta_is n l z args before inputs own nodes outs after results is (fitting n l (theta_within n l z args before inputs own nodes outs after results is) well)
  moved_here args before Theta inputs (region_then r (region_then s rs)) after results is = refl
  moved_here args before op inputs rs after results is = refl

here_is : (n : ℕ) (r : RegionTree) → change_by moved n r ≡ inv_here n r
here_is n (region args ns results) = refl

pub inv_is_listed : InvIsListed
inv_is_listed l n well =
    is_listed moved moved_in n l well (λ w. moved_here n l w.around well w.args w.before w.op w.inputs w.regions w.after w.results w.is)
    ∙ (λ i. option_map flat_of (changed_if (λ r. here_is n r i) l))

pub sweeps_are_listed : ((m : ℕ) (k : PlainLambda) → IsWellFormed k → IsWellFormed (inv m k)) → InvSweepsAreListed
sweeps_are_listed keeps l ns steps well = listed_sweeps inv_change inv_in inv_is_listed keeps ns (record { lambda = l; steps = steps }) well
