-- Variables of a node that go, and the lambda without them.
use Rattle.std.proofs.Common.{◌≡◌, ◌≤◌, ◌-◌, ℕ, suc, ◌==◌, ◌&&◌, not, nat_lt, Bool, true, false, Option, Some, List, [], ◌∷◌, ◌++◌, map, length, refl, sym, ap, subst, ◌∙◌, arith, le_of_eq}
use Rattle.std.specs.Prelude.{if◌then◌else◌}
use Rattle.std.specs.List.{remove}
use Rattle.std.proofs.lemmas.Bool.{and_parts, or_parts}
use Rattle.std.proofs.lemmas.Bool.Decides.{nat_tests}
use Rattle.g_graph.specs.declared.op.Kind.{Kind}
use Rattle.g_graph.specs.declared.op.Op.TheVariants.{Gamma, Theta}
use Rattle.g_graph.specs.declared.op.Origin.{Origin}
use Rattle.g_graph.specs.declared.op.Origin.TheVariants.{Arg, Out}
use Rattle.g_graph.specs.Plain.{RegionTree, region, NodeTree, node, NodeTrees, no_nodes, node_then, RegionTrees, no_regions, region_then, count_of, args_of, PlainLambda}
use Rattle.g_graph.specs.Ids.{region_ids}
use Rattle.g_graph.specs.Signatures.{outputs_of, output_kinds, result_kinds, inputs_of}
use Rattle.g_graph.specs.Change.{has_node}
use Rattle.g_graph.specs.WellFormed.{some_of, kinds_of, region_fits, every_region, every_in_regions, body_fits, numbers_fit, leaves_fit, all_of, IsWellFormed}
use Rattle.g_graph.specs.Replace.{nodes_redirected}
use Rattle.g_graph.specs.Splice.{joined_nodes}
use Rattle.g_graph.proofs.lemmas.KindLists.{kinds_of_some}
use Rattle.g_graph.proofs.lemmas.Indexes.{same_number_true}
use Rattle.g_graph.proofs.lemmas.Nests.{numbers_numbered, regions_of_well_formed}
use Rattle.g_graph.proofs.lemmas.Nodes.{NodeFits, node_fits_here, KeptWithin}
use Rattle.g_graph.proofs.lemmas.Numbers.{Numbered, numbered_fewer}
use Rattle.g_graph.proofs.lemmas.Redirects.{nodes_unmoved}
use Rattle.g_graph.proofs.lemmas.Unique.{times, equal_back}
use Rattle.g_arena_def.specs.Flat.{in_nodes, in_regions, flat_of}
use Rattle.g_arena_def.specs.Edits.{inputs_at, output_less}
use Rattle.r_edit.specs.Uses.{nodes_read, is_read}
use Rattle.r_edit.specs.Places.{kept, drops_values, place_after}
use Rattle.r_edit.specs.Exits.{regions_giving, output_after, is_gone_output, exits_kept}
use Rattle.r_edit.specs.Entries.{regions_taking, some_reads, is_gone_argument, entries_kept}
use Rattle.r_edit.specs.Variables.{region_looping, loop_reads, variables_kept}
use Rattle.r_edit.proofs.lemmas.Kept.{kept_map, some_fewer}
use Rattle.r_edit.proofs.lemmas.Placed.{not_before, read_after}
use Rattle.r_edit.proofs.lemmas.Exits.{giving_joined}
use Rattle.r_edit.proofs.lemmas.ExitsFit.{gives_kept, exits_are, exits_kept_fit}
use Rattle.r_edit.proofs.lemmas.Entries.{taking_joined}
use Rattle.r_edit.proofs.lemmas.EntriesFit.{region_takes, entries_kept_fit}
use Rattle.r_edit.proofs.lemmas.Variables.{looping_joined}
use Rattle.r_edit.proofs.lemmas.VariablesFit.{variables_kept_fit}
use Rattle.r_sweep.specs.Removals.{from_last, exits_removed, entries_removed, variables_removed}
use Rattle.r_sweep.proofs.lemmas.Regions.{IsAlike, has_none}
use Rattle.r_sweep.proofs.lemmas.Around.{Around}
use Rattle.r_sweep.proofs.lemmas.Inputs.{map_id, inputs_nodes}
use Rattle.r_sweep.proofs.lemmas.Blocks.{Within, state, state_start, state_end, region_now, flat_with, node_now, none_parts, not_after, place}
use Rattle.r_sweep.proofs.lemmas.FromLast.{behind, from_last-kept, from_last-second, origin_out, outputs_are, is_beyond, same_origins, same_nodes}
use Rattle.r_sweep.proofs.lemmas.Composed.{exits_state, entries_state, variables_state, inputs_left}
use Rattle.r_sweep.proofs.lemmas.There.{short_none, short_joined, RegionFits, region_parts, none_beyond, none_before, none_own}
use Rattle.r_sweep.proofs.lemmas.Regional.{results_are, arguments_taken, variables_looped}

-- ---- a node of a well-formed lambda

-- what does not name an output of node n
abbrev pub IsOther : ℕ → Origin → Type 0
IsOther n o = is_beyond n 0 o ≡ false

after_other : (n : ℕ) (ts : List Bool) (o : Origin) → IsOther n o → output_after n ts o ≡ o
after_other n ts (Arg k) h = refl
after_other n ts (Out m q) h = ap (λ t. if t then Out m (place_after ts q) else Out m q) (equal_back n m ∙ first (m == n) (nat_lt q 0) (grind (arith, nat_tests)) h)
  where
    first : (t u : Bool) → u ≡ false → (t && not u) ≡ false → t ≡ false
    first false u e f = refl
    first true true e f = absurd cc
    first true false e f = absurd cc

pub less_fixes : (n k c : ℕ) (o : Origin) → IsOther n o → output_less n k c o ≡ o
less_fixes n k c (Arg j) h = refl
less_fixes n k c (Out m q) h = ap (λ t. if t && (nat_lt k q && nat_lt q c) then Out m (q - 1) else Out m q) (first (m == n) (nat_lt q 0) (grind (arith, nat_tests)) h)
  where
    first : (t u : Bool) → u ≡ false → (t && not u) ≡ false → t ≡ false
    first false u e f = refl
    first true true e f = absurd cc
    first true false e f = absurd cc

out_fixes : {X : Type 0} (n k : ℕ) (ts : List Bool) (xs : List X) (o : Origin) → IsOther n o → origin_out n k ts xs o ≡ o
out_fixes n k [] xs o h = refl
out_fixes n k (true ∷ ts) xs o h = out_fixes n (suc k) ts xs o h
out_fixes n k (false ∷ ts) xs o h =
    let c = length (from_last (λ j ys. remove ys j) (suc k) ts xs) in
    ap (output_less n k c) (out_fixes n (suc k) ts xs o h) ∙ less_fixes n k c o h

-- what is kept of lists that name no output of the node
pub all_fixed : (n : ℕ) (f : Origin → Origin) → ((o : Origin) → IsOther n o → f o ≡ o) → (os : List Origin) → some_of (is_beyond n 0) os ≡ false → map f os ≡ os
all_fixed n f h [] e = refl
all_fixed n f h (o ∷ os) e =
    let both = or_parts (is_beyond n 0 o) (some_of (is_beyond n 0) os) e in
    λ i. h o both.0 i ∷ all_fixed n f h os both.1 i

nodes_fixed : (n : ℕ) (f : Origin → Origin) → ((o : Origin) → IsOther n o → f o ≡ o) → (ns : NodeTrees) → nodes_read (is_beyond n 0) ns ≡ false → nodes_redirected f ns ≡ ns
nodes_fixed n f h no_nodes e = refl
nodes_fixed n f h (node_then (node id op inputs rs) ns) e =
    let both = or_parts (some_of (is_beyond n 0) inputs) (nodes_read (is_beyond n 0) ns) e in
    λ i. node_then (node id op (all_fixed n f h inputs both.0 i) rs) (nodes_fixed n f h ns both.1 i)

-- the interface of a region that is kept
pub alike_by : (r s r' s' : RegionTree) → r' ≡ r → s' ≡ s → (objects : ℕ) → KeptWithin objects r s → IsAlike r' s'
alike_by r s r' s' e f objects k = record {
  args = ap args_of f ∙ k.kept.args ∙ ap args_of (sym e);
  results = ap result_kinds f ∙ k.kept.results ∙ ap result_kinds (sym e);
}

pub count_same : (xs : List (Option Kind)) (ks : List Kind) → xs ≡ map Some ks → length xs ≤ length ks
count_same xs ks e = le_of_eq (ap length e ∙ counted ks)
  where
    counted : (js : List Kind) → length (map Some js) ≡ length js
    counted [] = refl
    counted (j ∷ js) = ap suc (counted js)

-- the node with its regions, and the region
abbrev pub own_node : (n : ℕ) (l : PlainLambda) → Within n l → NodeTree
own_node n l w = node n w.op w.inputs w.regions

abbrev pub whole_region : (n : ℕ) (l : PlainLambda) → Within n l → RegionTree
whole_region n l w = region w.args (joined_nodes w.before (node_then (own_node n l w) w.after)) w.results

-- The region that holds the node is well formed, with all that is nested in it.
pub record Fitting (n : ℕ) (l : PlainLambda) (w : Within n l) : Type 0 where
  pub region : every_region (region_fits (length l.objects)) (whole_region n l w) ≡ true
  pub numbers : Numbered l.next (region_ids (whole_region n l w))

pub numbers_of : (l : PlainLambda) → IsWellFormed l → Numbered l.next (region_ids l.body)
numbers_of l well =
    let to_fits = (and_parts (body_fits l && numbers_fit l && every_region (region_fits (length l.objects)) l.body) (all_of (λ o. leaves_fit o.size 0 o.leaves) l.objects) well).0 in
    let to_numbers = (and_parts (body_fits l && numbers_fit l) (every_region (region_fits (length l.objects)) l.body) to_fits).0 in
    numbers_numbered l (and_parts (body_fits l) (numbers_fit l) to_numbers).1

pub fitting : (n : ℕ) (l : PlainLambda) (w : Within n l) → IsWellFormed l → Fitting n l w
fitting n l w well =
    let test = region_fits (length l.objects) in
    record {
      region = subst (λ r. every_region test r ≡ true) w.is (w.around.parts w.around.here test (ap (every_region test) w.around.is ∙ regions_of_well_formed l well));
      numbers = numbered_fewer l.next (region_ids l.body) (region_ids (whole_region n l w))
          (λ m. omega (arith, w.around.fewer w.around.here m, ap (λ r. times m (region_ids r)) w.around.is, ap (λ r. times m (region_ids r)) w.is)) (numbers_of l well);
    }

-- A node of a lambda, in its region.
module _ (n : ℕ) (l : PlainLambda) (w : Within n l) (well : Fitting n l w) where
  abbrev pub own : NodeTree
  own = own_node n l w

  abbrev pub whole : RegionTree
  whole = whole_region n l w

  abbrev pub fits : every_region (region_fits (length l.objects)) whole ≡ true
  fits = well.region

  pub here : NodeFits (length l.objects) w.args w.before own w.after
  here = node_fits_here (length l.objects) l.next w.args w.before own w.after w.results fits well.numbers

  pub none_first : has_node n w.before ≡ false
  none_first = not_before (length l.objects) w.args w.before own w.after here

  parts : RegionFits (length l.objects) w.args (joined_nodes w.before (node_then own w.after)) w.results
  parts = region_parts (length l.objects) w.args (joined_nodes w.before (node_then own w.after)) w.results fits

  -- neither the nodes before it nor the node itself reads an output of it
  pub unread_before : nodes_read (is_beyond n 0) w.before ≡ false
  unread_before = none_before n (length l.objects) w.args w.before (node_then own w.after) w.results parts none_first

  pub unread_own : some_of (is_beyond n 0) w.inputs ≡ false
  unread_own = none_own n w.args w.before w.inputs (inputs_of w.op (length w.inputs) w.regions) here.inputs none_first

  -- no output beyond those that it has is read
  pub unread_beyond : (c : ℕ) → length (output_kinds own) ≤ c → is_read (is_beyond n c) whole ≡ false
  unread_beyond c h =
      none_beyond n c (length l.objects) w.args (joined_nodes w.before (node_then own w.after)) w.results parts
      (short_joined n c w.before (node_then own w.after) (short_none n c w.before none_first) ((λ e. h), short_none n c w.after none_after))
    where
      none_after : has_node n w.after ≡ false
      none_after = has_none n w.after (not_after n l w)

  -- outputs that go one by one, and at once
  pub uses_follow : (ts : List Bool) (outs : List Kind) (outputs : List Kind) (inputs : List Origin) (rs : RegionTrees) → length (output_kinds own) ≤ length outs → is_read (is_gone_output n ts) whole ≡ false →
      state n l w (origin_out n 0 ts outs) outputs inputs rs ≡ state n l w (output_after n ts) outputs inputs rs
  uses_follow ts outs outputs inputs rs h unread =
      let f = origin_out n 0 ts outs in
      let g = output_after n ts in
      let ns = joined_nodes w.before (node_then own w.after) in
      let gone = or_parts (nodes_read (is_gone_output n ts) ns) (some_of (is_gone_output n ts) w.results) unread in
      let beyond = or_parts (nodes_read (is_beyond n (length outs)) ns) (some_of (is_beyond n (length outs)) w.results) (unread_beyond (length outs) h) in
      let agree = outputs_are n ts outs in
      let results = same_origins f g (is_gone_output n ts) (is_beyond n (length outs)) agree w.results gone.1 beyond.1 in
      let after = same_nodes f g (is_gone_output n ts) (is_beyond n (length outs)) agree w.after (read_after (is_gone_output n ts) w.before own w.after gone.0) (read_after (is_beyond n (length outs)) w.before own w.after beyond.0) in
      let before = nodes_fixed n f (λ o e. out_fixes n 0 ts outs o e) w.before unread_before ∙ sym (nodes_fixed n g (λ o e. after_other n ts o e) w.before unread_before) in
      let p = place n l w in
      let none = none_parts n l w in
      let x = node_now n l w outputs inputs rs in
      let bs : map (inputs_at p f) (in_nodes p w.before) ≡ map (inputs_at p g) (in_nodes p w.before) =
      inputs_nodes p f w.before none.0 ∙ ap (in_nodes p) before ∙ sym (inputs_nodes p g w.before none.0) in
      let xs : map (inputs_at p f) (in_nodes p w.after) ≡ map (inputs_at p g) (in_nodes p w.after) =
      inputs_nodes p f w.after none.2 ∙ ap (in_nodes p) after ∙ sym (inputs_nodes p g w.after none.2) in
      λ i. flat_with n l w (record { args = w.args; results = results i }) (bs i ++ (x ∷ (in_regions n 0 rs ++ (xs i ++ w.around.after))))

  -- nodes before it keep their uses
  pub before_stay : (f : Origin → Origin) → ((o : Origin) → is_beyond n 0 o ≡ false → f o ≡ o) → map (inputs_at (place n l w) f) (in_nodes (place n l w) w.before) ≡ in_nodes (place n l w) w.before
  before_stay f h = inputs_nodes (place n l w) f w.before (none_parts n l w).0 ∙ ap (in_nodes (place n l w)) (nodes_fixed n f h w.before unread_before)

-- ---- a Gamma

-- a Gamma gives the same where arguments go that no region reads
gives_same : (ts : List Bool) (objects : ℕ) (rs : RegionTrees) → some_reads ts rs ≡ false → every_in_regions (region_fits objects) rs ≡ true →
    outputs_of Gamma (regions_taking ts rs) ≡ outputs_of Gamma rs
gives_same ts objects no_regions u h = refl
gives_same ts objects (region_then (region args nodes results) rs) u h =
    (region_takes ts objects args nodes results (or_parts (is_read (is_gone_argument ts) (region args nodes results)) (some_reads ts rs) u).0
    (and_parts (every_region (region_fits objects) (region args nodes results)) (every_in_regions (region_fits objects) rs) h).0).0

module _ (n : ℕ) (l : PlainLambda) (z : Around n l) (args : List Kind) (before : NodeTrees) (inputs : List Origin) (rs : RegionTrees) (after : NodeTrees) (results : List Origin)
    (is : z.here ≡ region args (joined_nodes before (node_then (node n Gamma inputs rs) after)) results) where
  abbrev pub gamma_within : Within n l
  gamma_within = record { around = z; args = args; before = before; op = Gamma; inputs = inputs; regions = rs; after = after; results = results; is = is }

module _ (n : ℕ) (l : PlainLambda) (z : Around n l) (args : List Kind) (before : NodeTrees) (inputs : List Origin) (rs : RegionTrees) (after : NodeTrees) (results : List Origin)
    (is : z.here ≡ region args (joined_nodes before (node_then (node n Gamma inputs rs) after)) results) (well : Fitting n l (gamma_within n l z args before inputs rs after results is))
    (ts : List Bool) where
  abbrev gamma : Within n l
  gamma = gamma_within n l z args before inputs rs after results is

  abbrev whole_gamma : RegionTree
  whole_gamma = region args (joined_nodes before (node_then (node n Gamma inputs rs) after)) results

  -- its exit variables
  pub exits_go : drops_values ts (outputs_of Gamma rs) ≡ true → is_read (is_gone_output n ts) z.here ≡ false →
      exits_removed n (count_of rs) ts (flat_of l) ≡ flat_of (record l { body = z.fill (exits_kept n ts z.here) })
  exits_go values unread =
      let objects = length l.objects in
      let unread_whole = subst (λ r. is_read (is_gone_output n ts) r ≡ false) is unread in
      let fit = exits_kept_fit ts objects args before n inputs rs after (here n l gamma well) values results (fits n l gamma well) unread_whole in
      let outs = kinds_of (outputs_of Gamma rs) in
      let exits = exits_are ts n inputs rs (here n l gamma well).regions in
      let now : region_now n l gamma (output_after n ts) inputs (regions_giving ts rs) ≡ exits_kept n ts whole_gamma =
      ap (λ ns. region args ns (map (output_after n ts) results)) (sym (giving_joined ts n before (node n Gamma inputs rs) after (none_first n l gamma well) (same_number_true n))) in
      let alike : IsAlike z.here (region_now n l gamma (output_after n ts) inputs (regions_giving ts rs)) =
      alike_by whole_gamma (exits_kept n ts whole_gamma) z.here (region_now n l gamma (output_after n ts) inputs (regions_giving ts rs)) is now objects fit in
      let outputs : from_last (λ j ys. remove ys j) 0 ts outs ≡ kinds_of (outputs_of Gamma (regions_giving ts rs)) =
      from_last-kept 0 ts outs ∙ sym (ap kinds_of (gives_kept ts rs ∙ ap (kept ts) exits ∙ sym (kept_map ts Some outs)) ∙ kinds_of_some (kept ts outs)) in
      let short : length (outputs_of Gamma rs) ≤ length outs = count_same (outputs_of Gamma rs) outs exits in
      ap (exits_removed n (count_of rs) ts) (state_start n l gamma) ∙ exits_state n l gamma (count_of rs) 0 ts outs inputs rs refl
      ∙ (λ i. state n l gamma (origin_out n 0 ts outs) (outputs i) (all_fixed n (origin_out n 0 ts outs) (λ o e. out_fixes n 0 ts outs o e) inputs (unread_own n l gamma well) i) (results_are ts rs i))
      ∙ uses_follow n l gamma well ts outs (kinds_of (outputs_of Gamma (regions_giving ts rs))) inputs (regions_giving ts rs) short unread_whole
      ∙ state_end n l gamma (output_after n ts) inputs (regions_giving ts rs) alike (before_stay n l gamma well (output_after n ts) (λ o e. after_other n ts o e))
      ∙ ap (λ r. flat_of (record l { body = z.fill r })) (now ∙ ap (exits_kept n ts) (sym is))

  -- its entry variables
  pub entries_go : some_reads ts rs ≡ false → entries_removed n (count_of rs) ts (flat_of l) ≡ flat_of (record l { body = z.fill (entries_kept n ts z.here) })
  entries_go unread =
      let objects = length l.objects in
      let fit = entries_kept_fit ts objects args before n inputs rs after (here n l gamma well) unread results (fits n l gamma well) in
      let outs = kinds_of (outputs_of Gamma rs) in
      let left = kept (true ∷ ts) inputs in
      let now : region_now n l gamma (λ o. o) left (regions_taking ts rs) ≡ entries_kept n ts whole_gamma =
      (λ i. region args (joined_nodes before (node_then (node n Gamma left (regions_taking ts rs)) (nodes_unmoved (λ o. o) (λ o. refl) after i))) (map_id results i))
      ∙ ap (λ ns. region args ns results) (sym (taking_joined ts n before (node n Gamma inputs rs) after (none_first n l gamma well) (same_number_true n))) in
      let alike : IsAlike z.here (region_now n l gamma (λ o. o) left (regions_taking ts rs)) =
      alike_by whole_gamma (entries_kept n ts whole_gamma) z.here (region_now n l gamma (λ o. o) left (regions_taking ts rs)) is now objects fit in
      let outputs : outs ≡ kinds_of (outputs_of Gamma (regions_taking ts rs)) = ap kinds_of (sym (gives_same ts objects rs unread (here n l gamma well).inside)) in
      ap (entries_removed n (count_of rs) ts) (state_start n l gamma) ∙ entries_state n l gamma (count_of rs) 0 ts (λ o. o) outs inputs rs refl (omega arith)
      ∙ (λ i. state n l gamma (λ o. o) (outputs i) ((from_last-second 0 ts inputs ∙ from_last-kept 1 ts inputs) i) (arguments_taken objects ts rs (here n l gamma well).inside unread i))
      ∙ state_end n l gamma (λ o. o) left (regions_taking ts rs) alike (before_stay n l gamma well (λ o. o) (λ o e. refl))
      ∙ ap (λ r. flat_of (record l { body = z.fill r })) (now ∙ ap (entries_kept n ts) (sym is))

-- ---- a Theta

inputs_are_left : (n k : ℕ) (ts : List Bool) (outs : List Kind) (is : List Origin) → some_of (is_beyond n 0) is ≡ false → inputs_left n k ts outs is ≡ from_last (λ j ys. remove ys j) k ts is
inputs_are_left n k [] outs is h = refl
inputs_are_left n k (true ∷ ts) outs is h = inputs_are_left n (suc k) ts outs is h
inputs_are_left n k (false ∷ ts) outs is h =
    let c = length (from_last (λ j ys. remove ys j) (suc k) ts outs) in
    let left = from_last (λ j ys. remove ys j) (suc k) ts is in
    let fewer : some_of (is_beyond n 0) left ≡ false =
    ap (some_of (is_beyond n 0)) (from_last-kept (suc k) ts is) ∙ some_fewer (is_beyond n 0) (behind (suc k) ts) is h in
    ap (λ js. remove (map (output_less n k c) js) k) (inputs_are_left n (suc k) ts outs is h)
    ∙ ap (λ js. remove js k) (all_fixed n (output_less n k c) (λ o e. less_fixes n k c o e) left fewer)

module _ (n : ℕ) (l : PlainLambda) (z : Around n l) (args : List Kind) (before : NodeTrees) (inputs : List Origin) (own : List Kind) (nodes : NodeTrees) (outs : List Origin) (after : NodeTrees)
    (results : List Origin) (is : z.here ≡ region args (joined_nodes before (node_then (node n Theta inputs (region_then (region own nodes outs) no_regions)) after)) results) where
  abbrev pub theta_within : Within n l
  theta_within = record { around = z; args = args; before = before; op = Theta; inputs = inputs; regions = region_then (region own nodes outs) no_regions; after = after; results = results; is = is }

module _ (n : ℕ) (l : PlainLambda) (z : Around n l) (args : List Kind) (before : NodeTrees) (inputs : List Origin) (own : List Kind) (nodes : NodeTrees) (outs : List Origin) (after : NodeTrees)
    (results : List Origin) (is : z.here ≡ region args (joined_nodes before (node_then (node n Theta inputs (region_then (region own nodes outs) no_regions)) after)) results)
    (well : Fitting n l (theta_within n l z args before inputs own nodes outs after results is)) (ts : List Bool) where
  abbrev rs : RegionTrees
  rs = region_then (region own nodes outs) no_regions

  abbrev theta : Within n l
  theta = theta_within n l z args before inputs own nodes outs after results is

  abbrev whole_theta : RegionTree
  whole_theta = region args (joined_nodes before (node_then (node n Theta inputs rs) after)) results

  -- its loop variables
  pub variables_go : drops_values ts (map Some own) ≡ true → loop_reads ts (region own nodes outs) ≡ false → is_read (is_gone_output n ts) z.here ≡ false →
      variables_removed n ts (flat_of l) ≡ flat_of (record l { body = z.fill (variables_kept n ts z.here) })
  variables_go values loops unread =
      let objects = length l.objects in
      let unread_whole = subst (λ r. is_read (is_gone_output n ts) r ≡ false) is unread in
      let fit = variables_kept_fit ts objects args before n inputs own nodes outs after (here n l theta well) values loops results (fits n l theta well) unread_whole in
      let left = kept ts inputs in
      let qs = region_then (region_looping ts (region own nodes outs)) no_regions in
      let given : kinds_of (map Some own) ≡ own = kinds_of_some own in
      let now : region_now n l theta (output_after n ts) left qs ≡ variables_kept n ts whole_theta =
      ap (λ ns. region args ns (map (output_after n ts) results)) (sym (looping_joined ts n before (node n Theta inputs rs) after (none_first n l theta well) (same_number_true n))) in
      let alike : IsAlike z.here (region_now n l theta (output_after n ts) left qs) =
      alike_by whole_theta (variables_kept n ts whole_theta) z.here (region_now n l theta (output_after n ts) left qs) is now objects fit in
      let outputs : from_last (λ j ys. remove ys j) 0 ts (kinds_of (map Some own)) ≡ kinds_of (map Some (kept ts own)) =
      from_last-kept 0 ts (kinds_of (map Some own)) ∙ ap (kept ts) given ∙ sym (kinds_of_some (kept ts own)) in
      let short : length (map Some own) ≤ length (kinds_of (map Some own)) = count_same (map Some own) (kinds_of (map Some own)) (ap (map Some) (sym given)) in
      let inside = (and_parts (every_region (region_fits objects) (region own nodes outs)) true (here n l theta well).inside).0 in
      ap (variables_removed n ts) (state_start n l theta) ∙ variables_state n l theta 0 ts (kinds_of (map Some own)) inputs rs refl (omega arith)
      ∙ (λ i. state n l theta (origin_out n 0 ts (kinds_of (map Some own))) (outputs i)
      ((inputs_are_left n 0 ts (kinds_of (map Some own)) inputs (unread_own n l theta well) ∙ from_last-kept 0 ts inputs) i) (variables_looped objects ts own nodes outs inside loops i))
      ∙ uses_follow n l theta well ts (kinds_of (map Some own)) (kinds_of (map Some (kept ts own))) left qs short unread_whole
      ∙ state_end n l theta (output_after n ts) left qs alike (before_stay n l theta well (output_after n ts) (λ o e. after_other n ts o e))
      ∙ ap (λ r. flat_of (record l { body = z.fill r })) (now ∙ ap (variables_kept n ts) (sym is))
