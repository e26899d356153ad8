-- The rule on the list of nodes of a well-formed lambda is the rule on the lambda.
use Rattle.std.proofs.Common.{◌≡◌, ◌≤◌, ◌+◌, ℕ, suc, ◌==◌, ◌&&◌, ◌||◌, not, nat_lt, Bool, true, false, None, Some, option_map, List, ◌∷◌, map, length, refl, sym, ap, subst, ◌∙◌, arith}
use Rattle.std.specs.Prelude.{if◌then◌else◌}
use Rattle.std.proofs.lemmas.Bool.{and_parts, or_parts, or_from}
use Rattle.g_graph.specs.declared.op.Kind.{Kind}
use Rattle.g_graph.specs.declared.op.Kind.TheVariants.{Memory, Io}
use Rattle.g_graph.specs.declared.op.Op.{Op}
use Rattle.g_graph.specs.declared.op.Op.TheVariants.{Gamma, Theta}
use Rattle.g_graph.specs.declared.op.Origin.{Origin}
use Rattle.g_graph.specs.declared.op.Origin.TheVariants.{Arg, Out}
use Rattle.g_graph.specs.Plain.{RegionTree, region, NodeTree, node, NodeTrees, node_then, RegionTrees, no_regions, region_then, count_of, nodes_in, PlainLambda}
use Rattle.g_graph.specs.Ids.{region_ids}
use Rattle.g_graph.specs.Signatures.{first_args, outputs_of, output_kinds}
use Rattle.g_graph.specs.Scope.{is_of, same_origin}
use Rattle.g_graph.specs.Change.{has_node}
use Rattle.g_graph.specs.WellFormed.{some_of, kinds_of, region_fits, every_region, IsWellFormed}
use Rattle.g_graph.specs.Nodes.{nodes_use, is_used}
use Rattle.g_graph.specs.Replace.{nodes_redirected}
use Rattle.g_graph.specs.Splice.{joined_nodes}
use Rattle.g_graph.proofs.lemmas.Indexes.{same_number_true, has_node-joined}
use Rattle.g_graph.proofs.lemmas.Nodes.{KeptWithin}
use Rattle.g_graph.proofs.lemmas.Numbers.{numbered_fewer}
use Rattle.g_graph.proofs.lemmas.Unique.{times, same_number}
use Rattle.g_arena_def.specs.Flat.{FlatRegion, FlatNode, Flat, regions_flat, flat_of}
use Rattle.g_arena_def.specs.Reads.{uses_in}
use Rattle.g_arena_def.specs.Edits.{node_removed}
use Rattle.r_edit.specs.Places.{stays_at, kept, drops_values}
use Rattle.r_edit.specs.InPlace.{all_stay}
use Rattle.r_edit.specs.Uses.{is_read, is_output_of}
use Rattle.r_edit.specs.Removal.{region_without}
use Rattle.r_edit.specs.Exits.{regions_giving, output_after, is_gone_output, exits_kept}
use Rattle.r_edit.specs.Entries.{is_gone_argument, entries_kept}
use Rattle.r_edit.specs.Variables.{loop_reads, variables_kept}
use Rattle.r_edit.proofs.lemmas.Exits.{giving_joined}
use Rattle.r_edit.proofs.lemmas.ExitsFit.{exits_kept_fit}
use Rattle.r_dne.specs.Rule.{gives_state, is_dead, exits_of, entries_of, used_exits, gamma_shrunk, variables_of, theta_shrunk, shrunk, eliminated, dne_here, dne}
use Rattle.r_sweep.specs.Removals.{exits_removed, entries_removed, variables_removed}
use Rattle.r_sweep.proofs.lemmas.Regions.{IsAlike}
use Rattle.r_sweep.proofs.lemmas.Around.{Around, around_other}
use Rattle.r_sweep.proofs.lemmas.Blocks.{Within}
use Rattle.r_sweep.proofs.lemmas.Kept.{Fitting, fitting, here, none_first, gamma_within, theta_within, exits_go, entries_go, variables_go, alike_by}
use Rattle.r_sweep.proofs.lemmas.Listed.{filled, changed_if, change_by, is_listed}
use Rattle.r_sweep.proofs.lemmas.NodeGoes.{node_goes}
use Rattle.r_sweep.proofs.lemmas.Reading.{unread, not_used, start_node, uses_here, uses_below}
use Rattle.r_sweep.proofs.lemmas.Standing.{own_kinds, states_are, not_read}
use Rattle.r_sweep_def.proofs.lemmas.{listed_sweeps}
use Rattle.r_dne.specs.Listed.{has_use, some_output_used, gives_some_state, is_dead_in, used_arguments, arguments_of, exits_in, without_exits, entries_in, gamma_in, used_loops, theta_in, shrunk_in, eliminated_in, dne_in}
use Rattle.r_dne.specs.SweepLaws.{DneIsListed, dne_change, DneSweepsAreListed}
use Rattle.r_dne.proofs.ListTests.{less_none, same_test, used_is, none_used, output_unused, exits_are_same, exits_are_values, exit_unused, arguments_are_same, entries_unread, loops_are_same, loops_are_values, LoopUnused, loop_unused, kept_others}

unless : {X Y : Type 0} (f : X → Y) (t : Bool) (x : X) → (if t then None else Some (f x)) ≡ option_map f (if t then None else Some x)
unless f true x = refl
unless f false x = refl

regions_count : (rs : RegionTrees) → length (regions_flat rs) ≡ count_of rs
regions_count no_regions = refl
regions_count (region_then r rs) = ap suc (regions_count rs)

-- ---- a node

module _ (n : ℕ) (l : PlainLambda) (w : Within n l) (fit : Fitting n l w) where
  abbrev a : Flat
  a = flat_of l

  abbrev x : FlatNode
  x = start_node n l w

  abbrev h : RegionTree
  h = w.around.here

  abbrev own : NodeTree
  own = node n w.op w.inputs w.regions

  use_is : (o : Origin) → has_use x.home o a ≡ is_used o h
  use_is o = ap (nat_lt 0) (uses_here n l w.around o) ∙ sym (used_is o h)

  read_is : is_read (is_output_of n) h ≡ some_output_used a x.home n 0 x.outputs
  read_is =
      same_test (is_read (is_output_of n) h) (some_output_used a x.home n 0 x.outputs)
      (λ e. none_used a x.home n h use_is (λ k. not_used (is_output_of n) h e (Out n k) (same_number_true n)) 0 x.outputs)
      (λ e. not_read n l w fit (is_output_of n) (λ j. refl) (λ m k t. sym (same_number n m t))
      (λ k t b. let here : 0 + k ≡ k = omega arith in less_none (uses_in x.home (Out n k) a) (ap (λ i. has_use x.home (Out n i) a) (sym here) ∙ output_unused a x.home n h use_is 0 k x.outputs e b)))

  states_same : gives_state own ≡ gives_some_state x
  states_same =
      let kinds = own_kinds n l w fit in
      λ i. (ap (some_of (is_of Memory)) kinds ∙ states_are Memory x.outputs) i || (ap (some_of (is_of Io)) kinds ∙ states_are Io x.outputs) i

  pub dead_is : is_dead h own ≡ is_dead_in a x
  dead_is = λ i. not (states_same i || read_is i)

  pub dead_goes : is_dead h own ≡ true → node_removed n a ≡ filled n l w.around (region_without n h)
  dead_goes e =
      let both = or_parts (gives_state own) (is_read (is_output_of n) h) (not_true_of (gives_state own || is_read (is_output_of n) h) e) in
      let states = or_parts (some_of (is_of Memory) (output_kinds own)) (some_of (is_of Io) (output_kinds own)) both.0 in
      node_goes n l w fit (record { memory = states.0; io = states.1 }) both.1
    where
      not_true_of : (b : Bool) → not b ≡ true → b ≡ false
      not_true_of false q = refl
      not_true_of true q = absurd cc

-- ---- a Gamma

module _ (n : ℕ) (l : PlainLambda) (z : Around n l) (args : List Kind) (before : NodeTrees) (inputs : List Origin) (rs : RegionTrees) (after : NodeTrees) (results : List Origin)
    (is : z.here ≡ region args (joined_nodes before (node_then (node n Gamma inputs rs) after)) results) (fit : Fitting n l (gamma_within n l z args before inputs rs after results is)) where
  abbrev gamma : Within n l
  gamma = gamma_within n l z args before inputs rs after results is

  abbrev gamma_node : FlatNode
  gamma_node = start_node n l gamma

  abbrev ts : List Bool
  ts = exits_of n z.here rs

  abbrev whole_gamma : RegionTree
  whole_gamma = region args (joined_nodes before (node_then (node n Gamma inputs rs) after)) results

  exits_same : exits_in (flat_of l) gamma_node ≡ ts
  exits_same =
      exits_are_same (flat_of l) z.place n z.here (use_is n l gamma fit) 0 (kinds_of (outputs_of Gamma rs)) ∙ ap (used_exits n z.here 0) (sym (own_kinds n l gamma fit))

  values : drops_values ts (outputs_of Gamma rs) ≡ true
  values = exits_are_values n z.here 0 (outputs_of Gamma rs)

  gone_unread : is_read (is_gone_output n ts) z.here ≡ false
  gone_unread = unread (is_gone_output n ts) z.here by
    where
      not_true_of : (b : Bool) → not b ≡ true → b ≡ false
      not_true_of false q = refl
      not_true_of true q = absurd cc

      by : (o : Origin) → is_gone_output n ts o ≡ true → is_used o z.here ≡ false
      by (Arg k) e = absurd cc
      by (Out m k) e =
          let both = and_parts (n == m) (not (stays_at ts k)) e in
          let first : k ≡ 0 + k = omega arith in
          ap (λ i. is_used (Out i k) z.here) (sym (same_number n m both.0)) ∙ ap (λ i. is_used (Out n i) z.here) first
          ∙ exit_unused n z.here 0 k (outputs_of Gamma rs) (not_true_of (stays_at ts k) both.1)

  -- the region without the exits
  abbrev shrunk_region : RegionTree
  shrunk_region = exits_kept n ts z.here

  abbrev giving : RegionTrees
  giving = regions_giving ts rs

  abbrev after_now : NodeTrees
  after_now = nodes_redirected (output_after n ts) after

  abbrev results_now : List Origin
  results_now = map (output_after n ts) results

  shrunk_is : shrunk_region ≡ region args (joined_nodes before (node_then (node n Gamma inputs giving) after_now)) results_now
  shrunk_is =
      ap (exits_kept n ts) is ∙ ap (λ ns. region args ns results_now) (giving_joined ts n before (node n Gamma inputs rs) after (none_first n l gamma fit) (same_number_true n))

  kept_fit : KeptWithin (length l.objects) whole_gamma (exits_kept n ts whole_gamma)
  kept_fit =
      exits_kept_fit ts (length l.objects) args before n inputs rs after (here n l gamma fit) values results fit.region (subst (λ r. is_read (is_gone_output n ts) r ≡ false) is gone_unread)

  fewer : (m : ℕ) → times m (region_ids shrunk_region) ≤ times m (region_ids z.here)
  fewer m = omega (arith, kept_fit.fewer m, ap (λ r. times m (region_ids (exits_kept n ts r))) is, ap (λ r. times m (region_ids r)) is)

  alike : IsAlike z.here shrunk_region
  alike = alike_by whole_gamma (exits_kept n ts whole_gamma) z.here shrunk_region is (ap (exits_kept n ts) is) (length l.objects) kept_fit

  holds : has_node n (nodes_in shrunk_region) ≡ true
  holds =
      ap (λ r. has_node n (nodes_in r)) shrunk_is ∙ has_node-joined n before (node_then (node n Gamma inputs giving) after_now)
      ∙ ap (λ t. has_node n before || (t || has_node n after_now)) (same_number_true n) ∙ either (has_node n before)
    where
      either : (t : Bool) → (t || true) ≡ true
      either true = refl
      either false = refl

  abbrev next : PlainLambda
  next = record l { body = z.fill shrunk_region }

  abbrev next_around : Around n next
  next_around = around_other n l z shrunk_region alike holds fewer

  abbrev next_within : Within n next
  next_within = gamma_within n next next_around args before inputs giving after_now results_now shrunk_is

  next_fit : Fitting n next next_within
  next_fit = record {
    region = ap (every_region (region_fits (length l.objects))) (sym shrunk_is ∙ ap (exits_kept n ts) is) ∙ kept_fit.kept.inside;
    numbers = numbered_fewer l.next (region_ids whole_gamma) (region_ids (region args (joined_nodes before (node_then (node n Gamma inputs giving) after_now)) results_now))
        (λ m. omega (arith, kept_fit.fewer m, ap (λ r. times m (region_ids r)) (sym shrunk_is ∙ ap (exits_kept n ts) is))) fit.numbers;
  }

  exits_gone : without_exits (flat_of l) gamma_node ≡ flat_of next
  exits_gone =
      (λ i. exits_removed n (regions_count rs i) (exits_same i) (flat_of l)) ∙ exits_go n l z args before inputs rs after results is fit ts values gone_unread

  giving_count : count_of giving ≡ count_of rs
  giving_count = by rs
    where
      by : (qs : RegionTrees) → count_of (regions_giving ts qs) ≡ count_of qs
      by no_regions = refl
      by (region_then (region own ns outs) qs) = ap suc (by qs)

  first_are : arguments_of (regions_flat rs) ≡ first_args rs
  first_are = by rs
    where
      by : (qs : RegionTrees) → arguments_of (regions_flat qs) ≡ first_args qs
      by no_regions = refl
      by (region_then (region own ns outs) qs) = refl

  entries_same : entries_in (flat_of l) gamma_node ≡ entries_of n z.here rs
  entries_same =
      (λ i. used_arguments (exits_gone i) n (length (regions_flat rs)) 0 (first_are i))
      ∙ arguments_are_same (flat_of next) n (length (regions_flat rs)) giving (regions_count rs ∙ sym giving_count) (λ j o. uses_below n next next_within j o) 0 (first_args rs)

  entries_gone : entries_removed n (length (regions_flat rs)) (entries_of n z.here rs) (flat_of next) ≡ filled n l z (entries_kept n (entries_of n z.here rs) shrunk_region)
  entries_gone =
      ap (λ c. entries_removed n c (entries_of n z.here rs) (flat_of next)) (regions_count rs ∙ sym giving_count)
      ∙ entries_go n next next_around args before inputs giving after_now results_now shrunk_is next_fit (entries_of n z.here rs) (entries_unread giving (first_args rs))

  pub gamma_is : gamma_in (flat_of l) gamma_node ≡ option_map (filled n l z) (gamma_shrunk n z.here rs)
  gamma_is =
      (λ i. if all_stay (exits_same i) && all_stay (entries_same i) then None else Some (entries_removed n (length (regions_flat rs)) (entries_same i) (exits_gone i)))
      ∙ ap (λ b. if all_stay ts && all_stay (entries_of n z.here rs) then None else Some b) entries_gone
      ∙ unless (filled n l z) (all_stay ts && all_stay (entries_of n z.here rs)) (entries_kept n (entries_of n z.here rs) shrunk_region)

-- ---- a Theta

module _ (n : ℕ) (l : PlainLambda) (z : Around n l) (args : List Kind) (before : NodeTrees) (inputs : List Origin) (own : List Kind) (nodes : NodeTrees) (outs : List Origin) (after : NodeTrees)
    (results : List Origin) (is : z.here ≡ region args (joined_nodes before (node_then (node n Theta inputs (region_then (region own nodes outs) no_regions)) after)) results)
    (fit : Fitting n l (theta_within n l z args before inputs own nodes outs after results is)) where
  abbrev theta : Within n l
  theta = theta_within n l z args before inputs own nodes outs after results is

  abbrev theta_node : FlatNode
  theta_node = start_node n l theta

  abbrev ss : List Bool
  ss = variables_of n z.here (region own nodes outs)

  abbrev theta_record : FlatRegion
  theta_record = record { args = own; results = outs }

  loops_same : used_loops (flat_of l) theta_node theta_record 0 own ≡ ss
  loops_same = loops_are_same (flat_of l) theta_node z.here own own nodes outs (use_is n l theta fit) (λ o. uses_below n l theta 0 o) 0 own

  gone_loop : (k : ℕ) → stays_at ss k ≡ false → LoopUnused n k z.here nodes outs
  gone_loop k s = let first : 0 + k ≡ k = omega arith in subst (λ i. LoopUnused n i z.here nodes outs) first (loop_unused n z.here nodes outs 0 k own s)

  not_staying : (b : Bool) → not b ≡ true → b ≡ false
  not_staying false q = refl
  not_staying true q = absurd cc

  outputs_unread : is_read (is_gone_output n ss) z.here ≡ false
  outputs_unread = unread (is_gone_output n ss) z.here by
    where
      by : (o : Origin) → is_gone_output n ss o ≡ true → is_used o z.here ≡ false
      by (Arg k) e = absurd cc
      by (Out m k) e =
          let both = and_parts (n == m) (not (stays_at ss k)) e in
          ap (λ i. is_used (Out i k) z.here) (sym (same_number n m both.0)) ∙ (gone_loop k (not_staying (stays_at ss k) both.1)).output

  loops_unread : loop_reads ss (region own nodes outs) ≡ false
  loops_unread = unread (is_gone_argument ss) (region own nodes (kept (true ∷ ss) outs)) by
    where
      by : (o : Origin) → is_gone_argument ss o ≡ true → is_used o (region own nodes (kept (true ∷ ss) outs)) ≡ false
      by (Arg k) e =
          let gone = not_staying (stays_at ss k) e in
          let u = gone_loop k gone in
          or_from (nodes_use (Arg k) nodes) (some_of (same_origin (Arg k)) (kept (true ∷ ss) outs)) u.nodes (kept_others (suc k) (Arg k) (true ∷ ss) outs u.others gone)
      by (Out m k) e = absurd cc

  pub theta_is : theta_in (flat_of l) theta_node theta_record ≡ option_map (filled n l z) (theta_shrunk n z.here (region own nodes outs))
  theta_is =
      (λ i. if all_stay (loops_same i) then None else Some (variables_removed n (loops_same i) (flat_of l)))
      ∙ ap (λ b. if all_stay ss then None else Some b)
      (variables_go n l z args before inputs own nodes outs after results is fit ss (loops_are_values n z.here nodes outs 0 own) loops_unread outputs_unread)
      ∙ unless (filled n l z) (all_stay ss) (variables_kept n ss z.here)

-- ---- a node of any op

module _ (n : ℕ) (l : PlainLambda) (z : Around n l) (well : IsWellFormed l) where
  -- a node with these parts
  abbrev parts : (args : List Kind) (before : NodeTrees) (op : Op) (inputs : List Origin) (rs : RegionTrees) (after : NodeTrees) (results : List Origin) →
      z.here ≡ region args (joined_nodes before (node_then (node n op inputs rs) after)) results → Within n l
  parts args before op inputs rs after results is = record { around = z; args = args; before = before; op = op; inputs = inputs; regions = rs; after = after; results = results; is = is }

  shrunk_by : (args : List Kind) (before : NodeTrees) (op : Op) (inputs : List Origin) (rs : RegionTrees) (after : NodeTrees) (results : List Origin)
      (is : z.here ≡ region args (joined_nodes before (node_then (node n op inputs rs) after)) results) →
      shrunk_in op (regions_flat rs) (flat_of l) (start_node n l (parts args before op inputs rs after results is)) ≡ option_map (filled n l z) (shrunk z.here (node n op inputs rs))
  shrunk_by args before Gamma inputs rs after results is =
      gamma_is n l z args before inputs rs after results is (fitting n l (gamma_within n l z args before inputs rs after results is) well)
  shrunk_by args before Theta inputs no_regions after results is = refl
  shrunk_by args before Theta inputs (region_then (region own nodes outs) no_regions) after results is =
      theta_is n l z args before inputs own nodes outs after results is (fitting n l (theta_within n l z args before inputs own nodes outs after results is) well)
  shrunk_by args before Theta inputs (region_then r (region_then s rs)) after results is = refl
  shrunk_by args before op inputs rs after results is = refl

  eliminated_by : (args : List Kind) (before : NodeTrees) (op : Op) (inputs : List Origin) (rs : RegionTrees) (after : NodeTrees) (results : List Origin)
      (is : z.here ≡ region args (joined_nodes before (node_then (node n op inputs rs) after)) results) →
      eliminated_in (flat_of l) (start_node n l (parts args before op inputs rs after results is)) ≡ option_map (filled n l z) (eliminated z.here (node n op inputs rs))
  eliminated_by args before op inputs rs after results is =
      let w = parts args before op inputs rs after results is in
      let fit = fitting n l w well in
      ap (λ t. if t then Some (node_removed n (flat_of l)) else shrunk_in op (regions_flat rs) (flat_of l) (start_node n l w)) (sym (dead_is n l w fit))
      ∙ by (is_dead z.here (node n op inputs rs)) (λ e. dead_goes n l w fit e)
    where
      by : (t : Bool) → (t ≡ true → node_removed n (flat_of l) ≡ filled n l z (region_without n z.here)) →
          (if t then Some (node_removed n (flat_of l)) else shrunk_in op (regions_flat rs) (flat_of l) (start_node n l (parts args before op inputs rs after results is)))
          ≡ option_map (filled n l z) (if t then Some (region_without n z.here) else shrunk z.here (node n op inputs rs))
      by true f = ap Some (f refl)
      by false f = shrunk_by args before op inputs rs after results is

-- ---- the rule at a node

here_is : (n : ℕ) (r : RegionTree) → change_by eliminated n r ≡ dne_here n r
here_is n (region args ns results) = refl

pub dne_is_listed : DneIsListed
dne_is_listed l n well =
    is_listed eliminated eliminated_in n l well (λ w. eliminated_by n l w.around well w.args w.before w.op w.inputs w.regions w.after w.results w.is)
    ∙ (λ i. option_map flat_of (changed_if (λ r. here_is n r i) l))

pub sweeps_are_listed : ((m : ℕ) (k : PlainLambda) → IsWellFormed k → IsWellFormed (dne m k)) → DneSweepsAreListed
sweeps_are_listed keeps l ns steps well = listed_sweeps dne_change dne_in dne_is_listed keeps ns (record { lambda = l; steps = steps }) well
