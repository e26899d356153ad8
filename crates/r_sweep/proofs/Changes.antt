-- The laws of changes of a list of nodes.
use Rattle.std.proofs.Common.{◌≡◌, ◌+◌, ℕ, suc, ◌==◌, not, Bool, true, false, Some, List, [], ◌∷◌, map, length, refl, sym, ap, subst, ◌∙◌, arith}
use Rattle.std.specs.Prelude.{slice_get}
use Rattle.std.proofs.lemmas.Bool.{and_parts, or_from}
use Rattle.std.proofs.lemmas.Option.{same_Some}
use Rattle.g_graph.specs.declared.op.Kind.{Kind}
use Rattle.g_graph.specs.declared.op.Kind.TheVariants.{Memory, Io}
use Rattle.g_graph.specs.declared.op.Op.TheVariants.{Gamma, Theta}
use Rattle.g_graph.specs.declared.op.Origin.{Origin}
use Rattle.g_graph.specs.declared.op.Origin.TheVariants.{Arg, Out}
use Rattle.g_graph.specs.Plain.{region, NodeTrees, node, node_then, RegionTrees, no_regions, region_then, count_of, PlainLambda}
use Rattle.g_graph.specs.Signatures.{outputs_of}
use Rattle.g_graph.specs.Scope.{is_of, same_origin}
use Rattle.g_graph.specs.Replace.{region_redirected, origin_replaced}
use Rattle.g_graph.specs.Change.{lambda_changed, in_region_of}
use Rattle.g_graph.specs.WellFormed.{some_of, kinds_of, region_fits, every_region, IsWellFormed}
use Rattle.g_graph.specs.Splice.{joined_nodes}
use Rattle.g_graph.specs.Nodes.{is_used}
use Rattle.g_graph.proofs.lemmas.Nests.{regions_of_well_formed}
use Rattle.g_graph.proofs.lemmas.Unique.{same_number}
use Rattle.g_mean.specs.Silent.{GivesNoState}
use Rattle.g_arena_def.specs.Flat.{FlatRegion, FlatNode, Flat, place_in, region_flat, regions_flat, flat_of}
use Rattle.g_arena_def.specs.Reads.{found, kind_in, times, input_uses, uses_in}
use Rattle.g_arena_def.specs.Edits.{node_removed}
use Rattle.r_edit.specs.Uses.{is_read, is_output_of}
use Rattle.r_edit.specs.Places.{stays_at, kept, drops_values}
use Rattle.r_edit.specs.Exits.{is_gone_output, exits_kept}
use Rattle.r_edit.specs.Entries.{some_reads, is_gone_argument, entries_kept}
use Rattle.r_edit.specs.Removal.{region_without}
use Rattle.r_edit.specs.Variables.{loop_reads, variables_kept}
use Rattle.r_sweep.specs.Removals.{exits_removed, entries_removed, variables_removed, uses_moved}
use Rattle.r_sweep.specs.Laws.{AreUnused, IsDead, NodesGo, ExitsGo, EntriesGo, VariablesGo, UsesMove}
use Rattle.r_sweep.proofs.lemmas.Blocks.{Within}
use Rattle.r_sweep.proofs.lemmas.Kept.{Fitting, fitting, gamma_within, theta_within, exits_go, entries_go, variables_go}
use Rattle.r_sweep.proofs.lemmas.NodeGoes.{node_goes}
use Rattle.r_sweep.proofs.lemmas.Reading.{times_in, inner_times, nth_region, unused, unread, start_node, node_is_found, inputs_below, uses_below}
use Rattle.r_sweep.proofs.lemmas.Kinds.{uses_go}
use Rattle.r_sweep.proofs.lemmas.Standing.{within, change_is, own_kinds, states_are, not_read}

stays_gone : (ts : List Bool) (k : ℕ) → not (stays_at ts k) ≡ true → stays_at ts k ≡ false
stays_gone ts k e = by (stays_at ts k) e
  where
    by : (t : Bool) → not t ≡ true → t ≡ false
    by false d = refl
    by true d = absurd cc

regions_count : (rs : RegionTrees) → length (regions_flat rs) ≡ count_of rs
regions_count no_regions = refl
regions_count (region_then r rs) = ap suc (regions_count rs)

-- ---- the node that is found is the node in its region

module _ (l : PlainLambda) (well : IsWellFormed l) (n : ℕ) (x : FlatNode) (e : found n (flat_of l).nodes ≡ Some x) where
  w : Within n l
  w = within n l x well e

  fit : Fitting n l w
  fit = fitting n l w well

  node_is : start_node n l w ≡ x
  node_is = same_Some (start_node n l w) x (sym (node_is_found n l w) ∙ e)

  home_is : w.around.place ≡ x.home
  home_is = ap (λ (y : FlatNode). y.home) node_is

  outputs_are : kinds_of (outputs_of w.op w.regions) ≡ x.outputs
  outputs_are = ap (λ (y : FlatNode). y.outputs) node_is

  op_is : w.op ≡ x.op
  op_is = ap (λ (y : FlatNode). y.op) node_is

  regions_are : count_of w.regions ≡ length x.regions
  regions_are = sym (regions_count w.regions) ∙ ap (λ (y : FlatNode). length y.regions) node_is

  uses_are : (k : ℕ) → uses_in x.home (Out n k) (flat_of l) ≡ 0 → uses_in w.around.place (Out n k) (flat_of l) ≡ 0
  uses_are k u = ap (λ p. uses_in p (Out n k) (flat_of l)) home_is ∙ u

  -- outputs that go are not read
  gone_unread : (ts : List Bool) → AreUnused n x ts (flat_of l) → is_read (is_gone_output n ts) w.around.here ≡ false
  gone_unread ts h =
      not_read n l w fit (is_gone_output n ts) (λ j. refl)
      (λ m k t. sym (same_number n m (and_parts (n == m) (not (stays_at ts k)) t).0))
      (λ k t b. uses_are k (h.unused k (stays_gone ts k (and_parts (n == n) (not (stays_at ts k)) t).1) (omega (arith, b, ap length outputs_are))))

  gone_values : (ts : List Bool) → AreUnused n x ts (flat_of l) → drops_values ts (outputs_of w.op w.regions) ≡ true
  gone_values ts h = ap (drops_values ts) (own_kinds n l w fit ∙ ap (map Some) outputs_are) ∙ h.values

  -- arguments that go are not read
  reads_none : (ts : List Bool) (rs : RegionTrees) → ((j k : ℕ) → stays_at ts k ≡ false → times_in (Arg k) (nth_region j rs) ≡ 0) → some_reads ts rs ≡ false
  reads_none ts no_regions h = refl
  reads_none ts (region_then r rs) h = or_from (is_read (is_gone_argument ts) r) (some_reads ts rs) (unread (is_gone_argument ts) r by) (reads_none ts rs (λ j k s. h (suc j) k s))
    where
      by : (o : Origin) → is_gone_argument ts o ≡ true → is_used o r ≡ false
      by (Arg k) g = unused (Arg k) r (h 0 k (stays_gone ts k g))
      by (Out m k) g = absurd cc

  silent : IsDead n x (flat_of l) → GivesNoState (node n w.op w.inputs w.regions)
  silent h = record {
    memory = ap (some_of (is_of Memory)) (own_kinds n l w fit ∙ ap (map Some) outputs_are) ∙ states_are Memory x.outputs ∙ h.memory;
    io = ap (some_of (is_of Io)) (own_kinds n l w fit ∙ ap (map Some) outputs_are) ∙ states_are Io x.outputs ∙ h.io;
  }

  node_removed_is : IsDead n x (flat_of l) → node_removed n (flat_of l) ≡ flat_of (lambda_changed (in_region_of n (region_without n)) l)
  node_removed_is h =
      let unused_outputs = not_read n l w fit (is_output_of n) (λ j. refl) (λ m k t. sym (same_number n m t)) (λ k t b. uses_are k (h.unused k (omega (arith, b, ap length outputs_are)))) in
      node_goes n l w fit (silent h) unused_outputs ∙ ap flat_of (sym (change_is n l w.around (region_without n)))

  exits_removed_are : (ts : List Bool) → x.op ≡ Gamma → AreUnused n x ts (flat_of l) → exits_removed n (length x.regions) ts (flat_of l) ≡ flat_of (lambda_changed (in_region_of n (exits_kept n ts)) l)
  exits_removed_are ts g h =
      let op = op_is ∙ g in
      let is = w.is ∙ ap (λ o. region w.args (joined_nodes w.before (node_then (node n o w.inputs w.regions) w.after)) w.results) op in
      let values = ap (λ o. drops_values ts (outputs_of o w.regions)) (sym op) ∙ gone_values ts h in
      ap (λ c. exits_removed n c ts (flat_of l)) (sym regions_are)
      ∙ exits_go n l w.around w.args w.before w.inputs w.regions w.after w.results is (fitting n l (gamma_within n l w.around w.args w.before w.inputs w.regions w.after w.results is) well) ts values (gone_unread ts h)
      ∙ ap flat_of (sym (change_is n l w.around (exits_kept n ts)))

  entries_removed_are : (ts : List Bool) → x.op ≡ Gamma → ((j k : ℕ) → stays_at ts k ≡ false → uses_in (place_in n j) (Arg k) (flat_of l) ≡ 0) →
      entries_removed n (length x.regions) ts (flat_of l) ≡ flat_of (lambda_changed (in_region_of n (entries_kept n ts)) l)
  entries_removed_are ts g h =
      let is = w.is ∙ ap (λ o. region w.args (joined_nodes w.before (node_then (node n o w.inputs w.regions) w.after)) w.results) (op_is ∙ g) in
      ap (λ c. entries_removed n c ts (flat_of l)) (sym regions_are)
      ∙ entries_go n l w.around w.args w.before w.inputs w.regions w.after w.results is (fitting n l (gamma_within n l w.around w.args w.before w.inputs w.regions w.after w.results is) well) ts (reads_none ts w.regions (λ j k s. sym (uses_below n l w j (Arg k)) ∙ h j k s))
      ∙ ap flat_of (sym (change_is n l w.around (entries_kept n ts)))

  variables_removed_are : (r : FlatRegion) (ts : List Bool) → x.op ≡ Theta → x.regions ≡ r ∷ [] → AreUnused n x ts (flat_of l) →
      ((k : ℕ) → stays_at ts k ≡ false → input_uses (place_in n 0) (Arg k) (flat_of l).nodes + times (Arg k) (kept (true ∷ ts) r.results) ≡ 0) →
      variables_removed n ts (flat_of l) ≡ flat_of (lambda_changed (in_region_of n (variables_kept n ts)) l)
  variables_removed_are r ts g one h loops = by w.regions refl
    where
      same_regions : regions_flat w.regions ≡ r ∷ []
      same_regions = ap (λ (y : FlatNode). y.regions) node_is ∙ one

      by_region : (own : List Kind) (nodes : NodeTrees) (outs : List Origin) → w.regions ≡ region_then (region own nodes outs) no_regions → record { args = own; results = outs } ≡ r →
          variables_removed n ts (flat_of l) ≡ flat_of (lambda_changed (in_region_of n (variables_kept n ts)) l)
      by_region own nodes outs rs record_is =
          let q = region_then (region own nodes outs) no_regions in
          let op = op_is ∙ g in
          let is = w.is ∙ (λ i. region w.args (joined_nodes w.before (node_then (node n (op i) w.inputs (rs i)) w.after)) w.results) in
          let well_fitting = fitting n l (theta_within n l w.around w.args w.before w.inputs own nodes outs w.after w.results is) well in
          let values : drops_values ts (map Some own) ≡ true = (λ i. drops_values ts (outputs_of (sym op i) (sym rs i))) ∙ gone_values ts h in
          let results : outs ≡ r.results = ap (λ (s : FlatRegion). s.results) record_is in
          let inner : (k : ℕ) → input_uses (place_in n 0) (Arg k) (flat_of l).nodes ≡ inner_times (Arg k) (Some (region own nodes outs)) =
          λ k. inputs_below n l w 0 (Arg k) ∙ ap (λ ss. inner_times (Arg k) (nth_region 0 ss)) rs in
          let reads : loop_reads ts (region own nodes outs) ≡ false =
          unread (is_gone_argument ts) (region own nodes (kept (true ∷ ts) outs)) (λ o t. argument own nodes outs results inner o t) in
          variables_go n l w.around w.args w.before w.inputs own nodes outs w.after w.results is well_fitting ts values reads (gone_unread ts h)
          ∙ ap flat_of (sym (change_is n l w.around (variables_kept n ts)))
        where
          argument : (own : List Kind) (nodes : NodeTrees) (outs : List Origin) → outs ≡ r.results →
              ((k : ℕ) → input_uses (place_in n 0) (Arg k) (flat_of l).nodes ≡ inner_times (Arg k) (Some (region own nodes outs))) →
              (o : Origin) → is_gone_argument ts o ≡ true → is_used o (region own nodes (kept (true ∷ ts) outs)) ≡ false
          argument own nodes outs results inner (Arg k) t =
              unused (Arg k) (region own nodes (kept (true ∷ ts) outs))
              (omega (arith, loops k (stays_gone ts k t), inner k, ap (λ os. times (Arg k) (kept (true ∷ ts) os)) results))
          argument own nodes outs results inner (Out m k) t = absurd cc

      by : (rs : RegionTrees) → w.regions ≡ rs → variables_removed n ts (flat_of l) ≡ flat_of (lambda_changed (in_region_of n (variables_kept n ts)) l)
      by no_regions rs =
          let none : [] ≡ r ∷ [] = ap regions_flat (sym rs) ∙ same_regions in
          absurd cc
      by (region_then (region own nodes outs) no_regions) rs =
          let first : record { args = own; results = outs } ∷ [] ≡ r ∷ [] = ap regions_flat (sym rs) ∙ same_regions in
          by_region own nodes outs rs (same_Some _ _ (ap (λ ys. slice_get ys 0) first))
      by (region_then q (region_then q' qs)) rs =
          let two : region_flat q ∷ (region_flat q' ∷ regions_flat qs) ≡ r ∷ [] = ap regions_flat (sym rs) ∙ same_regions in
          absurd cc

  uses_moved_are : (from to : Origin) → same_origin from to ≡ false → kind_in x.home from (flat_of l) ≡ kind_in x.home to (flat_of l) →
      uses_moved x.home from to (flat_of l) ≡ flat_of (lambda_changed (in_region_of n (region_redirected (origin_replaced from to))) l)
  uses_moved_are from to other same =
      let test = region_fits (length l.objects) in
      let fits = w.around.parts w.around.here test (ap (every_region test) w.around.is ∙ regions_of_well_formed l well) in
      ap (λ p. uses_moved p from to (flat_of l)) (sym home_is)
      ∙ uses_go n l w.around from to fits other (ap (λ p. kind_in p from (flat_of l)) home_is ∙ same ∙ ap (λ p. kind_in p to (flat_of l)) (sym home_is))
      ∙ ap flat_of (sym (change_is n l w.around (region_redirected (origin_replaced from to))))

pub nodes_go : NodesGo
nodes_go a l n x s well e h =
    ap (node_removed n) s ∙ node_removed_is l well n x (ap (λ (b : Flat). found n b.nodes) (sym s) ∙ e) (subst (IsDead n x) s h)

pub exits_go_too : ExitsGo
exits_go_too a l n x ts s well e g h =
    ap (exits_removed n (length x.regions) ts) s ∙ exits_removed_are l well n x (ap (λ (b : Flat). found n b.nodes) (sym s) ∙ e) ts g (subst (AreUnused n x ts) s h)

pub entries_go_too : EntriesGo
entries_go_too a l n x ts s well e g h =
    ap (entries_removed n (length x.regions) ts) s
    ∙ entries_removed_are l well n x (ap (λ (b : Flat). found n b.nodes) (sym s) ∙ e) ts g (λ j k t. ap (uses_in (place_in n j) (Arg k)) (sym s) ∙ h j k t)

pub variables_go_too : VariablesGo
variables_go_too a l n x r ts s well e g one h loops =
    ap (variables_removed n ts) s
    ∙ variables_removed_are l well n x (ap (λ (b : Flat). found n b.nodes) (sym s) ∙ e) r ts g one (subst (AreUnused n x ts) s h)
    (λ k t. ap (λ (b : Flat). input_uses (place_in n 0) (Arg k) b.nodes + times (Arg k) (kept (true ∷ ts) r.results)) (sym s) ∙ loops k t)

pub uses_go_too : UsesMove
uses_go_too a l n x from to s well e other same =
    ap (uses_moved x.home from to) s
    ∙ uses_moved_are l well n x (ap (λ (b : Flat). found n b.nodes) (sym s) ∙ e) from to other
    (ap (kind_in x.home from) (sym s) ∙ same ∙ ap (kind_in x.home to) s)
