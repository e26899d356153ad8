-- The change takes the numbers that it says, and makes the lambda as much larger as it says.
use Rattle.std.proofs.Common.{◌≡◌, ◌+◌, ◌≤◌, ℕ, true, ◌&&◌, List, ◌∷◌, ◌++◌, length, nat_le, Some, refl, sym, ap, ◌∙◌, arith}
use Rattle.std.proofs.lemmas.Bool.{and_parts}
use Rattle.std.proofs.lemmas.List.{length-map}
use Rattle.g_graph.specs.declared.op.Kind.{Kind}
use Rattle.g_graph.specs.declared.op.Op.{Op}
use Rattle.g_graph.specs.declared.op.Op.TheVariants.{Const, Undef, Local, Delta, Bin, Un, Load, Store, Clear, PtrEq, Apply, Put, Exit, Get, Gamma, Theta}
use Rattle.g_graph.specs.declared.op.Origin.{Origin}
use Rattle.g_graph.specs.Plain.{RegionTree, region, NodeTree, node, NodeTrees, node_then, RegionTrees, no_regions, args_of}
use Rattle.g_graph.specs.Ids.{region_ids, node_ids, nodes_ids, regions_ids}
use Rattle.g_graph.specs.Signatures.{is_pure, outputs_of, result_kinds}
use Rattle.g_graph.specs.Count.{region_values, node_values, nodes_values, regions_values}
use Rattle.g_graph.specs.Nodes.{node_at}
use Rattle.g_graph.specs.Splice.{joined_nodes}
use Rattle.g_graph.proofs.lemmas.Splices.{nodes_ids-joined, nodes_values-joined}
use Rattle.g_graph.proofs.lemmas.Unique.{times, times_append, times_cons}
use Rattle.r_edit.specs.Entries.{regions_taking}
use Rattle.r_edit.specs.Removal.{nodes_without}
use Rattle.r_edit.specs.Size.{may_change_size, Resized, IsResized}
use Rattle.r_edit.proofs.lemmas.EntriesFit.{ids_same}
use Rattle.r_edit.proofs.lemmas.Pure.{pure-outputs}
use Rattle.r_pull.specs.Rule.{user_changed, regions_filled, Pull, stays_of, inputs_carried, copies_of, gamma_pulled, gone_args, added, gone, fits, most_next, pull_here}
use Rattle.r_pull.proofs.Means.{pulled-is}
use Rattle.r_pull.proofs.Counted.{counted, filled-ids, pulled-values, outputs-as-many, still-found, without-ids, without-values}
use Rattle.r_pull.proofs.User.{PulledAt, pulled-at}

-- a node that gives a value is no Gamma
no-gamma : (op : Op) → is_pure op ≡ true → (id gamma : ℕ) (ins entries : List Origin) (qs rs : RegionTrees) → node gamma Gamma entries rs ≡ node id op ins qs → ⊥
no-gamma Gamma e id gamma ins entries qs rs d = absurd cc
no-gamma (Const w) e id gamma ins entries qs rs d = absurd cc
no-gamma Undef e id gamma ins entries qs rs d = absurd cc
no-gamma (Local k) e id gamma ins entries qs rs d = absurd cc
no-gamma (Delta k) e id gamma ins entries qs rs d = absurd cc
no-gamma (Bin o) e id gamma ins entries qs rs d = absurd cc
no-gamma (Un o) e id gamma ins entries qs rs d = absurd cc
no-gamma (Load w) e id gamma ins entries qs rs d = absurd cc
no-gamma (Store w) e id gamma ins entries qs rs d = absurd cc
no-gamma (Clear k) e id gamma ins entries qs rs d = absurd cc
no-gamma PtrEq e id gamma ins entries qs rs d = absurd cc
no-gamma (Apply f) e id gamma ins entries qs rs d = absurd cc
no-gamma Put e id gamma ins entries qs rs d = absurd cc
no-gamma Exit e id gamma ins entries qs rs d = absurd cc
no-gamma Get e id gamma ins entries qs rs d = absurd cc
no-gamma Theta e id gamma ins entries qs rs d = absurd cc

module _ (values next n : ℕ) (args : List Kind) (ns : NodeTrees) (results : List Origin) (s : RegionTree) (at : PulledAt values next n args ns results s) where
  abbrev h : Pull
  h = record { op = at.op; inputs = at.inputs; entries = at.entries; regions = at.regions }

  abbrev g : NodeTree
  g = node at.gamma Gamma (at.predicate ∷ at.entries) at.regions

  abbrev x : NodeTree
  x = node at.id at.op at.inputs no_regions

  abbrev now : NodeTree
  now = gamma_pulled next n h g

  abbrev changed : NodeTrees
  changed = joined_nodes at.user.before (node_then now at.user.after)

  -- the region, with the Gamma changed and without the node
  pub result-is : s ≡ region args (nodes_without n changed) results
  result-is =
      sym at.gives ∙ ap (λ p. region args (nodes_without n (user_changed n (gamma_pulled next n p) ns)) results) at.pull_is
      ∙ ap (λ ms. region args (nodes_without n ms) results) (at.user.changed (gamma_pulled next n h))

  pub found-now : node_at n changed ≡ Some x
  found-now =
      still-found n at.user.before g now at.user.after x refl (no-gamma at.op at.pure at.id at.gamma at.inputs (at.predicate ∷ at.entries) no_regions at.regions)
      (ap (node_at n) (sym at.user.is) ∙ at.at)

  abbrev filled : RegionTrees
  filled = regions_filled (stays_of n h) next (length at.entries) at.op (inputs_carried n h) at.regions

  gamma-ids : (m : ℕ) → times m (node_ids now) ≡ times m (node_ids g) + times m (counted next (copies_of n h))
  gamma-ids m =
      omega (
        arith,
        times_cons m at.gamma (regions_ids at.regions),
        times_cons m at.gamma (regions_ids (regions_taking (stays_of n h) filled)),
        ap (times m) (ids_same (stays_of n h) filled),
        filled-ids (stays_of n h) (length at.entries) at.op (inputs_carried n h) m next at.regions,
      )

  pub changed-ids : (m : ℕ) → times m (nodes_ids changed) ≡ times m (nodes_ids ns) + times m (counted next (copies_of n h))
  changed-ids m =
      omega (
        arith,
        gamma-ids m,
        ap (λ ms. times m (nodes_ids ms)) at.user.is,
        ap (times m) (nodes_ids-joined at.user.before (node_then g at.user.after)),
        ap (times m) (nodes_ids-joined at.user.before (node_then now at.user.after)),
        times_append m (nodes_ids at.user.before) (node_ids g ++ nodes_ids at.user.after),
        times_append m (nodes_ids at.user.before) (node_ids now ++ nodes_ids at.user.after),
        times_append m (node_ids g) (nodes_ids at.user.after),
        times_append m (node_ids now) (nodes_ids at.user.after),
      )

  -- all numbers but those of the copies were there
  pub pulled-ids : (m : ℕ) → times m (region_ids s) ≤ times m (nodes_ids ns) + times m (counted next (copies_of n at.pull))
  pulled-ids m =
      omega (arith, ap (λ r. times m (region_ids r)) result-is, without-ids n changed x found-now m, changed-ids m, ap (λ p. times m (counted next (copies_of n p))) at.pull_is)

  gamma-values : node_values now + gone_args (stays_of n h) (length (inputs_carried n h)) at.regions ≡ node_values g + added n h
  gamma-values =
      let carried = inputs_carried n h in
      let stays = stays_of n h in
      let first = length at.entries in
      let is = pulled-is stays next first at.op carried at.regions in
      omega (
        arith,
        ap regions_values is,
        ap (λ rs. length (outputs_of Gamma rs)) is,
        pulled-values stays first at.op at.pure carried next at.regions,
        outputs-as-many stays first at.op at.pure carried next at.regions,
      )

  -- the values that come and go are all that change
  pub pulled-count : region_values s + gone n at.pull ≡ region_values (region args ns results) + added n at.pull
  pulled-count =
      omega (
        arith,
        ap region_values result-is,
        without-values n changed x found-now,
        ap length (pure-outputs at.op at.pure no_regions),
        gamma-values,
        ap nodes_values at.user.is,
        nodes_values-joined at.user.before (node_then g at.user.after),
        nodes_values-joined at.user.before (node_then now at.user.after),
        ap (gone n) at.pull_is,
        ap (added n) at.pull_is,
      )

  resized : Resized values (region_values (region args ns results)) (region_values s)
  resized =
      record {
        added = added n h;
        gone = gone n h;
        count = omega (arith, pulled-count, ap (gone n) at.pull_is, ap (added n) at.pull_is);
        may = (and_parts (may_change_size values (added n h) (gone n h)) (nat_le (next + copies_of n h) most_next)
            (and_parts (may_change_size values (added n h) (gone n h) && nat_le (next + copies_of n h) most_next) _ (ap (fits values next n) (sym at.pull_is) ∙ at.can)).0).0;
      }

  is-resized : IsResized values (region args ns results) s
  is-resized =
      record {
        args = ap (λ r. length (args_of r)) result-is;
        results = ap (λ r. length (result_kinds r)) result-is ∙ length-map results _ ∙ sym (length-map results _);
        resized = resized;
      }

pub pull_resizes : (values next n : ℕ) (r s : RegionTree) → pull_here values next n r ≡ Some s → IsResized values r s
pull_resizes values next n (region args ns results) s e = is-resized values next n args ns results s (pulled-at values next n args ns results s e)
