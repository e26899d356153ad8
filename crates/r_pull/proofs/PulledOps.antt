-- The changed region has the ops of the region, and copies of the one that moves.
use Rattle.std.proofs.Common.{◌≡◌, ◌+◌, ℕ, suc, Bool, true, false, ◌||◌, cond, List, [], ◌∷◌, ◌++◌, map, length, replicate, Some, refl, sym, ap, subst, ◌∙◌}
use Rattle.std.proofs.lemmas.List.{length-map}
use Rattle.g_graph.specs.declared.op.Kind.TheVariants.{Value}
use Rattle.g_graph.specs.declared.op.Op.{Op}
use Rattle.g_graph.specs.declared.op.Op.TheVariants.{Gamma}
use Rattle.g_graph.specs.declared.op.Origin.{Origin}
use Rattle.g_graph.specs.Plain.{RegionTree, region, NodeTree, node, NodeTrees, node_then, RegionTrees, no_regions, region_then}
use Rattle.g_graph.specs.Lists.{RegionOps, NodesOps, RegionsOps}
use Rattle.g_graph.specs.Replace.{nodes_redirected}
use Rattle.g_graph.specs.Splice.{joined_nodes}
use Rattle.g_graph.proofs.lemmas.Ops.{redirected_ops, joined_ops, found_ops, split-ops}
use Rattle.r_edit.specs.Uses.{is_read}
use Rattle.r_edit.specs.Entries.{argument_after, is_gone_argument, some_reads, regions_taking}
use Rattle.r_edit.specs.InPlace.{region_taking}
use Rattle.r_edit.proofs.lemmas.Removal.{without_ops}
use Rattle.r_pull.specs.Rule.{args_from, copy_used, region_filled, copies_in, regions_filled, Pull, stays_of, inputs_carried, gamma_pulled, pull_here}
use Rattle.r_pull.proofs.Means.{regions_pulled, pulled-is}
use Rattle.r_pull.proofs.Resized.{result-is}
use Rattle.r_pull.proofs.User.{PulledAt, pulled-at}

args-long : (first : ℕ) (inputs : List Origin) → length (args_from first inputs) ≡ length inputs
args-long first [] = refl
args-long first (a ∷ inputs) = ap suc (args-long (suc first) inputs)

-- of a property that does not ask how many inputs a Gamma has
module _ (p : Op → ℕ → Type 0) (gamma : (m k : ℕ) → p Gamma m → p Gamma k) where
  module _ (stays : List Bool) (first : ℕ) (op : Op) (inputs : List Origin) where
    one-ops : (copy : ℕ) (r : RegionTree) → (is_read (is_gone_argument stays) r ≡ true → p op (length inputs)) → RegionOps p r →
        RegionOps p (region_taking stays (region_filled stays copy first op inputs r))
    one-ops copy (region args nodes results) own h = by (is_read (is_gone_argument stays) (region args nodes results)) refl
      where
        used : Origin → Origin
        used = copy_used stays copy

        after : Origin → Origin
        after = argument_after stays

        long : length (map after (args_from first inputs)) ≡ length inputs
        long = length-map (args_from first inputs) after ∙ args-long first inputs

        by : (t : Bool) → is_read (is_gone_argument stays) (region args nodes results) ≡ t →
            RegionOps p (region_taking stays (cond t (region (args ++ replicate (length inputs) Value)
            (node_then (node copy op (args_from first inputs) no_regions) (nodes_redirected used nodes)) (map used results))
            (region (args ++ replicate (length inputs) Value) nodes results)))
        by true e = ((subst (p op) (sym long) (own e), tt), redirected_ops p after (nodes_redirected used nodes) (redirected_ops p used nodes h))
        by false e = redirected_ops p after nodes h

    first-reads : (t s : Bool) → t ≡ true → (t || s) ≡ true
    first-reads true s e = refl
    first-reads false s e = absurd cc

    rest-reads : (t s : Bool) → s ≡ true → (t || s) ≡ true
    rest-reads true s e = refl
    rest-reads false s e = e

    all-ops : (copy : ℕ) (rs : RegionTrees) → (some_reads stays rs ≡ true → p op (length inputs)) → RegionsOps p rs → RegionsOps p (regions_pulled stays copy first op inputs rs)
    all-ops copy no_regions own h = tt
    all-ops copy (region_then r rs) own h = (
      one-ops copy r (λ e. own (first-reads (is_read (is_gone_argument stays) r) (some_reads stays rs) e)) h.0,
      all-ops (copy + copies_in stays r) rs (λ e. own (rest-reads (is_read (is_gone_argument stays) r) (some_reads stays rs) e)) h.1,
    )

  pub here-ops : (values next n : ℕ) (r s : RegionTree) → pull_here values next n r ≡ Some s → RegionOps p r → RegionOps p s
  here-ops values next n (region args ns results) s e h =
      subst (λ t. RegionOps p t) (sym (result-is values next n args ns results s at))
      (without_ops p n (region args changed results)
      (joined_ops p at.user.before (node_then now at.user.after) parts.0 ((gamma _ _ parts.1.0.0, regions), parts.1.1)))
    where
      at : PulledAt values next n args ns results s
      at = pulled-at values next n args ns results s e

      pull : Pull
      pull = record { op = at.op; inputs = at.inputs; entries = at.entries; regions = at.regions }

      g : NodeTree
      g = node at.gamma Gamma (at.predicate ∷ at.entries) at.regions

      now : NodeTree
      now = gamma_pulled next n pull g

      changed : NodeTrees
      changed = joined_nodes at.user.before (node_then now at.user.after)

      parts : NodesOps p at.user.before × NodesOps p (node_then g at.user.after)
      parts = split-ops p at.user.before (node_then g at.user.after) (subst (λ ms. NodesOps p ms) at.user.is h)

      moved : p at.op (length at.inputs)
      moved = (found_ops p n ns (node at.id at.op at.inputs no_regions) at.at h).0

      carried-ops : some_reads (stays_of n pull) at.regions ≡ true → p at.op (length (inputs_carried n pull))
      carried-ops d = subst (λ is. p at.op (length is)) (sym (ap (λ t. cond t at.inputs []) d)) moved

      regions : RegionsOps p (regions_taking (stays_of n pull) (regions_filled (stays_of n pull) next (length at.entries) at.op (inputs_carried n pull) at.regions))
      regions =
          subst (λ rs. RegionsOps p rs) (sym (pulled-is (stays_of n pull) next (length at.entries) at.op (inputs_carried n pull) at.regions))
          (all-ops (stays_of n pull) (length at.entries) at.op (inputs_carried n pull) next at.regions carried-ops parts.1.0.1)
