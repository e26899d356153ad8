-- The region of a Gamma that a constant chooses is one of its regions.
use Rattle.std.proofs.Common.{◌≡◌, ◌≤◌, ℕ, zero, suc, Bool, true, ◌&&◌, List, [], Some, refl, sym, ap, ◌∙◌, arith}
use Rattle.std.proofs.lemmas.Bool.{and_parts}
use Rattle.g_graph.specs.declared.op.Op.TheVariants.{Gamma}
use Rattle.g_graph.specs.declared.op.Origin.{Origin}
use Rattle.g_graph.specs.Plain.{RegionTree, node, RegionTrees, no_regions, region_then, args_of}
use Rattle.g_graph.specs.Ids.{region_ids, regions_ids}
use Rattle.g_graph.specs.Signatures.{first_args, result_kinds, output_kinds}
use Rattle.g_graph.specs.WellFormed.{all_regions, are, same, kinds_of, regions_fit, every_region, every_in_regions}
use Rattle.g_graph.proofs.lemmas.Unique.{times, times_append}
use Rattle.g_graph.proofs.lemmas.Nodes.{are_kinds, same_kinds}
use Rattle.r_fold.specs.Rule.{chosen_region}

chosen_test : (test : RegionTree → Bool) (w : ℕ) (rs : RegionTrees) (r : RegionTree) → chosen_region w rs ≡ Some r → all_regions test rs ≡ true → test r ≡ true
chosen_test test w no_regions r e a = absurd (cc)
chosen_test test w (region_then s no_regions) r e a =
    let equal : s ≡ r = cc in
    ap test (sym equal) ∙ (and_parts (test s) true a).0
chosen_test test zero (region_then s (region_then t rs)) r e a =
    let equal : s ≡ r = cc in
    ap test (sym equal) ∙ (and_parts (test s) (all_regions test (region_then t rs)) a).0
chosen_test test (suc w) (region_then s (region_then t rs)) r e a = chosen_test test w (region_then t rs) r e (and_parts (test s) (all_regions test (region_then t rs)) a).1

pub chosen_inside : (test : RegionTree → Bool) (w : ℕ) (rs : RegionTrees) (r : RegionTree) → chosen_region w rs ≡ Some r → every_in_regions test rs ≡ true → every_region test r ≡ true
chosen_inside test w rs r e a = chosen_test (λ s. every_region test s) w rs r e (all rs a)
  where
    all : (ss : RegionTrees) → every_in_regions test ss ≡ true → all_regions (λ s. every_region test s) ss ≡ true
    all no_regions b = refl
    all (region_then s ss) b = λ i. (and_parts (every_region test s) (every_in_regions test ss) b).0 i && all ss (and_parts (every_region test s) (every_in_regions test ss) b).1 i

pub chosen_times : (m w : ℕ) (rs : RegionTrees) (r : RegionTree) → chosen_region w rs ≡ Some r → times m (region_ids r) ≤ times m (regions_ids rs)
chosen_times m w no_regions r e = absurd (cc)
chosen_times m w (region_then s no_regions) r e =
    let equal : s ≡ r = cc in
    omega (arith, ap (λ t. times m (region_ids t)) equal, times_append m (region_ids s) [])
chosen_times m zero (region_then s (region_then t rs)) r e =
    let equal : s ≡ r = cc in
    omega (arith, ap (λ u. times m (region_ids u)) equal, times_append m (region_ids s) (regions_ids (region_then t rs)))
chosen_times m (suc w) (region_then s (region_then t rs)) r e =
    omega (arith, chosen_times m w (region_then t rs) r e, times_append m (region_ids s) (regions_ids (region_then t rs)))

pub chosen_kinds : (id w : ℕ) (ins : List Origin) (rs : RegionTrees) (r : RegionTree) → chosen_region w rs ≡ Some r → regions_fit (node id Gamma ins rs) ≡ true →
    (args_of r ≡ first_args rs) × (result_kinds r ≡ output_kinds (node id Gamma ins rs))
chosen_kinds id w ins no_regions r e a = absurd (cc)
chosen_kinds id w ins (region_then s rs) r e a =
    let wanted = kinds_of (result_kinds s) in
    let test = λ (t : RegionTree). same (args_of t) (args_of s) && are (result_kinds t) wanted in
    let own = (and_parts (test s) (all_regions test rs) a).0 in
    let here = chosen_test test w (region_then s rs) r e a in (
      same_kinds (args_of r) (args_of s) (and_parts (same (args_of r) (args_of s)) (are (result_kinds r) wanted) here).0,
      are_kinds (result_kinds r) wanted (and_parts (same (args_of r) (args_of s)) (are (result_kinds r) wanted) here).1
          ∙ sym (are_kinds (result_kinds s) wanted (and_parts (same (args_of s) (args_of s)) (are (result_kinds s) wanted) own).1),
    )
