-- The loop at a node, by its regions.
use Rattle.std.specs.Prelude.{option_and_then, is_some}
use Rattle.std.proofs.Common.{◌≡◌, ℕ, Bool, true, false, cond, List, [], ◌∷◌, Option, None, Some, refl, sym, ap, ◌∙◌}
use Rattle.std.proofs.lemmas.Bool.{and_parts}
use Rattle.g_graph.specs.declared.op.Kind.TheVariants.{Value}
use Rattle.g_graph.specs.declared.op.Op.TheVariants.{Theta}
use Rattle.g_graph.specs.declared.op.Origin.{Origin}
use Rattle.g_graph.specs.Ids.{region_ids}
use Rattle.g_graph.specs.Plain.{RegionTree, node, RegionTrees, no_regions, region_then, args_of}
use Rattle.g_graph.specs.Replace.{region_redirected}
use Rattle.g_graph.specs.Signatures.{result_kinds}
use Rattle.g_graph.specs.Splice.{args_to_inputs}
use Rattle.g_graph.specs.WellFormed.{are, every_region, region_fits}
use Rattle.g_mean.proofs.lemmas.Edits.{distinct-split}
use Rattle.r_invert.specs.Edit.{AreMade, only_may, regions_part}
use Rattle.r_invert.specs.Laws.{IsLoopRegion}
use Rattle.r_invert.specs.Rule.{Parts, parts_of, may_invert, in_place, takes_both_states}
use Rattle.r_invert.specs.Sound.{AreSound}
use Rattle.r_invert.proofs.Found.{can-make, no-place, place-known}

-- the region of such a node
loop-is : (r : RegionTree) (s : AreSound Theta (region_then r no_regions)) → IsLoopRegion s.objects r
loop-is r s = record {
  fits = (and_parts (every_region (region_fits s.objects) r) true s.fits).0;
  unique = (distinct-split (region_ids r) [] s.unique).0;
  results = (and_parts (are (result_kinds r) (Value ∷ args_of r)) true (s.of_node 0 [])).0;
  states = (and_parts (takes_both_states r) true (s.states 0 [])).0;
}

pub only_made : (values next : ℕ) (rs : RegionTrees) → AreSound Theta rs → only_may values next rs ≡ true → AreMade next rs
only_made values next no_regions s e = absurd cc
only_made values next (region_then r (region_then t rs)) s e = absurd cc
only_made values next (region_then r no_regions) s e = by (parts_of r) refl e
  where
    test : (p : Parts) → parts_of r ≡ Some p → (t : Bool) → may_invert values next r p ≡ t → is_some (cond t (Some p) None) ≡ true → AreMade next (region_then r no_regions)
    test p d true m f = record { parts = p; form = d; can = can-make s.objects values next r p (loop-is r s) d m }
    test p d false m f = absurd cc

    by : (o : Option Parts) → parts_of r ≡ o → is_some (option_and_then (λ p. cond (may_invert values next r p) (Some p) None) o) ≡ true → AreMade next (region_then r no_regions)
    by None d f = absurd cc
    by (Some p) d f = test p d (may_invert values next r p) refl f

-- ---- what comes in its place

pub no_loop : (values next : ℕ) (inputs : List Origin) (rs : RegionTrees) → only_may values next rs ≡ false → (id : ℕ) → None ≡ in_place values next (node id Theta inputs rs)
no_loop values next inputs rs e id = sym (no-place values next (node id Theta inputs rs) e)

pub loop_place : (values next : ℕ) (inputs : List Origin) (rs : RegionTrees) (part made : RegionTree) → only_may values next rs ≡ true → regions_part next rs ≡ Some part →
    made ≡ region_redirected (args_to_inputs inputs) part → (id : ℕ) → Some made ≡ in_place values next (node id Theta inputs rs)
loop_place values next inputs rs part made e is same id = ap Some same ∙ sym (place-known values next (node id Theta inputs rs) part e is)
