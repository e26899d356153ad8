-- The exit of the regions of a node, and the values that come.
use Rattle.std.proofs.Common.{◌≡◌, ◌≢◌, ℕ, List, [], ◌∷◌, map, length, refl, sym, ap, ◌∙◌, arith}
use Rattle.g_graph.specs.declared.op.Op.{Op}
use Rattle.g_graph.specs.declared.op.Op.TheVariants.{Gamma, Theta}
use Rattle.g_graph.specs.declared.op.Origin.{Origin}
use Rattle.g_graph.specs.Plain.{RegionTree, RegionTrees, no_regions, region_then, node, regions_of}
use Rattle.g_graph.proofs.lemmas.Listed.{count_is}
use Rattle.r_push.specs.Walk.{exit_of, shut, choice, loop}

pub many_choose : (id : ℕ) (ins : List Origin) (rs : List RegionTree) (count : ℕ) → count ≡ length rs → length ins ≢ 0 → choice count ≡ exit_of (node id Gamma ins (regions_of rs))
many_choose id [] rs count e h = absurd (h refl)
many_choose id (p ∷ entries) rs count e h = ap choice (e ∙ sym (count_is rs))

pub one_loops : (id : ℕ) (ins : List Origin) (rs : List RegionTree) → length rs ≡ 1 → exit_of (node id Theta ins (regions_of rs)) ≡ loop
one_loops id ins [] h = absurd cc
one_loops id ins (r ∷ []) h = refl
one_loops id ins (r ∷ s ∷ rs) h = absurd (omega (arith, h))

pub others_are_shut : (id : ℕ) (ins : List Origin) (rs : List RegionTree) → length rs ≢ 1 → exit_of (node id Theta ins (regions_of rs)) ≡ shut
others_are_shut id ins [] h = refl
others_are_shut id ins (r ∷ []) h = absurd (h refl)
others_are_shut id ins (r ∷ s ∷ rs) h = refl

-- it does not stand in which inputs there are
pub exit_so : (f : Origin → Origin) (id : ℕ) (op : Op) (ins : List Origin) (rs : RegionTrees) → exit_of (node id op ins rs) ≡ exit_of (node id op (map f ins) rs)
exit_so f id Gamma [] rs = refl
exit_so f id Gamma (o ∷ os) rs = refl
exit_so f id Theta ins no_regions = refl
exit_so f id Theta ins (region_then r no_regions) = refl
exit_so f id Theta ins (region_then r (region_then s rs)) = refl
exit_so f id _ ins rs = refl
