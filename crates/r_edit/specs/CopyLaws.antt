-- Laws of copies under new numbers.
use Rattle.std.specs.Prelude.{◌≡◌, ℕ, IsTrue, List}
use Rattle.g_graph.specs.Plain.{RegionTree, args_of, PlainLambda}
use Rattle.g_graph.specs.Ids.{region_ids}
use Rattle.g_graph.specs.Count.{region_values}
use Rattle.g_graph.specs.Lists.{RegionOps, Calls, NamesGlobal}
use Rattle.g_graph.specs.Signatures.{result_kinds}
use Rattle.g_graph.specs.WellFormed.{distinct, every_region, region_fits}
use Rattle.g_mean.specs.Copies.{IsClosed}
use Rattle.g_mean.specs.Meaning.{Context, region_meaning}
use Rattle.r_edit.specs.Numbering.{node_count, region_numbered}
use Rattle.val_core.specs.Numbers.{numbers_from}

-- A copy of a region with unique numbers has the numbers from `next` on, in pre-order.
abbrev pub CopiesAreNumbered : Type 0
CopiesAreNumbered =
    (next : ℕ) (r : RegionTree) → IsTrue (distinct (region_ids r)) → region_ids (region_numbered next r) ≡ numbers_from next (node_count r)

-- A copy takes and gives the kinds that the copied region takes and gives, and is well formed, with all that is nested in
-- it, where that region is.
pub record Fits (objects : ℕ) (r s : RegionTree) : Type 0 where
  pub args : args_of s ≡ args_of r
  pub results : result_kinds s ≡ result_kinds r
  pub inside : every_region (region_fits objects) s ≡ every_region (region_fits objects) r

abbrev pub CopiesFit : Type 0
CopiesFit = (objects next : ℕ) (r : RegionTree) → Fits objects r (region_numbered next r)

-- A copy has as many values,
abbrev pub CopiesCountTheSame : Type 0
CopiesCountTheSame = (next : ℕ) (r : RegionTree) → region_values (region_numbered next r) ≡ region_values r

-- and calls functions of a list, and names globals of a program, where the region does.
abbrev pub CopiesCallTheSame : Type 0
CopiesCallTheSame = (ls : List PlainLambda) (next : ℕ) (r : RegionTree) → RegionOps (Calls ls) r → RegionOps (Calls ls) (region_numbered next r)

abbrev pub CopiesNameTheSame : Type 0
CopiesNameTheSame = (globals next : ℕ) (r : RegionTree) → RegionOps (NamesGlobal globals) r → RegionOps (NamesGlobal globals) (region_numbered next r)

-- The copy of a closed region means the same.
abbrev pub NumberedCopiesMeanTheSame : Type 0
NumberedCopiesMeanTheSame =
    (next : ℕ) (r : RegionTree) → IsClosed r → (c : Context) → region_meaning c (region_numbered next r) ≡ region_meaning c r
