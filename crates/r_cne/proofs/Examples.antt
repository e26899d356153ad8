-- Worked rows of common node elimination.
use Rattle.std.proofs.Common.{◌≡◌, ℕ, List, [], ◌∷◌, None, Some, refl}
use Rattle.val_core.specs.declared.operation.Op2.TheVariants.{Add}
use Rattle.g_graph.specs.declared.op.Kind.TheVariants.{Value as ValueKind, Memory, Io}
use Rattle.g_graph.specs.declared.op.Op.{Op}
use Rattle.g_graph.specs.declared.op.Op.TheVariants.{Const, Undef, Bin, Load, Store}
use Rattle.g_graph.specs.declared.op.Origin.{Origin}
use Rattle.g_graph.specs.declared.op.Origin.TheVariants.{Arg, Out}
use Rattle.g_graph.specs.Plain.{RegionTree, region, NodeTree, node, no_regions, nodes_of}
use Rattle.r_cne.specs.Rule.{cne_here}

abbrev plain : ℕ → Op → List Origin → NodeTree
plain id op inputs = node id op inputs no_regions

-- nodes on two values and both states
abbrev of_nodes : List NodeTree → (value memory : Origin) → RegionTree
of_nodes nodes value memory = region (ValueKind ∷ ValueKind ∷ Memory ∷ Io ∷ []) (nodes_of nodes) (value ∷ memory ∷ Arg 3 ∷ [])

-- two sums, their sum, and a node between them
abbrev sums : List Origin → Origin → Origin → Origin → RegionTree
sums second a b value =
    of_nodes (plain 0 (Bin Add) (Arg 0 ∷ Arg 1 ∷ []) ∷ plain 1 (Const 7) [] ∷ plain 2 (Bin Add) second ∷ plain 3 (Bin Add) (a ∷ b ∷ []) ∷ []) value (Arg 2)

shared : cne_here 2 (sums (Arg 0 ∷ Arg 1 ∷ []) (Out 0 0) (Out 2 0) (Out 3 0)) ≡ Some (sums (Arg 0 ∷ Arg 1 ∷ []) (Out 0 0) (Out 0 0) (Out 3 0))
shared = refl

-- inputs in the other order
swapped : cne_here 2 (sums (Arg 1 ∷ Arg 0 ∷ []) (Out 0 0) (Out 2 0) (Out 3 0)) ≡ None
swapped = refl

-- the equal node stands later
later : cne_here 0 (sums (Arg 0 ∷ Arg 1 ∷ []) (Out 0 0) (Out 2 0) (Out 3 0)) ≡ None
later = refl

unused : cne_here 2 (sums (Arg 0 ∷ Arg 1 ∷ []) (Out 0 0) (Out 0 0) (Out 3 0)) ≡ None
unused = refl

-- a use as a result alone
returned : cne_here 2 (sums (Arg 0 ∷ Arg 1 ∷ []) (Out 0 0) (Out 0 0) (Out 2 0)) ≡ Some (sums (Arg 0 ∷ Arg 1 ∷ []) (Out 0 0) (Out 0 0) (Out 0 0))
returned = refl

-- three nodes of these ops without inputs, of which the third one is used
abbrev constants : Op → Op → Op → Origin → RegionTree
constants a b c value = of_nodes (plain 4 a [] ∷ plain 2 b [] ∷ plain 7 c [] ∷ []) value (Arg 2)

first_of_three : cne_here 7 (constants (Const 3) (Const 3) (Const 3) (Out 7 0)) ≡ Some (constants (Const 3) (Const 3) (Const 3) (Out 4 0))
first_of_three = refl

other_word : cne_here 7 (constants (Const 1) (Const 2) (Const 3) (Out 7 0)) ≡ None
other_word = refl

undefined : cne_here 7 (constants Undef Undef Undef (Out 7 0)) ≡ None
undefined = refl

absent : cne_here 9 (constants (Const 3) (Const 3) (Const 3) (Out 7 0)) ≡ None
absent = refl

-- two loads about a store, the second one on this memory
abbrev loads : Origin → Origin → RegionTree
loads memory value =
    of_nodes (plain 0 (Load 4) (Arg 0 ∷ Arg 2 ∷ []) ∷ plain 1 (Store 4) (Arg 1 ∷ Out 0 0 ∷ Arg 2 ∷ []) ∷ plain 2 (Load 4) (Arg 0 ∷ memory ∷ []) ∷ []) value (Out 1 0)

other_memory : cne_here 2 (loads (Out 1 0) (Out 2 0)) ≡ None
other_memory = refl

same_memory : cne_here 2 (loads (Arg 2) (Out 2 0)) ≡ Some (loads (Arg 2) (Out 0 0))
same_memory = refl
