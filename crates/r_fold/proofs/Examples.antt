-- Worked rows of folding.
use Rattle.std.proofs.Common.{◌≡◌, ℕ, suc, List, [], ◌∷◌, None, Some, refl}
use Rattle.val_core.specs.declared.operation.Op1.TheVariants.{Sext8}
use Rattle.val_core.specs.declared.operation.Op2.{Op2}
use Rattle.val_core.specs.declared.operation.Op2.TheVariants.{Add, Sub, Mul, Div}
use Rattle.g_graph.specs.declared.op.Kind.{Kind}
use Rattle.g_graph.specs.declared.op.Kind.TheVariants.{Value as ValueKind, Memory, Io}
use Rattle.g_graph.specs.declared.op.Op.{Op}
use Rattle.g_graph.specs.declared.op.Op.TheVariants.{Const, Bin, Un, Gamma, Theta}
use Rattle.g_graph.specs.declared.op.Origin.{Origin}
use Rattle.g_graph.specs.declared.op.Origin.TheVariants.{Arg, Out}
use Rattle.g_graph.specs.Plain.{RegionTree, region, NodeTree, node, no_regions, nodes_of, regions_of}
use Rattle.r_fold.specs.Rule.{fold_here}

abbrev plain : ℕ → Op → List Origin → NodeTree
plain id op inputs = node id op inputs no_regions

abbrev kinds : List Kind
kinds = ValueKind ∷ Memory ∷ Io ∷ []

abbrev of_nodes : List NodeTree → Origin → RegionTree
of_nodes nodes value = region kinds (nodes_of nodes) (value ∷ Arg 1 ∷ Arg 2 ∷ [])

-- 7 - 2
abbrev difference : Op → RegionTree
difference op = of_nodes (plain 0 (Const 7) [] ∷ plain 1 (Const 2) [] ∷ plain 2 op (Out 0 0 ∷ Out 1 0 ∷ []) ∷ []) (Out 2 0)

subtracted : fold_here 2 (difference (Bin Sub)) ≡ Some (of_nodes (plain 0 (Const 7) [] ∷ plain 1 (Const 2) [] ∷ plain 2 (Const 5) [] ∷ []) (Out 2 0))
subtracted = refl

-- a constant does not fold, nor does a node that is not there
stays : fold_here 0 (difference (Bin Sub)) ≡ None
stays = refl

absent : fold_here 9 (difference (Bin Sub)) ≡ None
absent = refl

-- a division by 0 folds to what it gives
divided : fold_here 2 (of_nodes (plain 0 (Const 7) [] ∷ plain 1 (Const 0) [] ∷ plain 2 (Bin Div) (Out 0 0 ∷ Out 1 0 ∷ []) ∷ []) (Out 2 0))
    ≡ Some (of_nodes (plain 0 (Const 7) [] ∷ plain 1 (Const 0) [] ∷ plain 2 (Const 4294967295) [] ∷ []) (Out 2 0))
divided = refl

extended : fold_here 1 (of_nodes (plain 0 (Const 255) [] ∷ plain 1 (Un Sext8) (Out 0 0 ∷ []) ∷ []) (Out 1 0)) ≡ Some (of_nodes (plain 0 (Const 255) [] ∷ plain 1 (Const 4294967295) [] ∷ []) (Out 1 0))
extended = refl

-- the parameter and a constant
abbrev with_constant : Op2 → ℕ → Origin → RegionTree
with_constant op w value = of_nodes (plain 0 (Const w) [] ∷ plain 1 (Bin op) (Arg 0 ∷ Out 0 0 ∷ []) ∷ []) value

times_one : fold_here 1 (with_constant Mul 1 (Out 1 0)) ≡ Some (with_constant Mul 1 (Arg 0))
times_one = refl

times_zero : fold_here 1 (with_constant Mul 0 (Out 1 0)) ≡ None
times_zero = refl

minus_zero : fold_here 1 (with_constant Sub 0 (Out 1 0)) ≡ Some (with_constant Sub 0 (Arg 0))
minus_zero = refl

-- where the sum has no use, nothing changes
unused : fold_here 1 (with_constant Add 0 (Arg 0)) ≡ None
unused = refl

zero_minus : fold_here 1 (of_nodes (plain 0 (Const 0) [] ∷ plain 1 (Bin Sub) (Out 0 0 ∷ Arg 0 ∷ []) ∷ []) (Out 1 0)) ≡ None
zero_minus = refl

-- a Gamma on a constant, whose regions give 10 and 20 more than the parameter
abbrev arm : ℕ → ℕ → RegionTree
arm n w = region kinds (nodes_of (plain n (Const w) [] ∷ plain (suc n) (Bin Add) (Arg 0 ∷ Out n 0 ∷ []) ∷ [])) (Out (suc n) 0 ∷ Arg 1 ∷ Arg 2 ∷ [])

abbrev chosen : ℕ → RegionTree
chosen w =
    region kinds (nodes_of (plain 0 (Const w) [] ∷ node 1 Gamma (Out 0 0 ∷ Arg 0 ∷ Arg 1 ∷ Arg 2 ∷ []) (regions_of (arm 2 10 ∷ arm 4 20 ∷ [])) ∷ [])) (Out 1 0 ∷ Out 1 1 ∷ Out 1 2 ∷ [])

first_arm : fold_here 1 (chosen 0) ≡ Some (of_nodes (plain 0 (Const 0) [] ∷ plain 2 (Const 10) [] ∷ plain 3 (Bin Add) (Arg 0 ∷ Out 2 0 ∷ []) ∷ []) (Out 3 0))
first_arm = refl

-- the last region for every constant from there on
last_arm : fold_here 1 (chosen 7) ≡ Some (of_nodes (plain 0 (Const 7) [] ∷ plain 4 (Const 20) [] ∷ plain 5 (Bin Add) (Arg 0 ∷ Out 4 0 ∷ []) ∷ []) (Out 5 0))
last_arm = refl

-- a Theta whose predicate is this constant
abbrev repeated : ℕ → RegionTree
repeated w =
    region kinds (nodes_of (node 0 Theta (Arg 0 ∷ Arg 1 ∷ Arg 2 ∷ []) (regions_of (region kinds (nodes_of (plain 1 (Const w) [] ∷ [])) (Out 1 0 ∷ Out 1 0 ∷ Arg 1 ∷ Arg 2 ∷ []) ∷ [])) ∷
    [])) (Out 0 0 ∷ Out 0 1 ∷ Out 0 2 ∷ [])

once : fold_here 0 (repeated 0) ≡ Some (of_nodes (plain 1 (Const 0) [] ∷ []) (Out 1 0))
once = refl

for_ever : fold_here 0 (repeated 1) ≡ None
for_ever = refl
