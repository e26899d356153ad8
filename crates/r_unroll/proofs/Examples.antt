-- Worked rows of unrolling.
use Rattle.std.proofs.Common.{◌≡◌, ℕ, zero, suc, true, false, List, [], ◌∷◌, ◌++◌, refl}
use Rattle.val_core.specs.declared.operation.Op2.TheVariants.{Add, Slt}
use Rattle.g_graph.specs.declared.op.Kind.{Kind}
use Rattle.g_graph.specs.declared.op.Kind.TheVariants.{Value, Memory, Io}
use Rattle.g_graph.specs.declared.op.Op.{Op}
use Rattle.g_graph.specs.declared.op.Op.TheVariants.{Const, Bin, Gamma, Theta}
use Rattle.g_graph.specs.declared.op.Origin.{Origin}
use Rattle.g_graph.specs.declared.op.Origin.TheVariants.{Arg, Out}
use Rattle.g_graph.specs.Plain.{RegionTree, region, NodeTree, node, no_regions, nodes_of, regions_of, PlainLambda}
use Rattle.g_graph.specs.Count.{region_values}
use Rattle.g_graph.specs.Program.{lambda_values}
use Rattle.g_graph.specs.WellFormed.{well_formed}
use Rattle.r_unroll.specs.Rule.{may_unroll, applies, lambda_unrolled}

abbrev plain : ℕ → Op → List Origin → NodeTree
plain id op inputs = node id op inputs no_regions

abbrev three : List Kind
three = Value ∷ Memory ∷ Io ∷ []

-- ---- int i = 0; do i = i + 1; while (i < 3); return i;

abbrev adding : (first : ℕ) → List NodeTree
adding first =
    plain first (Const 1) [] ∷ plain (suc first) (Bin Add) (Arg 0 ∷ Out first 0 ∷ []) ∷ plain (suc (suc first)) (Const 3) []
    ∷ plain (suc (suc (suc first))) (Bin Slt) (Out (suc first) 0 ∷ Out (suc (suc first)) 0 ∷ []) ∷ []

abbrev turn : (first : ℕ) → RegionTree
turn first = region three (nodes_of (adding first)) (Out (suc (suc (suc first))) 0 ∷ Out (suc first) 0 ∷ Arg 1 ∷ Arg 2 ∷ [])

abbrev counting : (next : ℕ) → RegionTree → PlainLambda
counting next loop =
    record {
      number = 0;
      params = 0;
      objects = [];
      body = region (Memory ∷ Io ∷ []) (nodes_of (plain 0 (Const 0) [] ∷ node 1 Theta (Out 0 0 ∷ Arg 0 ∷ Arg 1 ∷ []) (regions_of (loop ∷ [])) ∷ []))
          (Out 1 0 ∷ Out 1 1 ∷ Out 1 2 ∷ []);
      next = next;
    }

abbrev row : PlainLambda
row = counting 6 (turn 2)

row_unrolled : lambda_unrolled 1 row
    ≡ counting 12 (region three (nodes_of (adding 2
    ++ node 6 Gamma (Out 5 0 ∷ Out 3 0 ∷ Arg 1 ∷ Arg 2 ∷ [])
    (regions_of (region three (nodes_of (plain 7 (Const 0) [] ∷ [])) (Out 7 0 ∷ Arg 0 ∷ Arg 1 ∷ Arg 2 ∷ []) ∷ turn 8 ∷ [])) ∷ []))
    (Out 6 0 ∷ Out 6 1 ∷ Out 6 2 ∷ Out 6 3 ∷ []))
row_unrolled = refl

-- at that number alone
applies_once : (applies row 1 ≡ true) × (applies row 0 ≡ false) × (applies row 2 ≡ false) × (applies row 5 ≡ false) × (applies row 6 ≡ false)
applies_once = (refl, refl, refl, refl, refl)

both_fit : (well_formed row ≡ true) × (well_formed (lambda_unrolled 1 row) ≡ true)
both_fit = (refl, refl)

before_after : (lambda_values row ≡ 28) × (lambda_values (lambda_unrolled 1 row) ≡ 59)
before_after = (refl, refl)

-- ---- the limits

abbrev words : ℕ → List NodeTree
words zero = []
words (suc count) = plain count (Const 0) [] ∷ words count

-- a region of so many Const nodes
abbrev constant : ℕ → RegionTree
constant count = region (Memory ∷ Io ∷ []) (nodes_of (words (suc count))) (Out 0 0 ∷ Arg 0 ∷ Arg 1 ∷ [])

at_most_200 : (region_values (constant 96) ≡ 200) × (may_unroll 0 0 (constant 96) ≡ true) × (may_unroll 0 0 (constant 97) ≡ false)
at_most_200 = (refl, refl, refl)

-- a Theta in a Gamma
abbrev holding : NodeTree → RegionTree
holding x =
    region three (nodes_of (node 9 Gamma (Arg 0 ∷ Arg 0 ∷ Arg 1 ∷ Arg 2 ∷ []) (regions_of (region three (nodes_of (x ∷ [])) (Arg 0 ∷ Arg 1 ∷ Arg 2 ∷ []) ∷ [])) ∷ []))
    (Arg 0 ∷ Out 9 0 ∷ Out 9 1 ∷ Out 9 2 ∷ [])

no_loop_inside : (may_unroll 0 10 (holding (plain 8 (Const 0) [])) ≡ true) × (may_unroll 0 10 (holding (node 8 Theta (Arg 0 ∷ Arg 1 ∷ Arg 2 ∷ []) (regions_of (turn 2 ∷ [])))) ≡ false)
no_loop_inside = (refl, refl)

-- it adds 31 values, and six numbers
limits : (may_unroll 8161 6 (turn 2) ≡ true) × (may_unroll 8162 6 (turn 2) ≡ false) × (may_unroll 28 4294967289 (turn 2) ≡ true) × (may_unroll 28 4294967290 (turn 2) ≡ false)
limits = (refl, refl, refl, refl)
