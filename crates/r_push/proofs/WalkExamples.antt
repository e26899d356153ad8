-- Worked rows of the walk.
use Rattle.std.proofs.Common.{◌≡◌, ℕ, true, List, [], ◌∷◌, refl}
use Rattle.val_core.specs.declared.operation.Op2.TheVariants.{Add, Sub, Mul, Slt}
use Rattle.g_graph.specs.declared.op.Kind.TheVariants.{Value, Memory, Io}
use Rattle.g_graph.specs.declared.op.Op.TheVariants.{Const, Bin, Get, Gamma, Theta}
use Rattle.g_graph.specs.declared.op.Origin.TheVariants.{Arg, Out}
use Rattle.r_rule.specs.declared.steps.Rule.TheVariants.{Push}
use Rattle.r_rule.specs.declared.steps.Step.{Step}
use Rattle.g_graph.specs.Ids.{region_ids}
use Rattle.g_graph.specs.Plain.{RegionTree, region, node, nodes_of, regions_of, PlainLambda}
use Rattle.g_graph.specs.Program.{lambda_values}
use Rattle.g_graph.specs.WellFormed.{well_formed}
use Rattle.r_push.specs.WalkLaws.{push_change}
use Rattle.r_push.specs.Walk.{walked}
use Rattle.r_sweep_def.specs.Swept.{Logged, swept_by}

abbrev of_body : RegionTree → PlainLambda
of_body body = record { number = 0; params = 0; objects = []; body = body; next = 10 }

abbrev steps_at : List ℕ → List Step
steps_at [] = []
steps_at (n ∷ ns) = record { rule = Push; node = n } ∷ steps_at ns

abbrev started : PlainLambda → Logged
started l = record { lambda = l; steps = [] }

abbrev swept : Logged → Logged
swept s = swept_by push_change (region_ids s.lambda.body) s

-- ---- int a = getchar(), x = 1; if (a) { if (a - 1) x = a * 3 + 1; } return x;

abbrev nested_row : PlainLambda
nested_row = of_body (region (Memory ∷ Io ∷ []) (nodes_of (node 0 Get (Arg 1 ∷ []) (regions_of ([])) ∷ node 1 (Const 1) ([]) (regions_of ([])) ∷ node 2 Gamma (Out 0 0 ∷ Out 0 0 ∷ Out 1 0 ∷ Arg 0 ∷ Out 0 1 ∷ []) (regions_of (region (Value ∷ Value ∷ Memory ∷ Io ∷ []) (nodes_of ([])) (Arg 0 ∷ Arg 1 ∷ Arg 2 ∷ Arg 3 ∷ []) ∷ region (Value ∷ Value ∷ Memory ∷ Io ∷ []) (nodes_of (node 3 (Const 1) ([]) (regions_of ([])) ∷ node 4 (Bin Sub) (Arg 0 ∷ Out 3 0 ∷ []) (regions_of ([])) ∷ node 5 Gamma (Out 4 0 ∷ Arg 0 ∷ Arg 1 ∷ Arg 2 ∷ Arg 3 ∷ []) (regions_of (region (Value ∷ Value ∷ Memory ∷ Io ∷ []) (nodes_of ([])) (Arg 0 ∷ Arg 1 ∷ Arg 2 ∷ Arg 3 ∷ []) ∷ region (Value ∷ Value ∷ Memory ∷ Io ∷ []) (nodes_of (node 6 (Const 3) ([]) (regions_of ([])) ∷ node 7 (Bin Mul) (Arg 0 ∷ Out 6 0 ∷ []) (regions_of ([])) ∷ node 8 (Const 1) ([]) (regions_of ([])) ∷ node 9 (Bin Add) (Out 7 0 ∷ Out 8 0 ∷ []) (regions_of ([])) ∷ [])) (Arg 0 ∷ Out 9 0 ∷ Arg 2 ∷ Arg 3 ∷ []) ∷ [])) ∷ [])) (Out 5 0 ∷ Out 5 1 ∷ Out 5 2 ∷ Out 5 3 ∷ []) ∷ [])) ∷ [])) (Out 2 1 ∷ Out 2 2 ∷ Out 2 3 ∷ []))

nested_row_fits : well_formed nested_row ≡ true
nested_row_fits = refl

abbrev nested_once : PlainLambda
nested_once = of_body (region (Memory ∷ Io ∷ []) (nodes_of (node 0 Get (Arg 1 ∷ []) (regions_of ([])) ∷ node 1 (Const 1) ([]) (regions_of ([])) ∷ node 3 (Const 1) ([]) (regions_of ([])) ∷ node 4 (Bin Sub) (Out 0 0 ∷ Out 3 0 ∷ []) (regions_of ([])) ∷ node 2 Gamma (Out 0 0 ∷ Out 0 0 ∷ Out 1 0 ∷ Arg 0 ∷ Out 0 1 ∷ Out 3 0 ∷ Out 4 0 ∷ []) (regions_of (region (Value ∷ Value ∷ Memory ∷ Io ∷ Value ∷ Value ∷ []) (nodes_of ([])) (Arg 0 ∷ Arg 1 ∷ Arg 2 ∷ Arg 3 ∷ []) ∷ region (Value ∷ Value ∷ Memory ∷ Io ∷ Value ∷ Value ∷ []) (nodes_of (node 6 (Const 3) ([]) (regions_of ([])) ∷ node 7 (Bin Mul) (Arg 0 ∷ Out 6 0 ∷ []) (regions_of ([])) ∷ node 8 (Const 1) ([]) (regions_of ([])) ∷ node 9 (Bin Add) (Out 7 0 ∷ Out 8 0 ∷ []) (regions_of ([])) ∷ node 5 Gamma (Arg 5 ∷ Arg 0 ∷ Arg 1 ∷ Arg 2 ∷ Arg 3 ∷ Out 6 0 ∷ Out 7 0 ∷ Out 8 0 ∷ Out 9 0 ∷ []) (regions_of (region (Value ∷ Value ∷ Memory ∷ Io ∷ Value ∷ Value ∷ Value ∷ Value ∷ []) (nodes_of ([])) (Arg 0 ∷ Arg 1 ∷ Arg 2 ∷ Arg 3 ∷ []) ∷ region (Value ∷ Value ∷ Memory ∷ Io ∷ Value ∷ Value ∷ Value ∷ Value ∷ []) (nodes_of ([])) (Arg 0 ∷ Arg 7 ∷ Arg 2 ∷ Arg 3 ∷ []) ∷ [])) ∷ [])) (Out 5 0 ∷ Out 5 1 ∷ Out 5 2 ∷ Out 5 3 ∷ []) ∷ [])) ∷ [])) (Out 2 1 ∷ Out 2 2 ∷ Out 2 3 ∷ []))

-- what leaves the inner Gamma does not leave the outer one in the same sweep
once : walked (started nested_row) ≡ record { lambda = nested_once; steps = steps_at (3 ∷ 4 ∷ 6 ∷ 7 ∷ 8 ∷ 9 ∷ []) }
once = refl

twice : (walked (walked (started nested_row))).steps ≡ steps_at (3 ∷ 4 ∷ 6 ∷ 7 ∷ 8 ∷ 9 ∷ 6 ∷ 7 ∷ 8 ∷ 9 ∷ [])
twice = refl

as_swept : walked (walked (started nested_row)) ≡ swept (swept (started nested_row))
as_swept = refl

values : (lambda_values nested_row ≡ 69) × (lambda_values (walked (walked (started nested_row))).lambda ≡ 89)
values = (refl, refl)

-- ---- int n = getchar(), i = 0; do i = i + n * 2; while (i < 20); return i;

abbrev loop_row : PlainLambda
loop_row = of_body (region (Memory ∷ Io ∷ []) (nodes_of (node 0 Get (Arg 1 ∷ []) (regions_of ([])) ∷ node 1 (Const 0) ([]) (regions_of ([])) ∷ node 2 Theta (Out 0 0 ∷ Out 1 0 ∷ Arg 0 ∷ Out 0 1 ∷ []) (regions_of (region (Value ∷ Value ∷ Memory ∷ Io ∷ []) (nodes_of (node 3 (Const 2) ([]) (regions_of ([])) ∷ node 4 (Bin Mul) (Arg 0 ∷ Out 3 0 ∷ []) (regions_of ([])) ∷ node 5 (Bin Add) (Arg 1 ∷ Out 4 0 ∷ []) (regions_of ([])) ∷ node 6 (Const 20) ([]) (regions_of ([])) ∷ node 7 (Bin Slt) (Out 5 0 ∷ Out 6 0 ∷ []) (regions_of ([])) ∷ [])) (Out 7 0 ∷ Arg 0 ∷ Out 5 0 ∷ Arg 2 ∷ Arg 3 ∷ []) ∷ [])) ∷ [])) (Out 2 1 ∷ Out 2 2 ∷ Out 2 3 ∷ []))

loop_row_fits : well_formed loop_row ≡ true
loop_row_fits = refl

-- the product takes the constant's argument, which the walk added
from_loop : walked (started loop_row) ≡ record { lambda = of_body (region (Memory ∷ Io ∷ []) (nodes_of (node 0 Get (Arg 1 ∷ []) (regions_of ([])) ∷ node 1 (Const 0) ([]) (regions_of ([])) ∷ node 3 (Const 2) ([]) (regions_of ([])) ∷ node 4 (Bin Mul) (Out 0 0 ∷ Out 3 0 ∷ []) (regions_of ([])) ∷ node 6 (Const 20) ([]) (regions_of ([])) ∷ node 2 Theta (Out 0 0 ∷ Out 1 0 ∷ Arg 0 ∷ Out 0 1 ∷ Out 3 0 ∷ Out 4 0 ∷ Out 6 0 ∷ []) (regions_of (region (Value ∷ Value ∷ Memory ∷ Io ∷ Value ∷ Value ∷ Value ∷ []) (nodes_of (node 5 (Bin Add) (Arg 1 ∷ Arg 5 ∷ []) (regions_of ([])) ∷ node 7 (Bin Slt) (Out 5 0 ∷ Arg 6 ∷ []) (regions_of ([])) ∷ [])) (Out 7 0 ∷ Arg 0 ∷ Out 5 0 ∷ Arg 2 ∷ Arg 3 ∷ Arg 4 ∷ Arg 5 ∷ Arg 6 ∷ []) ∷ [])) ∷ [])) (Out 2 1 ∷ Out 2 2 ∷ Out 2 3 ∷ [])); steps = steps_at (3 ∷ 4 ∷ 6 ∷ []) }
from_loop = refl

loop_as_swept : walked (started loop_row) ≡ swept (started loop_row)
loop_as_swept = refl
