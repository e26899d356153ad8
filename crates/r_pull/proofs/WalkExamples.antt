-- A worked row: int a = getchar(), b = a * 7 + 1, x = 0, y = 0; if (a < 60) { if (a < 50) x = b; } else y = b; return x + y;
use Rattle.std.specs.Prelude.{reverse}
use Rattle.std.proofs.Common.{◌≡◌, ℕ, List, [], ◌∷◌, map, refl}
use Rattle.val_core.specs.declared.operation.Op2.TheVariants.{Add, Mul, Slt}
use Rattle.g_graph.specs.declared.op.Kind.{Kind}
use Rattle.g_graph.specs.declared.op.Kind.TheVariants.{Value, Memory, Io}
use Rattle.g_graph.specs.declared.op.Op.{Op}
use Rattle.g_graph.specs.declared.op.Op.TheVariants.{Const, Bin, Get, Gamma}
use Rattle.g_graph.specs.declared.op.Origin.{Origin}
use Rattle.g_graph.specs.declared.op.Origin.TheVariants.{Arg, Out}
use Rattle.r_rule.specs.declared.steps.Rule.TheVariants.{Pull}
use Rattle.g_graph.specs.Ids.{region_ids}
use Rattle.g_graph.specs.Plain.{RegionTree, region, NodeTree, node, no_regions, nodes_of, regions_of, PlainLambda}
use Rattle.g_graph.specs.Program.{lambda_values}
use Rattle.r_pull.specs.WalkLaws.{pull_change}
use Rattle.r_pull.specs.Walk.{walked}
use Rattle.r_sweep_def.specs.Swept.{Logged, swept_by}

abbrev plain : ℕ → Op → List Origin → NodeTree
plain id op inputs = node id op inputs no_regions

abbrev of_body : (next : ℕ) → RegionTree → PlainLambda
of_body next body = record { number = 0; params = 0; objects = []; body = body; next = next }

abbrev six : List Kind
six = Value ∷ Value ∷ Value ∷ Value ∷ Memory ∷ Io ∷ []

abbrev four : List Kind
four = Value ∷ Memory ∷ Io ∷ Value ∷ []

-- the inner choice, whose entries are these
abbrev inner : List Origin → NodeTree
inner entries =
    node 12 Gamma (Out 11 0 ∷ entries)
    (regions_of (region six (nodes_of []) (Arg 0 ∷ Arg 1 ∷ Arg 2 ∷ Arg 3 ∷ Arg 4 ∷ Arg 5 ∷ []) ∷ region six (nodes_of []) (Arg 0 ∷ Arg 1 ∷ Arg 1 ∷ Arg 3 ∷ Arg 4 ∷ Arg 5 ∷ []) ∷ []))

abbrev outputs : List Origin
outputs = Out 12 0 ∷ Out 12 1 ∷ Out 12 2 ∷ Out 12 3 ∷ Out 12 4 ∷ Out 12 5 ∷ []

abbrev row : PlainLambda
row =
    of_body 14 (region (Memory ∷ Io ∷ []) (nodes_of (plain 0 Get (Arg 1 ∷ []) ∷ plain 1 (Const 7) [] ∷ plain 2 (Bin Mul) (Out 0 0 ∷ Out 1 0 ∷ []) ∷ plain 3 (Const 1) []
    ∷ plain 4 (Bin Add) (Out 2 0 ∷ Out 3 0 ∷ []) ∷ plain 5 (Const 0) [] ∷ plain 6 (Const 0) [] ∷ plain 7 (Const 60) [] ∷ plain 8 (Bin Slt) (Out 0 0 ∷ Out 7 0 ∷ [])
    ∷ node 9 Gamma (Out 8 0 ∷ Out 0 0 ∷ Out 4 0 ∷ Out 5 0 ∷ Out 6 0 ∷ Arg 0 ∷ Out 0 1 ∷ [])
    (regions_of (region six (nodes_of []) (Arg 0 ∷ Arg 1 ∷ Arg 2 ∷ Arg 1 ∷ Arg 4 ∷ Arg 5 ∷ [])
    ∷ region six (nodes_of (plain 10 (Const 50) [] ∷ plain 11 (Bin Slt) (Arg 0 ∷ Out 10 0 ∷ []) ∷ inner (Arg 0 ∷ Arg 1 ∷ Arg 2 ∷ Arg 3 ∷ Arg 4 ∷ Arg 5 ∷ []) ∷ [])) outputs ∷ []))
    ∷ plain 13 (Bin Add) (Out 9 2 ∷ Out 9 3 ∷ []) ∷ [])) (Out 13 0 ∷ Out 9 4 ∷ Out 9 5 ∷ []))

abbrev pulled : PlainLambda
pulled =
    of_body 25 (region (Memory ∷ Io ∷ []) (nodes_of (plain 0 Get (Arg 1 ∷ []) ∷ plain 7 (Const 60) [] ∷ plain 8 (Bin Slt) (Out 0 0 ∷ Out 7 0 ∷ [])
    ∷ node 9 Gamma (Out 8 0 ∷ Out 0 0 ∷ Arg 0 ∷ Out 0 1 ∷ Out 0 0 ∷ [])
    (regions_of (region four (nodes_of (plain 23 (Const 7) [] ∷ plain 21 (Bin Mul) (Arg 3 ∷ Out 23 0 ∷ []) ∷ plain 19 (Const 1) [] ∷ plain 17 (Bin Add) (Out 21 0 ∷ Out 19 0 ∷ [])
    ∷ plain 15 (Const 0) [] ∷ [])) (Arg 0 ∷ Out 17 0 ∷ Out 15 0 ∷ Out 17 0 ∷ Arg 1 ∷ Arg 2 ∷ [])
    ∷ region four (nodes_of (plain 24 (Const 7) [] ∷ plain 22 (Bin Mul) (Arg 3 ∷ Out 24 0 ∷ []) ∷ plain 20 (Const 1) [] ∷ plain 18 (Bin Add) (Out 22 0 ∷ Out 20 0 ∷ [])
    ∷ plain 16 (Const 0) [] ∷ plain 14 (Const 0) [] ∷ plain 10 (Const 50) [] ∷ plain 11 (Bin Slt) (Arg 0 ∷ Out 10 0 ∷ [])
    ∷ inner (Arg 0 ∷ Out 18 0 ∷ Out 16 0 ∷ Out 14 0 ∷ Arg 1 ∷ Arg 2 ∷ []) ∷ [])) outputs ∷ [])) ∷ plain 13 (Bin Add) (Out 9 2 ∷ Out 9 3 ∷ []) ∷ [])) (Out 13 0 ∷ Out 9 4 ∷ Out 9 5 ∷ []))

abbrev start : Logged
start = record { lambda = row; steps = [] }

abbrev end : Logged
end = record { lambda = pulled; steps = map (λ n. record { rule = Pull; node = n }) (6 ∷ 5 ∷ 4 ∷ 3 ∷ 2 ∷ 1 ∷ []) }

row_walked : walked start ≡ end
row_walked = refl

row_swept : swept_by pull_change (reverse (region_ids row.body)) start ≡ end
row_swept = refl

before_after : (lambda_values row ≡ 97) × (lambda_values pulled ≡ 103)
before_after = (refl, refl)
