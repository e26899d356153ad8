-- Worked rows: the lines of small lambdas.
use Rattle.std.specs.Prelude.{◌≡◌, refl, [], ◌∷◌}
use Rattle.val_core.specs.declared.operation.Op2.TheVariants.{Sub}
use Rattle.g_graph.specs.declared.op.Kind.TheVariants.{Value, Memory, Io}
use Rattle.g_graph.specs.declared.op.Origin.TheVariants.{Arg, Out}
use Rattle.g_graph.specs.declared.op.Op.TheVariants.{Const, Bin, Gamma, Theta}
use Rattle.g_graph.specs.Plain.{region, node, no_nodes, node_then, no_regions, region_then, PlainLambda}
use Rattle.s_linear.specs.Linear.{const, binary, move}
use Rattle.s_linear.specs.Lines.{lines, enter, leave, done, branch_not_zero, branch_zero, branch_equal, jump, label}
use Rattle.s_sequence.specs.Sequence.{sequenced}

-- return 42;
abbrev answer : PlainLambda
answer = record {
  number = 0;
  params = 0;
  objects = [];
  body = region (Memory ∷ Io ∷ []) (node_then (node 0 (Const 42) [] no_regions) no_nodes) (Out 0 0 ∷ Arg 0 ∷ Arg 1 ∷ []);
  next = 1;
}

answer-lines : lines (sequenced answer) ≡ enter [] ∷ done (const 0 42) ∷ leave 0 ∷ []
answer-lines = refl

-- A choice between two regions on the parameter, which they also take: it gives 2 or 1, and the parameter.
abbrev two : PlainLambda
two = record {
  number = 0;
  params = 1;
  objects = [];
  body =
      region (Value ∷ Memory ∷ Io ∷ [])
      (node_then
      (node 0 Gamma (Arg 0 ∷ Arg 0 ∷ [])
      (region_then (region (Value ∷ []) (node_then (node 1 (Const 2) [] no_regions) no_nodes) (Out 1 0 ∷ Arg 0 ∷ []))
      (region_then (region (Value ∷ []) (node_then (node 2 (Const 1) [] no_regions) no_nodes) (Out 2 0 ∷ Arg 0 ∷ [])) no_regions)))
      no_nodes)
      (Out 0 0 ∷ Arg 1 ∷ Arg 2 ∷ []);
  next = 3;
}

two-lines :
    lines (sequenced two)
    ≡ enter (0 ∷ []) ∷ branch_not_zero 0 0 ∷ done (move 1 0) ∷ done (const 2 2) ∷ done (move 3 2) ∷ done (move 4 1) ∷ jump 1 ∷ label 0
    ∷ done (move 5 0) ∷ done (const 6 1) ∷ done (move 3 6) ∷ done (move 4 5) ∷ label 1 ∷ leave 3 ∷ []
two-lines = refl

-- three regions without entries: the last stands first
abbrev three : PlainLambda
three = record {
  number = 0;
  params = 1;
  objects = [];
  body =
      region (Value ∷ Memory ∷ Io ∷ [])
      (node_then
      (node 0 Gamma (Arg 0 ∷ [])
      (region_then (region [] (node_then (node 1 (Const 10) [] no_regions) no_nodes) (Out 1 0 ∷ []))
      (region_then (region [] (node_then (node 2 (Const 11) [] no_regions) no_nodes) (Out 2 0 ∷ []))
      (region_then (region [] (node_then (node 3 (Const 12) [] no_regions) no_nodes) (Out 3 0 ∷ [])) no_regions))))
      no_nodes)
      (Out 0 0 ∷ Arg 1 ∷ Arg 2 ∷ []);
  next = 4;
}

three-lines :
    lines (sequenced three)
    ≡ enter (0 ∷ []) ∷ branch_equal 0 0 0 ∷ branch_equal 0 1 1 ∷ done (const 1 12) ∷ done (move 2 1) ∷ jump 2 ∷ label 0
    ∷ done (const 3 10) ∷ done (move 2 3) ∷ jump 2 ∷ label 1 ∷ done (const 4 11) ∷ done (move 2 4) ∷ label 2 ∷ leave 2 ∷ []
three-lines = refl

-- do a = a - 1; while (a);
abbrev countdown : PlainLambda
countdown = record {
  number = 0;
  params = 1;
  objects = [];
  body =
      region (Value ∷ Memory ∷ Io ∷ [])
      (node_then
      (node 0 Theta (Arg 0 ∷ Arg 1 ∷ Arg 2 ∷ [])
      (region_then
      (region (Value ∷ Memory ∷ Io ∷ [])
      (node_then (node 1 (Const 1) [] no_regions) (node_then (node 2 (Bin Sub) (Arg 0 ∷ Out 1 0 ∷ []) no_regions) no_nodes))
      (Out 2 0 ∷ Out 2 0 ∷ Arg 1 ∷ Arg 2 ∷ []))
      no_regions))
      no_nodes)
      (Out 0 0 ∷ Out 0 1 ∷ Out 0 2 ∷ []);
  next = 3;
}

countdown-lines :
    lines (sequenced countdown)
    ≡ enter (0 ∷ []) ∷ done (move 1 0) ∷ label 0 ∷ done (const 2 1) ∷ done (binary Sub 3 1 2) ∷ done (move 4 3)
    ∷ branch_zero 3 1 ∷ done (move 1 4) ∷ jump 0 ∷ label 1 ∷ leave 4 ∷ []
countdown-lines = refl

-- a loop that swaps its two variables: the results go to two new names, and these to the arguments
abbrev swap : PlainLambda
swap = record {
  number = 0;
  params = 2;
  objects = [];
  body =
      region (Value ∷ Value ∷ Memory ∷ Io ∷ [])
      (node_then
      (node 0 Theta (Arg 0 ∷ Arg 1 ∷ Arg 2 ∷ Arg 3 ∷ [])
      (region_then (region (Value ∷ Value ∷ Memory ∷ Io ∷ []) no_nodes (Arg 0 ∷ Arg 1 ∷ Arg 0 ∷ Arg 2 ∷ Arg 3 ∷ [])) no_regions))
      no_nodes)
      (Out 0 0 ∷ Out 0 2 ∷ Out 0 3 ∷ []);
  next = 1;
}

swap-lines :
    lines (sequenced swap)
    ≡ enter (0 ∷ 1 ∷ []) ∷ done (move 2 0) ∷ done (move 3 1) ∷ label 0 ∷ done (move 4 3) ∷ done (move 5 2) ∷ branch_zero 2 1
    ∷ done (move 2 4) ∷ done (move 3 5) ∷ jump 0 ∷ label 1 ∷ leave 4 ∷ []
swap-lines = refl
