-- Small programs as graphs.
use Rattle.std.specs.Prelude.{ℕ, ◌+◌, List, [], ◌∷◌, true, false}
use Rattle.val_core.specs.declared.leaf.Leaf.{Leaf}
use Rattle.val_core.specs.declared.operation.Op2.TheVariants as op
use Rattle.g_graph.specs.declared.op.Kind.{Kind}
use Rattle.g_graph.specs.declared.op.Kind.TheVariants.{Value, Memory, Io}
use Rattle.g_graph.specs.declared.op.Op.{Op}
use Rattle.g_graph.specs.declared.op.Op.TheVariants.{Const, Local, Delta, Bin, Load, Store, Clear, Apply, Put, Get, Gamma, Theta}
use Rattle.g_graph.specs.declared.op.Origin.{Origin}
use Rattle.g_graph.specs.declared.op.Origin.TheVariants.{Arg, Out}
use Rattle.g_graph.specs.Plain.{RegionTree, region, NodeTree, node, nodes_of, no_regions, region_then, PlainLambda, PlainOmega}
use Rattle.g_graph.specs.Program.{main_name}

abbrev plain : (id : ℕ) → Op → List Origin → NodeTree
plain id op inputs = node id op inputs no_regions

abbrev states : List Kind
states = Memory ∷ Io ∷ []

abbrev variable_and_states : List Kind
variable_and_states = Value ∷ Memory ∷ Io ∷ []

abbrev body : List Kind → List NodeTree → List Origin → RegionTree
body args nodes results = region args (nodes_of nodes) results

abbrev function : (number params : ℕ) → RegionTree → PlainLambda
function number params b = record { number = number; params = params; objects = []; body = b; next = 100 }

abbrev alone : PlainLambda → PlainOmega
alone l = record { lambdas = l ∷ []; deltas = []; names = main_name ∷ [] }

abbrev word : (offset : ℕ) → Leaf
word at = record { offset = at; width = 4 }

-- const int t[3] = {1, 2, 3}; int main(void) { return t[2]; }
abbrev pub table_main : PlainLambda
table_main =
    function 0 0
    (body states
    (plain 0 (Delta 0) [] ∷ plain 1 (Const 8) [] ∷ plain 2 (Bin op.Add) (Out 0 0 ∷ Out 1 0 ∷ []) ∷ plain 3 (Load 4) (Out 2 0 ∷ Arg 0 ∷ []) ∷ [])
    (Out 3 0 ∷ Arg 0 ∷ Arg 1 ∷ []))

abbrev pub table : PlainOmega
table = record {
  lambdas = table_main ∷ [];
  deltas =
      record {
        bytes = 1 ∷ 0 ∷ 0 ∷ 0 ∷ 2 ∷ 0 ∷ 0 ∷ 0 ∷ 3 ∷ 0 ∷ 0 ∷ 0 ∷ [];
        links = [];
        leaves = word 0 ∷ word 4 ∷ word 8 ∷ [];
        fixed = true;
      } ∷ [];
  names = main_name ∷ [];
}

-- int x = 258; int *p = &x; int main(void) { *p = *p + 1; return *p; }
abbrev pub pointer_main : PlainLambda
pointer_main =
    function 0 0
    (body states
    (plain 0 (Delta 1) [] ∷ plain 1 (Load 4) (Out 0 0 ∷ Arg 0 ∷ []) ∷ plain 2 (Load 4) (Out 1 0 ∷ Arg 0 ∷ []) ∷ plain 3 (Const 1) []
    ∷ plain 4 (Bin op.Add) (Out 2 0 ∷ Out 3 0 ∷ []) ∷ plain 5 (Store 4) (Out 1 0 ∷ Out 4 0 ∷ Arg 0 ∷ []) ∷ plain 6 (Load 4) (Out 1 0 ∷ Out 5 0 ∷ []) ∷ [])
    (Out 6 0 ∷ Out 5 0 ∷ Arg 1 ∷ []))

abbrev pub pointer : PlainOmega
pointer = record {
  lambdas = pointer_main ∷ [];
  deltas =
      record { bytes = 2 ∷ 1 ∷ 0 ∷ 0 ∷ []; links = []; leaves = word 0 ∷ []; fixed = false }
      ∷ record { bytes = 0 ∷ 0 ∷ 0 ∷ 0 ∷ []; links = record { at = 0; delta = 0 } ∷ []; leaves = word 0 ∷ []; fixed = false }
      ∷ [];
  names = main_name ∷ [];
}

-- int main(void) { int c; while ((c = getchar()) != -1) putchar(c); return 0; }
abbrev echo_turn : RegionTree
echo_turn =
    body states
    (plain 1 Get (Arg 1 ∷ []) ∷ plain 2 (Const 4294967295) [] ∷ plain 3 (Bin op.Ne) (Out 1 0 ∷ Out 2 0 ∷ [])
    ∷ node 4 Gamma (Out 3 0 ∷ Out 1 0 ∷ Arg 0 ∷ Out 1 1 ∷ [])
    (region_then (body variable_and_states [] (Arg 1 ∷ Arg 2 ∷ []))
    (region_then (body variable_and_states (plain 5 Put (Arg 0 ∷ Arg 2 ∷ []) ∷ []) (Arg 1 ∷ Out 5 0 ∷ [])) no_regions)) ∷ [])
    (Out 3 0 ∷ Out 4 0 ∷ Out 4 1 ∷ [])

abbrev pub echo_main : PlainLambda
echo_main =
    function 0 0
    (body states (node 0 Theta (Arg 0 ∷ Arg 1 ∷ []) (region_then echo_turn no_regions) ∷ plain 6 (Const 0) [] ∷ []) (Out 6 0 ∷ Out 0 0 ∷ Out 0 1 ∷ []))

abbrev pub echo : PlainOmega
echo = alone echo_main

-- n == 0 ? last : other(n - 1)
abbrev parity_of : (number last other : ℕ) → PlainLambda
parity_of number last other =
    function number 1
    (body variable_and_states
    (node 0 Gamma (Arg 0 ∷ Arg 0 ∷ Arg 1 ∷ Arg 2 ∷ [])
    (region_then (body variable_and_states (plain 1 (Const last) [] ∷ []) (Out 1 0 ∷ Arg 1 ∷ Arg 2 ∷ []))
    (region_then
    (body variable_and_states
    (plain 2 (Const 1) [] ∷ plain 3 (Bin op.Sub) (Arg 0 ∷ Out 2 0 ∷ []) ∷ plain 4 (Apply other) (Out 3 0 ∷ Arg 1 ∷ Arg 2 ∷ []) ∷ [])
    (Out 4 0 ∷ Out 4 1 ∷ Out 4 2 ∷ [])) no_regions)) ∷ [])
    (Out 0 0 ∷ Out 0 1 ∷ Out 0 2 ∷ []))

-- `even` and `odd` call each other down to 0; int main(void) { return odd(3); }
abbrev pub parity_lambdas : List PlainLambda
parity_lambdas =
    parity_of 0 1 1
    ∷ parity_of 1 0 0
    ∷ function 2 0 (body states (plain 0 (Const 3) [] ∷ plain 1 (Apply 1) (Out 0 0 ∷ Arg 0 ∷ Arg 1 ∷ []) ∷ []) (Out 1 0 ∷ Out 1 1 ∷ Out 1 2 ∷ []))
    ∷ []

abbrev pub parity : PlainOmega
parity = record { lambdas = parity_lambdas; deltas = []; names = (101 ∷ []) ∷ (111 ∷ []) ∷ main_name ∷ [] }

-- a byte is written
abbrev writes : (first byte : ℕ) → RegionTree
writes first byte = body (Io ∷ []) (plain first (Const byte) [] ∷ plain (first + 1) Put (Out first 0 ∷ Arg 0 ∷ []) ∷ []) (Out (first + 1) 0 ∷ [])

-- char c = 200; int main(void) { switch (c) { .. } return c; }, where all but 0 and 1 lead to the third case
abbrev pub narrow_main : PlainLambda
narrow_main =
    function 0 0
    (body states
    (plain 0 (Delta 0) [] ∷ plain 1 (Load 1) (Out 0 0 ∷ Arg 0 ∷ [])
    ∷ node 2 Gamma (Out 1 0 ∷ Arg 1 ∷ []) (region_then (writes 10 97) (region_then (writes 20 98) (region_then (writes 30 99) no_regions))) ∷ [])
    (Out 1 0 ∷ Arg 0 ∷ Out 2 0 ∷ []))

abbrev pub narrow : PlainOmega
narrow = record {
  lambdas = narrow_main ∷ [];
  deltas = record { bytes = 200 ∷ []; links = []; leaves = record { offset = 0; width = 1 } ∷ []; fixed = false } ∷ [];
  names = main_name ∷ [];
}

-- int main(void) { int t[2] = {5}; return t[0] + t[1]; }
abbrev pub cleared_main : PlainLambda
cleared_main = record {
  number = 0;
  params = 0;
  objects = record { size = 8; leaves = word 0 ∷ word 4 ∷ [] } ∷ [];
  body =
      body states
      (plain 0 (Clear 0) (Arg 0 ∷ []) ∷ plain 1 (Local 0) [] ∷ plain 2 (Const 5) [] ∷ plain 3 (Store 4) (Out 1 0 ∷ Out 2 0 ∷ Out 0 0 ∷ []) ∷ plain 4 (Const 4) []
      ∷ plain 5 (Bin op.Add) (Out 1 0 ∷ Out 4 0 ∷ []) ∷ plain 6 (Load 4) (Out 5 0 ∷ Out 3 0 ∷ []) ∷ plain 7 (Load 4) (Out 1 0 ∷ Out 3 0 ∷ [])
      ∷ plain 8 (Bin op.Add) (Out 7 0 ∷ Out 6 0 ∷ []) ∷ [])
      (Out 8 0 ∷ Out 3 0 ∷ Arg 1 ∷ []);
  next = 9;
}

abbrev pub cleared : PlainOmega
cleared = alone cleared_main
