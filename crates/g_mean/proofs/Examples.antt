-- Worked runs of small lambdas.
use Rattle.std.proofs.Common.{◌≡◌, ℕ, List, [], ◌∷◌, refl, Some, true, false}
use Rattle.val_core.specs.declared.operation.Op2.TheVariants.{Add, Sub}
use Rattle.val_core.specs.declared.leaf.Leaf.{Leaf}
use Rattle.val_core.specs.declared.values.Value.TheVariants.{Num, Bad}
use Rattle.val_core.specs.Events.{wrote, took, met}
use Rattle.val_core.specs.Answers.{Returned, Cut, Exited, Undefined}
use Rattle.g_graph.specs.declared.op.Kind.{Kind}
use Rattle.g_graph.specs.declared.op.Kind.TheVariants.{Memory, Io}
use Rattle.g_graph.specs.declared.op.Origin.{Origin}
use Rattle.g_graph.specs.declared.op.Origin.TheVariants.{Arg, Out}
use Rattle.g_graph.specs.declared.op.Op.{Op}
use Rattle.g_graph.specs.declared.op.Op.TheVariants.{Const, Undef, Local, Delta, Bin, Load, Store, Clear, PtrEq, Apply, Put, Exit, Get, Gamma, Theta}
use Rattle.g_graph.specs.Plain.{region, NodeTree, node, no_regions, nodes_of, regions_of, PlainLambda, PlainOmega, PlainDelta}
use Rattle.g_mean.specs.Data.{Datum, val, memory, input}
use Rattle.g_mean.specs.Calls.{lambda_at, program_at, deepest_main}

abbrev states : List Kind
states = Memory ∷ Io ∷ []

abbrev plain : ℕ → Op → List Origin → NodeTree
plain id op inputs = node id op inputs no_regions

abbrev of_body : ℕ → List NodeTree → List Origin → PlainLambda
of_body params nodes results = record { number = 0; params = params; objects = []; body = region [] (nodes_of nodes) results; next = 100 }

abbrev num : ℕ → Datum
num n = val (Num n)

-- main: gives 300
abbrev three_hundred : PlainLambda
three_hundred = of_body 0 (plain 0 (Const 300) [] ∷ []) (Out 0 0 ∷ Arg 0 ∷ Arg 1 ∷ [])

abbrev only_main : PlainOmega
only_main = record { lambdas = []; deltas = []; names = (109 ∷ 97 ∷ 105 ∷ 110 ∷ []) ∷ [] }

status : program_at 0 only_main (three_hundred ∷ []) [] ≡ Exited (met (0 ∷ []) ∷ []) 44
status = refl

-- Undef instead: no status
undefined : program_at 5 only_main (of_body 0 (plain 0 Undef [] ∷ []) (Out 0 0 ∷ Arg 0 ∷ Arg 1 ∷ []) ∷ []) [] ≡ Undefined (met (0 ∷ []) ∷ [])
undefined = refl

no_main : program_at 5 (record { lambdas = []; deltas = []; names = [] }) (three_hundred ∷ []) [] ≡ Undefined []
no_main = refl

-- counts its parameter down to 0 and writes each number
abbrev countdown : PlainLambda
countdown =
    of_body 1 (
    node 0 Theta (Arg 0 ∷ Arg 1 ∷ Arg 2 ∷ []) (regions_of (region [] (nodes_of (
    plain 1 Put (Arg 0 ∷ Arg 2 ∷ [])
    ∷ plain 2 (Const 1) []
    ∷ plain 3 (Bin Sub) (Arg 0 ∷ Out 2 0 ∷ [])
    ∷ [])) (Out 3 0 ∷ Out 3 0 ∷ Arg 1 ∷ Out 1 0 ∷ []) ∷ []))
    ∷ []) (Out 0 0 ∷ Out 0 1 ∷ Out 0 2 ∷ [])

abbrev start : ℕ → List Datum
start n = num n ∷ memory [] ∷ input [] ∷ []

counted : lambda_at 3 (countdown ∷ []) (λ k. Bad) 0 (start 3) ≡ Returned (num 0 ∷ memory [] ∷ input [] ∷ []) (met (0 ∷ []) ∷ wrote 3 ∷ wrote 2 ∷ wrote 1 ∷ [])
counted = refl

-- a turn too many
cut_short : lambda_at 2 (countdown ∷ []) (λ k. Bad) 0 (start 3) ≡ Cut (met (0 ∷ []) ∷ wrote 3 ∷ wrote 2 ∷ [])
cut_short = refl

-- calls itself on its parameter less one until that is 0
abbrev recursive : PlainLambda
recursive =
    of_body 1 (
    node 0 Gamma (Arg 0 ∷ Arg 0 ∷ Arg 1 ∷ Arg 2 ∷ []) (regions_of (
    region [] (nodes_of []) (Arg 0 ∷ Arg 1 ∷ Arg 2 ∷ [])
    ∷ region [] (nodes_of (
    plain 1 (Const 1) [] ∷ plain 2 (Bin Sub) (Arg 0 ∷ Out 1 0 ∷ []) ∷ plain 3 (Apply 0) (Out 2 0 ∷ Arg 1 ∷ Arg 2 ∷ []) ∷ []))
    (Out 3 0 ∷ Out 3 1 ∷ Out 3 2 ∷ [])
    ∷ []))
    ∷ []) (Out 0 0 ∷ Out 0 1 ∷ Out 0 2 ∷ [])

called : lambda_at 2 (recursive ∷ []) (λ k. Bad) 0 (start 2) ≡ Returned (start 0) (met (0 ∷ []) ∷ met (0 ∷ 0 ∷ []) ∷ met (0 ∷ 0 ∷ 0 ∷ []) ∷ [])
called = refl

-- a call too deep
too_deep : lambda_at 1 (recursive ∷ []) (λ k. Bad) 0 (start 2) ≡ Cut (met (0 ∷ []) ∷ met (0 ∷ 0 ∷ []) ∷ [])
too_deep = refl

no_lambda : lambda_at 1 [] (λ k. Bad) 0 (start 2) ≡ Undefined (met (0 ∷ []) ∷ [])
no_lambda = refl

abbrev leaf : ℕ → ℕ → Leaf
leaf offset width = record { offset = offset; width = width }

-- an object of one word, to which the parameter is stored, and which is then loaded
abbrev kept : List NodeTree → PlainLambda
kept between =
    record {
      number = 0;
      params = 1;
      objects = record { size = 4; leaves = leaf 0 4 ∷ [] } ∷ [];
      body = region [] (nodes_of (plain 0 (Local 0) [] ∷ plain 1 (Store 4) (Out 0 0 ∷ Arg 0 ∷ Arg 1 ∷ []) ∷ plain 2 (Clear 0) (Out 1 0 ∷ []) ∷ between)) (Out 3 0 ∷ Out 2 0 ∷ Arg 2 ∷ []);
      next = 9;
    }

-- the parameter is loaded again; the block is dead afterwards
loaded : lambda_at 0 (kept (plain 3 (Load 4) (Out 0 0 ∷ Out 1 0 ∷ []) ∷ []) ∷ []) (λ k. Bad) 0 (start 77)
    ≡ Returned (num 77 ∷ memory (record { size = 4; cells = record { leaf = leaf 0 4; value = Some (Num 0) } ∷ []; live = false; fixed = false } ∷ []) ∷ input [] ∷ []) (met (0 ∷ []) ∷ [])
loaded = refl

cleared : lambda_at 0 (kept (plain 3 (Load 4) (Out 0 0 ∷ Out 2 0 ∷ []) ∷ []) ∷ []) (λ k. Bad) 0 (start 77)
    ≡ Returned (num 0 ∷ memory (record { size = 4; cells = record { leaf = leaf 0 4; value = Some (Num 0) } ∷ []; live = false; fixed = false } ∷ []) ∷ input [] ∷ []) (met (0 ∷ []) ∷ [])
cleared = refl

narrow : lambda_at 0 (kept (plain 3 (Load 2) (Out 0 0 ∷ Out 1 0 ∷ []) ∷ []) ∷ []) (λ k. Bad) 0 (start 77) ≡ Undefined (met (0 ∷ []) ∷ [])
narrow = refl

-- the address of an object is not null
not_null : lambda_at 0 (kept (plain 4 (Const 0) [] ∷ plain 3 PtrEq (Out 0 0 ∷ Out 4 0 ∷ Out 1 0 ∷ []) ∷ []) ∷ []) (λ k. Bad) 0 (start 77)
    ≡ Returned (num 0 ∷ memory (record { size = 4; cells = record { leaf = leaf 0 4; value = Some (Num 0) } ∷ []; live = false; fixed = false } ∷ []) ∷ input [] ∷ []) (met (0 ∷ []) ∷ [])
not_null = refl

-- main reads two bytes, the second at the end of the input, and exits with their sum
abbrev reader : PlainLambda
reader =
    of_body 0 (
    plain 0 Get (Arg 1 ∷ []) ∷ plain 1 Get (Out 0 1 ∷ []) ∷ plain 2 (Bin Add) (Out 0 0 ∷ Out 1 0 ∷ []) ∷ plain 3 Exit (Out 2 0 ∷ Out 1 1 ∷ []) ∷ [])
    (Out 0 0 ∷ Arg 0 ∷ Out 3 0 ∷ [])

read_bytes : program_at 0 only_main (reader ∷ []) (8 ∷ []) ≡ Exited (met (0 ∷ []) ∷ took 8 ∷ []) 7
read_bytes = refl

-- two globals, the second of which holds the address of the first; main loads through it
abbrev globals : List PlainDelta
globals =
    record { bytes = 44 ∷ 1 ∷ 0 ∷ 0 ∷ []; links = []; leaves = leaf 0 4 ∷ []; fixed = true }
    ∷ record { bytes = 0 ∷ 0 ∷ 0 ∷ 0 ∷ []; links = record { at = 0; delta = 0 } ∷ []; leaves = leaf 0 4 ∷ []; fixed = false }
    ∷ []

abbrev pointed : Op → List Origin → PlainLambda
pointed op inputs =
    of_body 0 (plain 0 (Delta 1) [] ∷ plain 1 (Load 4) (Out 0 0 ∷ Arg 0 ∷ []) ∷ plain 2 op inputs ∷ []) (Out 2 0 ∷ Arg 0 ∷ Arg 1 ∷ [])

through : program_at 0 (record { lambdas = []; deltas = globals; names = (109 ∷ 97 ∷ 105 ∷ 110 ∷ []) ∷ [] }) (pointed (Load 4) (Out 1 0 ∷ Arg 0 ∷ []) ∷ []) [] ≡ Exited (met (0 ∷ []) ∷ []) 44
through = refl

-- a store to a fixed global
fixed : program_at 0 (record { lambdas = []; deltas = globals; names = (109 ∷ 97 ∷ 105 ∷ 110 ∷ []) ∷ [] }) (pointed (Store 4) (Out 1 0 ∷ Out 1 0 ∷ Arg 0 ∷ []) ∷ []) [] ≡ Undefined (met (0 ∷ []) ∷ [])
fixed = refl

-- a frame of 16 bytes for each of the active calls
abbrev entry : PlainLambda
entry = of_body 0 (plain 0 (Const 2) [] ∷ plain 1 (Apply 1) (Out 0 0 ∷ Arg 0 ∷ Arg 1 ∷ []) ∷ []) (Out 1 0 ∷ Out 1 1 ∷ Out 1 2 ∷ [])

abbrev second : PlainLambda
second = of_body 1 [] (Arg 0 ∷ Arg 1 ∷ Arg 2 ∷ [])

frames : deepest_main 3 only_main (entry ∷ second ∷ []) (16 ∷ 32 ∷ []) [] ≡ 48
frames = refl
