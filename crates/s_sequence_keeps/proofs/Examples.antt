-- Worked runs of lambdas and of their linear code, two wrong sequencings, and code that is not closed.
use Rattle.std.proofs.Common.{◌≡◌, ◌⊎◌, ◌<◌, inl, inr, arith, ℕ, List, [], ◌∷◌, ◌++◌, map, refl, Some, Bool, true, false}
use Rattle.std.specs.Prelude.{replicate}
use Rattle.val_core.specs.declared.operation.Op2.TheVariants.{Add, Sub}
use Rattle.val_core.specs.declared.values.Value.{Value}
use Rattle.val_core.specs.declared.values.Value.TheVariants.{Num, Bad}
use Rattle.val_core.specs.Memory.{Memory as Blocks}
use Rattle.val_core.specs.Events.{Event, wrote, took, met}
use Rattle.val_core.specs.Answers.{Answer, Returned, Cut, Exited, Undefined}
use Rattle.val_core.specs.Within.{Given}
use Rattle.g_graph.specs.declared.op.Kind.TheVariants.{Value as ValueKind, Memory, Io}
use Rattle.g_graph.specs.declared.op.Origin.{Origin}
use Rattle.g_graph.specs.declared.op.Origin.TheVariants.{Arg, Out}
use Rattle.g_graph.specs.declared.op.Op.{Op}
use Rattle.g_graph.specs.declared.op.Op.TheVariants.{Const, Local, Delta, Bin, Load, Store, Apply, Put, Exit, Get, Gamma, Theta}
use Rattle.g_graph.specs.Plain.{region, NodeTree, node, no_regions, nodes_of, regions_of, PlainObject, PlainLambda, PlainOmega}
use Rattle.g_graph.specs.WellFormed.{well_formed}
use Rattle.g_mean.specs.Data.{Datum, val, memory, input, taken}
use Rattle.g_mean.specs.Calls.{applied, program_at}
use Rattle.s_linear.specs.Linear.{const, binary, move, choice, loop, Code, no_steps, step_then, no_codes, code_then, LinearFunction}
use Rattle.s_linear.specs.Meaning.{calls}
use Rattle.s_sequence.specs.Sequence.{sequenced, instrs_then}
use Rattle.s_sequence_keeps.specs.Agreement.{Agrees, GivesBack}
use Rattle.s_sequence_keeps.specs.Closed.{target_of, NameSet, CodeIsClosed}
use Rattle.s_sequence_keeps.specs.Programs.{linear_program_at}

abbrev simple : ℕ → Op → List Origin → NodeTree
simple id op inputs = node id op inputs no_regions

abbrev with_objects : (params : ℕ) → List PlainObject → List NodeTree → List Origin → PlainLambda
with_objects params objects nodes results =
    record { number = 0; params = params; objects = objects; body = region (replicate params ValueKind ++ Memory ∷ Io ∷ []) (nodes_of nodes) results; next = 100 }

abbrev of_body : (params : ℕ) → List NodeTree → List Origin → PlainLambda
of_body params nodes results = with_objects params [] nodes results

abbrev no_globals : ℕ → Value
no_globals k = Bad

-- function 0 of these lambdas at a bound, and its linear code
abbrev graph : ℕ → List PlainLambda → List ℕ → Blocks → List ℕ → Answer (List Datum)
graph n ls xs m i = applied ls no_globals n 0 (taken (map Num xs) m i)

abbrev linear : ℕ → List PlainLambda → List ℕ → Blocks → List ℕ → Answer (Given Value)
linear n ls xs m i = calls (map sequenced ls) no_globals n 0 (map Num xs) m i

abbrev returned : ℕ → Blocks → List ℕ → List Event → Answer (List Datum)
returned v m i did = Returned (val (Num v) ∷ memory m ∷ input i ∷ []) did

abbrev gave : ℕ → Blocks → List ℕ → List Event → Answer (Given Value)
gave v m i did = Returned (record { value = Num v; memory = m; input = i }) did

-- ---- return 42;

abbrev answer : List PlainLambda
answer = of_body 0 (simple 0 (Const 42) [] ∷ []) (Out 0 0 ∷ Arg 0 ∷ Arg 1 ∷ []) ∷ []

answer-fits : map well_formed answer ≡ true ∷ []
answer-fits = refl

answer-0 : (graph 0 answer [] [] [] ≡ Cut []) × (linear 0 answer [] [] [] ≡ Cut [])
answer-0 = (refl, refl)

answer-1 : (graph 1 answer [] [] [] ≡ returned 42 [] [] (met (0 ∷ []) ∷ [])) × (linear 1 answer [] [] [] ≡ gave 42 [] [] (met (0 ∷ []) ∷ []))
answer-1 = (refl, refl)

answer-3 : (graph 3 answer [] [] [] ≡ returned 42 [] [] (met (0 ∷ []) ∷ [])) × (linear 3 answer [] [] [] ≡ gave 42 [] [] (met (0 ∷ []) ∷ []))
answer-3 = (refl, refl)

-- ---- a choice between two regions on the parameter, which they also take: it gives 2 or 1, and the parameter

abbrev two : List PlainLambda
two =
    of_body 1 (
    node 0 Gamma (Arg 0 ∷ Arg 0 ∷ []) (regions_of (
    region (ValueKind ∷ []) (nodes_of (simple 1 (Const 2) [] ∷ [])) (Out 1 0 ∷ Arg 0 ∷ [])
    ∷ region (ValueKind ∷ []) (nodes_of (simple 2 (Const 1) [] ∷ [])) (Out 2 0 ∷ Arg 0 ∷ [])
    ∷ []))
    ∷ []) (Out 0 0 ∷ Arg 1 ∷ Arg 2 ∷ []) ∷ []

two-fits : map well_formed two ≡ true ∷ []
two-fits = refl

two-0 : (graph 0 two (7 ∷ []) [] [] ≡ Cut []) × (linear 0 two (7 ∷ []) [] [] ≡ Cut [])
two-0 = (refl, refl)

two-first : (graph 1 two (0 ∷ []) [] [] ≡ returned 2 [] [] (met (0 ∷ []) ∷ [])) × (linear 1 two (0 ∷ []) [] [] ≡ gave 2 [] [] (met (0 ∷ []) ∷ []))
two-first = (refl, refl)

two-second : (graph 3 two (7 ∷ []) [] [] ≡ returned 1 [] [] (met (0 ∷ []) ∷ [])) × (linear 3 two (7 ∷ []) [] [] ≡ gave 1 [] [] (met (0 ∷ []) ∷ []))
two-second = (refl, refl)

-- the same on the first of two parameters, with the second one as the entry, and with the sum of its outputs
abbrev both : List PlainLambda
both =
    of_body 2 (
    node 0 Gamma (Arg 0 ∷ Arg 1 ∷ []) (regions_of (
    region (ValueKind ∷ []) (nodes_of (simple 1 (Const 2) [] ∷ [])) (Out 1 0 ∷ Arg 0 ∷ [])
    ∷ region (ValueKind ∷ []) (nodes_of (simple 2 (Const 1) [] ∷ [])) (Out 2 0 ∷ Arg 0 ∷ [])
    ∷ []))
    ∷ simple 3 (Bin Add) (Out 0 0 ∷ Out 0 1 ∷ [])
    ∷ []) (Out 3 0 ∷ Arg 2 ∷ Arg 3 ∷ []) ∷ []

both-first : (graph 1 both (0 ∷ 10 ∷ []) [] [] ≡ returned 12 [] [] (met (0 ∷ []) ∷ [])) × (linear 1 both (0 ∷ 10 ∷ []) [] [] ≡ gave 12 [] [] (met (0 ∷ []) ∷ []))
both-first = (refl, refl)

both-second : (graph 3 both (7 ∷ 10 ∷ []) [] [] ≡ returned 11 [] [] (met (0 ∷ []) ∷ [])) × (linear 3 both (7 ∷ 10 ∷ []) [] [] ≡ gave 11 [] [] (met (0 ∷ []) ∷ []))
both-second = (refl, refl)

-- ---- three regions without entries

abbrev three : List PlainLambda
three =
    of_body 1 (
    node 0 Gamma (Arg 0 ∷ []) (regions_of (
    region [] (nodes_of (simple 1 (Const 10) [] ∷ [])) (Out 1 0 ∷ [])
    ∷ region [] (nodes_of (simple 2 (Const 11) [] ∷ [])) (Out 2 0 ∷ [])
    ∷ region [] (nodes_of (simple 3 (Const 12) [] ∷ [])) (Out 3 0 ∷ [])
    ∷ []))
    ∷ []) (Out 0 0 ∷ Arg 1 ∷ Arg 2 ∷ []) ∷ []

three-fits : map well_formed three ≡ true ∷ []
three-fits = refl

three-0 : (graph 0 three (1 ∷ []) [] [] ≡ Cut []) × (linear 0 three (1 ∷ []) [] [] ≡ Cut [])
three-0 = (refl, refl)

three-first : (graph 1 three (0 ∷ []) [] [] ≡ returned 10 [] [] (met (0 ∷ []) ∷ [])) × (linear 1 three (0 ∷ []) [] [] ≡ gave 10 [] [] (met (0 ∷ []) ∷ []))
three-first = (refl, refl)

three-middle : (graph 1 three (1 ∷ []) [] [] ≡ returned 11 [] [] (met (0 ∷ []) ∷ [])) × (linear 1 three (1 ∷ []) [] [] ≡ gave 11 [] [] (met (0 ∷ []) ∷ []))
three-middle = (refl, refl)

three-beyond : (graph 3 three (9 ∷ []) [] [] ≡ returned 12 [] [] (met (0 ∷ []) ∷ [])) × (linear 3 three (9 ∷ []) [] [] ≡ gave 12 [] [] (met (0 ∷ []) ∷ []))
three-beyond = (refl, refl)

-- ---- do a = a - 1; while (a);

abbrev decrement : List PlainLambda
decrement =
    of_body 1 (
    node 0 Theta (Arg 0 ∷ Arg 1 ∷ Arg 2 ∷ []) (regions_of (region (ValueKind ∷ Memory ∷ Io ∷ []) (nodes_of (
    simple 1 (Const 1) [] ∷ simple 2 (Bin Sub) (Arg 0 ∷ Out 1 0 ∷ [])
    ∷ [])) (Out 2 0 ∷ Out 2 0 ∷ Arg 1 ∷ Arg 2 ∷ []) ∷ []))
    ∷ []) (Out 0 0 ∷ Out 0 1 ∷ Out 0 2 ∷ []) ∷ []

decrement-fits : map well_formed decrement ≡ true ∷ []
decrement-fits = refl

decrement-0 : (graph 0 decrement (2 ∷ []) [] [] ≡ Cut []) × (linear 0 decrement (2 ∷ []) [] [] ≡ Cut [])
decrement-0 = (refl, refl)

decrement-1 : (graph 1 decrement (2 ∷ []) [] [] ≡ Cut (met (0 ∷ []) ∷ [])) × (linear 1 decrement (2 ∷ []) [] [] ≡ Cut (met (0 ∷ []) ∷ []))
decrement-1 = (refl, refl)

decrement-3 : (graph 3 decrement (2 ∷ []) [] [] ≡ returned 0 [] [] (met (0 ∷ []) ∷ [])) × (linear 3 decrement (2 ∷ []) [] [] ≡ gave 0 [] [] (met (0 ∷ []) ∷ []))
decrement-3 = (refl, refl)

-- ---- a loop that writes its variable, and counts it down to 0

abbrev countdown : List PlainLambda
countdown =
    of_body 1 (
    node 0 Theta (Arg 0 ∷ Arg 1 ∷ Arg 2 ∷ []) (regions_of (region (ValueKind ∷ Memory ∷ Io ∷ []) (nodes_of (
    simple 1 Put (Arg 0 ∷ Arg 2 ∷ [])
    ∷ simple 2 (Const 1) []
    ∷ simple 3 (Bin Sub) (Arg 0 ∷ Out 2 0 ∷ [])
    ∷ [])) (Out 3 0 ∷ Out 3 0 ∷ Arg 1 ∷ Out 1 0 ∷ []) ∷ []))
    ∷ []) (Out 0 0 ∷ Out 0 1 ∷ Out 0 2 ∷ []) ∷ []

countdown-fits : map well_formed countdown ≡ true ∷ []
countdown-fits = refl

countdown-1 : (graph 1 countdown (2 ∷ []) [] [] ≡ Cut (met (0 ∷ []) ∷ [])) × (linear 1 countdown (2 ∷ []) [] [] ≡ Cut (met (0 ∷ []) ∷ []))
countdown-1 = (refl, refl)

countdown-3 : (graph 3 countdown (2 ∷ []) [] [] ≡ returned 0 [] [] (met (0 ∷ []) ∷ wrote 2 ∷ wrote 1 ∷ []))
    × (linear 3 countdown (2 ∷ []) [] [] ≡ gave 0 [] [] (met (0 ∷ []) ∷ wrote 2 ∷ wrote 1 ∷ []))
countdown-3 = (refl, refl)

countdown-short : (graph 3 countdown (9 ∷ []) [] [] ≡ Cut (met (0 ∷ []) ∷ wrote 9 ∷ wrote 8 ∷ []))
    × (linear 3 countdown (9 ∷ []) [] [] ≡ Cut (met (0 ∷ []) ∷ wrote 9 ∷ wrote 8 ∷ []))
countdown-short = (refl, refl)

-- ---- a loop that swaps its two variables while the first one is not 0

abbrev swap : List PlainLambda
swap =
    of_body 2 (
    node 0 Theta (Arg 0 ∷ Arg 1 ∷ Arg 2 ∷ Arg 3 ∷ [])
    (regions_of (region (ValueKind ∷ ValueKind ∷ Memory ∷ Io ∷ []) (nodes_of []) (Arg 0 ∷ Arg 1 ∷ Arg 0 ∷ Arg 2 ∷ Arg 3 ∷ []) ∷ []))
    ∷ []) (Out 0 0 ∷ Out 0 2 ∷ Out 0 3 ∷ []) ∷ []

swap-fits : map well_formed swap ≡ true ∷ []
swap-fits = refl

swap-0 : (graph 0 swap (5 ∷ 0 ∷ []) [] [] ≡ Cut []) × (linear 0 swap (5 ∷ 0 ∷ []) [] [] ≡ Cut [])
swap-0 = (refl, refl)

swap-1 : (graph 1 swap (5 ∷ 0 ∷ []) [] [] ≡ Cut (met (0 ∷ []) ∷ [])) × (linear 1 swap (5 ∷ 0 ∷ []) [] [] ≡ Cut (met (0 ∷ []) ∷ []))
swap-1 = (refl, refl)

swap-3 : (graph 3 swap (5 ∷ 0 ∷ []) [] [] ≡ returned 5 [] [] (met (0 ∷ []) ∷ [])) × (linear 3 swap (5 ∷ 0 ∷ []) [] [] ≡ gave 5 [] [] (met (0 ∷ []) ∷ []))
swap-3 = (refl, refl)

-- ---- a called function that writes its parameter and ends the program

abbrev leaving : List PlainLambda
leaving =
    of_body 0 (simple 0 (Const 300) [] ∷ simple 1 (Apply 1) (Out 0 0 ∷ Arg 0 ∷ Arg 1 ∷ []) ∷ simple 2 Put (Out 0 0 ∷ Out 1 2 ∷ []) ∷ [])
    (Out 0 0 ∷ Out 1 1 ∷ Out 2 0 ∷ [])
    ∷ of_body 1 (simple 0 Put (Arg 0 ∷ Arg 2 ∷ []) ∷ simple 1 Exit (Arg 0 ∷ Out 0 0 ∷ []) ∷ []) (Arg 0 ∷ Arg 1 ∷ Out 1 0 ∷ []) ∷ []

leaving-fits : map well_formed leaving ≡ true ∷ true ∷ []
leaving-fits = refl

leaving-1 : (graph 1 leaving [] [] [] ≡ Cut (met (0 ∷ []) ∷ [])) × (linear 1 leaving [] [] [] ≡ Cut (met (0 ∷ []) ∷ []))
leaving-1 = (refl, refl)

leaving-3 : (graph 3 leaving [] [] [] ≡ Exited (met (0 ∷ []) ∷ met (0 ∷ 1 ∷ []) ∷ wrote 44 ∷ []) 44)
    × (linear 3 leaving [] [] [] ≡ Exited (met (0 ∷ []) ∷ met (0 ∷ 1 ∷ []) ∷ wrote 44 ∷ []) 44)
leaving-3 = (refl, refl)

-- ---- a byte is taken, and then there is none

abbrev reading : List PlainLambda
reading = of_body 0 (simple 0 Get (Arg 1 ∷ []) ∷ simple 1 Get (Out 0 1 ∷ []) ∷ []) (Out 1 0 ∷ Arg 0 ∷ Out 1 1 ∷ []) ∷ []

reading-fits : map well_formed reading ≡ true ∷ []
reading-fits = refl

reading-1 : (graph 1 reading [] [] (7 ∷ []) ≡ returned 4294967295 [] [] (met (0 ∷ []) ∷ took 7 ∷ []))
    × (linear 1 reading [] [] (7 ∷ []) ≡ gave 4294967295 [] [] (met (0 ∷ []) ∷ took 7 ∷ []))
reading-1 = (refl, refl)

-- ---- an object is written and its address given back: the caller reads it after the call

abbrev object : PlainObject
object = record { size = 4; leaves = record { offset = 0; width = 4 } ∷ [] }

abbrev giving : PlainLambda
giving =
    with_objects 0 (object ∷ []) (
    simple 0 (Local 0) [] ∷ simple 1 (Const 5) [] ∷ simple 2 (Store 4) (Out 0 0 ∷ Out 1 0 ∷ Arg 0 ∷ [])
    ∷ simple 3 (Load 4) (Out 0 0 ∷ Out 2 0 ∷ []) ∷ simple 4 Put (Out 3 0 ∷ Arg 1 ∷ []) ∷ []) (Out 0 0 ∷ Out 2 0 ∷ Out 4 0 ∷ [])

abbrev dangling : List PlainLambda
dangling = of_body 0 (simple 0 (Apply 1) (Arg 0 ∷ Arg 1 ∷ []) ∷ simple 1 (Load 4) (Out 0 0 ∷ Out 0 1 ∷ []) ∷ []) (Out 1 0 ∷ Out 0 1 ∷ Out 0 2 ∷ []) ∷ giving ∷ []

dangling-fits : map well_formed dangling ≡ true ∷ true ∷ []
dangling-fits = refl

dangling-3 : (graph 3 dangling [] [] [] ≡ Undefined (met (0 ∷ []) ∷ met (0 ∷ 1 ∷ []) ∷ wrote 5 ∷ []))
    × (linear 3 dangling [] [] [] ≡ Undefined (met (0 ∷ []) ∷ met (0 ∷ 1 ∷ []) ∷ wrote 5 ∷ []))
dangling-3 = (refl, refl)

-- ---- a program that changes its global, and ends with what it then reads

abbrev changing : List PlainLambda
changing =
    of_body 0 (
    simple 0 (Delta 0) [] ∷ simple 1 (Const 300) [] ∷ simple 2 (Store 4) (Out 0 0 ∷ Out 1 0 ∷ Arg 0 ∷ [])
    ∷ simple 3 (Load 4) (Out 0 0 ∷ Out 2 0 ∷ []) ∷ []) (Out 3 0 ∷ Out 2 0 ∷ Arg 1 ∷ []) ∷ []

abbrev program : Bool → PlainOmega
program fixed =
    record {
      lambdas = changing;
      deltas = record { bytes = 1 ∷ 0 ∷ 0 ∷ 0 ∷ []; links = []; leaves = record { offset = 0; width = 4 } ∷ []; fixed = fixed } ∷ [];
      names = (109 ∷ 97 ∷ 105 ∷ 110 ∷ []) ∷ [];
    }

changing-1 : (program_at 1 (program false) changing [] ≡ Exited (met (0 ∷ []) ∷ []) 44)
    × (linear_program_at 1 (program false) (map sequenced changing) [] ≡ Exited (met (0 ∷ []) ∷ []) 44)
changing-1 = (refl, refl)

-- the same with a global that never changes
fixed-1 : (program_at 1 (program true) changing [] ≡ Undefined (met (0 ∷ []) ∷ []))
    × (linear_program_at 1 (program true) (map sequenced changing) [] ≡ Undefined (met (0 ∷ []) ∷ []))
fixed-1 = (refl, refl)

-- ---- two wrong sequencings

abbrev wrong : ℕ → LinearFunction → List ℕ → Answer (Given Value)
wrong n f xs = calls (f ∷ []) no_globals n 0 (map Num xs) [] []

-- a swap by moves one after the other, straight to the arguments
abbrev swap_in_turn : LinearFunction
swap_in_turn =
    record {
      number = 0;
      params = 2;
      objects = [];
      code = step_then (loop (move 2 0 ∷ move 3 1 ∷ []) no_steps 2 (move 2 3 ∷ move 3 2 ∷ [])) no_steps;
      value = 3;
    }

-- it gives the 0 of the second variable, where the lambda gives 5
swap_in_turn-is-wrong : Agrees GivesBack (graph 3 swap (5 ∷ 0 ∷ []) [] []) (wrong 3 swap_in_turn (5 ∷ 0 ∷ [])) → ⊥
swap_in_turn-is-wrong h = by h.0.value h.0.is h.0.less
  where
    by : (v : Value) → val (Num 5) ∷ memory [] ∷ input [] ∷ [] ≡ val v ∷ memory [] ∷ input [] ∷ [] → (v ≡ Num 0) ⊎ (v ≡ Bad) → ⊥
    by v e (inl z) = let same : Num 5 ≡ v = cc in let apart : Num 5 ≡ Num 0 = cc in absurd cc
    by v e (inr z) = let same : Num 5 ≡ v = cc in absurd cc

-- the two regions of a choice exchanged
abbrev exchanged : LinearFunction
exchanged =
    record {
      number = 0;
      params = 1;
      objects = [];
      code =
          step_then (choice 0 (code_then (instrs_then (const 1 1 ∷ move 2 1 ∷ []) no_steps) (code_then (instrs_then (const 3 2 ∷ move 2 3 ∷ []) no_steps) no_codes)))
          no_steps;
      value = 2;
    }

abbrev one_of_two : List PlainLambda
one_of_two =
    of_body 1 (
    node 0 Gamma (Arg 0 ∷ []) (regions_of (
    region [] (nodes_of (simple 1 (Const 2) [] ∷ [])) (Out 1 0 ∷ []) ∷ region [] (nodes_of (simple 2 (Const 1) [] ∷ [])) (Out 2 0 ∷ []) ∷ []))
    ∷ []) (Out 0 0 ∷ Arg 1 ∷ Arg 2 ∷ []) ∷ []

exchanged-is-wrong : Agrees GivesBack (graph 1 one_of_two (0 ∷ []) [] []) (wrong 1 exchanged (0 ∷ [])) → ⊥
exchanged-is-wrong h = by h.0.value h.0.is h.0.less
  where
    by : (v : Value) → val (Num 2) ∷ memory [] ∷ input [] ∷ [] ≡ val v ∷ memory [] ∷ input [] ∷ [] → (v ≡ Num 1) ⊎ (v ≡ Bad) → ⊥
    by v e (inl z) = let same : Num 2 ≡ v = cc in let apart : Num 2 ≡ Num 1 = cc in absurd cc
    by v e (inr z) = let same : Num 2 ≡ v = cc in absurd cc

-- ---- code that is not closed

abbrev first_name : NameSet
first_name x = x < 1

-- name 1 is read after a choice in which one code alone writes it
abbrev one_branch : Code
one_branch =
    step_then (choice 0 (code_then (instrs_then (const 1 5 ∷ []) no_steps) (code_then no_steps no_codes))) (instrs_then (move 2 1 ∷ []) no_steps)

one_branch-is-not-closed : CodeIsClosed first_name one_branch → ⊥
one_branch-is-not-closed h = let low : 1 < 1 = h.1.0.0.1.0 in omega (arith, low)

-- the body of a loop reads name 0, which is written before the loop
abbrev outer_name : Code
outer_name = step_then (loop (move 1 0 ∷ []) (instrs_then (binary Add 2 1 0 ∷ []) no_steps) 2 (move 1 2 ∷ [])) no_steps

outer_name-is-not-closed : CodeIsClosed first_name outer_name → ⊥
outer_name-is-not-closed h = by h.0.1.0.1.0
  where
    by : (target_of (move 1 0) ≡ Some 0) ⊎ ⊥ → ⊥
    by (inl e) = cc
    by (inr e) = e
