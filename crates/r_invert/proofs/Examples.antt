-- Worked rows of inversion.
use Rattle.std.proofs.Common.{◌≡◌, ℕ, suc, Bool, true, false, List, [], ◌∷◌, ◌++◌, Option, Some, option_map, refl}
use Rattle.val_core.specs.declared.values.Value.TheVariants.{Num, Bad}
use Rattle.val_core.specs.Answers.{Answer, Returned, Cut}
use Rattle.val_core.specs.declared.operation.Op2.TheVariants.{Add, Slt}
use Rattle.g_graph.specs.declared.op.Kind.{Kind}
use Rattle.g_graph.specs.declared.op.Kind.TheVariants.{Value, Memory, Io}
use Rattle.g_graph.specs.declared.op.Op.{Op}
use Rattle.g_graph.specs.declared.op.Op.TheVariants.{Const, Bin, Put, Get, Gamma, Theta}
use Rattle.g_graph.specs.declared.op.Origin.{Origin}
use Rattle.g_graph.specs.declared.op.Origin.TheVariants.{Arg, Out}
use Rattle.g_graph.specs.Plain.{RegionTree, region, NodeTree, node, no_regions, nodes_of, regions_of, PlainLambda}
use Rattle.g_graph.specs.Program.{lambda_values}
use Rattle.g_graph.specs.WellFormed.{well_formed}
use Rattle.g_mean.specs.Data.{Datum, val, memory, input}
use Rattle.g_mean.specs.Meaning.{Context, region_meaning}
use Rattle.r_invert.specs.Rule.{may_invert, parts_of, applies, lambda_inverted}

abbrev plain : ℕ → Op → List Origin → NodeTree
plain id op inputs = node id op inputs no_regions

abbrev three : List Kind
three = Value ∷ Memory ∷ Io ∷ []

-- ---- int i = 0; while (i < 3) i = i + 1; return i;

abbrev variables : List Origin
variables = Arg 0 ∷ Arg 1 ∷ Arg 2 ∷ []

-- i < 3 of this i
abbrev testing : (first : ℕ) → Origin → List NodeTree
testing first i = plain first (Const 3) [] ∷ plain (suc first) (Bin Slt) (i ∷ Out first 0 ∷ []) ∷ []

-- i + 1, and the predicate of another turn
abbrev adding : (first : ℕ) → List NodeTree
adding first =
    plain first (Const 1) [] ∷ plain (suc first) (Bin Add) (Arg 0 ∷ Out first 0 ∷ []) ∷ plain (suc (suc first)) (Const 1) [] ∷ []

abbrev outputs : (n : ℕ) → (first : ℕ) → List Origin
outputs n first = Out n first ∷ Out n (suc first) ∷ Out n (suc (suc first)) ∷ []

-- a main function with these nodes after i = 0, and the outputs of the node of this number
abbrev main_with : (next : ℕ) → List NodeTree → (n : ℕ) → PlainLambda
main_with next nodes n =
    record {
      number = 0;
      params = 0;
      objects = [];
      body = region (Memory ∷ Io ∷ []) (nodes_of (plain 0 (Const 0) [] ∷ nodes)) (outputs n 0);
      next = next;
    }

-- a loop of these nodes and results
abbrev loop_of : List NodeTree → List Origin → PlainLambda
loop_of nodes results = main_with 12 (node 1 Theta (Out 0 0 ∷ Arg 0 ∷ Arg 1 ∷ []) (regions_of (region three (nodes_of nodes) results ∷ [])) ∷ []) 1

abbrev stopping : RegionTree
stopping = region three (nodes_of (plain 5 (Const 0) [] ∷ [])) (Out 5 0 ∷ variables)

abbrev going : RegionTree
going = region three (nodes_of (adding 6)) (Out 8 0 ∷ Out 7 0 ∷ Arg 1 ∷ Arg 2 ∷ [])

-- the last node, a Gamma on this predicate with these regions
abbrev branching : Origin → List RegionTree → NodeTree
branching p rs = node 4 Gamma (p ∷ variables) (regions_of rs)

abbrev all_results : List Origin
all_results = Out 4 0 ∷ outputs 4 1

abbrev row_nodes : List NodeTree
row_nodes = testing 2 (Arg 0) ++ branching (Out 3 0) (stopping ∷ going ∷ []) ∷ []

abbrev row_loop : RegionTree
row_loop = region three (nodes_of row_nodes) all_results

abbrev row : PlainLambda
row = loop_of row_nodes all_results

row_inverted : lambda_inverted 1 row
    ≡ main_with 23
    (testing 12 (Out 0 0)
    ++ node 14 Gamma (Out 13 0 ∷ Out 0 0 ∷ Arg 0 ∷ Arg 1 ∷ [])
    (regions_of (region three (nodes_of (plain 15 (Const 0) [] ∷ [])) variables
    ∷ region three
    (nodes_of (node 16 Theta variables (regions_of (region three (nodes_of (adding 17 ++ testing 20 (Out 18 0))) (Out 21 0 ∷ Out 18 0 ∷ Arg 1 ∷ Arg 2 ∷ []) ∷ [])) ∷ plain 22 (Const 0) [] ∷ []))
    (outputs 16 0)
    ∷ []))
    ∷ [])
    14
row_inverted = refl

-- at that number alone
applies_once : (applies row 1 ≡ true) × (applies row 0 ≡ false) × (applies row 4 ≡ false) × (applies row 7 ≡ false) × (applies row 12 ≡ false)
applies_once = (refl, refl, refl, refl, refl)

both_fit : (well_formed row ≡ true) × (well_formed (lambda_inverted 1 row) ≡ true)
both_fit = (refl, refl)

before_after : (lambda_values row ≡ 53) × (lambda_values (lambda_inverted 1 row) ≡ 56)
before_after = (refl, refl)

-- the loop that comes does not have the form
not_twice : (applies (lambda_inverted 1 row) 16 ≡ false) × (applies (lambda_inverted 1 row) 14 ≡ false)
not_twice = (refl, refl)

-- ---- other forms

-- no nodes before the Gamma, which takes an argument as its predicate
no_nodes_before : applies (loop_of (branching (Arg 0) (stopping ∷ going ∷ []) ∷ []) all_results) 1 ≡ true
no_nodes_before = refl

-- a result that two loop variables share
shared_result : applies (loop_of row_nodes (Out 4 0 ∷ Out 4 0 ∷ Out 4 2 ∷ Out 4 3 ∷ [])) 1 ≡ true
shared_result = refl

-- a node after the Gamma
node_after : applies (loop_of (testing 2 (Arg 0) ++ branching (Out 3 0) (stopping ∷ going ∷ []) ∷ plain 9 (Const 7) [] ∷ []) all_results) 1 ≡ false
node_after = refl

one_region : applies (loop_of (testing 2 (Arg 0) ++ branching (Out 3 0) (going ∷ []) ∷ []) all_results) 1 ≡ false
one_region = refl

three_regions :
    applies (loop_of (testing 2 (Arg 0) ++ branching (Out 3 0) (stopping ∷ going ∷ region three (nodes_of (plain 9 (Const 2) [] ∷ [])) (Out 9 0 ∷ variables) ∷ []) ∷ []) all_results) 1 ≡ false
three_regions = refl

-- a Gamma that takes i and one of the states, or i alone
abbrev taking : List Kind → List Origin → List Origin → PlainLambda
taking kinds entries results =
    loop_of
    (testing 2 (Arg 0)
    ++ node 4 Gamma (Out 3 0 ∷ entries)
    (regions_of (region kinds (nodes_of (plain 5 (Const 0) [] ∷ [])) (Out 5 0 ∷ Arg 0 ∷ []) ∷ region kinds (nodes_of (plain 6 (Const 1) [] ∷ [])) (Out 6 0 ∷ Arg 0 ∷ []) ∷ [])) ∷ [])
    results

states_missing :
    (applies (taking (Value ∷ Io ∷ []) (Arg 0 ∷ Arg 2 ∷ []) (Out 4 0 ∷ Out 4 1 ∷ Arg 1 ∷ Arg 2 ∷ [])) 1 ≡ false)
    × (applies (taking (Value ∷ Memory ∷ []) (Arg 0 ∷ Arg 1 ∷ []) (Out 4 0 ∷ Out 4 1 ∷ Arg 1 ∷ Arg 2 ∷ [])) 1 ≡ false)
states_missing = (refl, refl)

-- a result that is an argument, and one of a node before the Gamma
other_results :
    (applies (loop_of row_nodes (Out 4 0 ∷ Arg 0 ∷ Out 4 2 ∷ Out 4 3 ∷ [])) 1 ≡ false)
    × (applies (loop_of row_nodes (Out 4 0 ∷ Out 2 0 ∷ Out 4 2 ∷ Out 4 3 ∷ [])) 1 ≡ false)
other_results = (refl, refl)

-- regions that give these words as the predicate
abbrev words : (left right : ℕ) → PlainLambda
words left right =
    loop_of
    (testing 2 (Arg 0)
    ++ branching (Out 3 0)
    (region three (nodes_of (plain 5 (Const left) [] ∷ [])) (Out 5 0 ∷ variables) ∷ region three (nodes_of (plain 6 (Const right) [] ∷ [])) (Out 6 0 ∷ variables) ∷ []) ∷ [])
    all_results

-- 0 in both, another word in both, and the other way round
words_refused : (applies (words 0 0) 1 ≡ false) × (applies (words 1 2) 1 ≡ false) × (applies (words 1 0) 1 ≡ false)
words_refused = (refl, refl, refl)

-- any word but 0 will do
words_taken : (applies (words 0 1) 1 ≡ true) × (applies (words 0 7) 1 ≡ true) × (applies (words 4294967296 4294967295) 1 ≡ true)
words_taken = (refl, refl, refl)

-- a predicate that an argument carries into the region, where the test is the word 0
carried_in :
    applies
    (loop_of
    (plain 2 (Const 0) [] ∷ testing 9 (Arg 0)
    ++ node 4 Gamma (Out 10 0 ∷ Out 2 0 ∷ variables)
    (regions_of (region (Value ∷ three) (nodes_of []) (Arg 0 ∷ Arg 1 ∷ Arg 2 ∷ Arg 3 ∷ [])
    ∷ region (Value ∷ three) (nodes_of (plain 6 (Const 1) [] ∷ [])) (Out 6 0 ∷ Arg 1 ∷ Arg 2 ∷ Arg 3 ∷ []) ∷ [])) ∷ [])
    all_results) 1
    ≡ false
carried_in = refl

-- ---- states

-- a test that reads a byte and writes it: a loop of the output and the input alone
abbrev echoing : PlainLambda
echoing =
    loop_of
    (plain 2 Get (Arg 2 ∷ []) ∷ plain 3 Put (Out 2 0 ∷ Out 2 1 ∷ [])
    ∷ node 4 Gamma (Out 2 0 ∷ Arg 0 ∷ Arg 1 ∷ Out 3 0 ∷ [])
    (regions_of (region three (nodes_of (plain 5 (Const 0) [] ∷ plain 9 Put (Arg 0 ∷ Arg 2 ∷ []) ∷ [])) (Out 5 0 ∷ Arg 0 ∷ Arg 1 ∷ Out 9 0 ∷ []) ∷ going ∷ [])) ∷ [])
    all_results

states_kept : (well_formed echoing ≡ true) × (applies echoing 1 ≡ true) × (well_formed (lambda_inverted 1 echoing) ≡ true)
states_kept = (refl, refl, refl)

-- ---- the limits

abbrev fits_in : (values next : ℕ) → Option Bool
fits_in values next = option_map (may_invert values next row_loop) (parts_of row_loop)

-- it takes 11 numbers, and adds three values
limits : (fits_in 8189 12 ≡ Some true) × (fits_in 8190 12 ≡ Some false) × (fits_in 53 4294967284 ≡ Some true) × (fits_in 53 4294967285 ≡ Some false)
limits = (refl, refl, refl, refl)

-- ---- a run

abbrev within : (bound : ℕ) → Context
within bound = record { bound = bound; call = λ f xs. Cut []; addresses = record { local = λ k. Bad; global = λ k. Bad } }

abbrev ended : Answer (List Datum)
ended = Returned (val (Num 3) ∷ memory [] ∷ input [] ∷ []) []

-- Three turns and a fourth one whose test fails are three turns of the inverted loop.
runs :
    (region_meaning (within 4) row.body (memory [] ∷ input [] ∷ []) ≡ ended)
    × (region_meaning (within 3) row.body (memory [] ∷ input [] ∷ []) ≡ Cut [])
    × (region_meaning (within 3) (lambda_inverted 1 row).body (memory [] ∷ input [] ∷ []) ≡ ended)
    × (region_meaning (within 2) (lambda_inverted 1 row).body (memory [] ∷ input [] ∷ []) ≡ Cut [])
runs = (refl, refl, refl, refl)
