-- Worked rows of inlining.
use Rattle.std.proofs.Common.{◌≡◌, ℕ, zero, suc, true, false, List, [], ◌∷◌, ◌++◌, Some, replicate, refl}
use Rattle.val_core.specs.declared.operation.Op2.TheVariants.{Add, Mul}
use Rattle.g_graph.specs.declared.op.Kind.TheVariants.{Value, Memory, Io}
use Rattle.g_graph.specs.declared.op.Op.{Op}
use Rattle.g_graph.specs.declared.op.Op.TheVariants.{Const, Undef, Bin, Apply, Put, Gamma}
use Rattle.g_graph.specs.declared.op.Origin.{Origin}
use Rattle.g_graph.specs.declared.op.Origin.TheVariants.{Arg, Out}
use Rattle.g_graph.specs.Plain.{region, NodeTree, node, no_regions, nodes_of, regions_of, PlainLambda}
use Rattle.g_graph.specs.Program.{lambda_values}
use Rattle.g_graph.specs.WellFormed.{well_formed}
use Rattle.r_inline.specs.Rule.{may_inline, applies, lambda_inlined}
use Rattle.r_inline.specs.Called.{called_at}

abbrev plain : ℕ → Op → List Origin → NodeTree
plain id op inputs = node id op inputs no_regions

abbrev lambda : (number params next : ℕ) → List NodeTree → List Origin → PlainLambda
lambda number params next nodes results =
    record {
      number = number;
      params = params;
      objects = [];
      body = region (replicate params Value ++ Memory ∷ Io ∷ []) (nodes_of nodes) results;
      next = next;
    }

-- ---- int d(int x) { return x + 1; } int b(int x) { return d(x) * 2; } int c(int x) { return d(x) * 3; }
-- ---- int main(void) { return b(1) + c(2); }

abbrev d : PlainLambda
d = lambda 0 1 2 (plain 0 (Const 1) [] ∷ plain 1 (Bin Add) (Arg 0 ∷ Out 0 0 ∷ []) ∷ []) (Out 1 0 ∷ Arg 1 ∷ Arg 2 ∷ [])

abbrev multiple : (number factor : ℕ) → PlainLambda
multiple number factor =
    lambda number 1 3 (plain 0 (Apply 0) (Arg 0 ∷ Arg 1 ∷ Arg 2 ∷ []) ∷ plain 1 (Const factor) [] ∷ plain 2 (Bin Mul) (Out 0 0 ∷ Out 1 0 ∷ []) ∷ [])
    (Out 2 0 ∷ Out 0 1 ∷ Out 0 2 ∷ [])

abbrev sum : PlainLambda
sum =
    lambda 3 0 5 (plain 0 (Const 1) [] ∷ plain 1 (Apply 1) (Out 0 0 ∷ Arg 0 ∷ Arg 1 ∷ []) ∷ plain 2 (Const 2) [] ∷ plain 3 (Apply 2) (Out 2 0 ∷ Out 1 1 ∷ Out 1 2 ∷ [])
    ∷ plain 4 (Bin Add) (Out 1 0 ∷ Out 3 0 ∷ []) ∷ []) (Out 4 0 ∷ Out 3 1 ∷ Out 3 2 ∷ [])

abbrev b : PlainLambda
b = lambda_inlined 0 d (multiple 1 2)

abbrev c : PlainLambda
c = lambda_inlined 0 d (multiple 2 3)

multiple_inlined : b
    ≡ lambda 1 1 5 (plain 3 (Const 1) [] ∷ plain 4 (Bin Add) (Arg 0 ∷ Out 3 0 ∷ []) ∷ plain 1 (Const 2) [] ∷ plain 2 (Bin Mul) (Out 4 0 ∷ Out 1 0 ∷ []) ∷ [])
    (Out 2 0 ∷ Arg 1 ∷ Arg 2 ∷ [])
multiple_inlined = refl

sum_inlined : lambda_inlined 3 c (lambda_inlined 1 b sum)
    ≡ lambda 3 0 13 (plain 0 (Const 1) [] ∷ plain 5 (Const 1) [] ∷ plain 6 (Bin Add) (Out 0 0 ∷ Out 5 0 ∷ []) ∷ plain 7 (Const 2) [] ∷ plain 8 (Bin Mul) (Out 6 0 ∷ Out 7 0 ∷ [])
    ∷ plain 2 (Const 2) [] ∷ plain 9 (Const 1) [] ∷ plain 10 (Bin Add) (Out 2 0 ∷ Out 9 0 ∷ []) ∷ plain 11 (Const 3) [] ∷ plain 12 (Bin Mul) (Out 10 0 ∷ Out 11 0 ∷ [])
    ∷ plain 4 (Bin Add) (Out 8 0 ∷ Out 12 0 ∷ []) ∷ []) (Out 4 0 ∷ Arg 0 ∷ Arg 1 ∷ [])
sum_inlined = refl

sum_applies : (applies (multiple 1 2) 0 d ≡ true) × (applies sum 1 b ≡ true) × (applies (lambda_inlined 1 b sum) 3 c ≡ true)
sum_applies = (refl, refl, refl)

-- no other node is such a call, and no other function is called there
nowhere_else : (applies sum 0 b ≡ false) × (applies sum 3 b ≡ false) × (applies sum 5 b ≡ false) × (applies d 0 d ≡ false)
nowhere_else = (refl, refl, refl, refl)

sum_fits : well_formed (lambda_inlined 3 c (lambda_inlined 1 b sum)) ≡ true
sum_fits = refl

before_after : (lambda_values d ≡ 11) × (lambda_values (multiple 1 2) ≡ 15) × (lambda_values b ≡ 15) × (lambda_values sum ≡ 20) × (lambda_values (lambda_inlined 1 b sum) ≡ 24)
    × (lambda_values (lambda_inlined 3 c (lambda_inlined 1 b sum)) ≡ 28)
before_after = (refl, refl, refl, refl, refl, refl)

-- ---- int id(int x) { return x; } void none(void) { } int main(void) { none(); return id(id(4)); }

abbrev id : PlainLambda
id = lambda 0 1 0 [] (Arg 0 ∷ Arg 1 ∷ Arg 2 ∷ [])

abbrev none : PlainLambda
none = lambda 1 0 1 (plain 0 Undef [] ∷ []) (Out 0 0 ∷ Arg 0 ∷ Arg 1 ∷ [])

abbrev four : PlainLambda
four =
    lambda 2 0 4 (plain 0 (Apply 1) (Arg 0 ∷ Arg 1 ∷ []) ∷ plain 1 (Const 4) [] ∷ plain 2 (Apply 0) (Out 1 0 ∷ Out 0 1 ∷ Out 0 2 ∷ [])
    ∷ plain 3 (Apply 0) (Out 2 0 ∷ Out 2 1 ∷ Out 2 2 ∷ []) ∷ []) (Out 3 0 ∷ Out 3 1 ∷ Out 3 2 ∷ [])

four_inlined : lambda_inlined 3 id (lambda_inlined 2 id (lambda_inlined 0 none four)) ≡ lambda 2 0 5 (plain 4 Undef [] ∷ plain 1 (Const 4) [] ∷ []) (Out 1 0 ∷ Arg 0 ∷ Arg 1 ∷ [])
four_inlined = refl

four_values : (lambda_values four ≡ 20) × (lambda_values (lambda_inlined 0 none four) ≡ 18) × (lambda_values (lambda_inlined 2 id (lambda_inlined 0 none four)) ≡ 14)
    × (lambda_values (lambda_inlined 3 id (lambda_inlined 2 id (lambda_inlined 0 none four))) ≡ 10)
four_values = (refl, refl, refl, refl)

-- ---- calls with inputs too few and too many, with none, and no node

abbrev calling : List Origin → PlainLambda
calling inputs = lambda 2 1 1 (plain 0 (Apply 0) inputs ∷ []) (Out 0 0 ∷ Out 0 1 ∷ Out 0 2 ∷ [])

other_inputs : (applies (calling (Arg 1 ∷ Arg 2 ∷ [])) 0 id ≡ false) × (applies (calling (Arg 0 ∷ Arg 0 ∷ Arg 1 ∷ Arg 2 ∷ [])) 0 id ≡ false)
    × (applies (calling []) 0 id ≡ false) × (applies (calling (Arg 0 ∷ Arg 1 ∷ Arg 2 ∷ [])) 1 id ≡ false)
other_inputs = (refl, refl, refl, refl)

-- ---- a callee that calls itself is copied once; two equal arguments

again : lambda_inlined 0 (lambda 0 1 1 (plain 0 (Apply 0) (Arg 0 ∷ Arg 1 ∷ Arg 2 ∷ []) ∷ []) (Out 0 0 ∷ Out 0 1 ∷ Out 0 2 ∷ [])) (calling (Arg 0 ∷ Arg 1 ∷ Arg 2 ∷ []))
    ≡ lambda 2 1 2 (plain 1 (Apply 0) (Arg 0 ∷ Arg 1 ∷ Arg 2 ∷ []) ∷ []) (Out 1 0 ∷ Out 1 1 ∷ Out 1 2 ∷ [])
again = refl

doubled : lambda_inlined 0 (lambda 0 2 1 (plain 0 (Bin Add) (Arg 0 ∷ Arg 1 ∷ []) ∷ []) (Out 0 0 ∷ Arg 2 ∷ Arg 3 ∷ [])) (calling (Arg 0 ∷ Arg 0 ∷ Arg 1 ∷ Arg 2 ∷ []))
    ≡ lambda 2 1 2 (plain 1 (Bin Add) (Arg 0 ∷ Arg 0 ∷ []) ∷ []) (Out 1 0 ∷ Arg 1 ∷ Arg 2 ∷ [])
doubled = refl

-- ---- a call in a Gamma, of a callee with a Gamma; a node has its number before those nested in it and those after it

abbrev chooses : PlainLambda
chooses =
    lambda 0 1 9 (node 8 Gamma (Arg 0 ∷ Arg 2 ∷ [])
    (regions_of (region (Io ∷ []) (nodes_of (plain 3 (Const 65) [] ∷ plain 5 Put (Out 3 0 ∷ Arg 0 ∷ []) ∷ [])) (Out 5 0 ∷ []) ∷ region (Io ∷ []) (nodes_of []) (Arg 0 ∷ []) ∷ []))
    ∷ plain 1 Undef [] ∷ []) (Out 1 0 ∷ Arg 1 ∷ Out 8 0 ∷ [])

abbrev nested : (next : ℕ) → List NodeTree → List Origin → PlainLambda
nested next nodes results =
    lambda 1 1 next (node 0 Gamma (Arg 0 ∷ Arg 0 ∷ Arg 1 ∷ Arg 2 ∷ [])
    (regions_of (region (Value ∷ Memory ∷ Io ∷ []) (nodes_of []) (Arg 0 ∷ Arg 1 ∷ Arg 2 ∷ []) ∷ region (Value ∷ Memory ∷ Io ∷ []) (nodes_of nodes) results ∷ [])) ∷ [])
    (Out 0 0 ∷ Out 0 1 ∷ Out 0 2 ∷ [])

nested_inlined : lambda_inlined 1 chooses (nested 2 (plain 1 (Apply 0) (Arg 0 ∷ Arg 1 ∷ Arg 2 ∷ []) ∷ []) (Out 1 0 ∷ Out 1 1 ∷ Out 1 2 ∷ []))
    ≡ nested 6 (node 2 Gamma (Arg 0 ∷ Arg 2 ∷ [])
    (regions_of (region (Io ∷ []) (nodes_of (plain 3 (Const 65) [] ∷ plain 4 Put (Out 3 0 ∷ Arg 0 ∷ []) ∷ [])) (Out 4 0 ∷ []) ∷ region (Io ∷ []) (nodes_of []) (Arg 0 ∷ []) ∷ []))
    ∷ plain 5 Undef [] ∷ []) (Out 5 0 ∷ Arg 1 ∷ Out 2 0 ∷ [])
nested_inlined = refl

nested_calls : called_at 1 (nested 2 (plain 1 (Apply 0) (Arg 0 ∷ Arg 1 ∷ Arg 2 ∷ []) ∷ []) (Out 1 0 ∷ Out 1 1 ∷ Out 1 2 ∷ [])) ≡ Some 0
nested_calls = refl

nested_fits : (well_formed chooses ≡ true) × (well_formed (lambda_inlined 1 chooses (nested 2 (plain 1 (Apply 0) (Arg 0 ∷ Arg 1 ∷ Arg 2 ∷ []) ∷ []) (Out 1 0 ∷ Out 1 1 ∷ Out 1 2 ∷ []))) ≡ true)
nested_fits = (refl, refl)

-- ---- the limits

abbrev words : ℕ → List NodeTree
words zero = []
words (suc count) = plain count (Const 0) [] ∷ words count

-- so many times `0;`, and `return 0;`
abbrev zeros : ℕ → PlainLambda
zeros count = lambda 0 0 (suc count) (words (suc count)) (Out 0 0 ∷ Arg 0 ∷ Arg 1 ∷ [])

at_most_400 : (lambda_values (zeros 196) ≡ 400) × (may_inline 10 1 (zeros 196) ≡ true) × (may_inline 10 1 (zeros 197) ≡ false)
at_most_400 = (refl, refl, refl)

-- what becomes larger has at most 8,192 values afterwards
growth : (may_inline 8190 0 (zeros 2) ≡ true) × (may_inline 8192 0 (zeros 2) ≡ false) × (may_inline 8194 0 (zeros 2) ≡ false) × (may_inline 8194 0 (zeros 1) ≡ true)
    × (may_inline 8194 0 (zeros 0) ≡ true)
growth = (refl, refl, refl, refl, refl)

-- the last number
last_number : (may_inline 8 4294967292 (zeros 2) ≡ true) × (may_inline 8 4294967293 (zeros 2) ≡ false)
last_number = (refl, refl)

no_object : may_inline 8 0 (record (zeros 2) { objects = record { size = 4; leaves = [] } ∷ [] }) ≡ false
no_object = refl
