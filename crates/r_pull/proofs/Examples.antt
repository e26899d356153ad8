-- Worked rows of pull.
use Rattle.std.proofs.Common.{◌≡◌, ℕ, true, false, List, [], ◌∷◌, None, Some, refl}
use Rattle.val_core.specs.declared.operation.Op2.TheVariants.{Add, Mul, Slt}
use Rattle.g_graph.specs.declared.op.Kind.{Kind}
use Rattle.g_graph.specs.declared.op.Kind.TheVariants.{Value, Memory, Io}
use Rattle.g_graph.specs.declared.op.Op.{Op}
use Rattle.g_graph.specs.declared.op.Op.TheVariants.{Const, Bin, Get, Gamma}
use Rattle.g_graph.specs.declared.op.Origin.{Origin}
use Rattle.g_graph.specs.declared.op.Origin.TheVariants.{Arg, Out}
use Rattle.g_graph.specs.Plain.{RegionTree, region, NodeTree, node, no_regions, nodes_of, regions_of, PlainLambda}
use Rattle.g_graph.specs.Program.{lambda_values}
use Rattle.g_graph.specs.WellFormed.{well_formed}
use Rattle.r_pull.specs.Rule.{copies_here, applies, lambda_pulled}

abbrev plain : ℕ → Op → List Origin → NodeTree
plain id op inputs = node id op inputs no_regions

abbrev of_body : (next : ℕ) → RegionTree → PlainLambda
of_body next body = record { number = 0; params = 0; objects = []; body = body; next = next }

-- ---- int a = getchar(), b = a * 7, x = 0; if (a < 60) x = b; return x;

abbrev five : List Kind
five = Value ∷ Value ∷ Value ∷ Memory ∷ Io ∷ []

abbrev chosen_row : (next : ℕ) → PlainLambda
chosen_row next =
    of_body next (region (Memory ∷ Io ∷ []) (nodes_of (plain 0 Get (Arg 1 ∷ []) ∷ plain 1 (Const 7) [] ∷ plain 2 (Bin Mul) (Out 0 0 ∷ Out 1 0 ∷ []) ∷ plain 3 (Const 0) []
    ∷ plain 4 (Const 60) [] ∷ plain 5 (Bin Slt) (Out 0 0 ∷ Out 4 0 ∷ [])
    ∷ node 6 Gamma (Out 5 0 ∷ Out 0 0 ∷ Out 2 0 ∷ Out 3 0 ∷ Arg 0 ∷ Out 0 1 ∷ [])
    (regions_of (region five (nodes_of []) (Arg 0 ∷ Arg 1 ∷ Arg 2 ∷ Arg 3 ∷ Arg 4 ∷ []) ∷ region five (nodes_of []) (Arg 0 ∷ Arg 1 ∷ Arg 1 ∷ Arg 3 ∷ Arg 4 ∷ []) ∷ [])) ∷ []))
    (Out 6 2 ∷ Out 6 3 ∷ Out 6 4 ∷ []))

row_fits : well_formed (chosen_row 7) ≡ true
row_fits = refl

-- the product uses the constant, and the comparison is the predicate
others_stay : (applies (chosen_row 7) 1 ≡ false) × (applies (chosen_row 7) 4 ≡ false) × (applies (chosen_row 7) 5 ≡ false) × (applies (chosen_row 7) 0 ≡ false)
others_stay = (refl, refl, refl, refl)

abbrev moved : PlainLambda
moved =
    of_body 12 (region (Memory ∷ Io ∷ []) (nodes_of (plain 0 Get (Arg 1 ∷ []) ∷ plain 4 (Const 60) [] ∷ plain 5 (Bin Slt) (Out 0 0 ∷ Out 4 0 ∷ [])
    ∷ node 6 Gamma (Out 5 0 ∷ Out 0 0 ∷ Arg 0 ∷ Out 0 1 ∷ Out 0 0 ∷ [])
    (regions_of (region (Value ∷ Memory ∷ Io ∷ Value ∷ [])
    (nodes_of (plain 10 (Const 7) [] ∷ plain 8 (Bin Mul) (Arg 3 ∷ Out 10 0 ∷ []) ∷ plain 7 (Const 0) [] ∷ [])) (Arg 0 ∷ Out 8 0 ∷ Out 7 0 ∷ Arg 1 ∷ Arg 2 ∷ [])
    ∷ region (Value ∷ Memory ∷ Io ∷ Value ∷ []) (nodes_of (plain 11 (Const 7) [] ∷ plain 9 (Bin Mul) (Arg 3 ∷ Out 11 0 ∷ []) ∷ [])) (Arg 0 ∷ Out 9 0 ∷ Out 9 0 ∷ Arg 1 ∷ Arg 2 ∷ []) ∷ [])) ∷ []))
    (Out 6 2 ∷ Out 6 3 ∷ Out 6 4 ∷ []))

all_move : lambda_pulled 1 (lambda_pulled 2 (lambda_pulled 3 (chosen_row 7))) ≡ moved
all_move = refl

all_fit : well_formed moved ≡ true
all_fit = refl

before_after : (lambda_values (chosen_row 7) ≡ 47) × (lambda_values (lambda_pulled 3 (chosen_row 7)) ≡ 45) × (lambda_values moved ≡ 49)
before_after = (refl, refl, refl)

-- ---- the numbers

last_number : (applies (chosen_row 4294967294) 3 ≡ true) × (applies (chosen_row 4294967295) 3 ≡ false)
last_number = (refl, refl)

-- ---- what is pulled, and what is not

abbrev value_body : (next : ℕ) → List NodeTree → (value : Origin) → PlainLambda
value_body next nodes value = of_body next (region (Memory ∷ Io ∷ []) (nodes_of nodes) (value ∷ Arg 0 ∷ Arg 1 ∷ []))

-- a region that gives its argument, and one that does not use it
abbrev passing : RegionTree
passing = region (Value ∷ []) (nodes_of []) (Arg 0 ∷ [])

abbrev other : ℕ → RegionTree
other id = region (Value ∷ []) (nodes_of (plain id (Const 3) [] ∷ [])) (Out id 0 ∷ [])

-- the same once the argument went, with a copy and without
abbrev with_copy : ℕ → RegionTree
with_copy id = region [] (nodes_of (plain id (Const 7) [] ∷ [])) (Out id 0 ∷ [])

abbrev without : ℕ → RegionTree
without id = region [] (nodes_of (plain id (Const 3) [] ∷ [])) (Out id 0 ∷ [])

abbrev chosen : List Origin → List RegionTree → NodeTree
chosen inputs rs = node 9 Gamma inputs (regions_of rs)

abbrev start : List NodeTree → List NodeTree
start rest = plain 0 (Const 7) [] ∷ plain 1 (Const 1) [] ∷ rest

abbrev left : List NodeTree → List NodeTree
left rest = plain 1 (Const 1) [] ∷ rest

-- both regions use it, one of three, none
both : lambda_pulled 0 (value_body 20 (start (chosen (Out 1 0 ∷ Out 0 0 ∷ []) (passing ∷ passing ∷ []) ∷ [])) (Out 9 0))
    ≡ value_body 22 (left (chosen (Out 1 0 ∷ []) (with_copy 20 ∷ with_copy 21 ∷ []) ∷ [])) (Out 9 0)
both = refl

one_of_three : lambda_pulled 0 (value_body 20 (start (chosen (Out 1 0 ∷ Out 0 0 ∷ []) (other 5 ∷ passing ∷ other 6 ∷ []) ∷ [])) (Out 9 0))
    ≡ value_body 21 (left (chosen (Out 1 0 ∷ []) (without 5 ∷ with_copy 20 ∷ without 6 ∷ []) ∷ [])) (Out 9 0)
one_of_three = refl

none_of_two : lambda_pulled 0 (value_body 20 (start (chosen (Out 1 0 ∷ Out 0 0 ∷ []) (other 5 ∷ other 6 ∷ []) ∷ [])) (Out 9 0))
    ≡ value_body 20 (left (chosen (Out 1 0 ∷ []) (without 5 ∷ without 6 ∷ []) ∷ [])) (Out 9 0)
none_of_two = refl

-- it is an entry twice
abbrev second : ℕ → RegionTree
second k = region (Value ∷ Value ∷ []) (nodes_of []) (Arg k ∷ [])

twice : lambda_pulled 0 (value_body 20 (start (chosen (Out 1 0 ∷ Out 0 0 ∷ Out 0 0 ∷ []) (second 0 ∷ second 1 ∷ []) ∷ [])) (Out 9 0))
    ≡ value_body 22 (left (chosen (Out 1 0 ∷ []) (with_copy 20 ∷ with_copy 21 ∷ []) ∷ [])) (Out 9 0)
twice = refl

-- two equal inputs give two entries
abbrev sum_of : ℕ → RegionTree
sum_of id = region (Value ∷ Value ∷ []) (nodes_of (plain id (Bin Add) (Arg 0 ∷ Arg 1 ∷ []) ∷ [])) (Out id 0 ∷ [])

abbrev doubled : PlainLambda
doubled = value_body 20 (start (plain 2 (Bin Add) (Out 0 0 ∷ Out 0 0 ∷ []) ∷ chosen (Out 1 0 ∷ Out 2 0 ∷ []) (passing ∷ passing ∷ []) ∷ [])) (Out 9 0)

equal_inputs : lambda_pulled 2 doubled ≡ value_body 22 (start (chosen (Out 1 0 ∷ Out 0 0 ∷ Out 0 0 ∷ []) (sum_of 20 ∷ sum_of 21 ∷ []) ∷ [])) (Out 9 0)
equal_inputs = refl

-- at most 8,192 values: four more come than go
values_counted : (copies_here 8188 20 2 doubled.body ≡ Some 2) × (copies_here 8189 20 2 doubled.body ≡ None)
values_counted = (refl, refl)

-- the predicate too, a result too, two Gammas, another node, no use
not_alone :
    (applies (value_body 20 (start (chosen (Out 0 0 ∷ Out 0 0 ∷ []) (passing ∷ passing ∷ []) ∷ [])) (Out 9 0)) 0 ≡ false)
    × (applies (value_body 20 (start (chosen (Out 1 0 ∷ Out 0 0 ∷ []) (passing ∷ passing ∷ []) ∷ [])) (Out 0 0)) 0 ≡ false)
    × (applies (value_body 20 (start (chosen (Out 1 0 ∷ Out 0 0 ∷ []) (passing ∷ []) ∷ node 10 Gamma (Out 1 0 ∷ Out 0 0 ∷ []) (regions_of (passing ∷ [])) ∷ [])) (Out 9 0)) 0 ≡ false)
    × (applies doubled 0 ≡ false) × (applies (value_body 20 (start []) (Out 1 0)) 0 ≡ false)
not_alone = (refl, refl, refl, refl, refl)

-- in a region of another Gamma
abbrev nested : List NodeTree → RegionTree
nested nodes = region [] (nodes_of nodes) (Out 9 0 ∷ [])

within : lambda_pulled 0 (value_body 20 (plain 4 (Const 0) [] ∷ node 11 Gamma (Out 4 0 ∷ []) (regions_of (nested (start (chosen (Out 1 0 ∷ Out 0 0 ∷ []) (passing ∷ other 6 ∷ []) ∷ [])) ∷ [])) ∷ []) (Out 11 0))
    ≡ value_body 21 (plain 4 (Const 0) [] ∷ node 11 Gamma (Out 4 0 ∷ []) (regions_of (nested (left (chosen (Out 1 0 ∷ []) (with_copy 20 ∷ without 6 ∷ []) ∷ [])) ∷ [])) ∷ []) (Out 11 0)
within = refl
