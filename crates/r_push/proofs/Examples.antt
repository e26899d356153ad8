-- Worked rows of push.
use Rattle.std.proofs.Common.{◌≡◌, ℕ, true, false, List, [], ◌∷◌, None, refl}
use Rattle.val_core.specs.declared.operation.Op2.TheVariants.{Add, Mul}
use Rattle.g_graph.specs.declared.op.Kind.{Kind}
use Rattle.g_graph.specs.declared.op.Kind.TheVariants.{Value, Memory, Io}
use Rattle.g_graph.specs.declared.op.Op.{Op}
use Rattle.g_graph.specs.declared.op.Op.TheVariants.{Const, Bin, Get, Gamma, Theta}
use Rattle.g_graph.specs.declared.op.Origin.{Origin}
use Rattle.g_graph.specs.declared.op.Origin.TheVariants.{Arg, Out}
use Rattle.g_graph.specs.Plain.{RegionTree, region, NodeTree, node, no_regions, nodes_of, regions_of, PlainLambda}
use Rattle.g_graph.specs.Program.{lambda_values}
use Rattle.g_graph.specs.WellFormed.{well_formed}
use Rattle.r_push.specs.Rule.{push_here, applies, lambda_pushed}

abbrev plain : ℕ → Op → List Origin → NodeTree
plain id op inputs = node id op inputs no_regions

abbrev of_body : RegionTree → PlainLambda
of_body body = record { number = 0; params = 0; objects = []; body = body; next = 5 }

abbrev four : List Kind
four = Value ∷ Value ∷ Memory ∷ Io ∷ []

-- ---- int a = getchar(), x = 1; if (a) x = a * 3; return x;

abbrev skipped : RegionTree
skipped = region four (nodes_of []) (Arg 0 ∷ Arg 1 ∷ Arg 2 ∷ Arg 3 ∷ [])

abbrev chosen_row : PlainLambda
chosen_row =
    of_body (region (Memory ∷ Io ∷ []) (nodes_of (plain 0 Get (Arg 1 ∷ []) ∷ plain 1 (Const 1) []
    ∷ node 2 Gamma (Out 0 0 ∷ Out 0 0 ∷ Out 1 0 ∷ Arg 0 ∷ Out 0 1 ∷ [])
    (regions_of (skipped ∷ region four (nodes_of (plain 3 (Const 3) [] ∷ plain 4 (Bin Mul) (Arg 0 ∷ Out 3 0 ∷ []) ∷ [])) (Arg 0 ∷ Out 4 0 ∷ Arg 2 ∷ Arg 3 ∷ []) ∷ [])) ∷ []))
    (Out 2 1 ∷ Out 2 2 ∷ Out 2 3 ∷ []))

chosen_row_fits : well_formed chosen_row ≡ true
chosen_row_fits = refl

-- the product takes the constant
not_before_constant : applies chosen_row 4 ≡ false
not_before_constant = refl

abbrev six : List Kind
six = Value ∷ Value ∷ Memory ∷ Io ∷ Value ∷ Value ∷ []

both_move : lambda_pushed 4 (lambda_pushed 3 chosen_row)
    ≡ of_body (region (Memory ∷ Io ∷ []) (nodes_of (plain 0 Get (Arg 1 ∷ []) ∷ plain 1 (Const 1) [] ∷ plain 3 (Const 3) [] ∷ plain 4 (Bin Mul) (Out 0 0 ∷ Out 3 0 ∷ [])
    ∷ node 2 Gamma (Out 0 0 ∷ Out 0 0 ∷ Out 1 0 ∷ Arg 0 ∷ Out 0 1 ∷ Out 3 0 ∷ Out 4 0 ∷ [])
    (regions_of (region six (nodes_of []) (Arg 0 ∷ Arg 1 ∷ Arg 2 ∷ Arg 3 ∷ []) ∷ region six (nodes_of []) (Arg 0 ∷ Arg 5 ∷ Arg 2 ∷ Arg 3 ∷ []) ∷ [])) ∷ []))
    (Out 2 1 ∷ Out 2 2 ∷ Out 2 3 ∷ []))
both_move = refl

both_fit : well_formed (lambda_pushed 4 (lambda_pushed 3 chosen_row)) ≡ true
both_fit = refl

before_after : (lambda_values chosen_row ≡ 38) × (lambda_values (lambda_pushed 3 chosen_row) ≡ 40) × (lambda_values (lambda_pushed 4 (lambda_pushed 3 chosen_row)) ≡ 42)
before_after = (refl, refl, refl)

-- ---- a Theta with an invariant variable and one that changes

abbrev looping : (id : ℕ) → List Origin → PlainLambda
looping id inputs =
    of_body (region (Memory ∷ Io ∷ []) (nodes_of (plain 0 Get (Arg 1 ∷ [])
    ∷ node 1 Theta (Out 0 0 ∷ Out 0 0 ∷ Arg 0 ∷ Out 0 1 ∷ [])
    (regions_of (region four (nodes_of (plain id (Bin Add) inputs ∷ [])) (Arg 0 ∷ Out id 0 ∷ Arg 1 ∷ Arg 2 ∷ Arg 3 ∷ []) ∷ [])) ∷ []))
    (Out 1 0 ∷ Out 1 2 ∷ Out 1 3 ∷ []))

abbrev five : List Kind
five = Value ∷ Value ∷ Memory ∷ Io ∷ Value ∷ []

-- the first variable becomes the sum, the second one stays
invariant_moves : lambda_pushed 2 (looping 2 (Arg 1 ∷ Arg 1 ∷ []))
    ≡ of_body (region (Memory ∷ Io ∷ []) (nodes_of (plain 0 Get (Arg 1 ∷ []) ∷ plain 2 (Bin Add) (Out 0 0 ∷ Out 0 0 ∷ [])
    ∷ node 1 Theta (Out 0 0 ∷ Out 0 0 ∷ Arg 0 ∷ Out 0 1 ∷ Out 2 0 ∷ [])
    (regions_of (region five (nodes_of []) (Arg 0 ∷ Arg 4 ∷ Arg 1 ∷ Arg 2 ∷ Arg 3 ∷ Arg 4 ∷ []) ∷ [])) ∷ []))
    (Out 1 0 ∷ Out 1 2 ∷ Out 1 3 ∷ []))
invariant_moves = refl

changing_stays : applies (looping 2 (Arg 0 ∷ Arg 1 ∷ [])) 2 ≡ false
changing_stays = refl

grows_by_three : (lambda_values (looping 2 (Arg 1 ∷ Arg 1 ∷ [])) ≡ 26) × (lambda_values (lambda_pushed 2 (looping 2 (Arg 1 ∷ Arg 1 ∷ []))) ≡ 29)
grows_by_three = (refl, refl)

-- ---- the limit: the two regions of a Gamma take one argument more each

at_limit : push_here 8190 3 chosen_row.body ≡ push_here 0 3 chosen_row.body
at_limit = refl

beyond_limit : push_here 8191 3 chosen_row.body ≡ None
beyond_limit = refl
