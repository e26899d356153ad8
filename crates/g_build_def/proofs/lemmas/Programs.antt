-- What is made of a program: lambdas and globals by number, and how many values a lambda has.
use Rattle.std.proofs.Common.{◌≡◌, ◌≤◌, ◌<◌, ℕ, zero, suc, ◌+◌, Bool, true, false, List, [], ◌∷◌, ◌++◌, length, slice_get, Some, option_map, refl, sym, ap, ◌∙◌, arith}
use Rattle.std.specs.Prelude.{if◌then◌else◌}
use Rattle.std.proofs.lemmas.Option.{slice_get-map}
use Rattle.c_typed.specs.Typed.{return_value, return_none, StmtTree, ItemTrees, no_items, stmt_then, declare_then, VariableTree, FunctionTree, WrittenTree, ProgramTree}
use Rattle.c_type.specs.Layout.{size}
use Rattle.g_graph.specs.declared.op.Origin.{Origin}
use Rattle.g_graph.specs.Plain.{NodeTree, nodes_of}
use Rattle.g_graph.specs.Count.{node_values, nodes_values}
use Rattle.g_build_def.specs.Writer.{Point, Built}
use Rattle.g_build_def.specs.Exits.{some_items, body_jumps}
use Rattle.g_build_def.specs.Statements.{declared_made, stmt_made}
use Rattle.g_build_def.specs.Globals.{byte_at, bytes_from, global_made}
use Rattle.g_build_def.specs.Functions.{params_stored, start_of, straight_then, straight_made, jumping_body, straight_body, body_built, lambda_made, lambdas_made}
use Rattle.c_typed.specs.WellTyped.{params_of}
use Rattle.g_build_def.specs.Laws.{LambdasStandAtTheirNumbers, GlobalsStandAtTheirNumbers, GlobalsHaveTheirSize, ValuesAreOfTheFunction}

-- ---- by number

lambdas_at : (p : ProgramTree) (n : ℕ) (fs : List FunctionTree) (k : ℕ) → slice_get (lambdas_made p n fs) k ≡ option_map (lambda_made p (n + k)) (slice_get fs k)
lambdas_at p n [] k = refl
lambdas_at p n (f ∷ fs) zero = let e : n ≡ n + 0 = omega arith in ap (λ m. Some (lambda_made p m f)) e
lambdas_at p n (f ∷ fs) (suc k) = let e : suc n + k ≡ n + suc k = omega arith in lambdas_at p (suc n) fs k ∙ ap (λ m. option_map (lambda_made p m) (slice_get fs k)) e

pub lambdas_stand_at_their_numbers : LambdasStandAtTheirNumbers
lambdas_stand_at_their_numbers p k =
    let e : 0 + k ≡ k = omega arith in lambdas_at p 0 p.functions k ∙ ap (λ m. option_map (lambda_made p m) (slice_get p.functions k)) e

pub globals_stand_at_their_numbers : GlobalsStandAtTheirNumbers
globals_stand_at_their_numbers p k = slice_get-map (global_made p.structs) p.globals k

pub bytes_same : (vs ws : List WrittenTree) (i n : ℕ) → ((j : ℕ) → i ≤ j → j < i + n → byte_at vs j ≡ byte_at ws j) → bytes_from vs i n ≡ bytes_from ws i n
bytes_same vs ws i zero h = refl
bytes_same vs ws i (suc n) h = λ k. h i (omega arith) (omega arith) k ∷ bytes_same vs ws (suc i) n (λ j low high. h j (omega arith) (omega arith)) k

pub bytes_counted : (ws : List WrittenTree) (i n : ℕ) → length (bytes_from ws i n) ≡ n
bytes_counted ws i zero = refl
bytes_counted ws i (suc n) = ap suc (bytes_counted ws (suc i) n)

pub globals_have_their_size : GlobalsHaveTheirSize
globals_have_their_size p g = bytes_counted g.written 0 (size p.structs g.type)

-- ---- values

abbrev pub values_in : List NodeTree → ℕ
values_in xs = nodes_values (nodes_of xs)

pub values_append : (xs ys : List NodeTree) → values_in (xs ++ ys) ≡ values_in xs + values_in ys
values_append [] ys = omega arith
values_append (x ∷ xs) ys =
    let e : values_in (xs ++ ys) ≡ values_in xs + values_in ys = values_append xs ys in
    let sum : node_values x + values_in (xs ++ ys) ≡ node_values x + values_in xs + values_in ys = omega (arith, e) in
    sum

behind_equal : (xs ys zs : List NodeTree) → values_in ys ≡ values_in zs → values_in (xs ++ ys) ≡ values_in (xs ++ zs)
behind_equal xs ys zs e = values_append xs ys ∙ ap (λ n. values_in xs + n) e ∙ sym (values_append xs zs)

abbrev SameValues : (f g : Point → Built Origin) → Type 0
SameValues f g = (s : Point) → values_in (f s).nodes ≡ values_in (g s).nodes

then_same : (follows : Bool) (vs : List VariableTree) (a : StmtTree) (f g : Point → Built Origin) → SameValues f g →
    SameValues (straight_then follows vs a f) (straight_then follows vs a g)
then_same false vs (return_value e) f g h s = refl
then_same false vs return_none f g h s = refl
then_same follows vs a f g h s =
    let b = stmt_made vs a s in behind_equal b.nodes (f b.after).nodes (g b.after).nodes (h b.after)

straight_same : (vs : List VariableTree) (is : ItemTrees) → SameValues (straight_made true vs is) (straight_made false vs is)
straight_same vs no_items s = refl
straight_same vs (stmt_then a is) s = then_same (some_items is) vs a (straight_made true vs is) (straight_made false vs is) (straight_same vs is) s
straight_same vs (declare_then d is) s =
    let b = declared_made vs d s in
    behind_equal b.nodes (straight_made true vs is b.after).nodes (straight_made false vs is b.after).nodes (straight_same vs is b.after)

straight_body_same : (f : FunctionTree) → values_in (straight_body true f).nodes ≡ values_in (straight_body false f).nodes
straight_body_same f =
    let b = params_stored 0 0 (params_of f) (start_of f) in
    behind_equal b.nodes (straight_made true f.variables f.body b.after).nodes (straight_made false f.variables f.body b.after).nodes
    (straight_same f.variables f.body b.after)

built_same : (f : FunctionTree) → values_in (body_built true f).nodes ≡ values_in (body_built false f).nodes
built_same f =
    elim (body_jumps f.body)
    as (λ b. values_in (if b then jumping_body true f else straight_body true f).nodes ≡ values_in (if b then jumping_body false f else straight_body false f).nodes)
    [ true ↦ refl | false ↦ straight_body_same f ]

pub values_are_of_the_function : ValuesAreOfTheFunction
values_are_of_the_function true f = let e = built_same f in omega (arith, e)
values_are_of_the_function false f = refl
