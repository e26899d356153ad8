-- How many values the construction of a function has.
use Rattle.std.proofs.Common.{◌≡◌, ℕ, suc, ◌+◌, Bool, true, false, List, [], ◌∷◌, ◌++◌, replicate, length, refl, ap, arith, length-append}
use Rattle.std.proofs.lemmas.List.{length-replicate}
use Rattle.std.specs.Prelude.{if◌then◌else◌}
use Rattle.c_typed.specs.Typed.{StmtTree, return_value, return_none, ItemTrees, no_items, stmt_then, declare_then, VariableTree, FunctionTree}
use Rattle.c_typed.specs.WellTyped.{params_of}
use Rattle.g_graph.specs.declared.op.Kind.{Kind}
use Rattle.g_graph.specs.declared.op.Kind.TheVariants.{Value, Memory, Io}
use Rattle.g_graph.specs.declared.op.Origin.{Origin}
use Rattle.g_graph.specs.declared.op.Origin.TheVariants.{Arg}
use Rattle.g_build_def.specs.Writer.{held, object, Point, Built, bind}
use Rattle.c_typed.specs.Objects.{access_width}
use Rattle.g_build_def.specs.Exits.{some_items, body_jumps}
use Rattle.g_build_def.specs.Statements.{object_stored, declared_made, stmt_made, items_made}
use Rattle.g_build_def.specs.Functions.{params_carried, params_stored, start_of, jumps_begun, straight_then, straight_made, jumping_body, straight_body, body_built, function_values}
use Rattle.g_build_def.proofs.lemmas.Programs.{values_in, values_append}
use Rattle.g_build_count.specs.Values.{declared_object, items_values, params_values, value_params, straight_then_values, straight_values, objects_of, body_values, counted_values}
use Rattle.g_build_count.proofs.Has.{Seen, Sees, Has, Counts, has_equal, given_has, bind_has, value_count, marks}
use Rattle.g_build_count.proofs.HasExpressions.{expr_has}
use Rattle.g_build_count.proofs.HasDeclarations.{undef_has, stored_has, declared_has, seen_more}
use Rattle.g_build_count.proofs.HasStatements.{stmt_has, items_have}

-- ---- parameters

params_counted : (k a : ℕ) (ps : List VariableTree) → value_count (params_carried k a ps) ≡ value_params ps
params_counted k a [] = refl
params_counted k a (p ∷ ps) =
    elim p.is_object
    as (λ b. value_count (if b then object k ∷ params_carried (suc k) (suc a) ps else held (Arg a) ∷ params_carried k (suc a) ps) ≡ (if b then value_params ps else suc (value_params ps)))
    [ true ↦ params_counted (suc k) (suc a) ps | false ↦ ap suc (params_counted k (suc a) ps) ]

params_marked : (k a : ℕ) (ps : List VariableTree) → marks (params_carried k a ps) ≡ objects_of ps
params_marked k a [] = refl
params_marked k a (p ∷ ps) =
    elim p.is_object
    as (λ b. marks (if b then object k ∷ params_carried (suc k) (suc a) ps else held (Arg a) ∷ params_carried k (suc a) ps) ≡ b ∷ objects_of ps)
    [ true ↦ ap (λ bs. true ∷ bs) (params_marked (suc k) (suc a) ps) | false ↦ ap (λ bs. false ∷ bs) (params_marked k (suc a) ps) ]

params_has : (v : Seen) (k a : ℕ) (ps : List VariableTree) → Counts (params_values ps) v (params_stored k a ps)
params_has v k a [] s h = given_has v tt s h
params_has v k a (p ∷ ps) s h =
    let f : Built (Unit {0}) = bind (object_stored k (access_width p.type) (Arg a) s) (λ _ t. params_stored (suc k) (suc a) ps t) in
    let e : params_values ps ≡ 0 + params_values ps = omega arith in
    elim p.is_object
    as (λ b. Has ((if b then 4 else 0) + params_values ps) v (if b then f else params_stored k (suc a) ps s)) [
      | true ↦
          bind_has v v (object_stored k (access_width p.type) (Arg a) s) (λ _ t. params_stored (suc k) (suc a) ps t)
          (stored_has v k (access_width p.type) (Arg a) s h) (λ _ t i. params_has v (suc k) (suc a) ps t i)
      | false ↦ has_equal (params_values ps) (0 + params_values ps) v (params_stored k (suc a) ps s) e (params_has v k (suc a) ps s h)
    ]

-- what is seen at the start, before and after `go` and `ret`
abbrev seen_first : (last : ℕ) → FunctionTree → Seen
seen_first n f = record { carried = value_params (params_of f) + n; objects = objects_of (params_of f) }

start_sees : (f : FunctionTree) → Sees (seen_first 2 f) (start_of f)
start_sees f = record { carried = ap (λ n. n + 2) (params_counted 0 0 (params_of f)); objects = params_marked 0 0 (params_of f) }

jumps_has : (f : FunctionTree) → Has 4 (seen_first 4 f) (jumps_begun false (start_of f))
jumps_has f =
    let s : Point = start_of f in
    let h : Sees (seen_first 2 f) s = start_sees f in
    record { values = refl; sees = record { carried = ap (λ n. n + 4) (params_counted 0 0 (params_of f)); objects = h.objects } }

-- ---- bodies

-- where each point that sees so much leads to so many values
abbrev Leads : ℕ → Seen → (Point → Built Origin) → Type 0
Leads n v f = (s : Point) → Sees v s → values_in (f s).nodes ≡ n

straight_then_counted : (v : Seen) (follows : Bool) (vs : List VariableTree) (a : StmtTree) (n : ℕ) (f : Point → Built Origin) → Leads n v f →
    Leads (straight_then_values follows vs v.carried v.objects a n) v (straight_then follows vs a f)
straight_then_counted v false vs (return_value e) n f c s h = (expr_has v e s h).values
straight_then_counted v false vs return_none n f c s h = (undef_has v s h).values
straight_then_counted v follows vs a n f c s h =
    let b : Built (Unit {0}) = stmt_made vs a s in
    let here = stmt_has v vs a s h in
    let first = here.values in
    let rest = c b.after here.sees in
    let both = values_append b.nodes (f b.after).nodes in
    omega (arith, first, rest, both)

straight_counted : (v : Seen) (vs : List VariableTree) (is : ItemTrees) → Leads (straight_values vs v.carried v.objects is) v (straight_made false vs is)
straight_counted v vs no_items s h = (undef_has v s h).values
straight_counted v vs (stmt_then a is) s h =
    straight_then_counted v (some_items is) vs a (straight_values vs v.carried v.objects is) (straight_made false vs is) (straight_counted v vs is) s h
straight_counted v vs (declare_then d is) s h =
    let b : Built (Unit {0}) = declared_made vs d s in
    let here = declared_has v vs d s h in
    let first = here.values in
    let rest = straight_counted (seen_more (declared_object vs d) v) vs is b.after here.sees in
    let both = values_append b.nodes (straight_made false vs is b.after).nodes in
    omega (arith, first, rest, both)

jumping_counted : (f : FunctionTree) → values_in (jumping_body false f).nodes
    ≡ params_values (params_of f) + (4 + items_values f.variables (value_params (params_of f) + 4) (objects_of (params_of f)) f.body)
jumping_counted f =
    let v : Seen = seen_first 4 f in
    let a : Built (Unit {0}) = jumps_begun false (start_of f) in
    let b : Built (Unit {0}) = params_stored 0 0 (params_of f) a.after in
    let c : Built (Unit {0}) = items_made f.variables f.body b.after in
    let begun = jumps_has f in
    let stored = params_has v 0 0 (params_of f) a.after begun.sees in
    let body = items_have v f.variables f.body b.after stored.sees in
    let first = begun.values in
    let second = stored.values in
    let third = body.values in
    let one = values_append a.nodes (b.nodes ++ (c.nodes ++ [])) in
    let two = values_append b.nodes (c.nodes ++ []) in
    let three = values_append c.nodes [] in
    omega (arith, first, second, third, one, two, three)

straight_body_counted : (f : FunctionTree) → values_in (straight_body false f).nodes
    ≡ params_values (params_of f) + straight_values f.variables (value_params (params_of f) + 2) (objects_of (params_of f)) f.body
straight_body_counted f =
    let v : Seen = seen_first 2 f in
    let s : Point = start_of f in
    let b : Built (Unit {0}) = params_stored 0 0 (params_of f) s in
    let stored = params_has v 0 0 (params_of f) s (start_sees f) in
    let first = stored.values in
    let rest = straight_counted v f.variables f.body b.after stored.sees in
    let both = values_append b.nodes (straight_made false f.variables f.body b.after).nodes in
    omega (arith, first, rest, both)

body_counted : (f : FunctionTree) → values_in (body_built false f).nodes ≡ body_values f
body_counted f =
    let ps : List VariableTree = params_of f in
    let jumping-values : ℕ = 4 + items_values f.variables (value_params ps + 4) (objects_of ps) f.body in
    let straight-values : ℕ = straight_values f.variables (value_params ps + 2) (objects_of ps) f.body in
    elim (body_jumps f.body)
    as (λ b. values_in (if b then jumping_body false f else straight_body false f).nodes ≡ params_values ps + (if b then jumping-values else straight-values))
    [ true ↦ jumping_counted f | false ↦ straight_body_counted f ]

-- ---- functions

pub values_counted : (f : FunctionTree) → function_values f ≡ counted_values f
values_counted f =
    let states : List Kind = Memory ∷ Io ∷ [] in
    let args : length (replicate f.params Value ++ states) ≡ length (replicate f.params Value) + 2 = length-append (replicate f.params Value) states in
    let params : length (replicate f.params Value) ≡ f.params = length-replicate f.params Value in
    let body = body_counted f in
    omega (arith, args, params, body)
