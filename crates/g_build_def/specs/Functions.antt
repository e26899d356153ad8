-- Functions and programs (ISO/IEC 9899:2011, 6.9).
use Rattle.std.specs.Prelude.{ℕ, suc, ◌==◌, ◌++◌, Bool, true, false, if◌then◌else◌, List, [], ◌∷◌, map, replicate}
use Rattle.std.specs.List.{filter}
use Rattle.c_type.specs.Layout.{Definitions, size, leaves}
use Rattle.c_typed.specs.Typed.{StmtTree, return_value, return_none, ItemTrees, no_items, stmt_then, declare_then, VariableTree, FunctionTree, ProgramTree}
use Rattle.c_typed.specs.WellTyped.{params_of}
use Rattle.g_graph.specs.declared.op.Kind.TheVariants.{Value, Memory, Io}
use Rattle.g_graph.specs.declared.op.Origin.{Origin}
use Rattle.g_graph.specs.declared.op.Origin.TheVariants.{Arg}
use Rattle.g_graph.specs.Plain.{RegionTree, region, nodes_of, PlainObject, PlainLambda, PlainOmega}
use Rattle.g_graph.specs.Count.{region_values}
use Rattle.g_build_def.specs.Writer.{SlotOrigin, held, object, straight, Point, jumping, with_jumps, Built, given, nothing, bind}
use Rattle.g_build_def.specs.Operations.{const_made, undef_made}
use Rattle.c_typed.specs.Objects.{access_width}
use Rattle.g_build_def.specs.Expressions.{expr_made}
use Rattle.g_build_def.specs.Exits.{some_items, body_jumps}
use Rattle.g_build_def.specs.Statements.{object_stored, declared_made, stmt_made, items_made}
use Rattle.g_build_def.specs.Globals.{globals_made}

-- ---- the start

-- the parameters: values are arguments of the body from this one on, and objects have numbers from this one on
abbrev pub params_carried : (number argument : ℕ) → List VariableTree → List SlotOrigin
params_carried k a [] = []
params_carried k a (p ∷ ps) = if p.is_object then object k ∷ params_carried (suc k) (suc a) ps else held (Arg a) ∷ params_carried k (suc a) ps

-- the arguments of parameters that are objects are stored
abbrev pub params_stored : (number argument : ℕ) → List VariableTree → Point → Built (Unit {0})
params_stored k a [] s = nothing s
params_stored k a (p ∷ ps) s =
    if p.is_object
    then bind (object_stored k (access_width p.type) (Arg a) s) (λ _ t. params_stored (suc k) (suc a) ps t)
    else params_stored k (suc a) ps s

abbrev pub start_of : FunctionTree → Point
start_of f = record {
  next = 0;
  carried = record {
    form = straight;
    variables = params_carried 0 0 (params_of f);
    go = Arg 0;
    ret = Arg 0;
    memory = Arg f.params;
    io = Arg (suc f.params);
  };
}

-- ---- the value

-- what a function gives that ends without a `return` (5.1.2.2.3, 6.9.1p12)
abbrev pub end_value : (is_main : Bool) → Point → Built Origin
end_value true s = const_made 0 s
end_value false s = undef_made s

-- `go` and `ret` begin
abbrev pub jumps_begun : (is_main : Bool) → Point → Built (Unit {0})
jumps_begun is_main s = bind (const_made 0 s) (λ g t. bind (end_value is_main t) (λ r u. nothing (with_jumps u jumping g r)))

-- a statement of a body without jumps, and what follows it: a `return` that is last gives the value
abbrev pub straight_then : (follows : Bool) → List VariableTree → StmtTree → (rest : Point → Built Origin) → Point → Built Origin
straight_then false vs (return_value e) rest s = expr_made e s
straight_then false vs return_none rest s = undef_made s
straight_then follows vs a rest s = bind (stmt_made vs a s) (λ _ t. rest t)

abbrev pub straight_made : (is_main : Bool) → List VariableTree → ItemTrees → Point → Built Origin
straight_made is_main vs no_items s = end_value is_main s
straight_made is_main vs (stmt_then a is) s = straight_then (some_items is) vs a (straight_made is_main vs is) s
straight_made is_main vs (declare_then d is) s = bind (declared_made vs d s) (λ _ t. straight_made is_main vs is t)

-- ---- functions

abbrev pub jumping_body : (is_main : Bool) → FunctionTree → Built Origin
jumping_body is_main f =
    bind (jumps_begun is_main (start_of f)) (λ _ s.
    bind (params_stored 0 0 (params_of f) s) (λ _ t. bind (items_made f.variables f.body t) (λ _ u. given u.carried.ret u)))

abbrev pub straight_body : (is_main : Bool) → FunctionTree → Built Origin
straight_body is_main f = bind (params_stored 0 0 (params_of f) (start_of f)) (λ _ s. straight_made is_main f.variables f.body s)

abbrev pub body_built : (is_main : Bool) → FunctionTree → Built Origin
body_built is_main f = if body_jumps f.body then jumping_body is_main f else straight_body is_main f

abbrev pub body_region : (params : ℕ) → Built Origin → RegionTree
body_region n b =
    region (replicate n Value ++ Memory ∷ Io ∷ []) (nodes_of b.nodes) (b.value ∷ b.after.carried.memory ∷ b.after.carried.io ∷ [])

-- the objects of a function, in order of declaration
abbrev pub object_made : Definitions → VariableTree → PlainObject
object_made defs v = record { size = size defs v.type; leaves = leaves defs v.type }

abbrev pub objects_made : Definitions → List VariableTree → List PlainObject
objects_made defs vs = map (object_made defs) (filter (λ (v : VariableTree). v.is_object) vs)

-- the body of a function, and the next number after it
abbrev pub body_made : (is_main : Bool) → FunctionTree → RegionTree
body_made is_main f = body_region f.params (body_built is_main f)

abbrev pub next_number : (is_main : Bool) → FunctionTree → ℕ
next_number is_main f = (body_built is_main f).after.next

-- the lambda of the function of this number
abbrev pub lambda_made : ProgramTree → (number : ℕ) → FunctionTree → PlainLambda
lambda_made p n f = record {
  number = n;
  params = f.params;
  objects = objects_made p.structs f.variables;
  body = body_made (n == p.main) f;
  next = next_number (n == p.main) f;
}

-- How many values the lambda of a function has: `main` has as many as it would have under another name.
abbrev pub function_values : FunctionTree → ℕ
function_values f = region_values (body_made false f)

-- ---- programs

-- the lambdas of functions that have the numbers from this one on
abbrev pub lambdas_made : ProgramTree → (number : ℕ) → List FunctionTree → List PlainLambda
lambdas_made p n [] = []
lambdas_made p n (f ∷ fs) = lambda_made p n f ∷ lambdas_made p (suc n) fs

abbrev pub graph : ProgramTree → List PlainLambda
graph p = lambdas_made p 0 p.functions

abbrev pub names : ProgramTree → List (List ℕ)
names p = map (λ (f : FunctionTree). f.name) p.functions

abbrev pub omega : ProgramTree → PlainOmega
omega p = record { lambdas = graph p; deltas = globals_made p; names = names p }
