-- A program that passes no limit is small, and so are its lambdas.
use Rattle.std.proofs.Common.{◌≡◌, ◌≤◌, ℕ, zero, suc, ◌+◌, Bool, true, false, List, [], ◌∷◌, map, refl, sym, ap, subst, ◌∙◌, ◌*◌, ◌==◌, arith}
use Rattle.std.specs.Prelude.{nat_lt, if◌then◌else◌, Option, None, Some, slice_get}
use Rattle.std.specs.List.{sum, sum_by}
use Rattle.std.proofs.lemmas.Bool.Decides.{nat_tests}
use Rattle.std.proofs.lemmas.List.Sums.{sum-map, sum_by-cons}
use Rattle.base.specs.Limits.{most_functions, most_parameters, most_object_bytes, most_global_bytes, most_lambda_values, most_program_values, most_grown_values, most_built_values}
use Rattle.c_type.specs.Layout.{Definitions}
use Rattle.c_typed.specs.Typed.{FunctionTree, GlobalTree, ProgramTree}
use Rattle.c_check_def.specs.declared.refusal_kind.Quantity.TheVariants.{Parameters, ObjectBytes}
use Rattle.c_check_def.specs.Limits.{many_functions, first_above, bytes_of, object_bytes, global_bytes, passing, many_global_bytes}
use Rattle.g_graph.specs.Program.{lambda_values}
use Rattle.g_build_def.specs.Functions.{function_values, graph, lambdas_made}
use Rattle.g_build_def.proofs.lemmas.Programs.{values_are_of_the_function}
use Rattle.g_build.specs.Passed.{first_large, limit_passed}
use Rattle.c_check_laws.proofs.lemmas.Accepted.{none_above, get_none}
use Rattle.cc_source.specs.Laws.{UnlimitedAreSmall}
use Rattle.g_graph.proofs.lemmas.Change.{none_map}
use Rattle.val_core.proofs.lemmas.Options.{or_none}

-- ---- options that are none

if_none : {X : Type 0} (t : Bool) (x : X) (rest : Option X) → (if t then Some x else rest) ≡ None → (t ≡ false) × (rest ≡ None)
if_none true x rest h = absurd cc
if_none false x rest h = (refl, h)

at_most : (m n : ℕ) → nat_lt m n ≡ false → n ≤ m
at_most m n h = grind (arith, nat_tests, h)

-- ---- each function

none_large : (fs : List FunctionTree) → first_large fs ≡ None → (k : ℕ) (f : FunctionTree) → slice_get fs k ≡ Some f → function_values f ≤ most_lambda_values
none_large [] h k f e = absurd cc
none_large (g ∷ fs) h zero f e =
    let same : g ≡ f = cc in
    subst (λ (x : FunctionTree). function_values x ≤ most_lambda_values) same
    (at_most most_lambda_values (function_values g) (if_none (nat_lt most_lambda_values (function_values g)) _ (first_large fs) h).0)
none_large (g ∷ fs) h (suc k) f e = none_large fs (if_none (nat_lt most_lambda_values (function_values g)) _ (first_large fs) h).1 k f e

-- ---- the globals

none_passing : (defs : Definitions) (n : ℕ) (gs : List GlobalTree) → n ≤ most_global_bytes → passing defs n gs ≡ None → n + sum_by (global_bytes defs) gs ≤ most_global_bytes
none_passing defs n [] small h = omega (arith, small)
none_passing defs n (g ∷ gs) small h =
    let within = if_none (nat_lt most_global_bytes (n + global_bytes defs g)) g.at (passing defs (n + global_bytes defs g) gs) h in
    omega (arith, none_passing defs (n + global_bytes defs g) gs (at_most most_global_bytes (n + global_bytes defs g) within.0) within.1, sum_by-cons (global_bytes defs) g gs)

-- ---- the program

pub unlimited_are_small : UnlimitedAreSmall
unlimited_are_small p checked built =
    let first = or_none (many_functions p.functions) _ checked in
    let second = or_none (first_above Parameters most_parameters (λ f. f.params) p.functions) _ first.1 in
    let third = or_none (first_above ObjectBytes most_object_bytes (object_bytes p.structs) p.functions) (many_global_bytes p.structs p.globals) second.1 in
    let values = or_none (first_large p.functions) _ built in
    let all = if_none (nat_lt most_built_values (sum_by function_values p.functions)) _ None values.1 in
    record {
      functions = get_none p.functions most_functions (none_map _ (slice_get p.functions most_functions) first.0);
      each = λ k f e. record {
        parameters = none_above Parameters most_parameters (λ f. f.params) p.functions second.0 k f e;
        objects =
            subst (λ n. n ≤ most_object_bytes) (sum-map (bytes_of p.structs) f.variables)
            (none_above ObjectBytes most_object_bytes (object_bytes p.structs) p.functions third.0 k f e);
        values = none_large p.functions values.0 k f e;
      };
      values = omega (arith, at_most most_built_values (sum_by function_values p.functions) all.0);
      globals = omega (arith, none_passing p.structs 0 p.globals (omega arith) (none_map _ (passing p.structs 0 p.globals) third.1));
    }

-- ---- its lambdas

values_of_graph : (p : ProgramTree) (n : ℕ) (fs : List FunctionTree) → map lambda_values (lambdas_made p n fs) ≡ map function_values fs
values_of_graph p n [] = refl
values_of_graph p n (f ∷ fs) =
    ap (λ v. v ∷ map lambda_values (lambdas_made p (suc n) fs)) (values_are_of_the_function (n == p.main) f)
    ∙ ap (λ vs. function_values f ∷ vs) (values_of_graph p (suc n) fs)

-- a recipe may make them larger
pub graph_may_grow : (p : ProgramTree) → limit_passed p.functions ≡ None → most_functions * most_grown_values + sum_by lambda_values (graph p) ≤ most_program_values
graph_may_grow p built =
    let values = or_none (first_large p.functions) _ built in
    let all = if_none (nat_lt most_built_values (sum_by function_values p.functions)) _ None values.1 in
    let few = at_most most_built_values (sum_by function_values p.functions) all.0 in
    let same = sym (sum-map lambda_values (graph p)) ∙ (ap sum (values_of_graph p 0 p.functions) ∙ sum-map function_values p.functions) in
    omega (arith, few, same)
