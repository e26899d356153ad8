-- The lambdas and globals of a well-typed program are those of an image.
use Rattle.std.proofs.Common.{◌≡◌, ℕ, ◌+◌, zero, suc, Bool, true, false, List, [], ◌∷◌, length, map, refl, sym, ap, ◌∙◌, arith, subst}
use Rattle.std.specs.Prelude.{◌==◌, if◌then◌else◌, slice_get, option_map}
use Rattle.std.specs.List.{sum_by, filter}
use Rattle.std.specs.declared.option.Option.{Option}
use Rattle.std.specs.declared.option.Option.TheVariants.{Some, None}
use Rattle.std.proofs.lemmas.List.{length-map}
use Rattle.std.proofs.lemmas.List.Sums.{sum_by-cons}
use Rattle.base.specs.Limits.{counted_bytes}
use Rattle.c_type.specs.Layout.{Definitions, size, leaves}
use Rattle.c_type.specs.LayoutLaws.{LeavesAreInOrder}
use Rattle.c_typed.specs.Typed.{VariableTree, FunctionTree, GlobalTree, ProgramTree}
use Rattle.c_typed.specs.WellTyped.{IsWellTyped, GlobalIsTyped}
use Rattle.g_graph.specs.Plain.{PlainLambda, PlainDelta, PlainObject}
use Rattle.g_graph.specs.Lists.{RegionOps, Calls, NamesGlobal}
use Rattle.g_graph.specs.Program.{same_bytes, name_index, main_name, IsGlobal, HasMain, lambda_values, IsFunctionWithinLimits}
use Rattle.g_graph.specs.WellFormed.{IsWellFormed, leaves_fit}
use Rattle.g_graph.proofs.lemmas.Names.{bytes_same, bytes_equal}
use Rattle.g_build_keeps.specs.FormationLaws.{LambdaForms, FormedIsWellFormed}
use Rattle.g_build_def.specs.Globals.{global_made, globals_made}
use Rattle.g_build_def.specs.Functions.{objects_made, lambda_made, lambdas_made, function_values, graph, names}
use Rattle.g_build_def.proofs.lemmas.Programs.{lambdas_stand_at_their_numbers, globals_stand_at_their_numbers, globals_have_their_size, values_are_of_the_function}
use Rattle.g_build_keeps.specs.BuiltLaws.{WellTypedAreBuilt, object_bytes, FunctionIsSmall, SmallAreWithinLimits}
use Rattle.g_build_keeps.proofs.StartGraphs.{body_forms}
use Rattle.g_build_keeps.proofs.lemmas.Leaves.{leaves_of_fit, objects_fit_of, bytes_below, links_fit, links_apart}

-- ---- lambdas

-- the function of which a lambda is made
record Built (p : ProgramTree) (n : ℕ) (l : PlainLambda) : Type 0 where
  function : FunctionTree
  there : slice_get p.functions n ≡ Some function
  same : lambda_made p n function ≡ l

built : (p : ProgramTree) (n : ℕ) (l : PlainLambda) → slice_get (graph p) n ≡ Some l → Built p n l
built p n l e = by_function (slice_get p.functions n) refl (sym (lambdas_stand_at_their_numbers p n) ∙ e)
  where
    by_function : (x : Option FunctionTree) → slice_get p.functions n ≡ x → option_map (lambda_made p n) x ≡ Some l → Built p n l
    by_function None q r = absurd (cc)
    by_function (Some f) q r = let same : lambda_made p n f ≡ l = cc in record { function = f; there = q; same = same }

lambda_forms : LeavesAreInOrder → (p : ProgramTree) → IsWellTyped p → (n : ℕ) (f : FunctionTree) → slice_get p.functions n ≡ Some f → LambdaForms (graph p) (length p.globals) (lambda_made p n f)
lambda_forms law p w n f e =
    let typed = w.functions n f e in
    record { body = body_forms p f (n == p.main) w typed; leaves = objects_fit_of law p.structs w.structs f.variables typed.variables }

lambda_good : LeavesAreInOrder → FormedIsWellFormed → (p : ProgramTree) → IsWellTyped p → (n : ℕ) (l : PlainLambda) → slice_get (graph p) n ≡ Some l →
    IsWellFormed l × RegionOps (Calls (graph p)) l.body × RegionOps (NamesGlobal (length p.globals)) l.body
lambda_good law formed p w n l e =
    let b = built p n l e in
    subst (λ l. IsWellFormed l × RegionOps (Calls (graph p)) l.body × RegionOps (NamesGlobal (length p.globals)) l.body) b.same
    (formed (graph p) (length p.globals) (lambda_made p n b.function) (lambda_forms law p w n b.function b.there))

-- ---- `main`

main_found : (fs : List FunctionTree) (k : ℕ) (f : FunctionTree) → slice_get fs k ≡ Some f → f.name ≡ main_name → ((j : ℕ) (g : FunctionTree) → slice_get fs j ≡ Some g → g.name ≡ main_name → j ≡ k) →
    name_index main_name (map (λ (f : FunctionTree). f.name) fs) ≡ Some k
main_found [] k f e n alone = absurd (cc)
main_found (g ∷ fs) zero f e n alone =
    let same : g ≡ f = cc in
    ap (λ t. if t then Some 0 else option_map suc (name_index main_name (map (λ (f : FunctionTree). f.name) fs)))
    (ap (λ (f : FunctionTree). same_bytes f.name main_name) same ∙ ap (λ xs. same_bytes xs main_name) n ∙ bytes_same main_name)
main_found (g ∷ fs) (suc k) f e n alone =
    by_test (same_bytes g.name main_name) refl (main_found fs k f e n (λ j h q r. let s = alone (suc j) h q r in omega (arith, s)))
  where
    by_test : (t : Bool) → same_bytes g.name main_name ≡ t → name_index main_name (map (λ (f : FunctionTree). f.name) fs) ≡ Some k →
        (if t then Some 0 else option_map suc (name_index main_name (map (λ (f : FunctionTree). f.name) fs))) ≡ Some (suc k)
    by_test true q r = let s = alone 0 g refl (bytes_equal g.name main_name q) in absurd (omega (arith, s))
    by_test false q r = ap (option_map suc) r

has_main : (p : ProgramTree) → IsWellTyped p → HasMain (names p) (graph p)
has_main p w =
    let m = w.main in
    record {
      index = p.main;
      lambda = lambda_made p p.main m.function;
      named = main_found p.functions p.main m.function m.there m.named m.alone;
      there = lambdas_stand_at_their_numbers p p.main ∙ ap (option_map (lambda_made p p.main)) m.there;
      params = m.takes;
    }

-- ---- globals

global_good : LeavesAreInOrder → (p : ProgramTree) → IsWellTyped p → (g : GlobalTree) → GlobalIsTyped p g → IsGlobal (length p.globals) (global_made p.structs g)
global_good law p w g h =
    let ls = leaves p.structs g.type in
    let n = length p.globals in
    record {
      bytes = bytes_below ls n 0 g.written 0 (size p.structs g.type) h.written;
      leaves = ap (λ m. leaves_fit m 0 ls) (globals_have_their_size p g) ∙ leaves_of_fit law p.structs w.structs g.type h.laid_out;
      links = links_fit ls n 0 g.written h.written;
      apart = links_apart ls n 0 g.written h.written;
    }

globals_good : LeavesAreInOrder → (p : ProgramTree) → IsWellTyped p → (k : ℕ) (d : PlainDelta) → slice_get (globals_made p) k ≡ Some d → IsGlobal (length (globals_made p)) d
globals_good law p w k d e = by_global (slice_get p.globals k) refl (sym (globals_stand_at_their_numbers p k) ∙ e)
  where
    count : length (globals_made p) ≡ length p.globals
    count = length-map p.globals _

    by_global : (x : Option GlobalTree) → slice_get p.globals k ≡ x → option_map (global_made p.structs) x ≡ Some d → IsGlobal (length (globals_made p)) d
    by_global None q r = absurd (cc)
    by_global (Some g) q r =
        let same : global_made p.structs g ≡ d = cc in
        subst (IsGlobal (length (globals_made p))) same (subst (λ n. IsGlobal n (global_made p.structs g)) (sym count) (global_good law p w g (w.globals k g q)))

-- ---- the program

pub well_typed_are_built : LeavesAreInOrder → FormedIsWellFormed → WellTypedAreBuilt
well_typed_are_built law formed p w = record {
  complete = record {
    well_formed = λ n l e. (lambda_good law formed p w n l e).0;
    numbered = λ n l e. let b = built p n l e in sym (ap (λ (l : PlainLambda). l.number) b.same);
    calls = λ n l e. (lambda_good law formed p w n l e).1;
  };
  params = refl;
  main = has_main p w;
  named = λ n l e. subst (λ m. RegionOps (NamesGlobal m) l.body) (sym (length-map p.globals _)) (lambda_good law formed p w n l e).2;
  globals = globals_good law p w;
}

-- ---- the limits

values_of_built : (p : ProgramTree) (n : ℕ) (f : FunctionTree) → lambda_values (lambda_made p n f) ≡ function_values f
values_of_built p n f = values_are_of_the_function (n == p.main) f

sum_of_values : (p : ProgramTree) (n : ℕ) (fs : List FunctionTree) → sum_by lambda_values (lambdas_made p n fs) ≡ sum_by function_values fs
sum_of_values p n [] = refl
sum_of_values p n (f ∷ fs) =
    let a = sum_by-cons lambda_values (lambda_made p n f) (lambdas_made p (suc n) fs) in
    let b = sum_by-cons function_values f fs in
    let c = values_of_built p n f in
    let d = sum_of_values p (suc n) fs in
    omega (arith, a, b, c, d)

count_of_built : (p : ProgramTree) (n : ℕ) (fs : List FunctionTree) → length (lambdas_made p n fs) ≡ length fs
count_of_built p n [] = refl
count_of_built p n (f ∷ fs) = ap suc (count_of_built p (suc n) fs)

sum_of_objects : (defs : Definitions) (vs : List VariableTree) → sum_by (λ (o : PlainObject). counted_bytes o.size) (objects_made defs vs) ≡ sum_by (object_bytes defs) vs
sum_of_objects defs [] = refl
sum_of_objects defs (v ∷ vs) = by_kind v.is_object (sum_of_objects defs vs) ∙ sym (sum_by-cons (object_bytes defs) v vs)
  where
    by_kind : (t : Bool) → sum_by (λ (o : PlainObject). counted_bytes o.size) (objects_made defs vs) ≡ sum_by (object_bytes defs) vs →
        sum_by (λ (o : PlainObject). counted_bytes o.size)
        (map (λ (v : VariableTree). record { size = size defs v.type; leaves = leaves defs v.type })
        (if t then v ∷ filter (λ (v : VariableTree). v.is_object) vs else filter (λ (v : VariableTree). v.is_object) vs))
        ≡ (if t then counted_bytes (size defs v.type) else 0) + sum_by (object_bytes defs) vs
    by_kind true e = sum_by-cons (λ (o : PlainObject). counted_bytes o.size) (record { size = size defs v.type; leaves = leaves defs v.type })
        (objects_made defs vs) ∙ ap (λ n. counted_bytes (size defs v.type) + n) e
    by_kind false e = omega (arith, e)

sum_of_globals : (defs : Definitions) (gs : List GlobalTree) → ((g : GlobalTree) → length (global_made defs g).bytes ≡ size defs g.type) →
    sum_by (λ (d : PlainDelta). counted_bytes (length d.bytes)) (map (global_made defs) gs) ≡ sum_by (λ (g : GlobalTree). counted_bytes (size defs g.type)) gs
sum_of_globals defs [] sizes = refl
sum_of_globals defs (g ∷ gs) sizes =
    sum_by-cons (λ (d : PlainDelta). counted_bytes (length d.bytes)) (global_made defs g) (map (global_made defs) gs)
    ∙ (λ i. counted_bytes (sizes g i) + sum_of_globals defs gs sizes i) ∙ sym (sum_by-cons (λ (g : GlobalTree). counted_bytes (size defs g.type)) g gs)

pub small_are_within_limits : SmallAreWithinLimits
small_are_within_limits p h = record {
  functions = let n = count_of_built p 0 p.functions in omega (arith, n, h.functions);
  each = λ n l e. let b = built p n l e in subst IsFunctionWithinLimits b.same (function_within n b.function (h.each n b.function b.there));
  values = let e = sum_of_values p 0 p.functions in omega (arith, e, h.values);
  globals = let e = sum_of_globals p.structs p.globals (λ g. globals_have_their_size p g) in omega (arith, e, h.globals);
}
  where
    function_within : (n : ℕ) (f : FunctionTree) → FunctionIsSmall p.structs f → IsFunctionWithinLimits (lambda_made p n f)
    function_within n f s = record {
      parameters = s.parameters;
      objects = let e = sum_of_objects p.structs f.variables in omega (arith, e, s.objects);
      values = let e = values_of_built p n f in omega (arith, e, s.values);
    }
