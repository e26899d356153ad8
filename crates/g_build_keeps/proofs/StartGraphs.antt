-- The start of a function.
use Rattle.std.proofs.Common.{◌≡◌, ◌≤◌, ◌<◌, ℕ, ◌+◌, zero, suc, Bool, true, false, List, [], ◌∷◌, ◌++◌, length, replicate, map, refl, sym, ap, ◌∙◌, arith}
use Rattle.std.specs.Prelude.{if◌then◌else◌, slice_get, option_map}
use Rattle.std.specs.List.{count_by, filter}
use Rattle.std.specs.declared.option.Option.{Option}
use Rattle.std.specs.declared.option.Option.TheVariants.{Some, None}
use Rattle.std.proofs.lemmas.Option.{slice_get_within, get_or_from_slice_get, slice_get-map}
use Rattle.std.proofs.lemmas.List.{length-map, length-take-le}
use Rattle.std.proofs.lemmas.List.Sums.{length-filter, count_by_more_yes, sum_by-take-le, sum_by-cons}
use Rattle.c_type.specs.Layout.{Definitions}
use Rattle.c_typed.specs.Typed.{VariableTree, FunctionTree, ProgramTree}
use Rattle.c_typed.specs.WellTyped.{Signature, params_of, signature_of, scope_of, FunctionIsTyped, IsWellTyped}
use Rattle.c_typed.specs.Objects.{object_number}
use Rattle.g_graph.specs.declared.op.Kind.{Kind}
use Rattle.g_graph.specs.declared.op.Kind.TheVariants.{Value, Memory, Io}
use Rattle.g_graph.specs.declared.op.Origin.{Origin}
use Rattle.g_graph.specs.declared.op.Origin.TheVariants.{Arg}
use Rattle.g_graph.specs.Plain.{nodes_of}
use Rattle.g_graph.specs.Lists.{HasCallee}
use Rattle.g_build_keeps.specs.Formation.{Standing, last_origin, at_start, RegionForms}
use Rattle.g_build_keeps.specs.FormationLaws.{OpFits}
use Rattle.g_build_keeps.proofs.lemmas.Joins.{weaken}
use Rattle.g_build_def.specs.Writer.{held, object, straight}
use Rattle.g_build_def.specs.Functions.{params_carried, start_of, body_built, objects_made, body_made, next_number, lambda_made, graph}
use Rattle.g_build_def.proofs.lemmas.Programs.{lambdas_stand_at_their_numbers}
use Rattle.g_build_keeps.proofs.Stands.{Frame, Mark, a_value, an_object, SlotsFit, Stands}
use Rattle.g_build_keeps.proofs.Parts.{at_start_old}
use Rattle.g_build_keeps.proofs.PlaceGraphs.{shown}
use Rattle.g_build_keeps.proofs.ExpressionGraphs.{FitsScope}
use Rattle.g_build_keeps.proofs.lemmas.Bodies.{Either, ParamsFit, Ended, body_ok}

abbrev is_object : VariableTree → Bool
is_object v = v.is_object

-- ---- arguments

abbrev start_kinds : (params : ℕ) → List Kind
start_kinds n = replicate n Value ++ Memory ∷ Io ∷ []

value_kind : (n a : ℕ) → a < n → slice_get (start_kinds n) a ≡ Some Value
value_kind zero a h = absurd (omega (arith, h))
value_kind (suc n) zero h = refl
value_kind (suc n) (suc a) h = value_kind n a (omega (arith, h))

memory_kind : (n : ℕ) → slice_get (start_kinds n) n ≡ Some Memory
memory_kind zero = refl
memory_kind (suc n) = memory_kind n

io_kind : (n : ℕ) → slice_get (start_kinds n) (suc n) ≡ Some Io
io_kind zero = refl
io_kind (suc n) = io_kind n

last_memory : (n : ℕ) (f : ℕ → Origin) (o : Origin) → last_origin Memory f (start_kinds n) o ≡ f n
last_memory zero f o = refl
last_memory (suc n) f o = last_memory n (λ k. f (suc k)) o

last_io : (n : ℕ) (f : ℕ → Origin) (o : Origin) → last_origin Io f (start_kinds n) o ≡ f (suc n)
last_io zero f o = refl
last_io (suc n) f o = last_io n (λ k. f (suc k)) o

-- ---- parameters

abbrev params_marks : (number : ℕ) → List VariableTree → List Mark
params_marks k [] = []
params_marks k (p ∷ ps) = if p.is_object then an_object k ∷ params_marks (suc k) ps else a_value ∷ params_marks k ps

params_shown : (k : ℕ) (ps : List VariableTree) → shown (params_marks k ps) ≡ length ps
params_shown k [] = refl
params_shown k (p ∷ ps) = by_kind p.is_object (params_shown (suc k) ps) (params_shown k ps)
  where
    by_kind : (t : Bool) → shown (params_marks (suc k) ps) ≡ length ps → shown (params_marks k ps) ≡ length ps →
        shown (if t then an_object k ∷ params_marks (suc k) ps else a_value ∷ params_marks k ps) ≡ suc (length ps)
    by_kind true e d = ap suc e
    by_kind false e d = ap suc d

-- parameters of which there are so many objects fit
params_fit : (f : Frame) (n k a : ℕ) (ps : List VariableTree) → a + length ps ≤ n → k + count_by is_object ps ≤ f.objects → ParamsFit f (at_start 0 (start_kinds n)) k a ps
params_fit f n k a [] h g = tt
params_fit f n k a (p ∷ ps) h g =
    (value_kind n a (omega (arith, h)), by_kind p.is_object (g_of g) (λ e. params_fit f n (suc k) (suc a) ps (omega (arith, h)) e) (λ e. params_fit f n k (suc a) ps (omega (arith, h)) e))
  where
    g_of : k + count_by is_object (p ∷ ps) ≤ f.objects → k + ((if p.is_object then 1 else 0) + count_by is_object ps) ≤ f.objects
    g_of g = let e = sum_by-cons (λ v. if is_object v then 1 else 0) p ps in omega (arith, g, e)

    by_kind : (t : Bool) → k + ((if t then 1 else 0) + count_by is_object ps) ≤ f.objects → (suc k + count_by is_object ps ≤ f.objects → ParamsFit f (at_start 0 (start_kinds n)) (suc k) (suc a) ps) →
        (k + count_by is_object ps ≤ f.objects → ParamsFit f (at_start 0 (start_kinds n)) k (suc a) ps) →
        Either t ((k < f.objects) × ParamsFit f (at_start 0 (start_kinds n)) (suc k) (suc a) ps) (ParamsFit f (at_start 0 (start_kinds n)) k (suc a) ps)
    by_kind true e r s = (omega (arith, e), r (omega (arith, e)))
    by_kind false e r s = s (omega (arith, e))

params_carry : (f : Frame) (c : Standing) (k a : ℕ) (ps : List VariableTree) → ParamsFit f c k a ps → SlotsFit f.objects c (params_marks k ps) (params_carried k a ps)
params_carry f c k a [] h = tt
params_carry f c k a (p ∷ ps) h = by_kind p.is_object h.1 (λ q. params_carry f c (suc k) (suc a) ps q) (λ q. params_carry f c k (suc a) ps q)
  where
    by_kind : (t : Bool) → Either t ((k < f.objects) × ParamsFit f c (suc k) (suc a) ps) (ParamsFit f c k (suc a) ps) →
        (ParamsFit f c (suc k) (suc a) ps → SlotsFit f.objects c (params_marks (suc k) ps) (params_carried (suc k) (suc a) ps)) →
        (ParamsFit f c k (suc a) ps → SlotsFit f.objects c (params_marks k ps) (params_carried k (suc a) ps)) →
        SlotsFit f.objects c (if t then an_object k ∷ params_marks (suc k) ps else a_value ∷ params_marks k ps)
        (if t then object k ∷ params_carried (suc k) (suc a) ps else held (Arg a) ∷ params_carried k (suc a) ps)
    by_kind true q r s = ((refl, q.0), r q.1)
    by_kind false q r s = (h.0, s q)

-- ---- the frame

-- that of a function of this program, at its start
abbrev start_frame : ProgramTree → FunctionTree → Frame
start_frame p f = record {
  lambdas = graph p;
  globals = length p.globals;
  objects = length (objects_made p.structs f.variables);
  form = straight;
  marks = params_marks 0 (params_of f);
}

objects_counted : (defs : Definitions) (vs : List VariableTree) → length (objects_made defs vs) ≡ count_by is_object vs
objects_counted defs vs = length-map (filter is_object vs) _ ∙ length-filter is_object vs

start_params : (p : ProgramTree) (f : FunctionTree) → FunctionIsTyped p f → ParamsFit (start_frame p f) (at_start 0 (start_kinds f.params)) 0 0 (params_of f)
start_params p f h =
    let most = sum_by-take-le (λ v. if is_object v then 1 else 0) f.variables f.params in
    let count = objects_counted p.structs f.variables in
    let n = length-take-le f.params f.variables h.params in
    params_fit (start_frame p f) f.params 0 0 (params_of f) (omega (arith, n)) (omega (arith, most, count))

start_stands : (p : ProgramTree) (f : FunctionTree) → FunctionIsTyped p f → Stands (start_frame p f) (at_start 0 (start_kinds f.params)) (start_of f)
start_stands p f h = record {
  form = refl;
  next = refl;
  slots = params_carry (start_frame p f) (at_start 0 (start_kinds f.params)) 0 0 (params_of f) (start_params p f h);
  jumps = tt;
  memory = (memory_kind f.params, last_memory f.params Arg (Arg 0));
  io = (io_kind f.params, last_io f.params Arg (Arg 0));
  old = at_start_old 0 (start_kinds f.params);
}

-- ---- the scope

object_below : (defs : Definitions) (vs : List VariableTree) (n : ℕ) (v : VariableTree) → slice_get vs n ≡ Some v → v.is_object ≡ true → object_number vs n < length (objects_made defs vs)
object_below defs vs n v e o =
    let within = slice_get_within vs n v e in
    let is = get_or_from_slice_get vs n v v e in
    let more = count_by_more_yes is_object vs n v within (ap is_object is ∙ o) in
    let most = sum_by-take-le (λ v. if is_object v then 1 else 0) vs (n + 1) in
    let count = objects_counted defs vs in
    omega (arith, more, most, count)

record Called (p : ProgramTree) (n : ℕ) (g : Signature) : Type 0 where
  function : FunctionTree
  there : slice_get p.functions n ≡ Some function
  same : signature_of function ≡ g

called : (p : ProgramTree) (n : ℕ) (g : Signature) → slice_get (map signature_of p.functions) n ≡ Some g → Called p n g
called p n g e = by_function (slice_get p.functions n) refl (sym (slice_get-map signature_of p.functions n) ∙ e)
  where
    by_function : (x : Option FunctionTree) → slice_get p.functions n ≡ x → option_map signature_of x ≡ Some g → Called p n g
    by_function None q r = absurd (cc)
    by_function (Some f) q r = let same : signature_of f ≡ g = cc in record { function = f; there = q; same = same }

has_callee : (p : ProgramTree) → ((k : ℕ) (f : FunctionTree) → slice_get p.functions k ≡ Some f → FunctionIsTyped p f) → (n : ℕ) (g : Signature) → slice_get (map signature_of p.functions) n ≡ Some g →
    HasCallee (graph p) n (length g.params + 2)
has_callee p typed n g e =
    let c = called p n g e in
    let f = c.function in
    let params : length (signature_of f).params ≡ f.params = length-map (params_of f) _ ∙ length-take-le f.params f.variables (typed n f c.there).params in
    record {
      callee = lambda_made p n f;
      there = lambdas_stand_at_their_numbers p n ∙ ap (option_map (lambda_made p n)) c.there;
      fits = ap (λ (s : Signature). length s.params + 2) (sym c.same) ∙ ap (λ m. m + 2) params;
    }

start_scope : (p : ProgramTree) (f : FunctionTree) → IsWellTyped p → FunctionIsTyped p f → FitsScope (start_frame p f) (scope_of p f)
start_scope p f w h = record {
  slots = let e = params_shown 0 (params_of f) in omega (arith, e);
  globals = sym (length-map p.globals _);
  functions = has_callee p w.functions;
  variables = object_below p.structs f.variables;
}

-- ---- the body

pub body_forms : (p : ProgramTree) (f : FunctionTree) (is_main : Bool) → IsWellTyped p → FunctionIsTyped p f →
    RegionForms (OpFits (graph p) (length p.globals) (length (objects_made p.structs f.variables))) 0 (start_kinds f.params) (Value ∷ Memory ∷ Io ∷ []) (body_made is_main f) (next_number is_main f)
body_forms p f is_main w h =
    let b = body_built is_main f in
    let c = at_start 0 (start_kinds f.params) in (
      refl,
      weaken (OpFits (graph p) (length p.globals) (length (objects_made p.structs f.variables))) c (nodes_of b.nodes) (Ended b) _
          (body_ok (start_frame p f) (scope_of p f) _ is_main f c (start_scope p f w h) refl h.body (start_params p f h) (start_stands p f h))
          (λ d x. (x.next, (x.value, (x.memory, (x.io, tt))))),
    )
