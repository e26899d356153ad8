-- The graph of a function does what the function does, where calls do.
use Rattle.std.proofs.Common.{◌≡◌, ℕ, zero, suc, List, [], ◌∷◌, ◌++◌, map, length, refl, sym, ap, ◌∙◌, subst, arith}
use Rattle.std.specs.Prelude.{◌==◌, Bool, true, false, if◌then◌else◌, slice_get, Option, None, Some, option_map}
use Rattle.std.proofs.lemmas.List.{length-append, length-map, length-take-le}
use Rattle.std.proofs.lemmas.Option.{slice_get-map}
use Rattle.val_core.specs.declared.values.Value.{Value}
use Rattle.val_core.specs.Values.{IsLessDefined}
use Rattle.val_core.specs.Memory.{Memory as Blocks, IsSoundMemory, BlockShape, closed}
use Rattle.val_core.specs.Objects.{Addresses, address_in, opened}
use Rattle.val_core.specs.Refinement.{Direction, exactly, Refines}
use Rattle.val_core.specs.Answers.{Answer, Returned, then_on, on_defined}
use Rattle.val_core.specs.Within.{IsLessDefinedOption}
use Rattle.val_core.proofs.lemmas.Objects.{addresses_are_sound, opened_is_sound}
use Rattle.val_core.proofs.lemmas.Refinement.{exactly-goes, refines-then, refines-far-goes}
use Rattle.c_type.specs.LayoutLaws.{LeavesAreInOrder}
use Rattle.c_typed.specs.Typed.{return_value, return_none, ItemTrees, no_items, stmt_then, declare_then, FunctionTree, ProgramTree}
use Rattle.c_typed.specs.WellTyped.{Scope, Signature, extended, IsScalar, AreScalar, Jumps, ItemsAreTyped, params_of, signature_of, scope_of, IsWellTyped}
use Rattle.c_mean.specs.State.{State, with_memory}
use Rattle.c_mean.specs.Expressions as source
use Rattle.c_mean.specs.Expressions.{Call, value_or_none}
use Rattle.c_mean.specs.Statements.{normal, Flowed, items_run}
use Rattle.c_mean.specs.Run as source_run
use Rattle.c_mean.specs.Run.{objects_of, ended, value_at_end, body_run, global_sizes, global_address}
use Rattle.g_graph.specs.declared.op.Origin.{Origin}
use Rattle.g_graph.specs.Plain.{nodes_of, PlainObject, shapes_of}
use Rattle.g_build_def.specs.Writer.{Point, Built, bind, given}
use Rattle.g_build_def.specs.Exits.{stmt_jumps, body_jumps}
use Rattle.g_build_def.specs.Statements.{items_made}
use Rattle.g_build_def.specs.Functions.{params_stored, start_of, straight_made, jumps_begun, jumping_body, straight_body, body_built, objects_made, body_made, lambda_made}
use Rattle.g_build_keeps.proofs.lemmas.Exits.{neither_left, neither_right}
use Rattle.g_mean.specs.Data.{Datum, val, memory, input, on_memory, changed_at, taken}
use Rattle.g_mean.specs.Data as graph_data
use Rattle.g_mean.specs.Meaning.{Meaning, Context, Outputs, no_outputs, read as read_origin, region_meaning, nodes_run}
use Rattle.g_mean.specs.Calls.{sizes_of, inside, entered}
use Rattle.g_mean.specs.LessDefined.{AreSound}
use Rattle.g_build_keeps.specs.Laws.{GivesBack}
use Rattle.g_build_keeps.specs.Groups.{ItemsHaveFewGroups, HasFewGroups}
use Rattle.g_build_keeps.proofs.Readings.{IsSoundRun}
use Rattle.g_build_keeps.proofs.Toolbox.{Ran, Simulates, sim-bind}
use Rattle.g_build_keeps.proofs.Held.{Holds}
use Rattle.g_build_keeps.proofs.Claims.{BoundsFit, ContextsFit}
use Rattle.g_build_keeps.proofs.Expressions.{expr-sim}
use Rattle.g_build_keeps.proofs.Turns.{Stepped}
use Rattle.g_build_keeps.proofs.Declarations.{framed}
use Rattle.g_build_keeps.proofs.Objects.{in_memory}
use Rattle.g_build_keeps.proofs.Begun.{declaration-sim}
use Rattle.g_build_keeps.proofs.Induction.{ObjectsFit, initial-claims, stmt-sim, items-sim}
use Rattle.g_build_keeps.proofs.Blocks.{same-shapes, same-sizes, same-count, objects-fit}
use Rattle.g_build_keeps.proofs.Starts.{arguments-are, memory-at, first_state, start-holds, params_later, params-sim}
use Rattle.g_build_keeps.proofs.Bodies.{Ends, BodyClaim, body-end, body-value, body-none, body-then, body-declare, jumping-ends, jumps-begin}
use Rattle.g_build_keeps.proofs.Programs.{CallsFit, CallsAreSound, BodiesFit}

-- ---- bodies without jumps

-- a body without jumps but a last `return`
straight-sim : (w : Direction) (c : source.Context) (d : Context) (m : Bool) (g : Scope) (fit : ContextsFit w g.functions c d) → ObjectsFit g d → (n : ℕ) → length g.slots ≡ n → (j : Jumps)
    (is : ItemTrees) →
    ItemsAreTyped g j is → ItemsHaveFewGroups is → body_jumps is ≡ false → BodyClaim w g.functions c d fit m g.variables n is
straight-sim w c d m g fit objects n count j no_items h k e = body-end w g.functions c d fit m g.variables n
straight-sim w c d m g fit objects n count j (stmt_then (return_value x) no_items) h k e =
    body-value w g.functions c d fit m g.variables n x (subst IsScalar (sym h.0.1) h.0.2) (expr-sim w g c d fit (framed [] n m) (omega (arith, count)) normal x h.0.0)
straight-sim w c d m g fit objects n count j (stmt_then return_none no_items) h k e = body-none w g.functions c d fit m g.variables n
straight-sim w c d m g fit objects n count j (stmt_then a no_items) h k e =
    body-then w g.functions c d fit m g.variables n a no_items refl e (stmt-sim w c d m g fit objects n count j a h.0 k.0 []) (body-end w g.functions c d fit m g.variables n)
straight-sim w c d m g fit objects n count j (stmt_then a (stmt_then b is)) h k e =
    body-then w g.functions c d fit m g.variables n a (stmt_then b is) tt (neither_left (stmt_jumps a) (body_jumps (stmt_then b is)) e) (stmt-sim w c d m g fit objects n count j a h.0 k.0 [])
    (straight-sim w c d m g fit objects n count j (stmt_then b is) h.1 k.1 (neither_right (stmt_jumps a) (body_jumps (stmt_then b is)) e))
straight-sim w c d m g fit objects n count j (stmt_then a (declare_then b is)) h k e =
    body-then w g.functions c d fit m g.variables n a (declare_then b is) tt (neither_left (stmt_jumps a) (body_jumps (declare_then b is)) e) (stmt-sim w c d m g fit objects n count j a h.0 k.0 [])
    (straight-sim w c d m g fit objects n count j (declare_then b is) h.1 k.1 (neither_right (stmt_jumps a) (body_jumps (declare_then b is)) e))
straight-sim w c d m g fit objects n count j (declare_then x is) h k e =
    let more = length-append g.slots (h.0 ∷ []) in
    body-declare w g.functions c d fit m g.variables n x is
    (declaration-sim w g.functions c d fit [] n m g.variables x h.0 h.1
    (initial-claims w c d m g fit objects n count [] x.variable h.0 h.1 h.2.0 h.0.is_object x.names_itself x.initial refl h.2.2))
    (straight-sim w c d m (extended g h.0) fit objects (suc n) (omega (arith, count, more)) j is h.3 k e)

-- ---- what a function takes and gives

taken-sound : (vs : List Value) (m m' : Blocks) (i : List ℕ) → (IsSoundMemory m → IsSoundMemory m') → AreSound (taken vs m i) → AreSound (taken vs m' i)
taken-sound [] m m' i go h = (go h.0, h.1)
taken-sound (v ∷ vs) m m' i go h = (h.0, taken-sound vs m m' i go h.1)

taken-changed : (go : Blocks → Blocks) (vs : List Value) (m : Blocks) (i : List ℕ) (n : ℕ) → length vs ≡ n → changed_at n (graph_data.with_memory go) (taken vs m i) ≡ taken vs (go m) i
taken-changed go [] m i zero e = refl
taken-changed go [] m i (suc n) e = absurd cc
taken-changed go (v ∷ vs) m i zero e = absurd cc
taken-changed go (v ∷ vs) m i (suc n) e = ap (λ xs. val v ∷ xs) (taken-changed go vs m i n (omega (arith, e)))

-- what follows on a memory in which arguments are stored
stored-then : {A : Type 0} → (q : State) (x : Option Blocks) (next : State → Answer Flowed) (last : Flowed → Answer A) →
    then_on (then_on (in_memory q x) next) last ≡ on_defined x (λ k. then_on (next (with_memory q k)) last)
stored-then q None next last = refl
stored-then q (Some k) next last = refl

given-less : (v : Option Value) (far : Value) → IsLessDefined (value_or_none v) far → IsLessDefinedOption v far
given-less None far h = tt
given-less (Some v) far h = h

-- what the region of a body gives
record BodyGives (is_main : Bool) (y : Flowed) (ys : List Datum) : Type 0 where
  far : Value
  is : ys ≡ val far ∷ memory y.state.memory ∷ input y.state.input ∷ []
  less : IsLessDefined (value_or_none (value_at_end is_main y.flow)) far

module _ (p : ProgramTree) (typed : IsWellTyped p) (few : HasFewGroups p) (law : LeavesAreInOrder) where
  record Callee (k : ℕ) (s : Signature) : Type 0 where
    function : FunctionTree
    there : slice_get p.functions k ≡ Some function
    same : signature_of function ≡ s

  callee-of : (k : ℕ) (s : Signature) → slice_get (map signature_of p.functions) k ≡ Some s → Callee k s
  callee-of k s e = by (slice_get p.functions k) refl (sym (slice_get-map signature_of p.functions k) ∙ e)
    where
      by : (x : Option FunctionTree) → slice_get p.functions k ≡ x → option_map signature_of x ≡ Some s → Callee k s
      by None z y = absurd cc
      by (Some t) z y = let same : signature_of t ≡ s = cc in record { function = t; there = z; same = same }

  params-count : (k : ℕ) (t : FunctionTree) → slice_get p.functions k ≡ Some t → length (params_of t) ≡ t.params
  params-count k t there = length-take-le t.params t.variables (typed.functions k t there).params

  module _ (w : Direction) (near far : ℕ) (fits : BoundsFit w near far) (calls : ℕ → Call) (call : ℕ → Meaning) (calls_fit : CallsFit w p calls call) (sound : CallsAreSound call) (f : ℕ)
      (t : FunctionTree)
      (there : slice_get p.functions f ≡ Some t) (vs : List Value) (count : length vs ≡ t.params) (m : Blocks) (i : List ℕ) (taken_sound : AreSound (taken vs m i)) (is_main : Bool) where
    abbrev shapes : List BlockShape
    shapes = objects_of p.structs t.variables

    abbrev objects : List PlainObject
    objects = objects_made p.structs t.variables

    abbrev entry : Blocks
    entry = m ++ opened shapes

    abbrev us : List Datum
    us = taken vs entry i

    abbrev c : source.Context
    c = record { bound = near; calls = calls; addresses = record { local = address_in (length m) (map (λ o. o.size) shapes); global = global_address p } }

    abbrev d : Context
    d = inside far call (global_address p) objects m

    fit : ContextsFit w (map signature_of p.functions) c d
    fit =
        record {
          addresses = ap (λ sizes. record { local = address_in (length m) sizes; global = global_address p }) (sym (same-sizes p.structs t.variables));
          bounds = fits;
          sound = record { calls = sound; locals = λ k. addresses_are_sound (length m) (sizes_of objects) k; globals = λ k. addresses_are_sound 0 (global_sizes p) k };
          scalars = λ k s e. let r = callee-of k s e in subst (λ (z : Signature). AreScalar z.params) r.same (typed.functions k r.function r.there).takes;
          calls = λ k s e xs n m' i' h.
              let r = callee-of k s e in
              let one : length s.params ≡ r.function.params =
              ap (λ (z : Signature). length z.params) (sym r.same) ∙ length-map (params_of r.function) _ ∙ params-count k r.function r.there in
              calls_fit k r.function r.there xs (n ∙ one) m' i' h;
        }

    abbrev g : Scope
    g = scope_of p t

    fitting : ObjectsFit g d
    fitting = objects-fit law g d (length m) typed.structs (typed.functions f t there).variables refl

    abbrev n : ℕ
    n = length (params_of t)

    abbrev first : State
    first = first_state t vs entry i

    run : IsSoundRun us no_outputs
    run = record { args = taken-sound vs m entry i (opened_is_sound shapes m) taken_sound; outputs = λ id port. tt }

    same-count' : length vs ≡ length (params_of t)
    same-count' = count ∙ sym (params-count f t there)

    begun : Holds (framed [] n is_main) normal (read_origin us no_outputs) 0 (start_of t).carried first
    begun = start-holds t is_main vs entry i count same-count'

    -- the arguments are stored, and then the body is done
    abbrev stored : State → Answer State
    stored q = in_memory q (source_run.params_stored c.addresses.local 0 (params_of t) vs q.memory)

    abbrev whole : Answer Flowed
    whole = then_on (stored first) (items_run c t.variables t.body)

    stores : (o : Outputs) → IsSoundRun us o → (s : Point) (q : State) → Holds (framed [] n is_main) normal (read_origin us o) s.next s.carried q →
        Simulates w d (Stepped (framed [] n is_main) normal) us o s.next (params_stored 0 0 (params_of t) s) (stored q)
    stores o r s q h =
        subst (λ (a : Addresses). Simulates w d (Stepped (framed [] n is_main) normal) us o s.next (params_stored 0 0 (params_of t) s)
        (in_memory q (source_run.params_stored a.local 0 (params_of t) vs q.memory)))
        (sym fit.addresses) (params-sim w g.functions c d fit n is_main 0 0 (params_of t) vs same-count' us o r (arguments-are vs entry i) s q h)

    abbrev made : Point → Built (Unit {0})
    made s = params_stored 0 0 (params_of t) s

    body-sim : Simulates w d (Ends is_main) us no_outputs 0 (body_built is_main t) whole
    body-sim = by (body_jumps t.body) refl
      where
        by : (b : Bool) → body_jumps t.body ≡ b → Simulates w d (Ends is_main) us no_outputs 0 (if b then jumping_body is_main t else straight_body is_main t) whole
        by false e =
            sim-bind w d fit.sound (Stepped (framed [] n is_main) normal) (Ends is_main) us no_outputs 0 run (made (start_of t)) (λ _ s. straight_made is_main t.variables t.body s) (stored first)
            (items_run c t.variables t.body) (stores no_outputs run (start_of t) first begun) (λ y o r k.
            straight-sim w c d is_main g fit fitting n refl (record { may_break = false; may_continue = false; result = t.result }) t.body (typed.functions f t there).body (few f t there) e us o r
            (made (start_of t)).after y k.post.0 (params_later 0 0 (params_of t) (start_of t)).form)
        by true e =
            sim-bind w d fit.sound (Stepped (framed [] n is_main) normal) (Ends is_main) us no_outputs 0 run (jumps_begun is_main (start_of t))
            (λ _ s. bind (made s) (λ _ u. bind (items_made t.variables t.body u) (λ _ v. given v.carried.ret v))) (Returned first []) (λ q. then_on (stored q) (items_run c t.variables t.body))
            (jumps-begin w g.functions c d fit is_main n us no_outputs run (start_of t) first begun) (λ q o r k.
            let s = (jumps_begun is_main (start_of t)).after in
            sim-bind w d fit.sound (Stepped (framed [] n is_main) normal) (Ends is_main) us o s.next r (made s) (λ _ u. bind (items_made t.variables t.body u) (λ _ v. given v.carried.ret v))
            (stored q)
            (items_run c t.variables t.body) (stores o r s q k.post.0) (λ y o' r' k'.
            jumping-ends w g.functions c d fit is_main t.variables n t.body
            (items-sim w c d is_main g fit fitting n refl (record { may_break = false; may_continue = false; result = t.result }) t.body (typed.functions f t there).body (few f t there) [])
            us o' r' (made s).after y k'.post.0 (params_later 0 0 (params_of t) s).form))

    -- the lambda, by the region of its body
    abbrev leaves : List Datum → Answer (List Datum)
    leaves ys = Returned (changed_at 1 (graph_data.with_memory (closed (length m) (length objects))) ys) []

    entered-is : entered far call (global_address p) (Some (lambda_made p f t)) (taken vs m i) ≡ then_on (region_meaning d (body_made (f == p.main) t) us) leaves
    entered-is =
        ap (λ x. on_memory x (λ k. then_on (region_meaning (inside far call (global_address p) objects k) (body_made (f == p.main) t)
        (changed_at t.params (graph_data.with_memory (λ b. b ++ opened (shapes_of objects))) (taken vs m i)))
        (λ ys. Returned (changed_at 1 (graph_data.with_memory (closed (length k) (length objects))) ys) [])))
        (memory-at vs m i t.params count)
        ∙ ap (λ xs. then_on (region_meaning d (body_made (f == p.main) t) xs) leaves)
        (taken-changed (λ b. b ++ opened (shapes_of objects)) vs m i t.params count ∙ ap (λ (z : List BlockShape). taken vs (m ++ opened z) i) (same-shapes p.structs t.variables))

    gives : (y : Flowed) (ys : List Datum) → BodyGives is_main y ys → Refines exactly w GivesBack (ended is_main (length m) (length shapes) y) (leaves ys)
    gives y ys h = (
      record {
        value = h.far;
        is = ap (changed_at 1 (graph_data.with_memory (closed (length m) (length objects)))) h.is
            ∙ ap (λ k. val h.far ∷ memory (closed (length m) k y.state.memory) ∷ input y.state.input ∷ []) (same-count p.structs t.variables);
        less = given-less (value_at_end is_main y.flow) h.far h.less;
      },
      refl,
    )

    region-sim : Refines exactly w (BodyGives is_main) whole (region_meaning d (body_made is_main t) us)
    region-sim =
        refines-far-goes exactly exactly-goes w (Ran (Ends is_main) us no_outputs 0 b) (BodyGives is_main) whole (nodes_run d (nodes_of b.nodes) us no_outputs)
        (λ o. map (read_origin us o) (b.value ∷ b.after.carried.memory ∷ b.after.carried.io ∷ [])) body-sim (λ y o r.
        record {
          far = r.post.2.far;
          is = λ j. r.post.2.is j ∷ r.post.0 j ∷ r.post.1 j ∷ [];
          less = r.post.2.less;
        })
      where
        b : Built Origin
        b = body_built is_main t

    function-sim : is_main ≡ (f == p.main) →
        Refines exactly w GivesBack (body_run p near calls (global_address p) (f == p.main) t vs m i) (entered far call (global_address p) (Some (lambda_made p f t)) (taken vs m i))
    function-sim e =
        subst (λ z. Refines exactly w GivesBack (body_run p near calls (global_address p) (f == p.main) t vs m i) z) (sym entered-is)
        (subst (λ z. Refines exactly w GivesBack (body_run p near calls (global_address p) z t vs m i) (then_on (region_meaning d (body_made z t) us) leaves)) e
        (subst (λ z. Refines exactly w GivesBack z (then_on (region_meaning d (body_made is_main t) us) leaves))
        (stored-then first (source_run.params_stored c.addresses.local 0 (params_of t) vs entry) (items_run c t.variables t.body) (ended is_main (length m) (length shapes)))
        (refines-then exactly exactly-goes (BodyGives is_main) GivesBack w whole (region_meaning d (body_made is_main t) us) (ended is_main (length m) (length shapes)) leaves region-sim gives)))

  -- The body of each function of a well-typed program does the same in its graph.
  pub bodies-fit : BodiesFit p
  bodies-fit w near far fits calls call calls_fit sound f t there vs count m i h = function-sim w near far fits calls call calls_fit sound f t there vs count m i h (f == p.main) refl
