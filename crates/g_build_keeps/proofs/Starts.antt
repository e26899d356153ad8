-- The start of a body: arguments are carried, and those of parameters that are objects are stored.
use Rattle.std.proofs.Common.{◌≡◌, inl, ℕ, zero, suc, List, [], ◌∷◌, length, refl, ap, arith}
use Rattle.std.specs.Prelude.{Bool, true, false, if◌then◌else◌, Option, None, Some, option_and_then}
use Rattle.val_core.specs.declared.values.Value.{Value}
use Rattle.val_core.specs.Memory.{Memory as Blocks, store}
use Rattle.val_core.specs.Refinement.{Direction}
use Rattle.val_core.specs.Answers.{Returned}
use Rattle.c_typed.specs.Typed.{VariableTree, FunctionTree}
use Rattle.c_typed.specs.WellTyped.{Signature, params_of}
use Rattle.c_typed.specs.Objects.{access_width}
use Rattle.c_mean.specs.State as source_state
use Rattle.c_mean.specs.State.{State, with_memory}
use Rattle.c_mean.specs.Expressions as source
use Rattle.c_mean.specs.Statements.{normal}
use Rattle.c_mean.specs.Run as source_run
use Rattle.c_mean.specs.Run.{params_in_scope}
use Rattle.g_graph.specs.declared.op.Origin.{Origin}
use Rattle.g_graph.specs.declared.op.Origin.TheVariants.{Arg}
use Rattle.g_build_def.specs.Writer.{held, object, Point, Built, bind}
use Rattle.g_build_def.specs.Laws.{Later}
use Rattle.g_build_def.specs.Statements.{object_stored}
use Rattle.g_build_def.specs.Functions.{params_carried, params_stored, start_of}
use Rattle.g_build_def.proofs.lemmas.Later.{Keeps, later_here, bind_later}
use Rattle.g_build_def.proofs.lemmas.LaterStatements.{stored_later}
use Rattle.g_mean.specs.Data.{Datum, val, memory, input, at_port, taken}
use Rattle.g_mean.specs.Meaning.{Context, Outputs, no_outputs, read as read_origin}
use Rattle.g_build_keeps.proofs.Readings.{IsSoundRun}
use Rattle.g_build_keeps.proofs.Toolbox.{Simulates, sim-given, sim-bind}
use Rattle.g_build_keeps.proofs.Held.{SlotsHeld, named, Holds}
use Rattle.g_build_keeps.proofs.Claims.{ContextsFit}
use Rattle.g_build_keeps.proofs.Turns.{Stepped}
use Rattle.g_build_keeps.proofs.Declarations.{framed}
use Rattle.g_build_keeps.proofs.Objects.{in_memory, object-stored-sim}

-- ---- arguments

-- these values stand at the ports from this one on
abbrev AreArguments : List Datum → (from : ℕ) → List Value → Type 0
AreArguments xs a [] = Unit {0}
AreArguments xs a (v ∷ vs) = (at_port xs a ≡ val v) × AreArguments xs (suc a) vs

arguments-more : (x : Datum) (xs : List Datum) (a : ℕ) (vs : List Value) → AreArguments xs a vs → AreArguments (x ∷ xs) (suc a) vs
arguments-more x xs a [] h = tt
arguments-more x xs a (v ∷ vs) h = (h.0, arguments-more x xs (suc a) vs h.1)

pub arguments-are : (vs : List Value) (m : Blocks) (i : List ℕ) → AreArguments (taken vs m i) 0 vs
arguments-are [] m i = tt
arguments-are (v ∷ vs) m i = (refl, arguments-more (val v) (taken vs m i) 0 vs (arguments-are vs m i))

pub memory-at : (vs : List Value) (m : Blocks) (i : List ℕ) (n : ℕ) → length vs ≡ n → at_port (taken vs m i) n ≡ memory m
memory-at [] m i zero e = refl
memory-at [] m i (suc n) e = absurd cc
memory-at (v ∷ vs) m i zero e = absurd cc
memory-at (v ∷ vs) m i (suc n) e = memory-at vs m i n (omega (arith, e))

input-at : (vs : List Value) (m : Blocks) (i : List ℕ) (n : ℕ) → length vs ≡ n → at_port (taken vs m i) (suc n) ≡ input i
input-at [] m i zero e = refl
input-at [] m i (suc n) e = absurd cc
input-at (v ∷ vs) m i zero e = absurd cc
input-at (v ∷ vs) m i (suc n) e = input-at vs m i n (omega (arith, e))

-- ---- parameters

params-held : (us : List Datum) (k a : ℕ) (ps : List VariableTree) (vs : List Value) → length vs ≡ length ps → AreArguments us a vs →
    SlotsHeld (read_origin us no_outputs) 0 [] (params_carried k a ps) [] (params_in_scope k ps vs)
params-held us k a [] [] e h = refl
params-held us k a [] (v ∷ vs) e h = absurd cc
params-held us k a (p ∷ ps) [] e h = absurd cc
params-held us k a (p ∷ ps) (v ∷ vs) e h =
    by p.is_object (params-held us (suc k) (suc a) ps vs (omega (arith, e)) h.1) (params-held us k (suc a) ps vs (omega (arith, e)) h.1)
  where
    rd : Origin → Datum
    rd = read_origin us no_outputs

    by : (b : Bool) → SlotsHeld rd 0 [] (params_carried (suc k) (suc a) ps) [] (params_in_scope (suc k) ps vs) → SlotsHeld rd 0 [] (params_carried k (suc a) ps) [] (params_in_scope k ps vs) →
        SlotsHeld rd 0 [] (if b then object k ∷ params_carried (suc k) (suc a) ps else held (Arg a) ∷ params_carried k (suc a) ps) []
        (if b then source_state.object k ∷ params_in_scope (suc k) ps vs else source_state.holds v ∷ params_in_scope k ps vs)
    by true r r' = (refl, r)
    by false r r' = (record { far = v; is = h.0; less = inl refl; below = tt }, r')

params-named : (k a : ℕ) (ps : List VariableTree) → named (params_carried k a ps) ≡ length ps
params-named k a [] = refl
params-named k a (p ∷ ps) = by p.is_object (params-named (suc k) (suc a) ps) (params-named k (suc a) ps)
  where
    by : (b : Bool) → named (params_carried (suc k) (suc a) ps) ≡ length ps → named (params_carried k (suc a) ps) ≡ length ps →
        named (if b then object k ∷ params_carried (suc k) (suc a) ps else held (Arg a) ∷ params_carried k (suc a) ps) ≡ suc (length ps)
    by true r r' = ap suc r
    by false r r' = ap suc r'

-- the state as a body begins
abbrev pub first_state : FunctionTree → List Value → Blocks → List ℕ → State
first_state t vs m i = record { slots = params_in_scope 0 (params_of t) vs; memory = m; input = i }

pub start-holds : (t : FunctionTree) (is_main : Bool) (vs : List Value) (m : Blocks) (i : List ℕ) → length vs ≡ t.params → length vs ≡ length (params_of t) →
    Holds (framed [] (length (params_of t)) is_main) normal (read_origin (taken vs m i) no_outputs) 0 (start_of t).carried (first_state t vs m i)
start-holds t is_main vs m i e e' =
    record {
      slots = params-held (taken vs m i) 0 0 (params_of t) vs e' (arguments-are vs m i);
      count = params-named 0 0 (params_of t);
      jumps = refl;
      memory = memory-at vs m i t.params e;
      memory_below = tt;
      io = input-at vs m i t.params e;
      io_below = tt;
    }

-- ---- parameters that are objects

pub params_later : (k a : ℕ) (ps : List VariableTree) → Keeps (params_stored k a ps)
params_later k a [] s = later_here s
params_later k a (p ∷ ps) s = by p.is_object (params_later (suc k) (suc a) ps) (params_later k (suc a) ps)
  where
    by : (b : Bool) → Keeps (params_stored (suc k) (suc a) ps) → Keeps (params_stored k (suc a) ps) →
        Later s (if b then bind (object_stored k (access_width p.type) (Arg a) s) (λ _ t. params_stored (suc k) (suc a) ps t) else params_stored k (suc a) ps s).after
    by true r r' = bind_later s (object_stored k (access_width p.type) (Arg a) s) (λ _ t. params_stored (suc k) (suc a) ps t) (stored_later k (access_width p.type) (Arg a) s) (λ _. r)
    by false r r' = r' s

module _ (w : Direction) (functions : List Signature) (c : source.Context) (d : Context) (fit : ContextsFit w functions c d) (n : ℕ) (m : Bool) where
  abbrev ParamsClaim : (k a : ℕ) → List VariableTree → List Value → Type 0
  ParamsClaim k a ps vs =
      (xs : List Datum) (o : Outputs) → IsSoundRun xs o → AreArguments xs a vs → (s : Point) (q : State) → Holds (framed [] n m) normal (read_origin xs o) s.next s.carried q →
      Simulates w d (Stepped (framed [] n m) normal) xs o s.next (params_stored k a ps s) (in_memory q (source_run.params_stored d.addresses.local k ps vs q.memory))

  pub params-sim : (k a : ℕ) (ps : List VariableTree) (vs : List Value) → length vs ≡ length ps → ParamsClaim k a ps vs
  params-sim k a [] vs e xs o r args s q h = sim-given w d (Stepped (framed [] n m) normal) xs o s.next tt s q (omega arith) (h, tt)
  params-sim k a (p ∷ ps) [] e xs o r args s q h = absurd cc
  params-sim k a (p ∷ ps) (v ∷ vs) e xs o r args s q h =
      by p.is_object (params-sim (suc k) (suc a) ps vs (omega (arith, e))) (params-sim k (suc a) ps vs (omega (arith, e)))
    where
      width : ℕ
      width = access_width p.type

      first : Built (Unit {0})
      first = object_stored k width (Arg a) s

      stored : (x : Option Blocks) → ParamsClaim (suc k) (suc a) ps vs → Simulates w d (Stepped (framed [] n m) normal) xs o s.next first (in_memory q x) →
          Simulates w d (Stepped (framed [] n m) normal) xs o s.next (bind first (λ _ t. params_stored (suc k) (suc a) ps t))
          (in_memory q (option_and_then (source_run.params_stored d.addresses.local (suc k) ps vs) x))
      stored None rest z = tt
      stored (Some y) rest z =
          sim-bind w d fit.sound (Stepped (framed [] n m) normal) (Stepped (framed [] n m) normal) xs o s.next r first (λ _ t. params_stored (suc k) (suc a) ps t) (Returned (with_memory q y) [])
          (λ u. in_memory u (source_run.params_stored d.addresses.local (suc k) ps vs u.memory)) z (λ u o' r' i. rest xs o' r' args.1 first.after u i.post.0)

      by : (b : Bool) → ParamsClaim (suc k) (suc a) ps vs → ParamsClaim k (suc a) ps vs →
          Simulates w d (Stepped (framed [] n m) normal) xs o s.next
          (if b then bind first (λ _ t. params_stored (suc k) (suc a) ps t) else params_stored k (suc a) ps s)
          (in_memory q
          (if b then option_and_then (source_run.params_stored d.addresses.local (suc k) ps vs) (store width (d.addresses.local k) v q.memory)
          else source_run.params_stored d.addresses.local k ps vs q.memory))
      by true r1 r2 =
          stored (store width (d.addresses.local k) v q.memory) r1
          (object-stored-sim w functions c d fit (framed [] n m) k width (Arg a) v xs o r s q h (record { far = v; is = args.0; less = inl refl; below = tt }))
      by false r1 r2 = r2 xs o r args.1 s q h
