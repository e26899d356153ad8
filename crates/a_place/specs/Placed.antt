-- Code over places: each name is replaced by its place, and names may share one.
use Rattle.std.specs.Prelude.{ℕ, zero, suc, List, [], ◌∷◌, ◌++◌, map, length, slice_get, slice_index, Option, None, Some}
use Rattle.val_core.specs.declared.values.Value.{Value}
use Rattle.val_core.specs.Memory.{closed}
use Rattle.val_core.specs.Objects.{address_in, opened}
use Rattle.val_core.specs.Answers.{Returned, Cut, Undefined, then_on, active}
use Rattle.g_graph.specs.Plain.{PlainObject, shapes_of}
use Rattle.s_linear.specs.Frame.{PlainPlaces, is_lost}
use Rattle.s_linear.specs.Linear.{Instr, const, undef, object_address, global_address, binary, unary, load, store, clear, equal_pointers, move, call, put, get, exit, Step, plain, choice, loop, Code, no_steps, step_then, Codes, no_codes, code_then, LinearFunction}
use Rattle.s_linear.specs.Lines.{lines}
use Rattle.val_core.specs.Numbers.{numbers_from}
use Rattle.s_linear.specs.Meaning.{Call, no_names, written, code_run, first_names}
use Rattle.a_place.specs.Places.{places}

abbrev pub placed_instr : (place : ℕ → ℕ) → Instr → Instr
placed_instr f (const t w) = const (f t) w
placed_instr f (undef t) = undef (f t)
placed_instr f (object_address t k) = object_address (f t) k
placed_instr f (global_address t k) = global_address (f t) k
placed_instr f (binary o t a b) = binary o (f t) (f a) (f b)
placed_instr f (unary o t a) = unary o (f t) (f a)
placed_instr f (load width t a) = load width (f t) (f a)
placed_instr f (store width a v) = store width (f a) (f v)
placed_instr f (clear k) = clear k
placed_instr f (equal_pointers t a b) = equal_pointers (f t) (f a) (f b)
placed_instr f (move t a) = move (f t) (f a)
placed_instr f (call g t xs) = call g (f t) (map f xs)
placed_instr f (put a) = put (f a)
placed_instr f (get t) = get (f t)
placed_instr f (exit a) = exit (f a)

abbrev mutual
  pub placed_step : (place : ℕ → ℕ) → Step → Step
  placed_step f (plain i) = plain (placed_instr f i)
  placed_step f (choice p cs) = choice (f p) (placed_codes f cs)
  placed_step f (loop moves body p back) = loop (map (placed_instr f) moves) (placed_code f body) (f p) (map (placed_instr f) back)

  pub placed_code : (place : ℕ → ℕ) → Code → Code
  placed_code f no_steps = no_steps
  placed_code f (step_then s k) = step_then (placed_step f s) (placed_code f k)

  pub placed_codes : (place : ℕ → ℕ) → Codes → Codes
  placed_codes f no_codes = no_codes
  placed_codes f (code_then k ks) = code_then (placed_code f k) (placed_codes f ks)

-- A function over places: how many of them are registers that a call loses, the places of its parameters in order, its memory
-- objects, its code, and the place of its value.
pub record PlacedFunction : Type 0 where
  pub temporaries : ℕ
  pub params : List ℕ
  pub objects : List PlainObject
  pub code : Code
  pub value : ℕ

abbrev pub placed_at : PlainPlaces → LinearFunction → PlacedFunction
placed_at p f = record {
  temporaries = p.temporaries;
  params = map (slice_index p.of) (numbers_from 0 f.params);
  objects = f.objects;
  code = placed_code (slice_index p.of) f.code;
  value = slice_index p.of f.value;
}

-- the place that a name of a function has, by the intervals of its lines
abbrev pub place_of : LinearFunction → (name : ℕ) → ℕ
place_of f x = slice_index (places (lines f)).of x

abbrev pub placed : LinearFunction → PlacedFunction
placed f = placed_at (places (lines f)) f

-- ---- what functions over places do

-- the arguments from a number on are put into these places, one after the other
abbrev pub put_params : (params : List ℕ) → (number : ℕ) → List Value → (ℕ → Value) → (ℕ → Value)
put_params [] k vs held = held
put_params (p ∷ ps) k vs held = put_params ps (suc k) vs (written held p (first_names vs k))

-- As `entered` of linear code: no place but those of the parameters holds a value as the function begins.
abbrev pub placed_entered : ℕ → (callees : ℕ → Call) → (global : ℕ → Value) → Option PlacedFunction → Call
placed_entered n callees global None vs m i = Undefined []
placed_entered n callees global (Some f) vs m i =
    then_on
    (code_run
    (record {
      bound = n;
      call = callees;
      lost = is_lost f.temporaries;
      addresses = record { local = address_in (length m) (map (λ o. o.size) f.objects); global = global };
    })
    f.code
    (record { names = put_params f.params 0 vs no_names; memory = m ++ opened (shapes_of f.objects); input = i }))
    (λ s. Returned (record { value = s.names f.value; memory = closed (length m) (length f.objects) s.memory; input = s.input }) [])

-- a call at a bound, as `calls` of linear code
abbrev pub placed_calls : List PlacedFunction → (global : ℕ → Value) → (bound : ℕ) → ℕ → Call
placed_calls fs global zero f vs m i = Cut []
placed_calls fs global (suc n) f vs m i = active f (placed_entered n (placed_calls fs global n) global (slice_get fs f) vs m i)
