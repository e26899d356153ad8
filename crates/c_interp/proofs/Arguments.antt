-- The arguments of a call, and the parameters that take them one after the other.
use Rattle.std.proofs.Common.{◌≡◌, ℕ, zero, suc, ◌+◌, ◌-◌, ◌<◌, ◌≤◌, ◌⊎◌, inl, inr, Bool, true, false, if◌then◌else◌, List, [], ◌∷◌, ◌++◌, length, take, drop, reverse, get_or, drop-cons, add-one, refl, sym, ap, ◌∙◌, append_assoc, subst, arith}
use Rattle.std.specs.Prelude.{Option, None, Some, option_and_then, slice_index_or}
use Rattle.std.proofs.lemmas.Bool.{cases_lt, false≢true}
use Rattle.std.proofs.lemmas.List.{take-append-drop, take_all, drop_all, take-append-le, drop-append-le, drop-drop, reverse-append, reverse-reverse, length-reverse, length-drop, append-nil, map-append}
use Rattle.val_core.specs.declared.values.Value.{Value}
use Rattle.val_core.specs.declared.values.Value.TheVariants.{Bad}
use Rattle.val_core.specs.Memory.{Memory, store}
use Rattle.c_typed.specs.Typed.{VariableTree}
use Rattle.c_typed.specs.Objects.{access_width}
use Rattle.c_mean.specs.State.{Slot, holds, object}
use Rattle.c_mean.specs.Run.{params_in_scope, params_stored}
use Rattle.c_interp_def.specs.ExprTasks.{newest}
use Rattle.c_interp_def.specs.declared.task.Slot.{Slot as CodeSlot}
use Rattle.c_interp_def.specs.declared.task.Slot.TheVariants.{Holds as Holding, Object}
use Rattle.c_interp_store.specs.declared.store.Store.{Store}
use Rattle.c_interp_store.specs.Holding.{Opened, Holds, IsChanged}
use Rattle.c_interp_answer.specs.TaskViews.{slot_of, slots_of}
use Rattle.c_interp.specs.Steps.{IsSomeHeld}

-- ---- the newest operands

-- so many at the end
pub newest-are : (count : ℕ) (vs : List Value) → newest count (reverse vs) ≡ drop (length vs - count) vs
newest-are count vs =
    ap (λ l. reverse (take count l)) parts ∙ at (cases_lt (length vs) count) ∙ reverse-reverse (drop n vs)
  where
    n : ℕ
    n = length vs - count

    parts : reverse vs ≡ reverse (drop n vs) ++ reverse (take n vs)
    parts = ap reverse (sym (take-append-drop n vs)) ∙ reverse-append (take n vs) (drop n vs)

    size : length (reverse (drop n vs)) ≡ length vs - n
    size = length-reverse (drop n vs) ∙ length-drop n vs

    at : (length vs < count) ⊎ (count ≤ length vs) → reverse (take count (reverse (drop n vs) ++ reverse (take n vs))) ≡ reverse (reverse (drop n vs))
    at (inl few) = ap (λ l. reverse (take count l)) (sym parts) ∙ ap reverse (take_all count (reverse vs) (omega (arith, few, length-reverse vs))) ∙ ap (λ l. reverse (reverse l)) (all few)
      where
        all : length vs < count → vs ≡ drop n vs
        all h = ap (λ k. drop k vs) (let e : 0 ≡ n = omega (arith, h) in e)
    at (inr many) =
        ap reverse (take-append-le count (reverse (drop n vs)) (reverse (take n vs)) (omega (arith, size, many)) ∙ take_all count (reverse (drop n vs)) (omega (arith, size, many)))

-- and those before them
pub others-are : (count : ℕ) (vs : List Value) → reverse (take (length vs - count) vs) ≡ drop count (reverse vs)
others-are count vs = sym (ap (drop count) parts ∙ at (cases_lt (length vs) count))
  where
    n : ℕ
    n = length vs - count

    parts : reverse vs ≡ reverse (drop n vs) ++ reverse (take n vs)
    parts = ap reverse (sym (take-append-drop n vs)) ∙ reverse-append (take n vs) (drop n vs)

    size : length (reverse (drop n vs)) ≡ length vs - n
    size = length-reverse (drop n vs) ∙ length-drop n vs

    at : (length vs < count) ⊎ (count ≤ length vs) → drop count (reverse (drop n vs) ++ reverse (take n vs)) ≡ reverse (take n vs)
    at (inl few) =
        ap (drop count) (sym parts) ∙ drop_all count (reverse vs) (omega (arith, few, length-reverse vs)) ∙ ap (λ k. reverse (take k vs)) (let e : 0 ≡ n = omega (arith, few) in e)
    at (inr many) =
        drop-append-le count (reverse (drop n vs)) (reverse (take n vs)) (omega (arith, size, many))
        ∙ ap (λ l. l ++ reverse (take n vs)) (drop_all count (reverse (drop n vs)) (omega (arith, size, many)))

-- ---- one parameter more

drop-one : {X : Type 0} (xs : List X) (i : ℕ) → drop 1 (drop i xs) ≡ drop (i + 1) xs
drop-one xs i = drop-drop 1 i xs

-- the argument of a parameter
first-of : (vs : List Value) (i : ℕ) → slice_index_or (drop i vs) 0 Bad ≡ slice_index_or vs i Bad
first-of [] zero = refl
first-of [] (suc i) = refl
first-of (v ∷ vs) zero = refl
first-of (v ∷ vs) (suc i) = first-of vs i

param-at : (ps : List VariableTree) (i : ℕ) (v : VariableTree) → i < length ps → v ≡ get_or ps i v → drop i ps ≡ v ∷ drop (i + 1) ps
param-at ps i v lt e = drop-cons ps i v lt ∙ ap (λ k. get_or ps i v ∷ drop k ps) (sym (add-one i)) ∙ ap (λ w. w ∷ drop (i + 1) ps) (sym e)

-- one more slot: of an object
pub object_slot : (ps : List VariableTree) (args : List Value) (i k : ℕ) (v : VariableTree) → i < length ps → v ≡ get_or ps i v → v.is_object ≡ true →
    params_in_scope k (drop i ps) (drop i args) ≡ object k ∷ params_in_scope (suc k) (drop (i + 1) ps) (drop (i + 1) args)
object_slot ps args i k v lt e is =
    ap (λ l. params_in_scope k l (drop i args)) (param-at ps i v lt e)
    ∙ ap (λ b. if b then object k ∷ params_in_scope (suc k) (drop (i + 1) ps) (drop 1 (drop i args)) else holds (slice_index_or (drop i args) 0 Bad) ∷ params_in_scope k (drop (i + 1) ps) (drop 1 (drop i args))) is
    ∙ ap (λ l. object k ∷ params_in_scope (suc k) (drop (i + 1) ps) l) (drop-one args i)

-- of a value
pub value_slot : (ps : List VariableTree) (args : List Value) (i k : ℕ) (v : VariableTree) → i < length ps → v ≡ get_or ps i v → v.is_object ≡ false →
    params_in_scope k (drop i ps) (drop i args) ≡ holds (slice_index_or args i Bad) ∷ params_in_scope k (drop (i + 1) ps) (drop (i + 1) args)
value_slot ps args i k v lt e is =
    ap (λ l. params_in_scope k l (drop i args)) (param-at ps i v lt e)
    ∙ ap (λ b. if b then object k ∷ params_in_scope (suc k) (drop (i + 1) ps) (drop 1 (drop i args)) else holds (slice_index_or (drop i args) 0 Bad) ∷ params_in_scope k (drop (i + 1) ps) (drop 1 (drop i args))) is
    ∙ ap (λ l. holds (slice_index_or (drop i args) 0 Bad) ∷ params_in_scope k (drop (i + 1) ps) l) (drop-one args i)
    ∙ ap (λ w. holds w ∷ params_in_scope k (drop (i + 1) ps) (drop (i + 1) args)) (first-of args i)

-- one more argument is stored, where the parameter is an object
pub object_stored : (address : ℕ → Value) (ps : List VariableTree) (args : List Value) (i k : ℕ) (v : VariableTree) (m : Memory) → i < length ps → v ≡ get_or ps i v → v.is_object ≡ true →
    params_stored address k (drop i ps) (drop i args) m
    ≡ option_and_then (params_stored address (suc k) (drop (i + 1) ps) (drop (i + 1) args)) (store (access_width v.type) (address k) (slice_index_or args i Bad) m)
object_stored address ps args i k v m lt e is =
    ap (λ l. params_stored address k l (drop i args) m) (param-at ps i v lt e)
    ∙ ap (λ b. if b
    then option_and_then (params_stored address (suc k) (drop (i + 1) ps) (drop 1 (drop i args))) (store (access_width v.type) (address k) (slice_index_or (drop i args) 0 Bad) m)
    else params_stored address k (drop (i + 1) ps) (drop 1 (drop i args)) m) is
    ∙ ap (λ l. option_and_then (params_stored address (suc k) (drop (i + 1) ps) l) (store (access_width v.type) (address k) (slice_index_or (drop i args) 0 Bad) m)) (drop-one args i)
    ∙ ap (λ w. option_and_then (params_stored address (suc k) (drop (i + 1) ps) (drop (i + 1) args)) (store (access_width v.type) (address k) w m)) (first-of args i)

pub value_stored : (address : ℕ → Value) (ps : List VariableTree) (args : List Value) (i k : ℕ) (v : VariableTree) (m : Memory) → i < length ps → v ≡ get_or ps i v → v.is_object ≡ false →
    params_stored address k (drop i ps) (drop i args) m ≡ params_stored address k (drop (i + 1) ps) (drop (i + 1) args) m
value_stored address ps args i k v m lt e is =
    ap (λ l. params_stored address k l (drop i args) m) (param-at ps i v lt e)
    ∙ ap (λ b. if b
    then option_and_then (params_stored address (suc k) (drop (i + 1) ps) (drop 1 (drop i args))) (store (access_width v.type) (address k) (slice_index_or (drop i args) 0 Bad) m)
    else params_stored address k (drop (i + 1) ps) (drop 1 (drop i args)) m) is
    ∙ ap (λ l. params_stored address k (drop (i + 1) ps) l m) (drop-one args i)

-- ---- the loop over the parameters

-- the parameters that are left, in a memory that the store holds
abbrev pub AreTaken : (address : ℕ → Value) (number : ℕ) → List VariableTree → List Value → List Opened → Store → Option Memory → Type 0
AreTaken address k ps args calls s all = (m : Memory) × Holds s calls m × (all ≡ params_stored address k ps args m)

pub object_taken : (address : ℕ → Value) (ps : List VariableTree) (args : List Value) (i k next width : ℕ) (v : VariableTree) (a w : Value) (calls : List Opened) (s t : Store) (d : Bool) (all : Option Memory) →
    i < length ps → v ≡ get_or ps i v → v.is_object ≡ true → width ≡ access_width v.type → a ≡ address k → w ≡ slice_index_or args i Bad → next ≡ k + 1 → d ≡ true →
    ((m : Memory) → Holds s calls m → IsChanged calls (store width a w m) t d) →
    AreTaken address k (drop i ps) (drop i args) calls s all → AreTaken address next (drop (i + 1) ps) (drop (i + 1) args) calls t all
object_taken address ps args i k next width v a w calls s t d all lt e is width_is a_is w_is next_is done changes (m, is_held, so_far) = by (store width a w m) refl (changes m is_held)
  where
    left : Option Memory → Option Memory
    left o = option_and_then (params_stored address next (drop (i + 1) ps) (drop (i + 1) args)) o

    parts : params_stored address k (drop i ps) (drop i args) m ≡ left (store width a w m)
    parts =
        object_stored address ps args i k v m lt e is
        ∙ ap (λ z. option_and_then (params_stored address z (drop (i + 1) ps) (drop (i + 1) args)) (store (access_width v.type) (address k) (slice_index_or args i Bad) m)) (sym (next_is ∙ add-one k))
        ∙ ap (λ z. left (store z (address k) (slice_index_or args i Bad) m)) (sym width_is)
        ∙ ap (λ z. left (store width z (slice_index_or args i Bad) m)) (sym a_is)
        ∙ ap (λ z. left (store width a z m)) (sym w_is)

    by : (o : Option Memory) → store width a w m ≡ o → IsChanged calls o t d → AreTaken address next (drop (i + 1) ps) (drop (i + 1) args) calls t all
    by None q h = absurd (false≢true (sym h ∙ done))
    by (Some j) q h = (j, h.1, so_far ∙ parts ∙ ap left q)

pub object_not_taken : (address : ℕ → Value) (ps : List VariableTree) (args : List Value) (i k width : ℕ) (v : VariableTree) (a w : Value) (calls : List Opened) (s t : Store) (d : Bool) (all : Option Memory) →
    i < length ps → v ≡ get_or ps i v → v.is_object ≡ true → width ≡ access_width v.type → a ≡ address k → w ≡ slice_index_or args i Bad → d ≡ false →
    ((m : Memory) → Holds s calls m → IsChanged calls (store width a w m) t d) → AreTaken address k (drop i ps) (drop i args) calls s all → all ≡ None
object_not_taken address ps args i k width v a w calls s t d all lt e is width_is a_is w_is done changes (m, is_held, so_far) = by (store width a w m) refl (changes m is_held)
  where
    left : Option Memory → Option Memory
    left o = option_and_then (params_stored address (suc k) (drop (i + 1) ps) (drop (i + 1) args)) o

    parts : params_stored address k (drop i ps) (drop i args) m ≡ left (store width a w m)
    parts =
        object_stored address ps args i k v m lt e is
        ∙ ap (λ z. left (store z (address k) (slice_index_or args i Bad) m)) (sym width_is)
        ∙ ap (λ z. left (store width z (slice_index_or args i Bad) m)) (sym a_is)
        ∙ ap (λ z. left (store width a z m)) (sym w_is)

    by : (o : Option Memory) → store width a w m ≡ o → IsChanged calls o t d → all ≡ None
    by None q h = so_far ∙ parts ∙ ap left q
    by (Some j) q h = absurd (false≢true (sym done ∙ h.0))

pub value_taken : (address : ℕ → Value) (ps : List VariableTree) (args : List Value) (i k : ℕ) (v : VariableTree) (calls : List Opened) (s : Store) (all : Option Memory) →
    i < length ps → v ≡ get_or ps i v → v.is_object ≡ false → AreTaken address k (drop i ps) (drop i args) calls s all → AreTaken address k (drop (i + 1) ps) (drop (i + 1) args) calls s all
value_taken address ps args i k v calls s all lt e is (m, is_held, so_far) = (m, is_held, so_far ∙ value_stored address ps args i k v m lt e is)

pub all_taken : (address : ℕ → Value) (ps : List VariableTree) (args : List Value) (i k : ℕ) (calls : List Opened) (s : Store) (all : Option Memory) → length ps ≤ i →
    AreTaken address k (drop i ps) (drop i args) calls s all → IsSomeHeld calls all s
all_taken address ps args i k calls s all past (m, is_held, so_far) =
    let P : Option Memory → Type 0 = λ o. IsSomeHeld calls o s in subst P (sym (so_far ∙ ap (λ l. params_stored address k l (drop i args) m) (drop_all i ps past))) is_held

slots-last : (few : List CodeSlot) (s : CodeSlot) (rest : List Slot) → slots_of few ++ (slot_of s ∷ rest) ≡ slots_of (few ++ s ∷ []) ++ rest
slots-last few s rest = sym (append_assoc (slots_of few) (slot_of s ∷ []) rest) ∙ ap (λ l. l ++ rest) (sym (map-append slot_of few (s ∷ [])))

pub object_in_scope : (ps : List VariableTree) (args : List Value) (i k next : ℕ) (v : VariableTree) (few many : List CodeSlot) (all : List Slot) → i < length ps → v ≡ get_or ps i v → v.is_object ≡ true → next ≡ k + 1 →
    many ≡ few ++ Object k ∷ [] → all ≡ slots_of few ++ params_in_scope k (drop i ps) (drop i args) → all ≡ slots_of many ++ params_in_scope next (drop (i + 1) ps) (drop (i + 1) args)
object_in_scope ps args i k next v few many all lt e is next_is pushed so_far =
    so_far ∙ ap (λ l. slots_of few ++ l) (object_slot ps args i k v lt e is)
    ∙ ap (λ z. slots_of few ++ (object k ∷ params_in_scope z (drop (i + 1) ps) (drop (i + 1) args))) (sym (next_is ∙ add-one k))
    ∙ slots-last few (Object k) (params_in_scope next (drop (i + 1) ps) (drop (i + 1) args))
    ∙ ap (λ l. slots_of l ++ params_in_scope next (drop (i + 1) ps) (drop (i + 1) args)) (sym pushed)

pub value_in_scope : (ps : List VariableTree) (args : List Value) (i k : ℕ) (v : VariableTree) (w : Value) (few many : List CodeSlot) (all : List Slot) → i < length ps → v ≡ get_or ps i v → v.is_object ≡ false →
    w ≡ slice_index_or args i Bad → many ≡ few ++ Holding w ∷ [] → all ≡ slots_of few ++ params_in_scope k (drop i ps) (drop i args) → all ≡ slots_of many ++ params_in_scope k (drop (i + 1) ps) (drop (i + 1) args)
value_in_scope ps args i k v w few many all lt e is w_is pushed so_far =
    so_far ∙ ap (λ l. slots_of few ++ l) (value_slot ps args i k v lt e is)
    ∙ ap (λ z. slots_of few ++ (holds z ∷ params_in_scope k (drop (i + 1) ps) (drop (i + 1) args))) (sym w_is)
    ∙ slots-last few (Holding w) (params_in_scope k (drop (i + 1) ps) (drop (i + 1) args))
    ∙ ap (λ l. slots_of l ++ params_in_scope k (drop (i + 1) ps) (drop (i + 1) args)) (sym pushed)

pub all_in_scope : (ps : List VariableTree) (args : List Value) (i k : ℕ) (few : List CodeSlot) (all : List Slot) → length ps ≤ i → all ≡ slots_of few ++ params_in_scope k (drop i ps) (drop i args) → slots_of few ≡ all
all_in_scope ps args i k few all past so_far =
    sym (so_far ∙ ap (λ l. slots_of few ++ params_in_scope k l (drop i args)) (drop_all i ps past) ∙ append-nil (slots_of few))
