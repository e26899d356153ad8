-- What an expression gives where that is known at once, and what it is read from.
use Rattle.std.specs.Prelude.{◌≡◌, ℕ, Bool, if◌then◌else◌, List, slice_get, slice_set, Option, None, Some, option_and_then}
use Rattle.val_core.specs.Words.{word2, one_if}
use Rattle.val_core.specs.declared.values.Value.{Value}
use Rattle.val_core.specs.declared.values.Value.TheVariants.{Num}
use Rattle.val_core.specs.declared.operation.Op2.{Op2}
use Rattle.val_core.specs.Memory.{Memory, load}
use Rattle.val_core.specs.Objects.{address_in}
use Rattle.c_type.specs.Trees.{TypeTree}
use Rattle.c_typed.specs.Objects.{access_width}
use Rattle.c_typed.specs.Typed.{ExprTree, PlaceTree, place, local}
use Rattle.c_typed.specs.WellTyped.{type_of}
use Rattle.c_mean.specs.State.{Slot, holds, object, State, gives, with_slots, extended, is_defined_on, truth}
use Rattle.c_mean.specs.Expressions.{Context, at_address, found, given_word, expr_run, place_run}
use Rattle.c_interp_store.specs.Holding.{Opened, Holds}
use Rattle.c_interp_store.specs.Operators.{used_value}
use Rattle.c_interp_store.specs.Laid.{sizes_in}
use Rattle.c_interp_answer.specs.TaskViews.{slots_of}
use Rattle.c_interp_answer.specs.declared.scope.Scope.{Scope}
use Rattle.c_interp_answer.specs.declared.assignment.WordVariable.{WordVariable}
use Rattle.c_interp_answer.specs.declared.assignment.Assignment.{Assignment}

-- the address of an object of the call
abbrev pub object_in : Scope → (number : ℕ) → Value
object_in v k = address_in v.first (sizes_in (slice_get v.layouts.now.functions.items v.function)) k

abbrev pub global_in : Scope → (number : ℕ) → Value
global_in v k = address_in 0 v.layouts.now.globals.items k

-- the state and the context are those of the scope, whose store holds the blocks of these calls
pub record Sees (v : Scope) (calls : List Opened) (c : Context) (s : State) : Type 0 where
  pub memory : Holds v.store.now calls s.memory
  pub slots : slots_of v.slots.now ≡ s.slots
  pub locals : (k : ℕ) → c.addresses.local k ≡ object_in v k
  pub globals : (k : ℕ) → c.addresses.global k ≡ global_in v k

-- in each state and context that are those of the scope
abbrev pub Tells : Scope → (Context → State → Type 0) → Type 0
Tells v P = (calls : List Opened) (c : Context) (s : State) → Sees v calls c s → P c s

-- ---- what is answered

abbrev pub IsWord : Context → ExprTree → State → Option ℕ → Type 0
IsWord c e s None = Unit {0}
IsWord c e s (Some w) = expr_run c e s ≡ given_word s w

abbrev pub IsValue : Context → ExprTree → State → Option Value → Type 0
IsValue c e s None = Unit {0}
IsValue c e s (Some v) = expr_run c e s ≡ gives s v

abbrev pub IsAddress : Context → PlaceTree → State → Option Value → Type 0
IsAddress c p s None = Unit {0}
IsAddress c p s (Some a) = place_run c p s ≡ found s (at_address a)

-- the expression gives a value of this truth
abbrev pub HasTruth : Context → ExprTree → State → Bool → Type 0
HasTruth c e s d = (v : Value) × (expr_run c e s ≡ gives s v) × (truth (type_of e) v ≡ Some d)

abbrev pub IsTruth : Context → ExprTree → State → Option Bool → Type 0
IsTruth c e s None = Unit {0}
IsTruth c e s (Some d) = HasTruth c e s d

abbrev pub IsTruthWord : Context → ExprTree → State → Option ℕ → Type 0
IsTruthWord c e s None = Unit {0}
IsTruthWord c e s (Some w) = (d : Bool) × (w ≡ one_if d) × HasTruth c e s d

-- the expression assigns a number to a variable, and nothing else changes
abbrev pub IsWritten : Context → ExprTree → State → Option Assignment → Type 0
IsWritten c e s None = Unit {0}
IsWritten c e s (Some w) = expr_run c e s ≡ gives (with_slots s (slice_set s.slots w.slot (holds (Num w.word)))) (Num w.given)

-- ---- numbers

-- the number that a value is
abbrev pub number : Value → Option ℕ
number (Num w) = Some w
number v = None

abbrev pub defined_word : Op2 → (x y : ℕ) → Option ℕ
defined_word o x y = if is_defined_on o y then Some (word2 o x y) else None

-- ---- variables and objects

abbrev pub word_in : Option Slot → Option ℕ
word_in (Some (holds v)) = number v
word_in s = None

abbrev pub place_word : List Slot → PlaceTree → Option ℕ
place_word ss (place t (local k)) = word_in (slice_get ss k)
place_word ss p = None

abbrev pub value_in : Option Slot → Option Value
value_in (Some (holds v)) = used_value v
value_in s = None

abbrev pub place_value : List Slot → PlaceTree → Option Value
place_value ss (place t (local k)) = value_in (slice_get ss k)
place_value ss p = None

abbrev pub address_in_slot : (object : ℕ → Value) → Option Slot → Option Value
address_in_slot at (Some (object k)) = Some (at k)
address_in_slot at s = None

abbrev pub place_address : (object : ℕ → Value) → List Slot → (slot : ℕ) → Option Value
place_address at ss k = address_in_slot at (slice_get ss k)

-- what is read at an address
abbrev pub loaded_value : TypeTree → (address : Value) → Memory → Option Value
loaded_value t a m = option_and_then (λ v. used_value (extended t v)) (load (access_width t) a m)

abbrev pub loaded_word : TypeTree → (address : Value) → Memory → Option ℕ
loaded_word t a m = option_and_then (λ v. number (extended t v)) (load (access_width t) a m)

-- the slot of a value variable
abbrev pub slot_if : (slot : ℕ) → Option Slot → Option ℕ
slot_if k (Some (holds v)) = Some k
slot_if k s = None

abbrev pub place_slot : List Slot → PlaceTree → Option ℕ
place_slot ss (place t (local k)) = slot_if k (slice_get ss k)
place_slot ss p = None

abbrev pub held_word : (slot : ℕ) → Option ℕ → Option WordVariable
held_word k (Some w) = Some (record { slot = k; word = w })
held_word k None = None

-- a variable that holds a number
abbrev pub place_variable : List Slot → PlaceTree → Option WordVariable
place_variable ss (place t (local k)) = held_word k (word_in (slice_get ss k))
place_variable ss p = None
