-- What the variables, the jumps and the states of a source run are in the graph: each is carried by an origin.
use Rattle.std.proofs.Common.{◌≡◌, ◌≤◌, ◌<◌, ◌⊎◌, inl, inr, ℕ, zero, suc, List, [], ◌∷◌, refl, sym, ap, ◌∙◌, subst, arith}
use Rattle.std.specs.Prelude.{Bool, Option, None, Some, slice_get, slice_set}
use Rattle.val_core.specs.declared.values.Value.{Value}
use Rattle.val_core.specs.declared.values.Value.TheVariants.{Num, At, Bad}
use Rattle.val_core.specs.Values.{IsLessDefined}
use Rattle.c_type.specs.Trees.{TypeTree, void_type, scalar_type, pointer_to, array_of, struct_type}
use Rattle.c_typed.specs.WellTyped.{IsScalar}
use Rattle.c_mean.specs.State as source
use Rattle.c_mean.specs.State.{Slot, State}
use Rattle.c_mean.specs.Expressions.{value_or_none}
use Rattle.c_mean.specs.Statements.{Flow, normal, broke, continued, returned}
use Rattle.c_mean.specs.Run.{value_at_end}
use Rattle.g_graph.specs.declared.op.Origin.{Origin}
use Rattle.g_build_def.specs.Writer.{SlotOrigin, held, object, hidden, variable_at, variable_set, Form, straight, jumping, Carried, Point, with_variables}
use Rattle.g_mean.specs.Data.{Datum, val, memory, input}
use Rattle.g_build_def.specs.Laws.{shape, Later}
use Rattle.g_build_keeps.proofs.Readings.{IsBelow, below-later, Keeps}

-- ---- values

-- An origin below a number carries a value that may stand for this one.
pub record Held (rd : Origin → Datum) (n : ℕ) (v : Value) (p : Origin) : Type 0 where
  pub far : Value
  pub is : rd p ≡ val far
  pub less : IsLessDefined v far
  pub below : IsBelow n p

pub held-later : (rd rd' : Origin → Datum) (n m : ℕ) (v : Value) (p : Origin) → Keeps n rd rd' → n ≤ m → Held rd n v p → Held rd' m v p
held-later rd rd' n m v p k le h = record { far = h.far; is = k p h.below ∙ h.is; less = h.less; below = below-later n m p le h.below }

abbrev pub IsThere : Value → Type 0
IsThere (Num w) = Unit {0}
IsThere (At b o) = Unit {0}
IsThere Bad = ⊥

-- what is there is carried itself
pub held-is : (rd : Origin → Datum) (n : ℕ) (v : Value) (p : Origin) → IsThere v → Held rd n v p → rd p ≡ val v
held-is rd n (Num w) p t h = h.is ∙ ap val (by h.less)
  where
    by : (Num w ≡ h.far) ⊎ (Num w ≡ Bad) → h.far ≡ Num w
    by (inl e) = sym e
    by (inr e) = absurd cc
held-is rd n (At b o) p t h = h.is ∙ ap val (by h.less)
  where
    by : (At b o ≡ h.far) ⊎ (At b o ≡ Bad) → h.far ≡ At b o
    by (inl e) = sym e
    by (inr e) = absurd cc
held-is rd n Bad p t h = absurd t

pub held-exactly : (rd : Origin → Datum) (n : ℕ) (v : Value) (p : Origin) → rd p ≡ val v → IsBelow n p → Held rd n v p
held-exactly rd n v p e b = record { far = v; is = e; less = inl refl; below = b }

-- The value of an expression of this type: a void one has none.
abbrev pub shown : TypeTree → Value → Value
shown void_type v = Bad
shown t v = v

pub held-shown : (rd : Origin → Datum) (n : ℕ) (t : TypeTree) (v : Value) (p : Origin) → Held rd n v p → Held rd n (shown t v) p
held-shown rd n void_type v p h = record { far = h.far; is = h.is; less = inr refl; below = h.below }
held-shown rd n (scalar_type t) v p h = h
held-shown rd n (pointer_to t) v p h = h
held-shown rd n (array_of t k) v p h = h
held-shown rd n (struct_type k) v p h = h

pub shown-held : (rd : Origin → Datum) (n : ℕ) (t : TypeTree) (v : Value) (p : Origin) → IsScalar t → Held rd n (shown t v) p → Held rd n v p
shown-held rd n void_type v p s h = absurd s
shown-held rd n (scalar_type t) v p s h = h
shown-held rd n (pointer_to t) v p s h = h
shown-held rd n (array_of t k) v p s h = absurd s
shown-held rd n (struct_type k) v p s h = absurd s

-- ---- variables

-- Each variable in scope is carried: a value by an origin, an object by its number, and between them the numbers that have
-- no name in the source, in order. The newest variables may still wait for the value that they begin with.
abbrev pub SlotsHeld : (rd : Origin → Datum) (n : ℕ) → (waiting : List Slot) → List SlotOrigin → (numbers : List ℕ) → List Slot → Type 0
SlotsHeld rd n ws [] [] ss = ss ≡ ws
SlotsHeld rd n ws (held p ∷ xs) hs (source.holds v ∷ ss) = Held rd n v p × SlotsHeld rd n ws xs hs ss
SlotsHeld rd n ws (object k ∷ xs) hs (source.object j ∷ ss) = (j ≡ k) × SlotsHeld rd n ws xs hs ss
SlotsHeld rd n ws (hidden p ∷ xs) (h ∷ hs) ss = (rd p ≡ val (Num h)) × IsBelow n p × SlotsHeld rd n ws xs hs ss
SlotsHeld rd n ws _ _ _ = ⊥

-- how many of what is carried have a slot
abbrev pub named : List SlotOrigin → ℕ
named [] = 0
named (held p ∷ xs) = suc (named xs)
named (object k ∷ xs) = suc (named xs)
named (hidden p ∷ xs) = named xs

-- `go` is 0 where control goes on, and 1, 2 or 3 after a `break`, a `continue` and a `return`.
abbrev pub code : Flow → ℕ
code normal = 0
code broke = 1
code continued = 2
code (returned v) = 3

-- `ret` carries what the function gives if it ends here. Without `go` and `ret` control goes on.
abbrev pub JumpsHeld : (rd : Origin → Datum) (n : ℕ) → (is_main : Bool) → Flow → Form → (go ret : Origin) → Type 0
JumpsHeld rd n is_main flow straight g r = flow ≡ normal
JumpsHeld rd n is_main flow jumping g r = (rd g ≡ val (Num (code flow))) × IsBelow n g × Held rd n (value_or_none (value_at_end is_main flow)) r

-- What stays through a statement: the numbers without a name, how many variables are carried, those that wait for a value,
-- and whether the function is `main`.
pub record Frame : Type 0 where
  pub numbers : List ℕ
  pub count : ℕ
  pub waiting : List Slot
  pub is_main : Bool

-- The carried origins, which are below a number, carry a state of the source after this flow.
pub record Holds (f : Frame) (flow : Flow) (rd : Origin → Datum) (n : ℕ) (k : Carried) (q : State) : Type 0 where
  pub slots : SlotsHeld rd n f.waiting k.variables f.numbers q.slots
  pub count : named k.variables ≡ f.count
  pub jumps : JumpsHeld rd n f.is_main flow k.form k.go k.ret
  pub memory : rd k.memory ≡ memory q.memory
  pub memory_below : IsBelow n k.memory
  pub io : rd k.io ≡ input q.input
  pub io_below : IsBelow n k.io

-- ---- what is held stays held

pub slots-later : (rd rd' : Origin → Datum) (n m : ℕ) (ws : List Slot) (xs : List SlotOrigin) (hs : List ℕ) (ss : List Slot) → Keeps n rd rd' → n ≤ m → SlotsHeld rd n ws xs hs ss →
    SlotsHeld rd' m ws xs hs ss
slots-later rd rd' n m ws [] [] ss k le h = h
slots-later rd rd' n m ws (hidden p ∷ xs) (j ∷ hs) ss k le h = (k p h.1 ∙ h.0, below-later n m p le h.1, slots-later rd rd' n m ws xs hs ss k le h.2)
slots-later rd rd' n m ws (held p ∷ xs) hs (source.holds v ∷ ss) k le h = (held-later rd rd' n m v p k le h.0, slots-later rd rd' n m ws xs hs ss k le h.1)
slots-later rd rd' n m ws (object i ∷ xs) hs (source.object j ∷ ss) k le h = (h.0, slots-later rd rd' n m ws xs hs ss k le h.1)
slots-later rd rd' n m ws _ _ _ k le h = absurd h

pub jumps-later : (rd rd' : Origin → Datum) (n m : ℕ) (is_main : Bool) (flow : Flow) (form : Form) (g r : Origin) → Keeps n rd rd' → n ≤ m → JumpsHeld rd n is_main flow form g r →
    JumpsHeld rd' m is_main flow form g r
jumps-later rd rd' n m is_main flow straight g r k le h = h
jumps-later rd rd' n m is_main flow jumping g r k le h =
    (k g h.1 ∙ h.0, below-later n m g le h.1, held-later rd rd' n m (value_or_none (value_at_end is_main flow)) r k le h.2)

pub holds-later : (f : Frame) (flow : Flow) (rd rd' : Origin → Datum) (n m : ℕ) (c : Carried) (q : State) → Keeps n rd rd' → n ≤ m → Holds f flow rd n c q → Holds f flow rd' m c q
holds-later f flow rd rd' n m c q k le h =
    record {
      slots = slots-later rd rd' n m f.waiting c.variables f.numbers q.slots k le h.slots;
      count = h.count;
      jumps = jumps-later rd rd' n m f.is_main flow c.form c.go c.ret k le h.jumps;
      memory = k c.memory h.memory_below ∙ h.memory;
      memory_below = below-later n m c.memory le h.memory_below;
      io = k c.io h.io_below ∙ h.io;
      io_below = below-later n m c.io le h.io_below;
    }

-- ---- a variable read and written

-- What stands at a slot on both sides. Nothing is said of a slot that is not carried.
abbrev pub SlotHeld : (rd : Origin → Datum) (n : ℕ) → Option SlotOrigin → Option Slot → Type 0
SlotHeld rd n None x = Unit {0}
SlotHeld rd n (Some (held p)) (Some (source.holds v)) = Held rd n v p
SlotHeld rd n (Some (object k)) (Some (source.object j)) = j ≡ k
SlotHeld rd n _ _ = ⊥

pub slot-held : (rd : Origin → Datum) (n : ℕ) (ws : List Slot) (xs : List SlotOrigin) (hs : List ℕ) (ss : List Slot) (k : ℕ) → SlotsHeld rd n ws xs hs ss →
    SlotHeld rd n (variable_at xs k) (slice_get ss k)
slot-held rd n ws [] hs ss k h = tt
slot-held rd n ws (hidden p ∷ xs) (j ∷ hs) ss k h = slot-held rd n ws xs hs ss k h.2
slot-held rd n ws (held p ∷ xs) hs (source.holds v ∷ ss) zero h = h.0
slot-held rd n ws (held p ∷ xs) hs (source.holds v ∷ ss) (suc k) h = slot-held rd n ws xs hs ss k h.1
slot-held rd n ws (object i ∷ xs) hs (source.object j ∷ ss) zero h = h.0
slot-held rd n ws (object i ∷ xs) hs (source.object j ∷ ss) (suc k) h = slot-held rd n ws xs hs ss k h.1
slot-held rd n ws _ _ _ k h = absurd h

abbrev pub IsCarried : Option SlotOrigin → Type 0
IsCarried None = ⊥
IsCarried (Some x) = Unit {0}

pub carried-below : (xs : List SlotOrigin) (k : ℕ) → k < named xs → IsCarried (variable_at xs k)
carried-below [] k h = absurd (omega (arith, h))
carried-below (hidden p ∷ xs) k h = carried-below xs k h
carried-below (held p ∷ xs) zero h = tt
carried-below (held p ∷ xs) (suc k) h = carried-below xs k (omega (arith, h))
carried-below (object i ∷ xs) zero h = tt
carried-below (object i ∷ xs) (suc k) h = carried-below xs k (omega (arith, h))

-- a value variable stands at the slot
abbrev pub IsValueSlot : Option SlotOrigin → Type 0
IsValueSlot (Some (held p)) = Unit {0}
IsValueSlot _ = ⊥

-- it is written
slots-set : (rd : Origin → Datum) (n : ℕ) (ws : List Slot) (xs : List SlotOrigin) (hs : List ℕ) (ss : List Slot) (k : ℕ) (v : Value) (p : Origin) → IsValueSlot (variable_at xs k) → Held rd n v p →
    SlotsHeld rd n ws xs hs ss → SlotsHeld rd n ws (variable_set xs k p) hs (slice_set ss k (source.holds v))
slots-set rd n ws [] hs ss k v p t g h = absurd t
slots-set rd n ws (hidden q ∷ xs) (j ∷ hs) ss k v p t g h = (h.0, h.1, slots-set rd n ws xs hs ss k v p t g h.2)
slots-set rd n ws (held q ∷ xs) hs (source.holds u ∷ ss) zero v p t g h = (g, h.1)
slots-set rd n ws (held q ∷ xs) hs (source.holds u ∷ ss) (suc k) v p t g h = (h.0, slots-set rd n ws xs hs ss k v p t g h.1)
slots-set rd n ws (object i ∷ xs) hs (source.object j ∷ ss) zero v p t g h = absurd t
slots-set rd n ws (object i ∷ xs) hs (source.object j ∷ ss) (suc k) v p t g h = (h.0, slots-set rd n ws xs hs ss k v p t g h.1)
slots-set rd n ws _ _ _ k v p t g h = absurd h

named-set : (xs : List SlotOrigin) (k : ℕ) (p : Origin) → named (variable_set xs k p) ≡ named xs
named-set [] k p = refl
named-set (hidden o ∷ xs) k p = named-set xs k p
named-set (held o ∷ xs) zero p = refl
named-set (held o ∷ xs) (suc k) p = ap suc (named-set xs k p)
named-set (object n ∷ xs) zero p = refl
named-set (object n ∷ xs) (suc k) p = ap suc (named-set xs k p)

-- the same variables from other origins have value variables at the same slots
value-slot-shape : (xs : List SlotOrigin) (k : ℕ) → IsValueSlot (variable_at (shape xs) k) ≡ IsValueSlot (variable_at xs k)
value-slot-shape [] k = refl
value-slot-shape (held p ∷ xs) zero = refl
value-slot-shape (held p ∷ xs) (suc k) = value-slot-shape xs k
value-slot-shape (object j ∷ xs) zero = refl
value-slot-shape (object j ∷ xs) (suc k) = value-slot-shape xs k
value-slot-shape (hidden p ∷ xs) k = value-slot-shape xs k

pub value-slot-later : (s t : Point) (k : ℕ) → Later s t → IsValueSlot (variable_at s.carried.variables k) → IsValueSlot (variable_at t.carried.variables k)
value-slot-later s t k l h =
    subst (λ (X : Type 0). X) (sym (value-slot-shape s.carried.variables k) ∙ ap (λ xs. IsValueSlot (variable_at xs k)) (sym l.shape) ∙ value-slot-shape t.carried.variables k) h

-- the state after a value variable is written
pub holds-set : (f : Frame) (flow : Flow) (rd : Origin → Datum) (n : ℕ) (s : Point) (q : State) (k : ℕ) (v : Value) (p : Origin) → IsValueSlot (variable_at s.carried.variables k) →
    Held rd n v p → Holds f flow rd n s.carried q →
    Holds f flow rd n (with_variables s (variable_set s.carried.variables k p)).carried (source.with_slots q (slice_set q.slots k (source.holds v)))
holds-set f flow rd n s q k v p t g h =
    record {
      slots = slots-set rd n f.waiting s.carried.variables f.numbers q.slots k v p t g h.slots;
      count = named-set s.carried.variables k p ∙ h.count;
      jumps = h.jumps;
      memory = h.memory;
      memory_below = h.memory_below;
      io = h.io;
      io_below = h.io_below;
    }
