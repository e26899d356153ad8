-- Variables in scope, and places.
use Rattle.std.proofs.Common.{◌≡◌, ◌<◌, ℕ, ◌+◌, zero, suc, List, [], ◌∷◌, ◌++◌, refl, arith, subst}
use Rattle.std.specs.declared.option.Option.{Option}
use Rattle.std.specs.declared.option.Option.TheVariants.{Some, None}
use Rattle.c_type.specs.Trees.{TypeTree}
use Rattle.g_graph.specs.declared.op.Origin.{Origin}
use Rattle.g_build_keeps.specs.Formation.{Standing}
use Rattle.g_build_def.specs.Writer.{SlotOrigin, held, object, hidden, variable_at, variable_set, without_newest, newest, slot_origin, Point, with_variables, pushed, popped, Built, given}
use Rattle.g_build_def.specs.Operations.{local_made, at_offset_made}
use Rattle.c_typed.specs.Objects.{access_width}
use Rattle.g_build_def.specs.Places.{Spot, in_slot, at_address, address_spot, slot_spot, member_spot, spot_address, spot_read, spot_written}
use Rattle.g_build_keeps.proofs.Stands.{Frame, Mark, a_value, an_object, a_hidden, with_mark, IsValue, Grown, SlotFits, SlotsFit, Stands, Made}
use Rattle.g_build_keeps.proofs.Parts.{then_made, given_made}
use Rattle.g_build_keeps.proofs.Operations.{local_ok, store_ok, read_ok, at_offset_ok, is_access_width}

-- ---- slots

-- how many variables have a slot
abbrev pub shown : List Mark → ℕ
shown [] = 0
shown (a_value ∷ ms) = suc (shown ms)
shown (an_object k ∷ ms) = suc (shown ms)
shown (a_hidden ∷ ms) = shown ms

abbrev mark_at : List Mark → (slot : ℕ) → Option Mark
mark_at [] k = None
mark_at (a_hidden ∷ ms) k = mark_at ms k
mark_at (a_value ∷ ms) zero = Some a_value
mark_at (a_value ∷ ms) (suc k) = mark_at ms k
mark_at (an_object j ∷ ms) zero = Some (an_object j)
mark_at (an_object j ∷ ms) (suc k) = mark_at ms k

-- what stands at a slot in scope
pub data AtSlot (ms : List Mark) (k : ℕ) : Type 0 where
  value_there : mark_at ms k ≡ Some a_value → AtSlot ms k
  object_there : (j : ℕ) → mark_at ms k ≡ Some (an_object j) → AtSlot ms k

at_slot : (ms : List Mark) (k : ℕ) → k < shown ms → AtSlot ms k
at_slot [] k h = absurd (omega (arith, h))
at_slot (a_hidden ∷ ms) k h = passed (at_slot ms k h)
  where
    passed : AtSlot ms k → AtSlot (a_hidden ∷ ms) k
    passed (value_there e) = value_there e
    passed (object_there j e) = object_there j e
at_slot (a_value ∷ ms) zero h = value_there refl
at_slot (a_value ∷ ms) (suc k) h = passed (at_slot ms k (omega (arith, h)))
  where
    passed : AtSlot ms k → AtSlot (a_value ∷ ms) (suc k)
    passed (value_there e) = value_there e
    passed (object_there j e) = object_there j e
at_slot (an_object j ∷ ms) zero h = object_there j refl
at_slot (an_object j ∷ ms) (suc k) h = passed (at_slot ms k (omega (arith, h)))
  where
    passed : AtSlot ms k → AtSlot (an_object j ∷ ms) (suc k)
    passed (value_there e) = value_there e
    passed (object_there i e) = object_there i e

-- what is found at a slot with this mark
abbrev SlotIs : (objects : ℕ) → Standing → Mark → Option SlotOrigin → Type 0
SlotIs b c m None = ⊥
SlotIs b c m (Some x) = SlotFits b c m x

found_at : (b : ℕ) (c : Standing) (ms : List Mark) (xs : List SlotOrigin) (k : ℕ) (m : Mark) → SlotsFit b c ms xs → mark_at ms k ≡ Some m → SlotIs b c m (variable_at xs k)
found_at b c [] xs k m h e = absurd (cc)
found_at b c (n ∷ ms) [] k m h e = absurd h
found_at b c (a_value ∷ ms) (held o ∷ xs) zero m h e = let same : a_value ≡ m = cc in subst (λ n. SlotFits b c n (held o)) same h.0
found_at b c (a_value ∷ ms) (held o ∷ xs) (suc k) m h e = found_at b c ms xs k m h.1 e
found_at b c (a_value ∷ ms) (object j ∷ xs) k m h e = absurd h.0
found_at b c (a_value ∷ ms) (hidden o ∷ xs) k m h e = absurd h.0
found_at b c (an_object i ∷ ms) (held o ∷ xs) k m h e = absurd h.0
found_at b c (an_object i ∷ ms) (object j ∷ xs) zero m h e = let same : an_object i ≡ m = cc in subst (λ n. SlotFits b c n (object j)) same h.0
found_at b c (an_object i ∷ ms) (object j ∷ xs) (suc k) m h e = found_at b c ms xs k m h.1 e
found_at b c (an_object i ∷ ms) (hidden o ∷ xs) k m h e = absurd h.0
found_at b c (a_hidden ∷ ms) (held o ∷ xs) k m h e = absurd h.0
found_at b c (a_hidden ∷ ms) (object j ∷ xs) k m h e = absurd h.0
found_at b c (a_hidden ∷ ms) (hidden o ∷ xs) k m h e = found_at b c ms xs k m h.1 e

value_of_slot : (b : ℕ) (c : Standing) (x : Option SlotOrigin) → SlotIs b c a_value x → IsValue c (slot_origin x)
value_of_slot b c None h = absurd h
value_of_slot b c (Some (held o)) h = h
value_of_slot b c (Some (object j)) h = absurd h
value_of_slot b c (Some (hidden o)) h = absurd h

-- the value at a slot
slot_value : (f : Frame) (c : Standing) (s : Point) (k : ℕ) → Stands f c s → mark_at f.marks k ≡ Some a_value → IsValue c (slot_origin (variable_at s.carried.variables k))
slot_value f c s k h e = value_of_slot f.objects c (variable_at s.carried.variables k) (found_at f.objects c f.marks s.carried.variables k a_value h.slots e)

slots_set : (b : ℕ) (c : Standing) (ms : List Mark) (xs : List SlotOrigin) (k : ℕ) (v : Origin) → SlotsFit b c ms xs → IsValue c v → SlotsFit b c ms (variable_set xs k v)
slots_set b c [] [] k v h x = tt
slots_set b c [] (y ∷ xs) k v h x = absurd h
slots_set b c (m ∷ ms) [] k v h x = absurd h
slots_set b c (a_value ∷ ms) (held o ∷ xs) zero v h x = (x, h.1)
slots_set b c (a_value ∷ ms) (held o ∷ xs) (suc k) v h x = (h.0, slots_set b c ms xs k v h.1 x)
slots_set b c (a_value ∷ ms) (object j ∷ xs) k v h x = absurd h.0
slots_set b c (a_value ∷ ms) (hidden o ∷ xs) k v h x = absurd h.0
slots_set b c (an_object i ∷ ms) (held o ∷ xs) k v h x = absurd h.0
slots_set b c (an_object i ∷ ms) (object j ∷ xs) zero v h x = h
slots_set b c (an_object i ∷ ms) (object j ∷ xs) (suc k) v h x = (h.0, slots_set b c ms xs k v h.1 x)
slots_set b c (an_object i ∷ ms) (hidden o ∷ xs) k v h x = absurd h.0
slots_set b c (a_hidden ∷ ms) (held o ∷ xs) k v h x = absurd h.0
slots_set b c (a_hidden ∷ ms) (object j ∷ xs) k v h x = absurd h.0
slots_set b c (a_hidden ∷ ms) (hidden o ∷ xs) k v h x = (h.0, slots_set b c ms xs k v h.1 x)

-- ---- what comes into scope, and leaves it

slots_pushed : (b : ℕ) (c : Standing) (ms : List Mark) (xs : List SlotOrigin) (m : Mark) (x : SlotOrigin) → SlotsFit b c ms xs → SlotFits b c m x → SlotsFit b c (ms ++ m ∷ []) (xs ++ x ∷ [])
slots_pushed b c [] [] m x h g = (g, tt)
slots_pushed b c [] (y ∷ xs) m x h g = absurd h
slots_pushed b c (n ∷ ms) [] m x h g = absurd h
slots_pushed b c (n ∷ ms) (y ∷ xs) m x h g = (h.0, slots_pushed b c ms xs m x h.1 g)

slots_popped : (b : ℕ) (c : Standing) (ms : List Mark) (xs : List SlotOrigin) (m : Mark) → SlotsFit b c (ms ++ m ∷ []) xs → SlotsFit b c ms (without_newest xs)
slots_popped b c [] [] m h = absurd h
slots_popped b c [] (x ∷ []) m h = tt
slots_popped b c [] (x ∷ y ∷ xs) m h = absurd h.1
slots_popped b c (n ∷ ms) [] m h = absurd h
slots_popped b c (n ∷ []) (x ∷ []) m h = absurd h.1
slots_popped b c (n ∷ k ∷ ms) (x ∷ []) m h = absurd h.1
slots_popped b c (n ∷ ms) (x ∷ y ∷ xs) m h = (h.0, slots_popped b c ms (y ∷ xs) m h.1)

pub newest_hidden : (b : ℕ) (c : Standing) (ms : List Mark) (xs : List SlotOrigin) → SlotsFit b c (ms ++ a_hidden ∷ []) xs → IsValue c (slot_origin (newest xs))
newest_hidden b c [] [] h = absurd h
newest_hidden b c [] (held o ∷ []) h = absurd h.0
newest_hidden b c [] (object j ∷ []) h = absurd h.0
newest_hidden b c [] (hidden o ∷ []) h = h.0
newest_hidden b c [] (x ∷ y ∷ xs) h = absurd h.1
newest_hidden b c (n ∷ ms) [] h = absurd h
newest_hidden b c (n ∷ []) (x ∷ []) h = absurd h.1
newest_hidden b c (n ∷ k ∷ ms) (x ∷ []) h = absurd h.1
newest_hidden b c (n ∷ ms) (x ∷ y ∷ xs) h = newest_hidden b c ms (y ∷ xs) h.1

abbrev pub one_shown : Mark → ℕ
one_shown a_value = 1
one_shown (an_object k) = 1
one_shown a_hidden = 0

pub shown_pushed : (ms : List Mark) (m : Mark) → shown (ms ++ m ∷ []) ≡ shown ms + one_shown m
shown_pushed [] a_value = refl
shown_pushed [] (an_object k) = refl
shown_pushed [] a_hidden = refl
shown_pushed (a_value ∷ ms) m = let e = shown_pushed ms m in omega (arith, e)
shown_pushed (an_object k ∷ ms) m = let e = shown_pushed ms m in omega (arith, e)
shown_pushed (a_hidden ∷ ms) m = shown_pushed ms m

pub stands_pushed : (f : Frame) (c : Standing) (s : Point) (m : Mark) (x : SlotOrigin) → Stands f c s → SlotFits f.objects c m x → Stands (with_mark f m) c (pushed x s)
stands_pushed f c s m x h g = record {
  form = h.form;
  next = h.next;
  slots = slots_pushed f.objects c f.marks s.carried.variables m x h.slots g;
  jumps = h.jumps;
  memory = h.memory;
  io = h.io;
  old = h.old;
}

pub stands_popped : (f : Frame) (c : Standing) (s : Point) (m : Mark) → Stands (with_mark f m) c s → Stands f c (popped s)
stands_popped f c s m h = record {
  form = h.form;
  next = h.next;
  slots = slots_popped f.objects c f.marks s.carried.variables m h.slots;
  jumps = h.jumps;
  memory = h.memory;
  io = h.io;
  old = h.old;
}

-- ---- places

abbrev pub SpotFits : List Mark → Standing → Spot → Type 0
SpotFits ms c (in_slot k) = mark_at ms k ≡ Some a_value
SpotFits ms c (at_address o) = IsValue c o

pub spot_grown : (ms : List Mark) (c d : Standing) (p : Spot) → Grown c d → SpotFits ms c p → SpotFits ms d p
spot_grown ms c d (in_slot k) g h = h
spot_grown ms c d (at_address o) g h = g o _ h

pub address_spot_ok : (f : Frame) (c : Standing) (b : Built Origin) → Made f IsValue c b → Made f (SpotFits f.marks) c (address_spot b)
address_spot_ok f c b h =
    then_made f IsValue (SpotFits f.marks) c b (λ a t. given (at_address a) t) h (λ d x. given_made f (SpotFits f.marks) d b.after (at_address b.value) x.stands x.value)

slot_spot_by : (f : Frame) (c : Standing) (s : Point) (k : ℕ) (m : Mark) (x : Option SlotOrigin) → Stands f c s → mark_at f.marks k ≡ Some m → SlotIs f.objects c m x →
    Made f (SpotFits f.marks) c (slot_spot k x s)
slot_spot_by f c s k m None h e g = absurd g
slot_spot_by f c s k a_value (Some (held o)) h e g = given_made f (SpotFits f.marks) c s (in_slot k) h e
slot_spot_by f c s k (an_object j) (Some (held o)) h e g = absurd g
slot_spot_by f c s k a_hidden (Some (held o)) h e g = absurd g
slot_spot_by f c s k a_value (Some (object n)) h e g = absurd g
slot_spot_by f c s k (an_object j) (Some (object n)) h e g =
    let below : n < f.objects = omega (arith, g.0, g.1) in address_spot_ok f c (local_made n s) (local_ok f c s n h below)
slot_spot_by f c s k a_hidden (Some (object n)) h e g = absurd g
slot_spot_by f c s k a_value (Some (hidden o)) h e g = absurd g
slot_spot_by f c s k (an_object j) (Some (hidden o)) h e g = absurd g
slot_spot_by f c s k a_hidden (Some (hidden o)) h e g = absurd (never f.marks k e)
  where
    never : (ms : List Mark) (k : ℕ) → mark_at ms k ≡ Some a_hidden → ⊥
    never [] k e = cc
    never (a_hidden ∷ ms) k e = never ms k e
    never (a_value ∷ ms) zero e = cc
    never (a_value ∷ ms) (suc k) e = never ms k e
    never (an_object j ∷ ms) zero e = cc
    never (an_object j ∷ ms) (suc k) e = never ms k e

pub slot_spot_ok : (f : Frame) (c : Standing) (s : Point) (k : ℕ) → Stands f c s → k < shown f.marks → Made f (SpotFits f.marks) c (slot_spot k (variable_at s.carried.variables k) s)
slot_spot_ok f c s k h l = by_slot (at_slot f.marks k l)
  where
    by_slot : AtSlot f.marks k → Made f (SpotFits f.marks) c (slot_spot k (variable_at s.carried.variables k) s)
    by_slot (value_there e) = slot_spot_by f c s k a_value (variable_at s.carried.variables k) h e (found_at f.objects c f.marks s.carried.variables k a_value h.slots e)
    by_slot (object_there j e) = slot_spot_by f c s k (an_object j) (variable_at s.carried.variables k) h e (found_at f.objects c f.marks s.carried.variables k (an_object j) h.slots e)

pub member_spot_ok : (f : Frame) (c : Standing) (s : Point) (p : Spot) (n : ℕ) → Stands f c s → SpotFits f.marks c p → Made f (SpotFits f.marks) c (member_spot p n s)
member_spot_ok f c s (in_slot k) n h g = given_made f (SpotFits f.marks) c s (in_slot k) h g
member_spot_ok f c s (at_address a) n h g = address_spot_ok f c (at_offset_made a n s) (at_offset_ok f c s a n h g)

pub spot_address_ok : (f : Frame) (c : Standing) (s : Point) (p : Spot) → Stands f c s → SpotFits f.marks c p → Made f IsValue c (spot_address p s)
spot_address_ok f c s (in_slot k) h g = given_made f IsValue c s (slot_origin (variable_at s.carried.variables k)) h (slot_value f c s k h g)
spot_address_ok f c s (at_address a) h g = given_made f IsValue c s a h g

pub spot_read_ok : (f : Frame) (c : Standing) (s : Point) (t : TypeTree) (p : Spot) → Stands f c s → SpotFits f.marks c p → Made f IsValue c (spot_read t p s)
spot_read_ok f c s t (in_slot k) h g = given_made f IsValue c s (slot_origin (variable_at s.carried.variables k)) h (slot_value f c s k h g)
spot_read_ok f c s t (at_address a) h g = read_ok f c s t a h g

stands_set : (f : Frame) (c : Standing) (s : Point) (k : ℕ) (v : Origin) → Stands f c s → IsValue c v → Stands f c (with_variables s (variable_set s.carried.variables k v))
stands_set f c s k v h x = record {
  form = h.form;
  next = h.next;
  slots = slots_set f.objects c f.marks s.carried.variables k v h.slots x;
  jumps = h.jumps;
  memory = h.memory;
  io = h.io;
  old = h.old;
}

pub spot_written_ok : (f : Frame) (c : Standing) (s : Point) (t : TypeTree) (p : Spot) (v : Origin) → Stands f c s → SpotFits f.marks c p → IsValue c v → Made f IsValue c (spot_written t p v s)
spot_written_ok f c s t (in_slot k) v h g x = given_made f IsValue c (with_variables s (variable_set s.carried.variables k v)) v (stands_set f c s k v h x) x
spot_written_ok f c s t (at_address a) v h g x = store_ok f c s (access_width t) a v h (is_access_width t) g x
