-- Where names can be, and the frame of a function. The first eleven places are registers that a call keeps. Some registers after
-- them, the temporaries, are places that a call loses. Each other place is a word at the foot of the frame. Objects come after the
-- words; then the saved registers and the return address, up to a multiple of 16.
use Rattle.std.specs.Prelude.{ℕ, suc, ◌+◌, ◌-◌, ◌*◌, ◌/◌, nat_le, nat_lt, Bool, ◌&&◌, if◌then◌else◌, List, min, take}
use Rattle.std.specs.List.{sum_by}
use Rattle.base.specs.Limits.{counted_bytes}
use Rattle.g_graph.specs.Plain.{PlainObject}

-- how many places are registers that a call keeps
abbrev pub registers : ℕ
registers = 11

-- a call loses what the register of this place holds
abbrev pub is_lost : (temporaries place : ℕ) → Bool
is_lost t p = nat_le registers p && nat_lt p (registers + t)

-- how many saved registers and words there are for a place to be one of them: where there is a word, all registers are saved
abbrev pub counted_for : (temporaries place : ℕ) → ℕ
counted_for t p = if nat_lt p registers then suc p else if nat_lt p (registers + t) then 0 else suc (p - t)

-- ---- by the number of saved registers and words

abbrev pub saved_of : (count : ℕ) → ℕ
saved_of s = min s registers

abbrev pub words_of : (count : ℕ) → ℕ
words_of s = s - saved_of s

-- the bytes of an object in a frame: its size up to a multiple of 4, and 4 more
abbrev pub object_room : PlainObject → ℕ
object_room o = counted_bytes o.size

-- where the objects begin, in bytes from the stack pointer
abbrev pub objects_at : (count : ℕ) → ℕ
objects_at s = 4 * words_of s

-- where object k stands
abbrev pub object_at : (count : ℕ) → List PlainObject → (k : ℕ) → ℕ
object_at s objects k = objects_at s + sum_by object_room (take k objects)

abbrev pub frame_size : (count : ℕ) → List PlainObject → ℕ
frame_size s objects = (4 * s + sum_by object_room objects + 4 + 15) / 16 * 16

-- which place each name has, in the order of the names, how many saved registers and words there are, and how many temporaries
pub record PlainPlaces : Type 0 where
  pub of : List ℕ
  pub count : ℕ
  pub temporaries : ℕ
