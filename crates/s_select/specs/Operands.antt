-- How instructions come to the values at places: a place is a register, or a word of the frame. Where memory objects
-- begin in the frame.
use Rattle.std.specs.Prelude.{ℕ, ◌+◌, ◌-◌, ◌*◌, ◌%◌, ◌^◌, ◌==◌, nat_lt, if◌then◌else◌, List, [], ◌∷◌}
use Rattle.g_graph.specs.Plain.{PlainObject}
use Rattle.rv_isa.specs.Registers.{x0, sp, t0, s1}
use Rattle.rv_isa.specs.WordParts.{upper_part, low_part}
use Rattle.rv_isa.specs.declared.instruction.Instr.{Instr}
use Rattle.rv_isa.specs.declared.instruction.Instr.TheVariants.{Lui, Lw, Sw, Addi, Add}
use Rattle.s_linear.specs.Frame.{registers, object_room}
use Rattle.s_select.specs.declared.location.Location.{Location}
use Rattle.s_select.specs.declared.location.Location.TheVariants.{Register, Near, Far}
use Rattle.rv_layout.specs.Sequences.{load_address}

-- a third temporary register
abbrev pub t2 : ℕ
t2 = 7

-- minus n, as a word
abbrev pub negative : ℕ → ℕ
negative n = 2 ^ 32 - n

-- the register of a place: s1 to s11, and t3 to t6 after them
abbrev pub place_register : (place : ℕ) → ℕ
place_register p = if p == 0 then s1 else p + 17

-- A place is a register, or a word of the frame at an offset from the stack pointer: near where the offset fits an
-- instruction, and else far.
abbrev pub word_at : (offset : ℕ) → Location
word_at offset = if nat_lt offset 2048 then Near offset else Far offset

abbrev pub location_of : (temporaries place : ℕ) → Location
location_of t p = if nat_lt p (registers + t) then Register (place_register p) else word_at (4 * (p - (registers + t)))

-- a word in a register: one instruction where it is -2048 to 2047 as a signed number, else two
abbrev pub load_immediate : (rd v : ℕ) → List Instr
load_immediate rd v = if nat_lt ((v + 2048) % 2 ^ 32) 4096 then Addi rd x0 v ∷ [] else load_address rd v

-- what a location holds, into a register
abbrev pub get : (rd : ℕ) → Location → List Instr
get rd (Register r) = Addi rd r 0 ∷ []
get rd (Near offset) = Lw rd sp offset ∷ []
get rd (Far offset) = Lui t2 (upper_part offset) ∷ Add t2 t2 sp ∷ Lw rd t2 (low_part offset) ∷ []

-- what a register holds, to a location
abbrev pub put : Location → (rs : ℕ) → List Instr
put (Register r) rs = Addi r rs 0 ∷ []
put (Near offset) rs = Sw sp rs offset ∷ []
put (Far offset) rs = Lui t2 (upper_part offset) ∷ Add t2 t2 sp ∷ Sw t2 rs (low_part offset) ∷ []

-- An instruction reads an operand from a register: that of its location, or this one, to which the word is loaded first.
abbrev pub in_of : Location → (scratch : ℕ) → ℕ
in_of (Register r) scratch = r
in_of _ scratch = scratch

abbrev pub load_in : (scratch : ℕ) → Location → List Instr
load_in scratch (Register r) = []
load_in scratch l = get scratch l

-- It writes its result to a register: that of the location, or t0, which is stored to the word after it.
abbrev pub out_of : Location → ℕ
out_of (Register r) = r
out_of _ = t0

abbrev pub store_out : Location → List Instr
store_out (Register r) = []
store_out l = put l t0

-- where the memory objects of a function begin, in bytes from the stack pointer: the first at an offset, each other after
-- those before it
abbrev pub offsets_from : (at : ℕ) → List PlainObject → List ℕ
offsets_from at [] = []
offsets_from at (o ∷ os) = at ∷ offsets_from (at + object_room o) os
