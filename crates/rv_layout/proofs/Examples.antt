-- Worked rows: a program of a function that returns to its label, and two globals with links.
use Rattle.std.specs.Prelude.{◌≡◌, refl, true, false, List, [], ◌∷◌, map}
use Rattle.rv_isa.specs.Registers.{x0, ra, a0}
use Rattle.rv_isa.specs.Words.{word_of}
use Rattle.rv_isa.specs.declared.instruction.Instr.TheVariants.{Lui, Auipc, Jal, Jalr, Addi}
use Rattle.g_graph.specs.Plain.{PlainDelta}
use Rattle.rv_layout.specs.declared.item.Item.{Item}
use Rattle.rv_layout.specs.declared.item.Item.TheVariants.{Word, Mark, Jump, Call, Stub, Address}
use Rattle.rv_layout.specs.Items.{items_size}
use Rattle.rv_layout.specs.Sequences.{start_code}
use Rattle.rv_layout.specs.Layout.{functions_at, addresses_of, function_code, laid_out}

-- the start code of a program whose `main` stands first, with less than a page of text and no globals
start-words :
    map word_of (start_code 0x12000 functions_at)
    ≡ 0x00012437 ∷ 0x00040413 ∷ 0x008002b7 ∷ 0x00540133 ∷ 0x00000097 ∷ 0x064080e7 ∷ 0x05d00893 ∷ 0x00000073 ∷ []
unfolding word_of
start-words = refl

-- A label with a great number is jumped to from both sides.
abbrev items : List Item
items = Jump 4_000_000_000 ∷ Address 10 1 ∷ Mark 4_000_000_000 ∷ Stub 0 ∷ Call 0 ∷ Jump 4_000_000_000 ∷ Word (Jalr x0 ra 0) ∷ []

items-bytes : items_size items ≡ 36
items-bytes = refl

-- a fixed global that names itself, and one of five bytes
abbrev globals : List PlainDelta
globals =
    record { bytes = 0 ∷ 0 ∷ 0 ∷ 0 ∷ []; links = record { at = 0; delta = 0 } ∷ []; leaves = []; fixed = true }
    ∷ record { bytes = 7 ∷ 0 ∷ 0 ∷ 0 ∷ 0 ∷ []; links = record { at = 1; delta = 0 } ∷ []; leaves = []; fixed = false }
    ∷ []

program-addresses :
    addresses_of (items ∷ items ∷ []) globals
    ≡ record { functions = 0x10074 ∷ 0x10098 ∷ []; globals = 0x11000 ∷ 0x12008 ∷ []; fixed_at = 0x11000; data_at = 0x12000; stack_at = 0x13000 }
program-addresses = refl

second-code :
    function_code (addresses_of (items ∷ items ∷ []) globals) 0x10098 items
    ≡ Jal x0 12
    ∷ Lui a0 0x12 ∷ Addi a0 a0 8
    ∷ Auipc ra 0 ∷ Jalr ra ra 0xffffff7c
    ∷ Auipc ra 0 ∷ Jalr ra ra 0xffffffc8
    ∷ Jal x0 0xfffffff0
    ∷ Jalr x0 ra 0
    ∷ []
second-code = refl

fixed-bytes : (laid_out (items ∷ items ∷ []) globals 0).fixed ≡ 0 ∷ 0x10 ∷ 1 ∷ 0 ∷ 0 ∷ 0 ∷ 0 ∷ 0 ∷ []
fixed-bytes = refl

other-bytes :
    (laid_out (items ∷ items ∷ []) globals 0).globals
    ≡ 0 ∷ 0 ∷ 0 ∷ 0 ∷ 0 ∷ 0 ∷ 0 ∷ 0 ∷ 7 ∷ 0 ∷ 0x10 ∷ 1 ∷ 0 ∷ 0 ∷ 0 ∷ 0 ∷ 0 ∷ 0 ∷ 0 ∷ 0 ∷ []
other-bytes = refl
