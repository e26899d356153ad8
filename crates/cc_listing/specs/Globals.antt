-- What is said of the globals: each by its name, with its words in the image.
use Rattle.std.specs.Prelude.{ℕ, ◌+◌, ◌*◌, ◌/◌, ◌==◌, Bool, true, false, if◌then◌else◌, List, [], ◌∷◌, ◌++◌, codes, decimal, length, take, drop, slice_get, unwrap_or}
use Rattle.g_graph.specs.Plain.{PlainDelta}
use Rattle.rv_layout.specs.Globals.{is_where}
use Rattle.cc_listing.specs.Words.{word_digits}

-- so many words that are zero
abbrev pub zeros_text : ℕ → List ℕ
zeros_text n = if n == 0 then [] else codes "\t.zero\t" ++ decimal (4 * n) ++ codes "\n"

abbrev pub word_text : ℕ → List ℕ
word_text w = codes "\t.4byte\t0x" ++ word_digits w ++ codes "\n"

-- words after so many that are zero; zeros that stand together are one line
abbrev pub data_text : (zeros : ℕ) → List ℕ → List ℕ
data_text n [] = zeros_text n
data_text n (w ∷ ws) = if w == 0 then data_text (n + 1) ws else zeros_text n ++ word_text w ++ data_text 0 ws

-- a global that has no name, as a string literal, goes by its number
abbrev pub name_or_number : (name : List ℕ) → ℕ → List ℕ
name_or_number [] k = codes "$" ++ decimal k
name_or_number (c ∷ cs) k = c ∷ cs

abbrev pub global_name : (names : List (List ℕ)) → ℕ → List ℕ
global_name names k = name_or_number (unwrap_or (slice_get names k) []) k

-- the size of a symbol in bytes
abbrev pub size_text : (name : List ℕ) → (size : ℕ) → List ℕ
size_text name size = codes "\t.size\t\"" ++ name ++ codes "\", " ++ decimal size ++ codes "\n"

abbrev pub label_text : (name : List ℕ) → List ℕ
label_text name = codes "\"" ++ name ++ codes "\":\n"

-- the symbol of a global
abbrev pub object_text : (name : List ℕ) → (size : ℕ) → List ℕ
object_text name size = codes "\t.type\t\"" ++ name ++ codes "\", @object\n" ++ size_text name size ++ label_text name

-- the words of a global: those of its bytes, and a zero
abbrev pub room_words : PlainDelta → ℕ
room_words d = (length d.bytes + 3) / 4 + 1

-- the globals from a number on that never change, or the others, whose words come first among these
abbrev pub section_text : (names : List (List ℕ)) → (fixed : Bool) → (number : ℕ) → List PlainDelta → (words : List ℕ) → List ℕ
section_text names fixed k [] ws = []
section_text names fixed k (d ∷ ds) ws =
    if is_where fixed d then
    object_text (global_name names k) (length d.bytes) ++ data_text 0 (take (room_words d) ws)
    ++ section_text names fixed (k + 1) ds (drop (room_words d) ws)
    else section_text names fixed (k + 1) ds ws

abbrev pub fixed_text : (names : List (List ℕ)) → List PlainDelta → (words : List ℕ) → List ℕ
fixed_text names ds ws = codes "\n\t.section\t.rodata\n" ++ section_text names true 0 ds ws

-- The first word of the other globals is the buffer of the stubs, and a zero follows it.
abbrev pub buffer_text : List ℕ
buffer_text = codes "\n\t.data\n\t.type\t\"$buffer\", @object\n\t.size\t\"$buffer\", 4\n\"$buffer\":\n\t.zero\t8\n"

abbrev pub others_text : (names : List (List ℕ)) → List PlainDelta → (words : List ℕ) → List ℕ
others_text names ds ws = buffer_text ++ section_text names false 0 ds (drop 2 ws)
