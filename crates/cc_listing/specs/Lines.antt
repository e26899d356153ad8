-- The listing of a function: each line of its linear code with the words of the line's items below it.
use Rattle.std.specs.Prelude.{◌≡◌, ℕ, ◌+◌, ◌/◌, List, [], ◌∷◌, ◌++◌, codes, decimal, take, drop, slice_get, unwrap_or}
use Rattle.std.specs.List.{flat_map}
use Rattle.elf_file.specs.Image.{Sections, text_at}
use Rattle.g_graph.specs.Plain.{PlainDelta, PlainLambda, PlainObject, PlainOmega}
use Rattle.s_linear.specs.Frame.{PlainPlaces, frame_size}
use Rattle.s_linear.specs.Linear as linear
use Rattle.s_linear.specs.Linear.{Instr}
use Rattle.s_linear.specs.Lines.{Line, done}
use Rattle.s_linear.specs.declared.frame.CodeForm.TheVariants.{Plain}
use Rattle.a_place.specs.Places.{places}
use Rattle.rv_layout.specs.Items.{items_size}
use Rattle.rv_layout.specs.Layout.{put_at, get_at, functions_at}
use Rattle.s_select.specs.Templates.{line_items}
use Rattle.s_linear.specs.Texts.{line_text}
use Rattle.cc_emit.specs.Image.{lines_of, code_size, image_of}
use Rattle.cc_listing.specs.Words.{words_in, words_text}
use Rattle.cc_listing.specs.Symbols.{commands_text, foot_text, stub_text, symbol_text}
use Rattle.cc_listing.specs.Globals.{fixed_text, others_text}

-- a line and its position, the address of its first word, and its words
pub record Listed : Type 0 where
  pub position : ℕ
  pub line : Line
  pub at : ℕ
  pub words : List ℕ

-- how many words the items of a line have
abbrev pub count_of : PlainPlaces → List PlainObject → Line → ℕ
count_of p os line = items_size (line_items p os line) / 4

-- the lines from a position on, with the words from an address on: each has as many as its items
abbrev pub lines_from : PlainPlaces → List PlainObject → (position at : ℕ) → List Line → (words : List ℕ) → List Listed
lines_from p os i at [] ws = []
lines_from p os i at (l ∷ ls) ws =
    record { position = i; line = l; at = at; words = take (count_of p os l) ws }
    ∷ lines_from p os (i + 1) (at + items_size (line_items p os l)) ls (drop (count_of p os l) ws)

-- ---- their texts

-- the name of the function of a number, and an empty one where there is none
abbrev pub name_at : (names : List (List ℕ)) → (function : ℕ) → List ℕ
name_at names f = unwrap_or (slice_get names f) []

-- what a call among the words of an instruction leads to
abbrev pub instr_callee : (names : List (List ℕ)) → Instr → List ℕ
instr_callee names (linear.call f t xs) = name_at names f
instr_callee names (linear.put a) = codes "$put"
instr_callee names (linear.get t) = codes "$get"
instr_callee names _ = []

abbrev pub callee : (names : List (List ℕ)) → Line → List ℕ
callee names (done i) = instr_callee names i
callee names _ = []

abbrev pub listed_text : (names : List (List ℕ)) → Listed → List ℕ
listed_text names x =
    codes "# " ++ decimal x.position ++ codes " " ++ line_text x.line ++ codes "\n" ++ words_text (callee names x.line) x.at x.words

-- ---- functions

abbrev pub place_text : (name place : ℕ) → List ℕ
place_text x p = codes " n" ++ decimal x ++ codes ":" ++ decimal p

-- the place of each name, from a name on
abbrev pub places_text : (name : ℕ) → List ℕ → List ℕ
places_text x [] = codes "\n"
places_text x (p ∷ ps) = place_text x p ++ places_text (x + 1) ps

-- the symbol of a function that others see
abbrev pub global_text : (name : List ℕ) → List ℕ
global_text name = codes "\t.globl\t\"" ++ name ++ codes "\"\n" ++ symbol_text name

-- what stands before the lines: the frame, the places and the symbol
abbrev pub head_text : (name : List ℕ) → (size : ℕ) → (places : List ℕ) → List ℕ
head_text name size of = codes "\n# frame " ++ decimal size ++ codes ", places" ++ places_text 0 of ++ global_text name

-- the function of this name, of which these are the places, the memory objects and the linear code
abbrev pub placed_text : (names : List (List ℕ)) → (name : List ℕ) → PlainPlaces → List PlainObject → List Line → (at : ℕ) → (words : List ℕ) → List ℕ
placed_text names name p os ls at ws =
    head_text name (frame_size p.count os) p.of ++ flat_map (listed_text names) (lines_from p os 0 at ls ws) ++ foot_text name

abbrev pub function_text : (names : List (List ℕ)) → (name : List ℕ) → PlainLambda → (at : ℕ) → (words : List ℕ) → List ℕ
function_text names name l at ws = placed_text names name (places (lines_of l)) l.objects (lines_of l) at ws

-- the functions from a number on, the first word at an address
unfoldable pub functions_text : (names : List (List ℕ)) → (number at : ℕ) → List PlainLambda → (words : List ℕ) → List ℕ
functions_text names f at [] ws = []
functions_text names f at (l ∷ ls) ws =
    function_text names (name_at names f) l at ws ++ functions_text names (f + 1) (at + code_size Plain l) ls (drop (code_size Plain l / 4) ws)

-- ---- images

-- the start code, of 8 words, and the stubs, of 9 and 12
unfoldable pub start_text : (words : List ℕ) → List ℕ
start_text ws =
    stub_text (codes "$start") (codes "main") text_at (take 8 ws)
    ++ stub_text (codes "$put") [] put_at (take 9 (drop 8 ws))
    ++ stub_text (codes "$get") [] get_at (take 12 (drop 17 ws))

-- the words of a text
unfoldable pub text_of : (names : List (List ℕ)) → List PlainLambda → (words : List ℕ) → List ℕ
text_of names ls ws = start_text ws ++ functions_text names 0 functions_at ls (drop 29 ws)

-- the sections of an image of these functions and globals
abbrev pub sections_text : (names globals : List (List ℕ)) → List PlainLambda → List PlainDelta → Sections → List ℕ
sections_text names globals ls ds image =
    commands_text image.fixed_at image.data_at ++ text_of names ls (words_in image.text)
    ++ fixed_text globals ds (words_in image.fixed) ++ others_text globals ds (words_in image.globals)

-- the listing of the image of these lambdas, with some names of the globals
pub record IsListing (omega : PlainOmega) (ls : List PlainLambda) (text : List ℕ) : Type 0 where
  pub globals : List (List ℕ)
  pub all : text ≡ sections_text omega.names globals ls omega.deltas (image_of Plain omega ls)
