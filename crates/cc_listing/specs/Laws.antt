-- What holds of listings.
use Rattle.std.specs.Prelude.{◌≡◌, ℕ, ◌+◌, ◌/◌, Option, List, [], ◌∷◌, ◌++◌, map, take, drop}
use Rattle.std.specs.List.{flat_map}
use Rattle.elf_file.specs.Header.{word}
use Rattle.g_graph.specs.Plain.{PlainObject, PlainLambda, PlainOmega}
use Rattle.s_linear.specs.Frame.{PlainPlaces}
use Rattle.s_linear.specs.Lines.{Line}
use Rattle.s_linear.specs.declared.frame.CodeForm.TheVariants.{Plain}
use Rattle.a_place.specs.Places.{places}
use Rattle.rv_isa.specs.declared.instruction.Instr.{Instr}
use Rattle.rv_layout.specs.Items.{items_size, label_at}
use Rattle.rv_layout.specs.Layout.{Addresses, addresses_of, functions_at, items_code}
use Rattle.rv_layout.specs.Sequences.{bytes_of}
use Rattle.s_select.specs.Templates.{line_items}
use Rattle.cc_emit.specs.Image.{lines_of, code_size, function_items, image_of, CanEmit}
use Rattle.cc_listing.specs.Lines.{Listed, lines_from}
use Rattle.cc_listing.specs.Words.{words_in}

-- the words of lines, as they are listed
abbrev pub words_listed : List Listed → List ℕ
words_listed = flat_map (λ (x : Listed). x.words)

-- the words of code
abbrev pub code_words : List Instr → List ℕ
code_words code = words_in (bytes_of code)

-- lines, each with the words of its own items
abbrev pub lines_with_code : Addresses → (labels : ℕ → Option ℕ) → PlainPlaces → List PlainObject → (position at : ℕ) → List Line → List Listed
lines_with_code a labels p os i at [] = []
lines_with_code a labels p os i at (l ∷ ls) =
    record { position = i; line = l; at = at; words = code_words (items_code a labels at (line_items p os l)) }
    ∷ lines_with_code a labels p os (i + 1) (at + items_size (line_items p os l)) ls

-- the lines of functions, with their words as they are listed
abbrev pub functions_lines : (at : ℕ) → List PlainLambda → (words : List ℕ) → List Listed
functions_lines at [] ws = []
functions_lines at (l ∷ ls) ws =
    lines_from (places (lines_of l)) l.objects 0 at (lines_of l) ws ++ functions_lines (at + code_size Plain l) ls (drop (code_size Plain l / 4) ws)

-- the lines of functions, with the words of their own items
abbrev pub functions_with_code : Addresses → (at : ℕ) → List PlainLambda → List Listed
functions_with_code a at [] = []
functions_with_code a at (l ∷ ls) =
    lines_with_code a (λ k. label_at k at (function_items Plain l)) (places (lines_of l)) l.objects 0 at (lines_of l)
    ++ functions_with_code a (at + code_size Plain l) ls

-- Each line that is listed of an image has the words of its own items, at their addresses.
abbrev pub WordsAreOfTheirLines : Type 0
WordsAreOfTheirLines =
    (omega : PlainOmega) (ls : List PlainLambda)
    → functions_lines functions_at ls (drop 29 (words_in (image_of Plain omega ls).text))
    ≡ functions_with_code (addresses_of (map (function_items Plain) ls) omega.deltas) functions_at ls

-- The words that are listed of an image are those of its text, each once, in order; and as bytes they are its text.
pub record IsTheText (omega : PlainOmega) (ls : List PlainLambda) (words : List ℕ) : Type 0 where
  pub listed : take 8 words ++ take 9 (drop 8 words) ++ take 12 (drop 17 words) ++ words_listed (functions_lines functions_at ls (drop 29 words)) ≡ words
  pub bytes : flat_map word words ≡ (image_of Plain omega ls).text

abbrev pub WordsAreTheText : Type 0
WordsAreTheText = (omega : PlainOmega) (ls : List PlainLambda) → CanEmit omega ls → IsTheText omega ls (words_in (image_of Plain omega ls).text)
