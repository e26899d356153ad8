-- Words cut by the sizes of lines.
use Rattle.std.proofs.Common.{◌≡◌, ℕ, ◌+◌, ◌*◌, ◌/◌, refl, ap, sym, ◌∙◌, Option, List, [], ◌∷◌, ◌++◌, map, take, drop, length, append_assoc, arith}
use Rattle.std.proofs.Math.Seq.{take-add, take-append_seam, drop-append_seam}
use Rattle.std.proofs.lemmas.List.{length-append}
use Rattle.std.proofs.lemmas.List.Sums.{sum_by-cons, sum_by-append}
use Rattle.std.specs.Int.{from_le_bytes, w32}
use Rattle.elf_file.specs.Header.{word}
use Rattle.g_graph.specs.Plain.{PlainObject, PlainLambda}
use Rattle.s_linear.specs.Frame.{PlainPlaces}
use Rattle.s_linear.specs.Lines.{Line}
use Rattle.s_linear.specs.declared.frame.CodeForm.TheVariants.{Plain}
use Rattle.a_place.specs.Places.{places}
use Rattle.rv_isa.specs.Words.{word_of}
use Rattle.rv_isa.specs.declared.instruction.Instr.{Instr}
use Rattle.rv_layout.specs.declared.item.Item.{Item}
use Rattle.rv_layout.specs.declared.item.Item.TheVariants.{Word, Mark, Jump, Call, Stub, Address}
use Rattle.rv_layout.specs.Sequences.{bytes_of}
use Rattle.rv_layout.specs.Items.{item_size, items_size, label_at}
use Rattle.rv_layout.specs.Layout.{Addresses, addresses_of, functions_at, item_code, items_code, function_code, functions_code, text_of}
use Rattle.s_select.specs.Templates.{line_items, items_of}
use Rattle.cc_emit.specs.Image.{lines_of, function_items, code_size, main_of}
use Rattle.cc_listing.specs.Lines.{count_of, lines_from}
use Rattle.cc_listing.specs.Laws.{words_listed, code_words, lines_with_code, functions_lines, functions_with_code, WordsAreOfTheirLines}

-- ---- sizes

-- each item has a multiple of four bytes
pub four_bytes : (xs : List Item) → items_size xs ≡ 4 * (items_size xs / 4)
four_bytes [] = refl
four_bytes (Word i ∷ xs) = omega (arith, sum_by-cons item_size (Word i) xs, four_bytes xs)
four_bytes (Mark l ∷ xs) = omega (arith, sum_by-cons item_size (Mark l) xs, four_bytes xs)
four_bytes (Jump l ∷ xs) = omega (arith, sum_by-cons item_size (Jump l) xs, four_bytes xs)
four_bytes (Call f ∷ xs) = omega (arith, sum_by-cons item_size (Call f) xs, four_bytes xs)
four_bytes (Stub s ∷ xs) = omega (arith, sum_by-cons item_size (Stub s) xs, four_bytes xs)
four_bytes (Address r k ∷ xs) = omega (arith, sum_by-cons item_size (Address r k) xs, four_bytes xs)

-- the words of items one after the other
pub count-append : (xs ys : List Item) → items_size (xs ++ ys) / 4 ≡ items_size xs / 4 + items_size ys / 4
count-append xs ys = omega (arith, sum_by-append item_size xs ys, four_bytes xs, four_bytes ys)

-- the items of one line more
pub next_size : (p : PlainPlaces) (os : List PlainObject) (l : Line) (ls : List Line)
    → items_size (items_of p os (l ∷ ls)) ≡ items_size (line_items p os l) + items_size (items_of p os ls)
next_size p os l ls = sum_by-append item_size (line_items p os l) (items_of p os ls)

-- ---- code

item_bytes : (a : Addresses) (f : ℕ → Option ℕ) (at : ℕ) (x : Item) → item_size x ≡ 4 * length (item_code a f at x)
item_bytes a f at (Word i) = refl
item_bytes a f at (Mark l) = refl
item_bytes a f at (Jump l) = refl
item_bytes a f at (Call k) = refl
item_bytes a f at (Stub s) = refl
item_bytes a f at (Address r k) = refl

length-items_code : (a : Addresses) (f : ℕ → Option ℕ) (at : ℕ) (xs : List Item) → items_size xs ≡ 4 * length (items_code a f at xs)
length-items_code a f at [] = refl
length-items_code a f at (x ∷ xs) =
    omega
    (arith, sum_by-cons item_size x xs, item_bytes a f at x, length-items_code a f (at + item_size x) xs, length-append (item_code a f at x) (items_code a f (at + item_size x) xs))

code-append : (a : Addresses) (f : ℕ → Option ℕ) (at : ℕ) (xs ys : List Item)
    → items_code a f at (xs ++ ys) ≡ items_code a f at xs ++ items_code a f (at + items_size xs) ys
code-append a f at [] ys =
    let same : at ≡ at + items_size [] = omega arith in
    ap (λ n. items_code a f n ys) same
code-append a f at (x ∷ xs) ys =
    let next = at + item_size x in
    let same : next + items_size xs ≡ at + items_size (x ∷ xs) = omega (arith, sum_by-cons item_size x xs) in
    ap (λ c. item_code a f at x ++ c) (code-append a f next xs ys ∙ ap (λ n. items_code a f next xs ++ items_code a f n ys) same)
    ∙ sym (append_assoc (item_code a f at x) (items_code a f next xs) (items_code a f (at + items_size (x ∷ xs)) ys))

-- ---- words

code_words-append : (c d : List Instr) → code_words (c ++ d) ≡ code_words c ++ code_words d
unfolding bytes_of
code_words-append [] d = refl
code_words-append (i ∷ is) d = ap (λ ws. from_le_bytes w32 (word (word_of i)) ∷ ws) (code_words-append is d)

length-code_words : (c : List Instr) → length (code_words c) ≡ length c
unfolding bytes_of
length-code_words [] = refl
length-code_words (i ∷ is) = omega (arith, length-code_words is)

-- those of items are as many as their size says
count_words : (a : Addresses) (f : ℕ → Option ℕ) (at : ℕ) (xs : List Item) → items_size xs / 4 ≡ length (code_words (items_code a f at xs))
count_words a f at xs = omega (arith, length-items_code a f at xs, length-code_words (items_code a f at xs))

-- ---- lines

pub lines_words : (p : PlainPlaces) (os : List PlainObject) (i at : ℕ) (ls : List Line) (ws : List ℕ)
    → words_listed (lines_from p os i at ls ws) ≡ take (items_size (items_of p os ls) / 4) ws
lines_words p os i at [] ws = refl
lines_words p os i at (l ∷ ls) ws =
    let n = count_of p os l in
    let next = at + items_size (line_items p os l) in
    ap (λ t. take n ws ++ t) (lines_words p os (i + 1) next ls (drop n ws))
    ∙ sym (take-add n (items_size (items_of p os ls) / 4) ws)
    ∙ ap (λ k. take k ws) (sym (count-append (line_items p os l) (items_of p os ls)))

-- the words of lines with others after them
lines_have_code : (a : Addresses) (f : ℕ → Option ℕ) (p : PlainPlaces) (os : List PlainObject) (i at : ℕ) (ls : List Line) (rest : List ℕ)
    → lines_from p os i at ls (code_words (items_code a f at (items_of p os ls)) ++ rest) ≡ lines_with_code a f p os i at ls
lines_have_code a f p os i at [] rest = refl
lines_have_code a f p os i at (l ∷ ls) rest =
    let items = line_items p os l in
    let next = at + items_size items in
    let here = code_words (items_code a f at items) in
    let later = code_words (items_code a f next (items_of p os ls)) ++ rest in
    let whole : code_words (items_code a f at (items_of p os (l ∷ ls))) ++ rest ≡ here ++ later =
    ap (λ c. code_words c ++ rest) (code-append a f at items (items_of p os ls))
    ∙ ap (λ ws. ws ++ rest) (code_words-append (items_code a f at items) (items_code a f next (items_of p os ls)))
    ∙ append_assoc here (code_words (items_code a f next (items_of p os ls))) rest in
    let count : count_of p os l ≡ length here = count_words a f at items in
    let first : take (count_of p os l) (here ++ later) ≡ here = ap (λ n. take n (here ++ later)) count ∙ take-append_seam here later in
    let others : drop (count_of p os l) (here ++ later) ≡ later = ap (λ n. drop n (here ++ later)) count ∙ drop-append_seam here later in
    ap (lines_from p os i at (l ∷ ls)) whole
    ∙ ap (λ ws. record { position = i; line = l; at = at; words = ws } ∷ lines_from p os (i + 1) next ls (drop (count_of p os l) (here ++ later))) first
    ∙ ap (λ ws. record { position = i; line = l; at = at; words = here } ∷ lines_from p os (i + 1) next ls ws) others
    ∙ ap (λ t. record { position = i; line = l; at = at; words = here } ∷ t) (lines_have_code a f p os (i + 1) next ls rest)

-- ---- functions

functions_have_code : (a : Addresses) (at : ℕ) (ls : List PlainLambda)
    → functions_lines at ls (code_words (functions_code a at (map (function_items Plain) ls))) ≡ functions_with_code a at ls
functions_have_code a at [] = refl
functions_have_code a at (l ∷ ls) =
    let labels = λ (k : ℕ). label_at k at (function_items Plain l) in
    let next = at + code_size Plain l in
    let own = lines_from (places (lines_of l)) l.objects 0 at (lines_of l) in
    let here = code_words (function_code a at (function_items Plain l)) in
    let later = code_words (functions_code a next (map (function_items Plain) ls)) in
    let whole : code_words (functions_code a at (map (function_items Plain) (l ∷ ls))) ≡ here ++ later =
    code_words-append (function_code a at (function_items Plain l)) (functions_code a next (map (function_items Plain) ls)) in
    let others : drop (code_size Plain l / 4) (here ++ later) ≡ later =
    ap (λ n. drop n (here ++ later)) (count_words a labels at (function_items Plain l)) ∙ drop-append_seam here later in
    ap (functions_lines at (l ∷ ls)) whole
    ∙ ap (λ xs. xs ++ functions_lines next ls (drop (code_size Plain l / 4) (here ++ later)))
    (lines_have_code a labels (places (lines_of l)) l.objects 0 at (lines_of l) later)
    ∙ ap (λ ws. lines_with_code a labels (places (lines_of l)) l.objects 0 at (lines_of l) ++ functions_lines next ls ws) others
    ∙ ap (λ xs. lines_with_code a labels (places (lines_of l)) l.objects 0 at (lines_of l) ++ xs) (functions_have_code a next ls)

-- the functions come after the start code and the stubs
after_stubs : (a : Addresses) (fs : List (List Item)) (main : ℕ) → drop 29 (code_words (text_of a fs main)) ≡ code_words (functions_code a functions_at fs)
unfolding bytes_of
after_stubs a fs main = refl

pub words_of_their_lines : WordsAreOfTheirLines
words_of_their_lines program ls =
    let fs = map (function_items Plain) ls in
    let a = addresses_of fs program.deltas in
    ap (functions_lines functions_at ls) (after_stubs a fs (main_of program)) ∙ functions_have_code a functions_at ls
