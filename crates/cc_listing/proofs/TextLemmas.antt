-- The words that are listed of an image are those of its text.
use Rattle.std.proofs.Common.{◌≡◌, ℕ, zero, suc, ◌+◌, ◌/◌, ◌<◌, refl, ap, ap₂, sym, ◌∙◌, List, [], ◌∷◌, ◌++◌, take, drop, length, get_or, map, flat_map, sum_by, append_assoc, arith}
use Rattle.std.proofs.Math.Seq.{take-add, take-length}
use Rattle.std.proofs.lemmas.List.{drop-drop, length-drop, take-append-drop}
use Rattle.std.proofs.lemmas.Grind.{flat_map-append}
use Rattle.std.proofs.lemmas.List.Sums.{sum_by-cons}
use Rattle.std.proofs.lemmas.Nat.{le_bytes_4}
use Rattle.std.specs.Int.{from_le_bytes, w32}
use Rattle.elf_file.specs.Header.{word}
use Rattle.g_graph.specs.Plain.{PlainLambda}
use Rattle.s_linear.specs.declared.frame.CodeForm.TheVariants.{Plain}
use Rattle.a_place.specs.Places.{places}
use Rattle.rv_isa.specs.Words.{word_of}
use Rattle.rv_isa.specs.declared.instruction.Instr.{Instr}
use Rattle.rv_layout.specs.Sequences.{bytes_of}
use Rattle.rv_layout.specs.Layout.{addresses_of, functions_at, text_of}
use Rattle.cc_emit.specs.Image.{lines_of, function_items, code_size, main_of, image_of}
use Rattle.cc_listing.specs.Words.{words_in}
use Rattle.cc_listing.specs.Lines.{Listed, lines_from}
use Rattle.cc_listing.specs.Laws.{words_listed, functions_lines, WordsAreTheText}
use Rattle.cc_listing.proofs.Cut.{lines_words}
use Rattle.cc_listing.proofs.ImageLemmas.{four_sum, words_length}
use Rattle.cc_listing.proofs.Listed.{four_code}

-- ---- bytes

byte_small : (x i : ℕ) → get_or (word x) i 0 < 256
byte_small x zero = omega arith
byte_small x (suc zero) = omega arith
byte_small x (suc (suc zero)) = omega arith
byte_small x (suc (suc (suc zero))) = omega arith
byte_small x (suc (suc (suc (suc i)))) = omega arith

same_bytes : (x : ℕ) → word (from_le_bytes w32 (word x)) ≡ word x
same_bytes x = le_bytes_4 (word x) (from_le_bytes w32 (word x)) refl (byte_small x) refl

code_bytes : (code : List Instr) → flat_map word (words_in (bytes_of code)) ≡ bytes_of code
unfolding bytes_of
code_bytes [] = refl
code_bytes (i ∷ is) = ap₂ (λ xs ys. xs ++ ys) (same_bytes (word_of i)) (code_bytes is)

-- ---- words

functions_taken : (at : ℕ) (ls : List PlainLambda) (ws : List ℕ) → words_listed (functions_lines at ls ws) ≡ take (sum_by (code_size Plain) ls / 4) ws
functions_taken at [] ws = refl
functions_taken at (l ∷ ls) ws =
    let n = code_size Plain l / 4 in
    let sum : sum_by (code_size Plain) (l ∷ ls) / 4 ≡ n + sum_by (code_size Plain) ls / 4 = omega (arith, sum_by-cons (code_size Plain) l ls, four_code l, four_sum ls) in
    flat_map-append (λ (x : Listed). x.words) (lines_from (places (lines_of l)) l.objects 0 at (lines_of l) ws)
    (functions_lines (at + code_size Plain l) ls (drop n ws))
    ∙ ap₂ (λ xs ys. xs ++ ys) (lines_words (places (lines_of l)) l.objects 0 at (lines_of l) ws) (functions_taken (at + code_size Plain l) ls (drop n ws))
    ∙ sym (take-add n (sum_by (code_size Plain) ls / 4) ws)
    ∙ ap (λ k. take k ws) (sym sum)

-- 8, 9 and 12 words, and those after them
in_parts : (ws : List ℕ) → take 8 ws ++ take 9 (drop 8 ws) ++ take 12 (drop 17 ws) ++ drop 29 ws ≡ ws
in_parts ws =
    let first = take 8 ws in
    let second = take 9 (drop 8 ws) in
    let third = take 12 (drop 17 ws) in
    append_assoc (first ++ second) third (drop 29 ws)
    ∙ ap (λ xs. first ++ second ++ xs) (ap (λ xs. third ++ xs) (sym (drop-drop 12 17 ws)) ∙ take-append-drop 12 (drop 17 ws))
    ∙ append_assoc first second (drop 17 ws)
    ∙ ap (λ xs. first ++ xs) (ap (λ xs. second ++ xs) (sym (drop-drop 9 8 ws)) ∙ take-append-drop 9 (drop 8 ws))
    ∙ take-append-drop 8 ws

pub words_are_the_text : WordsAreTheText
words_are_the_text program ls can =
    let functions = map (function_items Plain) ls in
    let text = (image_of Plain program ls).text in
    let ws = words_in text in
    let rest = drop 29 ws in
    let count : sum_by (code_size Plain) ls / 4 ≡ length rest = omega (arith, words_length program ls can, length-drop 29 ws) in
    record {
      listed =
          ap (λ xs. take 8 ws ++ take 9 (drop 8 ws) ++ take 12 (drop 17 ws) ++ xs)
          (functions_taken functions_at ls rest ∙ ap (λ n. take n rest) count ∙ take-length rest)
          ∙ in_parts ws;
      bytes = code_bytes (text_of (addresses_of functions program.deltas) functions (main_of program));
    }
