-- The words of bytes, one after the other.
use Rattle.std.proofs.Common.{◌≡◌, ℕ, ◌+◌, ◌*◌, ◌/◌, ◌<◌, ◌≤◌, refl, ap, sym, ◌∙◌, List, [], ◌∷◌, ◌++◌, drop, length, slice_index, append_assoc, arith}
use Rattle.std.proofs.lemmas.List.{drop_more, length-drop}
use Rattle.std.specs.Int.{from_le_bytes, w32}
use Rattle.cc_listing.specs.Words.{words_in}

-- the word of four bytes from an offset on
abbrev pub word_from : List ℕ → (n : ℕ) → ℕ
word_from bs n = from_le_bytes w32 (slice_index bs n ∷ slice_index bs (n + 1) ∷ slice_index bs (n + 2) ∷ slice_index bs (n + 3) ∷ [])

fewer_than_four : (bs : List ℕ) → length bs < 4 → words_in bs ≡ []
fewer_than_four [] h = refl
fewer_than_four (a ∷ []) h = refl
fewer_than_four (a ∷ b ∷ []) h = refl
fewer_than_four (a ∷ b ∷ c ∷ []) h = refl
fewer_than_four (a ∷ b ∷ c ∷ d ∷ bs) h = absurd (omega arith)

pub next_word : (bs : List ℕ) (n : ℕ) → n + 4 ≤ length bs → words_in (drop n bs) ≡ word_from bs n ∷ words_in (drop (n + 4) bs)
next_word bs n h =
    let second : n + 1 + 1 ≡ n + 2 = omega arith in
    let third : n + 2 + 1 ≡ n + 3 = omega arith in
    let fourth : n + 3 + 1 ≡ n + 4 = omega arith in
    let a = slice_index bs n in
    let b = slice_index bs (n + 1) in
    let c = slice_index bs (n + 2) in
    let d = slice_index bs (n + 3) in
    ap words_in
    (drop_more bs n 0 (omega arith)
    ∙ ap (λ xs. a ∷ xs) (drop_more bs (n + 1) 0 (omega arith) ∙ ap (λ k. b ∷ drop k bs) second)
    ∙ ap (λ xs. a ∷ b ∷ xs) (drop_more bs (n + 2) 0 (omega arith) ∙ ap (λ k. c ∷ drop k bs) third)
    ∙ ap (λ xs. a ∷ b ∷ c ∷ xs) (drop_more bs (n + 3) 0 (omega arith) ∙ ap (λ k. d ∷ drop k bs) fourth))

pub no_more_words : (bs : List ℕ) (n : ℕ) → length bs < n + 4 → words_in (drop n bs) ≡ []
no_more_words bs n h = fewer_than_four (drop n bs) (omega (arith, length-drop n bs))

pub words_step : (bs ws ws' : List ℕ) (i w : ℕ) → i < length bs / 4 → ws ++ words_in (drop (4 * i) bs) ≡ words_in bs
    → w ≡ word_from bs (4 * i) → ws' ≡ ws ++ w ∷ [] → ws' ++ words_in (drop (4 * (i + 1)) bs) ≡ words_in bs
words_step bs ws ws' i w below so_far is pushed =
    let next : 4 * (i + 1) ≡ 4 * i + 4 = omega arith in
    let later = words_in (drop (4 * i + 4) bs) in
    ap (λ n. ws' ++ words_in (drop n bs)) next
    ∙ ap (λ xs. xs ++ later) (pushed ∙ ap (λ x. ws ++ x ∷ []) is)
    ∙ append_assoc ws (word_from bs (4 * i) ∷ []) later
    ∙ ap (λ xs. ws ++ xs) (sym (next_word bs (4 * i) (omega arith)))
    ∙ so_far
