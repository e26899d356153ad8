-- Line ends, blanks and include lines of a source.
use Rattle.std.proofs.Common.{◌≡◌, ◌⊎◌, ℕ, zero, suc, ◌+◌, ◌-◌, ◌<◌, ◌≤◌, Bool, true, false, cond, not, eqb, ◌&&◌, List, [], ◌∷◌, ◌++◌, length, take, drop, Option, Some, None, codes, refl, sym, ap, ◌∙◌, arith, inl, inr, append_assoc}
use Rattle.std.specs.Prelude.{◌==◌, nat_eq, slice_index, slice_range}
use Rattle.std.specs.Option.{option_and_then, option_map_or}
use Rattle.std.specs.List.{list_all, prefix_len, starts_with}
use Rattle.std.proofs.lemmas.Bool.{and_parts, not-true, eqb-true, ne_eqb, both_ways}
use Rattle.std.proofs.lemmas.Bool.Decides.{nat_tests}
use Rattle.std.proofs.lemmas.List.{length-take-le, length-drop, length-append, drop_at, drop_all, drop-drop, get_or-drop, get_or-take, append-nil}
use Rattle.c_lex.specs.Classes.{is_name_byte, is_number_byte, is_line_end, is_inner_blank}
use Rattle.c_lex.specs.Trivia.{include_len, past_include, past, past_blanks, past_header, ends_line}
use Rattle.c_lex.specs.Lexemes.{start_of}
use Rattle.c_lex.specs.Grammar.{IsClosed, IsQuoted, IsToken, IsLineStart, IsBlockComment, IsLineComment, IsIncludeLine, AreBlanks}
use Rattle.c_lex.specs.declared.lexeme.Start.{Start}
use Rattle.c_lex.specs.declared.lexeme.Start.TheVariants as start
use Rattle.c_lex.proofs.Reading.{run_before, run_whole, letter_starts, identifier_all, all_append}
use Rattle.c_lex.proofs.Complete.{on_line, punct_on_line, is_punct_start, punct_starts, digit_starts, number_all}

-- ---- lists

pub all_implies : (p q : ℕ → Bool) (xs : List ℕ) → ((b : ℕ) → p b ≡ true → q b ≡ true) → list_all p xs ≡ true → list_all q xs ≡ true
all_implies p q [] h e = refl
all_implies p q (x ∷ xs) h e =
    let both = and_parts (p x) (list_all p xs) e in
    ap (λ t. t && list_all q xs) (h x both.0) ∙ all_implies p q xs h both.1

pub all_at : (p : ℕ → Bool) (xs : List ℕ) (i : ℕ) → i < length xs → list_all p xs ≡ true → p (slice_index xs i) ≡ true
all_at p [] i h e = absurd (omega arith)
all_at p (x ∷ xs) zero h e = (and_parts (p x) (list_all p xs) e).0
all_at p (x ∷ xs) (suc i) h e = all_at p xs i (omega arith) (and_parts (p x) (list_all p xs) e).1

-- what passes a test is no byte that does not
pub other_than : (p : ℕ → Bool) (x b : ℕ) → p x ≡ false → p b ≡ true → not (b == x) ≡ true
other_than p x b none e = ap not (ne_eqb b x (λ same. both_ways (p x) none (ap p (sym same) ∙ e)))

pub line_free : (p : ℕ → Bool) (b : ℕ) → p 10 ≡ false → p b ≡ true → not (is_line_end b) ≡ true
line_free p b none e = other_than p 10 b none e

-- ---- no token passes a line end

pub closed_on_line : (quote : ℕ) (bs : List ℕ) → (quote ≡ 10 → ⊥) → IsClosed quote bs → on_line bs ≡ true
closed_on_line quote [] q10 h = absurd h
closed_on_line quote (b ∷ []) q10 h =
    let free : is_line_end b ≡ false = grind (arith, nat_tests) in
    ap (λ t. not t && true) free
closed_on_line quote (b ∷ c ∷ bs) q10 (inl h) =
    let free : is_line_end b ≡ false = grind (arith, nat_tests, h.0) in
    ap (λ t. not t && on_line (c ∷ bs)) free ∙ closed_on_line quote (c ∷ bs) q10 h.3
closed_on_line quote (b ∷ c ∷ bs) q10 (inr h) =
    let free : is_line_end b ≡ false = grind (arith, nat_tests, h.0) in
    let next : is_line_end c ≡ false = grind (arith, nat_tests, h.1) in
    ap (λ t. not t && (not (is_line_end c) && on_line bs)) free ∙ ap (λ t. not t && on_line bs) next ∙ closed_on_line quote bs q10 h.2

pub quoted_on_line : (quote : ℕ) (bytes : List ℕ) → (quote ≡ 10 → ⊥) → IsQuoted quote bytes → on_line bytes ≡ true
quoted_on_line quote [] q10 h = absurd h
quoted_on_line quote (b ∷ bs) q10 h =
    let free : is_line_end b ≡ false = grind (arith, nat_tests, h.0) in
    ap (λ t. not t && on_line bs) free ∙ closed_on_line quote bs q10 h.1

pub token_on_line : (bytes : List ℕ) → IsToken bytes → on_line bytes ≡ true
token_on_line [] h = refl
token_on_line (b ∷ bs) (inl w) = all_implies is_name_byte (λ c. not (is_line_end c)) (b ∷ bs) (λ c. line_free is_name_byte c refl) (identifier_all b bs w)
token_on_line (b ∷ bs) (inr (inl n)) = all_implies is_number_byte (λ c. not (is_line_end c)) (b ∷ bs) (λ c. line_free is_number_byte c refl) (number_all b bs n)
token_on_line (b ∷ bs) (inr (inr (inl q))) = quoted_on_line 39 (b ∷ bs) (λ e. omega arith) q
token_on_line (b ∷ bs) (inr (inr (inr (inl q)))) = quoted_on_line 34 (b ∷ bs) (λ e. omega arith) q
token_on_line (b ∷ bs) (inr (inr (inr (inr p)))) = ap on_line (sym p.1) ∙ punct_on_line p.0

-- no line begins after bytes that end no line
pub no_start : (source : List ℕ) (end : ℕ) → 0 < end → is_line_end (slice_index source (end - 1)) ≡ false → IsLineStart source end → ⊥
no_start source end some free (inl zero_is) = omega arith
no_start source end some free (inr yes_is) = let e = sym free ∙ yes_is.1 in cc

-- no byte of these ends a line
pub line_within : (source : List ℕ) (at n i : ℕ) → i < n → at + n ≤ length source → on_line (take n (drop at source)) ≡ true → is_line_end (slice_index source (at + i)) ≡ false
line_within source at n i less within free =
    let bytes = take n (drop at source) in
    let size : length bytes ≡ n = length-take-le n (drop at source) (omega (arith, length-drop at source)) in
    let byte : slice_index source (at + i) ≡ slice_index bytes i = sym (get_or-drop at source i 0) ∙ sym (get_or-take n (drop at source) i 0 less) in
    ap is_line_end byte ∙ not-true (is_line_end (slice_index bytes i)) (all_at (λ b. not (is_line_end b)) bytes i (omega arith) free)

pub no_line_after : (source : List ℕ) (at n : ℕ) → 0 < n → at + n ≤ length source → on_line (take n (drop at source)) ≡ true → IsLineStart source (at + n) → ⊥
no_line_after source at n some within free =
    let last : at + (n - 1) ≡ at + n - 1 = omega arith in
    no_start source (at + n) (omega arith) (ap (λ i. is_line_end (slice_index source i)) (sym last) ∙ line_within source at n (n - 1) (omega arith) within free)

-- ---- the first byte of a token begins no include line

pub is_token_start : Start → Bool
is_token_start start.LineEnd = false
is_token_start start.Blank = false
is_token_start start.Hash = false
is_token_start _ = true

pub punct_token : (s : Start) → is_punct_start s ≡ true → is_token_start s ≡ true
unfolding is_token_start
punct_token start.Slash e = refl
punct_token start.Other e = refl
punct_token start.LineEnd e = absurd cc
punct_token start.Blank e = absurd cc
punct_token start.Letter e = refl
punct_token start.Digit e = refl
punct_token start.Quote e = refl
punct_token start.DoubleQuote e = refl
punct_token start.Hash e = absurd cc

pub token_starts : (b : ℕ) (bs : List ℕ) → IsToken (b ∷ bs) → is_token_start (start_of b) ≡ true
unfolding is_token_start start_of
token_starts b bs (inl w) = ap is_token_start (letter_starts b w.0)
token_starts b bs (inr (inl n)) = ap is_token_start (digit_starts b n.0)
token_starts b bs (inr (inr (inl q))) = ap (λ c. is_token_start (start_of c)) q.0
token_starts b bs (inr (inr (inr (inl q)))) = ap (λ c. is_token_start (start_of c)) q.0
token_starts b bs (inr (inr (inr (inr p)))) =
    punct_token (start_of b) (ap (λ (t : List ℕ). is_punct_start (start_of (slice_index t 0))) (sym p.1) ∙ punct_starts p.0)

pub blank_starts : (b : ℕ) → is_inner_blank b ≡ true → start_of b ≡ start.Blank
unfolding start_of
blank_starts b e = let line : is_line_end b ≡ false = not-true (is_line_end b) (line_free is_inner_blank b refl e) in rw (line, e) refl

pub line_starts : (b : ℕ) → is_line_end b ≡ true → start_of b ≡ start.LineEnd
unfolding start_of
line_starts b e = rw e refl

pub token_no_blank : (b : ℕ) → is_token_start (start_of b) ≡ true → is_inner_blank b ≡ false
unfolding is_token_start
token_no_blank b h = by_test (is_inner_blank b) refl
  where
    by_test : (t : Bool) → is_inner_blank b ≡ t → is_inner_blank b ≡ false
    by_test true is = let f = ap is_token_start (sym (blank_starts b is)) ∙ h in absurd cc
    by_test false is = is

pub token_no_hash : (b : ℕ) → is_token_start (start_of b) ≡ true → eqb 35 b ≡ false
unfolding is_token_start start_of
token_no_hash b h = by_test (eqb 35 b) refl
  where
    by_test : (t : Bool) → eqb 35 b ≡ t → eqb 35 b ≡ false
    by_test true is = let f = ap (λ c. is_token_start (start_of c)) (eqb-true 35 b is) ∙ h in absurd cc
    by_test false is = is

-- ---- include lines

pub blanks_past : (xs more : List ℕ) (y : ℕ) → AreBlanks xs → is_inner_blank y ≡ false → past_blanks (xs ++ y ∷ more) ≡ y ∷ more
blanks_past xs more y blanks stop =
    let n = run_before is_inner_blank xs y more blanks stop in
    ap (λ k. drop k (xs ++ y ∷ more)) n ∙ drop_at xs (y ∷ more) (length xs) refl

pub blanks_to_end : (xs following : List ℕ) → AreBlanks xs → ends_line following ≡ true → past_blanks (xs ++ following) ≡ following
blanks_to_end xs [] blanks ends =
    let all : length (xs ++ []) ≡ prefix_len is_inner_blank (xs ++ []) = ap length (append-nil xs) ∙ sym (run_whole is_inner_blank xs blanks) ∙ sym (ap (prefix_len is_inner_blank) (append-nil xs)) in
    drop_all (prefix_len is_inner_blank (xs ++ [])) (xs ++ []) (omega arith)
blanks_to_end xs (y ∷ ys) blanks ends =
    let stop : is_inner_blank y ≡ false = grind (arith, nat_tests) in
    blanks_past xs ys y blanks stop

abbrev pub after_include : List ℕ → Option (List ℕ)
after_include b = option_and_then (λ c. cond (ends_line (past_blanks c)) (Some (past_blanks c)) None) (past_header (past_blanks b))

abbrev pub after_hash : List ℕ → Option (List ℕ)
after_hash a = option_and_then after_include (past (codes "include") (past_blanks a))

pub header_past : (blanks header after following : List ℕ) → (header ≡ codes "<stdio.h>") ⊎ (header ≡ codes "<stdlib.h>") → AreBlanks blanks → AreBlanks after → ends_line following ≡ true →
    after_include (blanks ++ (header ++ (after ++ following))) ≡ Some following
header_past blanks header after following (inl is) h k ends =
    let rest = after ++ following in
    let past_it : past_blanks (blanks ++ (header ++ rest)) ≡ codes "<stdio.h>" ++ rest = ap (λ (t : List ℕ). past_blanks (blanks ++ (t ++ rest))) is
    ∙ blanks_past blanks (drop 1 (codes "<stdio.h>") ++ rest) 60 h refl in
    let tail = blanks_to_end after following k ends in
    ap (λ (t : List ℕ). option_and_then (λ c. cond (ends_line (past_blanks c)) (Some (past_blanks c)) None) (past_header t)) past_it
    ∙ ap (λ (t : List ℕ). cond (ends_line t) (Some t) None) tail ∙ ap (λ t. cond t (Some following) None) ends
header_past blanks header after following (inr is) h k ends =
    let rest = after ++ following in
    let past_it : past_blanks (blanks ++ (header ++ rest)) ≡ codes "<stdlib.h>" ++ rest = ap (λ (t : List ℕ). past_blanks (blanks ++ (t ++ rest))) is
    ∙ blanks_past blanks (drop 1 (codes "<stdlib.h>") ++ rest) 60 h refl in
    let tail = blanks_to_end after following k ends in
    ap (λ (t : List ℕ). option_and_then (λ c. cond (ends_line (past_blanks c)) (Some (past_blanks c)) None) (past_header t)) past_it
    ∙ ap (λ (t : List ℕ). cond (ends_line t) (Some t) None) tail ∙ ap (λ t. cond t (Some following) None) ends

pub include_found : (bytes following : List ℕ) → IsIncludeLine bytes following → past_include (bytes ++ following) ≡ Some following
unfolding past_include
include_found bytes following h =
    let rest = h.header ++ (h.after ++ following) in
    let directive : List ℕ = codes "include" ++ (h.include_blanks ++ rest) in
    let whole : bytes ++ following ≡ h.before ++ (codes "#" ++ (h.hash_blanks ++ directive)) = ap (λ (t : List ℕ). t ++ following) h.spelled
    ∙ regroup h.before (codes "#") h.hash_blanks (codes "include") h.include_blanks h.header h.after following in
    let first : past_blanks (bytes ++ following) ≡ codes "#" ++ (h.hash_blanks ++ directive) = ap past_blanks whole ∙ blanks_past h.before (h.hash_blanks ++ directive) 35 h.blanks.0 refl in
    let second : past_blanks (h.hash_blanks ++ directive) ≡ directive = blanks_past h.hash_blanks (drop 1 (codes "include") ++ (h.include_blanks ++ rest)) 105 h.blanks.1 refl in
    ap (λ (t : List ℕ). option_and_then after_hash (past (codes "#") t)) first
    ∙ ap (λ (t : List ℕ). option_and_then after_include (past (codes "include") t)) second
    ∙ header_past h.include_blanks h.header h.after following h.header_is h.blanks.2 h.blanks.3 h.ends
  where
    regroup : (a b c d e f g r : List ℕ) → (a ++ (b ++ (c ++ (d ++ (e ++ (f ++ g)))))) ++ r ≡ a ++ (b ++ (c ++ (d ++ (e ++ (f ++ (g ++ r))))))
    regroup a b c d e f g r = simp append_assoc

-- a byte that is neither a blank nor `#` begins no include line
pub include_needs : (b : ℕ) (bs : List ℕ) → is_inner_blank b ≡ false → eqb 35 b ≡ false → past_include (b ∷ bs) ≡ None
unfolding past_include
include_needs b bs blank hash =
    let line : List ℕ = b ∷ bs in
    let blanks : prefix_len is_inner_blank line ≡ 0 = ap (λ t. cond t (1 + prefix_len is_inner_blank bs) 0) blank in
    let here : past_blanks line ≡ line = ap (λ n. drop n line) blanks in
    let fails : starts_with nat_eq line (codes "#") ≡ false = ap (λ t. t && true) hash in
    let no_hash : past (codes "#") (past_blanks line) ≡ None = ap (past (codes "#")) here ∙ ap (λ t. cond t (Some (drop 1 line)) None) fails in
    ap (option_and_then after_hash) no_hash

-- blanks in front change nothing
pub include_blank : (b : ℕ) (bs : List ℕ) → is_inner_blank b ≡ true → past_include (b ∷ bs) ≡ past_include bs
unfolding past_include
include_blank b bs blank =
    let n : prefix_len is_inner_blank (b ∷ bs) ≡ suc (prefix_len is_inner_blank bs) = ap (λ t. cond t (1 + prefix_len is_inner_blank bs) 0) blank ∙ omega arith in
    ap (λ k. option_and_then after_hash (past (codes "#") (drop k (b ∷ bs)))) n

pub include_empty : past_include [] ≡ None
unfolding past_include
include_empty = refl

pub none_some : (rest : List ℕ) (o : Option (List ℕ)) → o ≡ None → o ≡ Some rest → ⊥
none_some rest o e f = let g = sym e ∙ f in cc

pub no_include_len : (line : List ℕ) → past_include line ≡ None → include_len line ≡ 0
no_include_len line e = ap (λ o. option_map_or (λ rest. length line - length rest) o 0) e

-- ---- the text at an offset

-- the bytes after an offset, as a range
pub range_is : (source : List ℕ) (at n : ℕ) → slice_range source at (at + n) ≡ take n (drop at source)
range_is source at n = let size : at + n - at ≡ n = omega arith in ap (λ k. take k (drop at source)) size

pub first_is : (source : List ℕ) (at b : ℕ) (bs : List ℕ) → drop at source ≡ b ∷ bs → slice_index source at ≡ b
first_is source at b bs e =
    let offset : at ≡ at + 0 = omega arith in
    ap (slice_index source) offset ∙ sym (get_or-drop at source 0 0) ∙ ap (λ (t : List ℕ). slice_index t 0) e

-- the text at an offset, in its first byte and the others
pub record IsAt (source : List ℕ) (at : ℕ) : Type 0 where
  pub b : ℕ
  pub bs : List ℕ
  pub split : drop at source ≡ b ∷ bs

pub at_offset : (source : List ℕ) (at : ℕ) → at < length source → IsAt source at
at_offset source at less = by_rest (drop at source) refl
  where
    by_rest : (t : List ℕ) → drop at source ≡ t → IsAt source at
    by_rest [] e = absurd (omega (arith, ap length e, length-drop at source))
    by_rest (b ∷ bs) e = record { b = b; bs = bs; split = e }

-- a comment or an include line begins so
pub front_is : (source : List ℕ) (at end b : ℕ) (bs : List ℕ) → at < end → slice_range source at end ≡ b ∷ bs → slice_index source at ≡ b
front_is source at end b bs less e =
    let offset : at ≡ at + 0 = omega arith in
    let some : 0 < end - at = omega arith in
    ap (slice_index source) offset ∙ sym (get_or-drop at source 0 0) ∙ sym (get_or-take (end - at) (drop at source) 0 0 some) ∙ ap (λ (t : List ℕ). slice_index t 0) e

pub next_text : (source : List ℕ) (at b : ℕ) (bs : List ℕ) → drop at source ≡ b ∷ bs → drop (at + 1) source ≡ bs
next_text source at b bs split = sym (drop-drop 1 at source) ∙ ap (drop 1) split

-- the bytes of a range, and their number
pub range_parts : (source : List ℕ) (at end : ℕ) → at < end → end ≤ length source →
    (n : ℕ) × (at + n ≡ end) × (0 < n) × (n ≤ length (drop at source)) × (slice_range source at end ≡ take n (drop at source)) × (drop n (drop at source) ≡ drop end source)
range_parts source at end less within =
    let n : ℕ = end - at in
    let size : at + n ≡ end = omega arith in
    (n, size, omega arith, omega (arith, length-drop at source), refl, drop-drop n at source ∙ ap (λ i. drop i source) size)

-- ---- where no include line begins

pub begins_none : (source : List ℕ) (at b : ℕ) (bs : List ℕ) → drop at source ≡ b ∷ bs → is_inner_blank b ≡ false → eqb 35 b ≡ false → past_include (drop at source) ≡ None
begins_none source at b bs split blank hash = ap past_include split ∙ include_needs b bs blank hash

pub slash_none : (source : List ℕ) (at b : ℕ) (bs : List ℕ) → drop at source ≡ b ∷ bs → slice_index source at ≡ 47 → past_include (drop at source) ≡ None
slash_none source at b bs split slash =
    let same : b ≡ 47 = sym (first_is source at b bs split) ∙ slash in
    begins_none source at b bs split (ap is_inner_blank same) (ap (λ c. eqb 35 c) same)

pub line_none : (source : List ℕ) (at b : ℕ) (bs : List ℕ) → drop at source ≡ b ∷ bs → is_line_end b ≡ true → past_include (drop at source) ≡ None
line_none source at b bs split line =
    let same : b ≡ 10 = eqb-true b 10 line in
    begins_none source at b bs split (ap is_inner_blank same) (ap (λ c. eqb 35 c) same)

-- ---- where no line begins

abbrev pub IsInside : List ℕ → ℕ → Type 0
IsInside source at = IsLineStart source at → ⊥

pub blank_inside : (source : List ℕ) (at b : ℕ) (bs : List ℕ) → drop at source ≡ b ∷ bs → is_inner_blank b ≡ true → IsInside source (at + 1)
blank_inside source at b bs split blank =
    let back : at + 1 - 1 ≡ at = omega arith in
    let free : is_line_end b ≡ false = not-true (is_line_end b) (line_free is_inner_blank b refl blank) in
    no_start source (at + 1) (omega arith) (ap (λ i. is_line_end (slice_index source i)) back ∙ ap is_line_end (first_is source at b bs split) ∙ free)

-- a test that blanks and the names of an include line pass holds of all of it after its `#`
abbrev pub PassesInclude : (ℕ → Bool) → Type 0
PassesInclude p =
    ((c : ℕ) → is_inner_blank c ≡ true → p c ≡ true) × (list_all p (codes "include") ≡ true) × (list_all p (codes "<stdio.h>") ≡ true) × (list_all p (codes "<stdlib.h>") ≡ true)

pub header_all : (p : ℕ → Bool) (header : List ℕ) → PassesInclude p → (header ≡ codes "<stdio.h>") ⊎ (header ≡ codes "<stdlib.h>") → list_all p header ≡ true
header_all p header h (inl e) = ap (list_all p) e ∙ h.2
header_all p header h (inr e) = ap (list_all p) e ∙ h.3

-- an include line after its `#`
abbrev pub after_its_hash : (bytes following : List ℕ) → IsIncludeLine bytes following → List ℕ
after_its_hash bytes following h = h.hash_blanks ++ (codes "include" ++ (h.include_blanks ++ (h.header ++ h.after)))

pub include_all : (p : ℕ → Bool) (bytes following : List ℕ) (h : IsIncludeLine bytes following) → PassesInclude p → list_all p (after_its_hash bytes following h) ≡ true
include_all p bytes following h passes =
    let f = all_append p h.header h.after (header_all p h.header passes h.header_is) (all_implies is_inner_blank p h.after passes.0 h.blanks.3) in
    let e = all_append p h.include_blanks (h.header ++ h.after) (all_implies is_inner_blank p h.include_blanks passes.0 h.blanks.2) f in
    let d = all_append p (codes "include") (h.include_blanks ++ (h.header ++ h.after)) passes.1 e in
    all_append p h.hash_blanks (codes "include" ++ (h.include_blanks ++ (h.header ++ h.after))) (all_implies is_inner_blank p h.hash_blanks passes.0 h.blanks.1) d

pub include_on_line : (bytes following : List ℕ) → IsIncludeLine bytes following → on_line bytes ≡ true
include_on_line bytes following h =
    let p : ℕ → Bool = λ c. not (is_line_end c) in
    let blank : (c : ℕ) → is_inner_blank c ≡ true → p c ≡ true = λ c. line_free is_inner_blank c refl in
    let tail = include_all p bytes following h (blank, refl, refl, refl) in
    ap on_line h.spelled
    ∙ all_append p h.before (codes "#" ++ after_its_hash bytes following h) (all_implies is_inner_blank p h.before blank h.blanks.0) (all_append p (codes "#")
    (after_its_hash bytes following h) refl tail)

-- the last bytes of a block comment are its `*` and `/`
pub block_last : (source : List ℕ) (at n : ℕ) → 0 < n → at + n ≤ length source → IsBlockComment (take n (drop at source)) →
    (slice_index source (at + n - 2) ≡ 42) × (slice_index source (at + n - 1) ≡ 47)
block_last source at n some within h =
    let bytes = take n (drop at source) in
    let front : List ℕ = codes "/*" ++ h.inner in
    let split : bytes ≡ front ++ codes "*/" = h.spelled ∙ sym (append_assoc (codes "/*") h.inner (codes "*/")) in
    let size : length bytes ≡ n = length-take-le n (drop at source) (omega (arith, length-drop at source)) in
    let len : length front + 2 ≡ n = omega (arith, ap length split, length-append front (codes "*/")) in
    let star_at : at + length front ≡ at + n - 2 = omega arith in
    let slash_at : at + (length front + 1) ≡ at + n - 1 = omega arith in
    let star = byte_is (length front) (omega arith) ∙ ap (λ (t : List ℕ). slice_index t (length front)) split ∙ (last_of front).0 in
    let slash = byte_is (length front + 1) (omega arith) ∙ ap (λ (t : List ℕ). slice_index t (length front + 1)) split ∙ (last_of front).1 in
    (ap (slice_index source) (sym star_at) ∙ star, ap (slice_index source) (sym slash_at) ∙ slash)
  where
    byte_is : (i : ℕ) → i < n → slice_index source (at + i) ≡ slice_index (take n (drop at source)) i
    byte_is i less = sym (get_or-drop at source i 0) ∙ sym (get_or-take n (drop at source) i 0 less)

    last_of : (xs : List ℕ) → (slice_index (xs ++ codes "*/") (length xs) ≡ 42) × (slice_index (xs ++ codes "*/") (length xs + 1) ≡ 47)
    last_of [] = (refl, refl)
    last_of (x ∷ xs) = let one : length (x ∷ xs) + 1 ≡ suc (length xs + 1) = omega arith in ((last_of xs).0, ap (slice_index ((x ∷ xs) ++ codes "*/")) one ∙ (last_of xs).1)

pub comment_on_line : (bytes following : List ℕ) → IsLineComment bytes following → on_line bytes ≡ true
comment_on_line bytes following h = ap on_line h.spelled ∙ all_append (λ c. not (is_line_end c)) (codes "//") h.inner refl h.on_line
