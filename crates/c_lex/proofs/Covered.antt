-- Include lines that cover an offset.
use Rattle.std.proofs.Common.{◌≡◌, ℕ, zero, suc, ◌+◌, ◌-◌, ◌<◌, ◌≤◌, Bool, true, not, List, ◌∷◌, ◌++◌, length, take, drop, Some, None, codes, refl, sym, ap, ◌∙◌, subst, arith, inl, inr}
use Rattle.std.specs.Prelude.{◌==◌, slice_index, slice_range}
use Rattle.std.specs.Option.{option_map_or}
use Rattle.std.specs.List.{list_all}
use Rattle.std.proofs.lemmas.Bool.{cases_lt}
use Rattle.std.proofs.lemmas.List.{length-take-le, length-drop, length-append, take-append-drop, take_at, drop_at, drop-drop, get_or-drop, get_or-take}
use Rattle.c_lex.specs.Classes.{is_line_end, is_inner_blank}
use Rattle.c_lex.specs.Trivia.{include_len, past_include}
use Rattle.c_lex.specs.Grammar.{IsLineStart, IsBlockComment, IsIncludeLine, IsInIncludeLine}
use Rattle.c_lex.proofs.Complete.{on_line}
use Rattle.c_lex.proofs.Reading.{all_append}
use Rattle.c_lex.proofs.TriviaLaws.{include_is, include_line_is}
use Rattle.c_lex.proofs.Lines.{all_implies, all_at, other_than, no_start, line_within, block_last, include_found, include_blank, include_on_line, none_some, range_is, first_is, at_offset, next_text, after_its_hash, include_all}

-- ---- outside of them, from one lexeme to the next

abbrev pub IsOutside : List ℕ → ℕ → Type 0
IsOutside source at = IsInIncludeLine source at → ⊥

-- what covers the end of a lexeme, and not its start, begins in it
pub begun_within : (source : List ℕ) (at n : ℕ) → IsOutside source at → ((h : IsInIncludeLine source (at + n)) → at < h.start → ⊥) → IsOutside source (at + n)
begun_within source at n outside later h =
    elim (cases_lt at h.start) [
      | inl less ↦ later h less
      | inr le ↦ outside (record {
        start = h.start;
        end = h.end;
        line = h.line;
        from = le;
        to = omega (arith, h.to);
        within = h.within;
        include = h.include;
      })
    ]

pub line_outside : (source : List ℕ) (at n : ℕ) → at + n ≤ length source → on_line (take n (drop at source)) ≡ true → IsOutside source at → IsOutside source (at + n)
line_outside source at n within on outside = begun_within source at n outside (λ h less.
    let i : ℕ = h.start - 1 - at in
    let same : h.start - 1 ≡ at + i = omega arith in
    no_start source h.start (omega arith) (ap (λ j. is_line_end (slice_index source j)) same ∙ line_within source at n i (omega (arith, h.from)) within on) h.line)

-- the include line of a line is passed whole
pub included_outside : (source : List ℕ) (base at : ℕ) → at ≡ base + include_len (drop base source) → (h : IsInIncludeLine source at) → base ≤ h.start → ⊥
included_outside source base at at_is h le =
    let text = drop base source in
    let n = include_len text in
    elim (cases_lt base h.start) [
      | inl less ↦
          let some : 0 < n = omega (arith, h.from) in
          let on = include_on_line (take n text) (drop n text) (include_is text n refl some) in
          let i : ℕ = h.start - 1 - base in
          let same : h.start - 1 ≡ base + i = omega arith in
          let fits : base + n ≤ length source = omega (arith, h.to, h.within) in
          no_start source h.start (omega arith) (ap (λ j. is_line_end (slice_index source j)) same ∙ line_within source base n i (omega (arith, h.from)) fits on) h.line
      | inr ge ↦
          let at_base : h.start ≡ base = omega arith in
          let m : ℕ = h.end - h.start in
          let end_is : h.start + m ≡ h.end = omega (arith, h.from, h.to) in
          let following = drop h.end source in
          let whole : slice_range source h.start h.end ++ following ≡ text =
          ap (λ (t : List ℕ). take m (drop h.start source) ++ t) (sym (drop-drop m h.start source ∙ ap (λ j. drop j source) end_is)) ∙ take-append-drop m (drop h.start source)
          ∙ ap (λ j. drop j source) at_base in
          let found : past_include text ≡ Some following = ap past_include (sym whole) ∙ include_found (slice_range source h.start h.end) following h.include in
          let size : n ≡ length text - length following = ap (λ o. option_map_or (λ (r : List ℕ). length text - length r) o 0) found in
          omega (arith, h.to, h.within, length-drop base source, length-drop h.end source)
    ]

-- no byte of an include line is a star
no_star : (bytes following : List ℕ) → IsIncludeLine bytes following → list_all (λ c. not (c == 42)) bytes ≡ true
no_star bytes following h =
    let p : ℕ → Bool = λ c. not (c == 42) in
    let blank : (c : ℕ) → is_inner_blank c ≡ true → p c ≡ true = λ c. other_than is_inner_blank 42 c refl in
    let tail = include_all p bytes following h (blank, refl, refl, refl) in
    ap (list_all p) h.spelled
    ∙ all_append p h.before (codes "#" ++ after_its_hash bytes following h) (all_implies is_inner_blank p h.before blank h.blanks.0) (all_append p (codes "#")
    (after_its_hash bytes following h) refl tail)

-- a byte of an include line is no star
star_outside : (source : List ℕ) (at : ℕ) → slice_index source at ≡ 42 → IsOutside source at
star_outside source at star h =
    let n : ℕ = h.end - h.start in
    let i : ℕ = at - h.start in
    let bytes = slice_range source h.start h.end in
    let here : h.start + i ≡ at = omega (arith, h.from) in
    let less : i < n = omega (arith, h.from, h.to) in
    let size : length bytes ≡ n = length-take-le n (drop h.start source) (omega (arith, h.within, h.from, h.to, length-drop h.start source)) in
    let byte : slice_index bytes i ≡ 42 =
    get_or-take n (drop h.start source) i 0 less ∙ get_or-drop h.start source i 0 ∙ ap (slice_index source) here ∙ star in
    let other = all_at (λ c. not (c == 42)) bytes i (omega arith) (no_star bytes (drop h.end source) h.include) in
    let f = ap (λ c. not (c == 42)) (sym byte) ∙ other in
    absurd cc

pub block_outside : (source : List ℕ) (at n : ℕ) → 0 < n → at + n ≤ length source → IsBlockComment (take n (drop at source)) → IsOutside source at → IsOutside source (at + n)
block_outside source at n some within comment outside = begun_within source at n outside (λ h less.
    let last = block_last source at n some within comment in
    elim (cases_lt h.start (at + n - 1)) [
      | inl before ↦ star_outside source (at + n - 2) last.0 (record {
        start = h.start;
        end = h.end;
        line = h.line;
        from = omega arith;
        to = omega (arith, h.to);
        within = h.within;
        include = h.include;
      })
      | inr after ↦ elim (cases_lt h.start (at + n)) [
        | inl at_slash ↦
            let same : h.start - 1 ≡ at + n - 2 = omega arith in
            no_start source h.start (omega arith) (ap (λ j. is_line_end (slice_index source j)) same ∙ ap is_line_end last.0) h.line
        | inr at_end ↦
            let same : h.start - 1 ≡ at + n - 1 = omega (arith, h.from) in
            no_start source h.start (omega arith) (ap (λ j. is_line_end (slice_index source j)) same ∙ ap is_line_end last.1) h.line
      ]
    ])

-- ---- what goes on with an include line

abbrev pub AreBlankBetween : List ℕ → ℕ → ℕ → Type 0
AreBlankBetween source start at = (k : ℕ) → start ≤ k → k < at → is_inner_blank (slice_index source k) ≡ true

-- No include line that begins at the start of a line goes on here after its first blanks.
abbrev pub IsUncovered : List ℕ → ℕ → Type 0
IsUncovered source at =
    (start : ℕ) → start ≤ at → IsLineStart source start → AreBlankBetween source start at → (rest : List ℕ) → past_include (drop at source) ≡ Some rest → ⊥

pub none_uncovered : (source : List ℕ) (at : ℕ) → past_include (drop at source) ≡ None → IsUncovered source at
none_uncovered source at none start before line blanks rest is = none_some rest (past_include (drop at source)) none is

-- blanks in front of an include line are part of it
blanks_included : (n : ℕ) (source : List ℕ) (start : ℕ) → start + n ≤ length source → AreBlankBetween source start (start + n) →
    past_include (drop start source) ≡ past_include (drop (start + n) source)
blanks_included zero source start within blanks = let same : start ≡ start + 0 = omega arith in ap (λ i. past_include (drop i source)) same
blanks_included (suc n) source start within blanks =
    let here = at_offset source start (omega arith) in
    let blank : is_inner_blank here.b ≡ true = ap is_inner_blank (sym (first_is source start here.b here.bs here.split)) ∙ blanks start (omega arith) (omega arith) in
    let same : start + 1 + n ≡ start + suc n = omega arith in
    ap past_include here.split ∙ include_blank here.b here.bs blank ∙ sym (ap past_include (next_text source start here.b here.bs here.split))
    ∙ blanks_included n source (start + 1) (omega arith) (λ k low high. blanks k (omega arith) (omega arith)) ∙ ap (λ i. past_include (drop i source)) same

-- an include line has a byte
pub include_shorter : (line rest : List ℕ) → past_include line ≡ Some rest → length rest < length line
include_shorter line rest e =
    let h = include_line_is line rest e in
    let tail = after_its_hash h.0 rest h.2 in
    omega (arith, ap length h.1, length-append h.0 rest, ap length h.2.spelled, length-append h.2.before (35 ∷ tail))

pub uncovered_from : (source : List ℕ) (at : ℕ) → at < length source → (IsInIncludeLine source at → ⊥) → IsUncovered source at
uncovered_from source at less none start before line blanks rest is =
    let n : ℕ = at - start in
    let there : start + n ≡ at = omega arith in
    let from : past_include (drop start source) ≡ Some rest =
    blanks_included n source start (omega arith) (λ k low high. blanks k low (omega arith)) ∙ ap (λ i. past_include (drop i source)) there ∙ is in
    let h = include_line_is (drop start source) rest from in
    let m = length h.0 in
    let shorter = include_shorter (drop at source) rest is in
    let size : m + length rest ≡ length source - start = omega (arith, ap length h.1, length-append h.0 rest, length-drop start source) in
    let bytes : slice_range source start (start + m) ≡ h.0 = range_is source start m ∙ ap (take m) h.1 ∙ take_at h.0 rest m refl in
    let following : drop (start + m) source ≡ rest = sym (drop-drop m start source) ∙ ap (drop m) h.1 ∙ drop_at h.0 rest m refl in
    none (record {
      start = start;
      end = start + m;
      line = line;
      from = before;
      to = omega (arith, length-drop at source);
      within = omega arith;
      include = subst (λ (t : List ℕ). IsIncludeLine t (drop (start + m) source)) (sym bytes) (subst (λ (t : List ℕ). IsIncludeLine h.0 t) (sym following) h.2);
    })
