-- What bytes begin with, by their first line, and with more bytes after them.
use Rattle.std.proofs.Common.{◌≡◌, ◌≢◌, ◌⊎◌, ◌<◌, ◌≤◌, ℕ, Bool, true, false, List, [], ◌∷◌, ◌++◌, length, take, drop, Option, None, Some, cond, eqb, leb, refl, sym, ap, ◌∙◌, inl, inr, append_assoc, length-append, arith}
use Rattle.std.specs.Prelude.{option_map, codes}
use Rattle.std.specs.Str.{bytes_eq}
use Rattle.std.proofs.lemmas.Bool.{cond-true, cond-false, le-leb, lt-leb, cases_lt}
use Rattle.std.proofs.lemmas.List.{take-append-le, drop-append-le}
use Rattle.std.proofs.Math.ListN.{drop_of_length-le}
use Rattle.cc_script_text.specs.declared.command.Command.{Command}
use Rattle.cc_script_text.specs.declared.command.Command.TheVariants.{Build, Replace, End}
use Rattle.cc_script_text.specs.Script.{cut, replace_of, First, begins, broken, lacks, with_line_end, with_text, with_line, with_parts, first}
use Rattle.cc_script_text.proofs.lemmas.Cuts.{IsCut, cut_is, cut_line, cut_further, has_no_of}

-- ---- by the first line

pub first_line : (line rest : List ℕ) → cut 10 line ≡ None → length line ≤ 100 → first ((line ++ 10 ∷ []) ++ rest) ≡ with_line line rest
unfolding first
first_line line rest none few =
    let whole : cut 10 ((line ++ 10 ∷ []) ++ rest) ≡ Some (line, rest) = ap (cut 10) (append_assoc line (10 ∷ []) rest) ∙ cut_line 10 line rest (has_no_of 10 line none) in
    ap (λ o. with_parts o ((line ++ 10 ∷ []) ++ rest)) whole ∙ cond-true (leb (length line) 100) (with_line line rest) broken (le-leb (length line) 100 few)

pub first_lacks : (bytes : List ℕ) → cut 10 bytes ≡ None → length bytes ≤ 100 → first bytes ≡ lacks
unfolding first
first_lacks bytes none few = ap (λ o. with_parts o bytes) none ∙ cond-true (leb (length bytes) 100) lacks broken (le-leb (length bytes) 100 few)

pub first_long : (bytes : List ℕ) → cut 10 bytes ≡ None → 100 < length bytes → first bytes ≡ broken
unfolding first
first_long bytes none long = ap (λ o. with_parts o bytes) none ∙ cond-false (leb (length bytes) 100) lacks broken (lt-leb (length bytes) 100 long)

-- ---- by the words of a line

pub line_build : (line rest : List ℕ) → bytes_eq line (codes "build") ≡ true → with_line line rest ≡ begins Build rest
unfolding with_line
line_build line rest e = cond-true (bytes_eq line (codes "build")) (begins Build rest) (cond (bytes_eq line (codes "end")) (begins End rest) (with_text (replace_of line) rest)) e

module _ (line : List ℕ) (not-build : bytes_eq line (codes "build") ≡ false) where
  pub line_end : (rest : List ℕ) → bytes_eq line (codes "end") ≡ true → with_line line rest ≡ begins End rest
  unfolding with_line
  line_end rest e =
      cond-false (bytes_eq line (codes "build")) (begins Build rest) (cond (bytes_eq line (codes "end")) (begins End rest) (with_text (replace_of line) rest)) not-build
      ∙ cond-true (bytes_eq line (codes "end")) (begins End rest) (with_text (replace_of line) rest) e

  pub line_other : (said : Option (List ℕ × ℕ)) (rest : List ℕ) → bytes_eq line (codes "end") ≡ false → replace_of line ≡ said → with_line line rest ≡ with_text said rest
  unfolding with_line
  line_other said rest e is =
      cond-false (bytes_eq line (codes "build")) (begins Build rest) (cond (bytes_eq line (codes "end")) (begins End rest) (with_text (replace_of line) rest)) not-build
      ∙ (cond-false (bytes_eq line (codes "end")) (begins End rest) (with_text (replace_of line) rest) e ∙ ap (λ o. with_text o rest) is)

-- ---- with more bytes after them

abbrev pub extended : List ℕ → First → First
extended more (begins command rest) = begins command (rest ++ more)
extended more broken = broken
extended more lacks = lacks

pub end_extends : (command : Command) (rest more : List ℕ) → with_line_end command rest ≢ lacks →
    with_line_end command (rest ++ more) ≡ extended more (with_line_end command rest)
end_extends command [] more whole = absurd (whole refl)
end_extends command (b ∷ rest) more whole = by-test (eqb b 10)
  where
    by-test : (t : Bool) → cond t (begins command (rest ++ more)) broken ≡ extended more (cond t (begins command rest) broken)
    by-test true = refl
    by-test false = refl

pub text_extends : (said : Option (List ℕ × ℕ)) (rest more : List ℕ) → with_text said rest ≢ lacks → with_text said (rest ++ more) ≡ extended more (with_text said rest)
text_extends None rest more whole = refl
text_extends (Some said) rest more whole = by-length (cases_lt said.1 (length rest))
  where
    by-length : (said.1 < length rest) ⊎ (length rest ≤ said.1) → with_text (Some said) (rest ++ more) ≡ extended more (with_text (Some said) rest)
    by-length (inl low) =
        let within : said.1 ≤ length rest = omega (arith, low) in
        ap (λ t. with_line_end (Replace said.0 t) (drop said.1 (rest ++ more))) (take-append-le said.1 rest more within)
        ∙ (ap (with_line_end (Replace said.0 (take said.1 rest))) (drop-append-le said.1 rest more within)
        ∙ end_extends (Replace said.0 (take said.1 rest)) (drop said.1 rest) more whole)
    by-length (inr high) = absurd (whole (ap (with_line_end (Replace said.0 (take said.1 rest))) (drop_of_length-le rest high)))

pub line_extends : (line rest more : List ℕ) → with_line line rest ≢ lacks → with_line line (rest ++ more) ≡ extended more (with_line line rest)
unfolding with_line
line_extends line rest more whole = by-tests (bytes_eq line (codes "build")) (bytes_eq line (codes "end")) whole
  where
    by-tests : (t u : Bool) → cond t (begins Build rest) (cond u (begins End rest) (with_text (replace_of line) rest)) ≢ lacks →
        cond t (begins Build (rest ++ more)) (cond u (begins End (rest ++ more)) (with_text (replace_of line) (rest ++ more)))
        ≡ extended more (cond t (begins Build rest) (cond u (begins End rest) (with_text (replace_of line) rest)))
    by-tests true u some = refl
    by-tests false true some = refl
    by-tests false false some = text_extends (replace_of line) rest more some

-- a first line stays the first line
parts_extend : (bytes more : List ℕ) (o : Option (List ℕ × List ℕ)) → IsCut 10 bytes o → with_parts o bytes ≢ lacks →
    with_parts (cut 10 (bytes ++ more)) (bytes ++ more) ≡ extended more (with_parts o bytes)
parts_extend bytes more (Some parts) is whole =
    let again : cut 10 (bytes ++ more) ≡ Some (parts.0, parts.1 ++ more) =
    ap (λ t. cut 10 (t ++ more)) is.0 ∙ (ap (cut 10) (append_assoc parts.0 (10 ∷ parts.1) more) ∙ cut_line 10 parts.0 (parts.1 ++ more) is.1)
    in
    ap (λ o. with_parts o (bytes ++ more)) again ∙ by-test (leb (length parts.0) 100) whole
  where
    by-test : (t : Bool) → cond t (with_line parts.0 parts.1) broken ≢ lacks →
        cond t (with_line parts.0 (parts.1 ++ more)) broken ≡ extended more (cond t (with_line parts.0 parts.1) broken)
    by-test true some = line_extends parts.0 parts.1 more some
    by-test false some = refl
parts_extend bytes more None is whole = by-length (cases_lt 100 (length bytes))
  where
    long-parts : 100 < length bytes → (o : Option (List ℕ × List ℕ)) → with_parts (option_map (λ parts. (bytes ++ parts.0, parts.1)) o) (bytes ++ more) ≡ broken
    long-parts long None = cond-false (leb (length (bytes ++ more)) 100) lacks broken (lt-leb (length (bytes ++ more)) 100 (omega (arith, long, length-append bytes more)))
    long-parts long (Some parts) =
        cond-false (leb (length (bytes ++ parts.0)) 100) (with_line (bytes ++ parts.0) parts.1) broken
        (lt-leb (length (bytes ++ parts.0)) 100 (omega (arith, long, length-append bytes parts.0)))

    by-length : (100 < length bytes) ⊎ (length bytes ≤ 100) → with_parts (cut 10 (bytes ++ more)) (bytes ++ more) ≡ extended more (with_parts None bytes)
    by-length (inl long) =
        ap (λ o. with_parts o (bytes ++ more)) (cut_further 10 bytes more is)
        ∙ (long-parts long (cut 10 more) ∙ sym (ap (extended more) (cond-false (leb (length bytes) 100) lacks broken (lt-leb (length bytes) 100 long))))
    by-length (inr short) = absurd (whole (cond-true (leb (length bytes) 100) lacks broken (le-leb (length bytes) 100 short)))

pub first_extends : (bytes more : List ℕ) → first bytes ≢ lacks → first (bytes ++ more) ≡ extended more (first bytes)
unfolding first
first_extends bytes more whole = parts_extend bytes more (cut 10 bytes) (cut_is 10 bytes) whole
