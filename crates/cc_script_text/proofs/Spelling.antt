-- Bytes begin with a command exactly where they begin with how it is written.
use Rattle.std.specs.Prelude.{codes, option_map}
use Rattle.std.proofs.Common.{◌≡◌, ◌≤◌, ◌+◌, ◌-◌, ℕ, Bool, true, false, ◌&&◌, ◌||◌, List, [], ◌∷◌, ◌++◌, length, take, drop, Option, None, Some, cond, eqb, leb, refl, sym, ap, subst, ◌∙◌, append_assoc, length-append, length-drop, arith}
use Rattle.std.specs.List.{list_all}
use Rattle.std.specs.Str.{bytes_eq}
use Rattle.std.proofs.lemmas.Bool.{cond-true, and_parts, and_from, le-leb, leb-true, eqb-true}
use Rattle.std.proofs.lemmas.List.{take-append-drop, length-take-le}
use Rattle.std.proofs.lemmas.Slice.Eq.{bytes_eq-Decides}
use Rattle.c_lex.specs.Classes.{is_letter, is_digit, is_name_byte}
use Rattle.c_lex.specs.Grammar.{IsIdentifier}
use Rattle.cc_script_text.specs.declared.command.Command.{Command}
use Rattle.cc_script_text.specs.declared.command.Command.TheVariants.{Build, Replace, End}
use Rattle.cc_script_text.specs.Laws.{CommandsAreSpelled}
use Rattle.cc_script_text.specs.Script.{cut, is_identifier, is_name, are_digits, decimal_value, length_of, named, replaced, replace_of}
use Rattle.cc_script_text.specs.Script.{begins, broken, lacks, with_line_end, with_text, with_line, with_parts, first}
use Rattle.cc_script_text.specs.Spelled.{IsName, IsLength, Spells, replace_text}
use Rattle.cc_script_text.proofs.lemmas.Cuts.{HasNo, has_no_append, has_no_of, IsCut, cut_is, cut_line, cut_none}
use Rattle.cc_script_text.proofs.lemmas.Firsts.{first_line, line_other}
use Rattle.cc_script_text.proofs.lemmas.Takes.{text_whole}

-- ---- names

all_have_no : (p : ℕ → Bool) (byte : ℕ) → p byte ≡ false → (bytes : List ℕ) → list_all p bytes ≡ true → HasNo byte bytes
all_have_no p byte h [] e = tt
all_have_no p byte h (b ∷ bytes) e =
    let parts = and_parts (p b) (list_all p bytes) e in
    ((λ same. let clash : true ≡ false = sym parts.0 ∙ (ap p same ∙ h) in absurd cc), all_have_no p byte h bytes parts.1)

name_bytes : (name : List ℕ) → IsIdentifier name → list_all is_name_byte name ≡ true
name_bytes [] h = absurd h
name_bytes (b ∷ name) h = and_from (is_name_byte b) (list_all is_name_byte name) (ap (λ x. x || is_digit b) h.0) h.1

identifier_is : (name : List ℕ) → IsIdentifier name → is_identifier name ≡ true
identifier_is [] h = absurd h
identifier_is (b ∷ name) h = and_from (is_letter b) (list_all is_name_byte name) h.0 h.1

identifier_of : (name : List ℕ) → is_identifier name ≡ true → IsIdentifier name
identifier_of [] e = absurd cc
identifier_of (b ∷ name) e = and_parts (is_letter b) (list_all is_name_byte name) e

name_is : (name : List ℕ) → IsName name → is_name name ≡ true
name_is name h = and_from (is_identifier name) (leb (length name) 63) (identifier_is name h.identifier) (le-leb (length name) 63 h.short)

name_of : (name : List ℕ) → is_name name ≡ true → IsName name
name_of name e =
    let parts = and_parts (is_identifier name) (leb (length name) 63) e in
    record { identifier = identifier_of name parts.0; short = leb-true (length name) 63 parts.1 }

-- ---- lengths

length_is : (digits : List ℕ) (count : ℕ) → IsLength digits count → length_of digits ≡ Some count
length_is digits count h =
    let some : leb 1 (length digits) ≡ true = le-leb 1 (length digits) h.some in
    let few : leb (length digits) 7 ≡ true = le-leb (length digits) 7 h.few in
    let low : leb (decimal_value digits) 1048576 ≡ true = le-leb (decimal_value digits) 1048576 (subst (λ n. n ≤ 1048576) (sym h.value) h.low) in
    let digits-are : are_digits digits ≡ true =
    and_from (leb 1 (length digits)) (leb (length digits) 7 && list_all is_digit digits) some (and_from (leb (length digits) 7) (list_all is_digit digits) few h.all)
    in
    cond-true (are_digits digits && leb (decimal_value digits) 1048576) (Some (decimal_value digits)) None
    (and_from (are_digits digits) (leb (decimal_value digits) 1048576) digits-are low)
    ∙ ap Some h.value

length_by : (digits : List ℕ) (count : ℕ) (t : Bool) → t ≡ (are_digits digits && leb (decimal_value digits) 1048576) → cond t (Some (decimal_value digits)) None ≡ Some count → IsLength digits count
length_by digits count false e h = absurd cc
length_by digits count true e h =
    let parts = and_parts (are_digits digits) (leb (decimal_value digits) 1048576) (sym e) in
    let some-few = and_parts (leb 1 (length digits)) (leb (length digits) 7 && list_all is_digit digits) parts.0 in
    let few-all = and_parts (leb (length digits) 7) (list_all is_digit digits) some-few.1 in
    let value : decimal_value digits ≡ count = cc in
    record {
      some = leb-true 1 (length digits) some-few.0;
      few = leb-true (length digits) 7 few-all.0;
      all = few-all.1;
      value = value;
      low = subst (λ n. n ≤ 1048576) value (leb-true (decimal_value digits) 1048576 parts.1);
    }

length_means : (digits : List ℕ) (count : ℕ) → length_of digits ≡ Some count → IsLength digits count
length_means digits count h = length_by digits count (are_digits digits && leb (decimal_value digits) 1048576) refl h

-- ---- the line of a `replace`

abbrev replace_line : (name digits : List ℕ) → List ℕ
replace_line name digits = codes "replace " ++ (name ++ (32 ∷ digits))

module _ (name digits : List ℕ) (count : ℕ) (is-name : IsName name) (is-length : IsLength digits count) where
  line_has_no : HasNo 10 (replace_line name digits)
  line_has_no =
      has_no_append 10 (codes "replace ") (name ++ (32 ∷ digits)) (has_no_of 10 (codes "replace ") refl)
      (has_no_append 10 name (32 ∷ digits) (all_have_no is_name_byte 10 refl name (name_bytes name is-name.identifier))
      ((λ e. omega (arith, e)), all_have_no is_digit 10 refl digits is-length.all))

  line_is_short : length (replace_line name digits) ≤ 100
  line_is_short =
      let short : length name ≤ 63 = is-name.short in
      let few : length digits ≤ 7 = is-length.few in
      let long : length (name ++ (32 ∷ digits)) ≡ length name + length (32 ∷ digits) = length-append name (32 ∷ digits) in
      omega (arith, short, few, long)

  said_is : replace_of (replace_line name digits) ≡ Some (name, count)
  said_is =
      ap replaced (cut_line 32 (codes "replace") (name ++ (32 ∷ digits)) (has_no_of 32 (codes "replace") refl))
      ∙ (ap named (cut_line 32 name digits (all_have_no is_name_byte 32 refl name (name_bytes name is-name.identifier)))
      ∙ (cond-true (is_name name) (option_map (λ n. (name, n)) (length_of digits)) None (name_is name is-name)
      ∙ ap (option_map (λ n. (name, n))) (length_is digits count is-length)))

named_by : (name digits : List ℕ) (said : List ℕ × ℕ) (t : Bool) (o : Option ℕ) → t ≡ is_name name → o ≡ length_of digits → cond t (option_map (λ n. (name, n)) o) None ≡ Some said
    → IsName said.0 × IsLength digits said.1 × (name ≡ said.0)
named_by name digits said false o e f h = absurd cc
named_by name digits said true None e f h = absurd cc
named_by name digits said true (Some count) e f h =
    let same : (name, count) ≡ said = cc in
    let names : name ≡ said.0 = ap (λ s. s.0) same in
    let counts : count ≡ said.1 = ap (λ s. s.1) same in
    (subst IsName names (name_of name (sym e)), length_means digits said.1 (sym f ∙ ap Some counts), names)

named_means : (words : List ℕ) (said : List ℕ × ℕ) (o : Option (List ℕ × List ℕ)) → IsCut 32 words o → named o ≡ Some said
    → (digits : List ℕ) × IsName said.0 × IsLength digits said.1 × (words ≡ said.0 ++ (32 ∷ digits))
named_means words said None is h = absurd cc
named_means words said (Some parts) is h =
    let found = named_by parts.0 parts.1 said (is_name parts.0) (length_of parts.1) refl refl h in
    (parts.1, found.0, found.1, is.0 ∙ ap (λ n. n ++ (32 ∷ parts.1)) found.2)

replaced_by : (line : List ℕ) (said : List ℕ × ℕ) (parts : List ℕ × List ℕ) (t : Bool) → t ≡ bytes_eq parts.0 (codes "replace") → line ≡ parts.0 ++ (32 ∷ parts.1)
    → cond t (named (cut 32 parts.1)) None ≡ Some said → (digits : List ℕ) × IsName said.0 × IsLength digits said.1 × (line ≡ replace_line said.0 digits)
replaced_by line said parts false e is h = absurd cc
replaced_by line said parts true e is h =
    let found = named_means parts.1 said (cut 32 parts.1) (cut_is 32 parts.1) h in
    let word : parts.0 ≡ codes "replace" = (bytes_eq-Decides parts.0 (codes "replace")).0 (sym e) in
    (found.0, found.1, found.2, is ∙ (ap (λ w. w ++ (32 ∷ parts.1)) word ∙ ap (λ w. codes "replace " ++ w) found.3))

replaced_means : (line : List ℕ) (said : List ℕ × ℕ) (o : Option (List ℕ × List ℕ)) → IsCut 32 line o → replaced o ≡ Some said
    → (digits : List ℕ) × IsName said.0 × IsLength digits said.1 × (line ≡ replace_line said.0 digits)
replaced_means line said None is h = absurd cc
replaced_means line said (Some parts) is h = replaced_by line said parts (bytes_eq parts.0 (codes "replace")) refl is.0 h

-- ---- what is written is a command

shape : (front name digits text rest : List ℕ) →
    (front ++ (name ++ (32 ∷ (digits ++ (10 ∷ (text ++ (10 ∷ []))))))) ++ rest ≡ ((front ++ (name ++ (32 ∷ digits))) ++ 10 ∷ []) ++ (text ++ (10 ∷ rest))
shape front name digits text rest = simp append_assoc

build_first : (rest : List ℕ) → first (codes "build\n" ++ rest) ≡ begins Build rest
unfolding first with_line
build_first rest = refl

end_first : (rest : List ℕ) → first (codes "end\n" ++ rest) ≡ begins End rest
unfolding first with_line
end_first rest = refl

replace_first : (name digits text rest : List ℕ) → IsName name → IsLength digits (length text) → first (replace_text name digits text ++ rest) ≡ begins (Replace name text) rest
replace_first name digits text rest is-name is-length =
    let line = replace_line name digits in
    ap first (shape (codes "replace ") name digits text rest)
    ∙ (first_line line (text ++ (10 ∷ rest)) (cut_none 10 line (line_has_no name digits (length text) is-name is-length)) (line_is_short name digits (length text) is-name is-length)
    ∙ (line_other line refl (Some (name, length text)) (text ++ (10 ∷ rest)) refl (said_is name digits (length text) is-name is-length)
    ∙ text_whole name text (10 ∷ rest)))

spelled_first : (command : Command) (bytes text rest : List ℕ) → Spells command text → bytes ≡ text ++ rest → first bytes ≡ begins command rest
spelled_first Build bytes text rest h e = ap first e ∙ (ap (λ t. first (t ++ rest)) h ∙ build_first rest)
spelled_first (Replace name t) bytes text rest h e = ap first e ∙ (ap (λ u. first (u ++ rest)) h.3 ∙ replace_first name h.0 t rest h.1 h.2)
spelled_first End bytes text rest h e = ap first e ∙ (ap (λ t. first (t ++ rest)) h ∙ end_first rest)

-- ---- a command is written

abbrev IsWritten : Command → (bytes rest : List ℕ) → Type 0
IsWritten command bytes rest = (text : List ℕ) × Spells command text × (bytes ≡ text ++ rest)

end_by : (made command : Command) (b : ℕ) (bytes rest : List ℕ) (t : Bool) → t ≡ eqb b 10 → cond t (begins made bytes) broken ≡ begins command rest → (made ≡ command) × (b ∷ bytes ≡ 10 ∷ rest)
end_by made command b bytes rest false e h = absurd cc
end_by made command b bytes rest true e h =
    let ten : b ≡ 10 = eqb-true b 10 (sym e) in
    (cc, cc)

end_means : (made command : Command) (bytes rest : List ℕ) → with_line_end made bytes ≡ begins command rest → (made ≡ command) × (bytes ≡ 10 ∷ rest)
end_means made command [] rest h = absurd cc
end_means made command (b ∷ bytes) rest h = end_by made command b bytes rest (eqb b 10) refl h

text_means : (line after : List ℕ) (command : Command) (rest : List ℕ) (o : Option (List ℕ × ℕ)) → replace_of line ≡ o → with_text o after ≡ begins command rest
    → IsWritten command (line ++ 10 ∷ after) rest
text_means line after command rest None is h = absurd cc
text_means line after command rest (Some said) is h =
    let ends = end_means (Replace said.0 (take said.1 after)) command (drop said.1 after) rest h in
    let found = replaced_means line said (cut 32 line) (cut_is 32 line) is in
    let text = take said.1 after in
    let left : length after - said.1 ≡ length (10 ∷ rest) = sym (length-drop said.1 after) ∙ ap length ends.1 in
    let long : length text ≡ said.1 = length-take-le said.1 after (omega (arith, left)) in
    let whole : after ≡ text ++ (10 ∷ rest) = sym (take-append-drop said.1 after) ∙ ap (λ t. text ++ t) ends.1 in
    let spells : Spells (Replace said.0 text) (replace_text said.0 found.0 text) = (found.0, found.1, subst (IsLength found.0) (sym long) found.2, refl) in (
      replace_text said.0 found.0 text,
      subst (λ c. Spells c (replace_text said.0 found.0 text)) ends.0 spells,
      ap (λ l. l ++ 10 ∷ after) found.3
          ∙ (ap (λ t. replace_line said.0 found.0 ++ 10 ∷ t) whole
          ∙ (sym (append_assoc (replace_line said.0 found.0) (10 ∷ []) (text ++ (10 ∷ rest))) ∙ sym (shape (codes "replace ") said.0 found.0 text rest))),
    )

line_by : (line after : List ℕ) (command : Command) (rest : List ℕ) (t u : Bool) → t ≡ bytes_eq line (codes "build") → u ≡ bytes_eq line (codes "end")
    → cond t (begins Build after) (cond u (begins End after) (with_text (replace_of line) after)) ≡ begins command rest → IsWritten command (line ++ 10 ∷ after) rest
line_by line after command rest true u e f h =
    let word : line ≡ codes "build" = (bytes_eq-Decides line (codes "build")).0 (sym e) in
    let same : Build ≡ command = cc in
    let rests : after ≡ rest = cc in
    (codes "build\n", subst (λ c. Spells c (codes "build\n")) same refl, ap (λ l. l ++ 10 ∷ after) word ∙ ap (λ t. codes "build\n" ++ t) rests)
line_by line after command rest false true e f h =
    let word : line ≡ codes "end" = (bytes_eq-Decides line (codes "end")).0 (sym f) in
    let same : End ≡ command = cc in
    let rests : after ≡ rest = cc in
    (codes "end\n", subst (λ c. Spells c (codes "end\n")) same refl, ap (λ l. l ++ 10 ∷ after) word ∙ ap (λ t. codes "end\n" ++ t) rests)
line_by line after command rest false false e f h = text_means line after command rest (replace_of line) refl h

line_means : (line after : List ℕ) (command : Command) (rest : List ℕ) → with_line line after ≡ begins command rest → IsWritten command (line ++ 10 ∷ after) rest
unfolding with_line
line_means line after command rest h = line_by line after command rest (bytes_eq line (codes "build")) (bytes_eq line (codes "end")) refl refl h

none_by : (command : Command) (rest : List ℕ) (t : Bool) → cond t lacks broken ≡ begins command rest → ⊥
none_by command rest true h = absurd cc
none_by command rest false h = absurd cc

some_by : (line after : List ℕ) (command : Command) (rest : List ℕ) (t : Bool) → cond t (with_line line after) broken ≡ begins command rest → IsWritten command (line ++ 10 ∷ after) rest
some_by line after command rest true h = line_means line after command rest h
some_by line after command rest false h = absurd cc

parts_mean : (bytes : List ℕ) (command : Command) (rest : List ℕ) (o : Option (List ℕ × List ℕ)) → IsCut 10 bytes o → with_parts o bytes ≡ begins command rest → IsWritten command bytes rest
parts_mean bytes command rest None is h = absurd (none_by command rest (leb (length bytes) 100) h)
parts_mean bytes command rest (Some parts) is h =
    let found = some_by parts.0 parts.1 command rest (leb (length parts.0) 100) h in
    (found.0, found.1, is.0 ∙ found.2)

first_means : (command : Command) (bytes rest : List ℕ) → first bytes ≡ begins command rest → IsWritten command bytes rest
unfolding first
first_means command bytes rest h = parts_mean bytes command rest (cut 10 bytes) (cut_is 10 bytes) h

pub commands_are_spelled : CommandsAreSpelled
commands_are_spelled command bytes rest = (first_means command bytes rest, λ written. spelled_first command bytes written.0 rest written.1 written.2)
