-- How a command is written.
use Rattle.std.specs.Prelude.{◌≡◌, ℕ, ◌≤◌, true, List, [], ◌∷◌, ◌++◌, length, codes}
use Rattle.std.specs.List.{list_all}
use Rattle.base.specs.Limits.{most_name_bytes, most_source_bytes}
use Rattle.c_lex.specs.Classes.{is_digit}
use Rattle.c_lex.specs.Grammar.{IsIdentifier}
use Rattle.cc_script_text.specs.Script.{decimal_value, most_length_digits}
use Rattle.cc_script_text.specs.declared.command.Command.{Command}
use Rattle.cc_script_text.specs.declared.command.Command.TheVariants.{Build, Replace, End}

-- a name of the language
pub record IsName (name : List ℕ) : Type 0 where
  pub identifier : IsIdentifier name
  pub short : length name ≤ most_name_bytes

-- a length in decimal, of 1 to 7 digits; it may begin with 0
pub record IsLength (digits : List ℕ) (count : ℕ) : Type 0 where
  pub some : 1 ≤ length digits
  pub few : length digits ≤ most_length_digits
  pub all : list_all is_digit digits ≡ true
  pub value : decimal_value digits ≡ count
  pub low : count ≤ most_source_bytes

-- the line of a `replace`, the text, and a line end
abbrev pub replace_text : (name digits text : List ℕ) → List ℕ
replace_text name digits text = codes "replace " ++ (name ++ (32 ∷ (digits ++ (10 ∷ (text ++ (10 ∷ []))))))

abbrev pub Spells : Command → List ℕ → Type 0
Spells Build bytes = bytes ≡ codes "build\n"
Spells (Replace name text) bytes =
    (digits : List ℕ) × IsName name × IsLength digits (length text) × (bytes ≡ replace_text name digits text)
Spells End bytes = bytes ≡ codes "end\n"
