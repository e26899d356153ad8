-- What a list of bytes says as the script of a session: commands in order, each ended by byte 10, and then `end`, or what
-- is no command.
use Rattle.std.specs.Prelude.{ℕ, zero, suc, ◌+◌, ◌-◌, ◌*◌, ◌==◌, ◌&&◌, Bool, false, List, [], ◌∷◌, length, take, drop, fold, nat_le, codes, Option, None, Some, option_map, if◌then◌else◌}
use Rattle.std.specs.List.{list_all}
use Rattle.std.specs.Str.{bytes_eq}
use Rattle.base.specs.Limits.{most_name_bytes, most_source_bytes}
use Rattle.c_lex.specs.Classes.{is_letter, is_digit, is_name_byte}
use Rattle.cc_script_text.specs.declared.command.Command.{Command}
use Rattle.cc_script_text.specs.declared.command.Command.TheVariants.{Build, Replace, End}

-- how many commands there are at most, `end` counted
abbrev pub most_commands : ℕ
most_commands = 10000

-- how many bytes a line has at most, without the byte 10 that ends it
abbrev pub most_line_bytes : ℕ
most_line_bytes = 100

-- how many digits a length has at most
abbrev pub most_length_digits : ℕ
most_length_digits = 7

-- ---- words

-- what stands before the first of this byte, and what after it
abbrev pub cut : (byte : ℕ) → List ℕ → Option (List ℕ × List ℕ)
cut byte [] = None
cut byte (b ∷ bs) = if b == byte then Some ([], bs) else option_map (λ parts. (b ∷ parts.0, parts.1)) (cut byte bs)

abbrev pub is_identifier : List ℕ → Bool
is_identifier [] = false
is_identifier (b ∷ bs) = is_letter b && list_all is_name_byte bs

-- a name of the language
abbrev pub is_name : List ℕ → Bool
is_name name = is_identifier name && nat_le (length name) most_name_bytes

-- 1 to 7 digits
abbrev pub are_digits : List ℕ → Bool
are_digits word = nat_le 1 (length word) && (nat_le (length word) most_length_digits && list_all is_digit word)

-- the value of decimal digits
abbrev pub decimal_value : List ℕ → ℕ
decimal_value digits = fold (λ value b. value * 10 + (b - 48)) 0 digits

-- the length of a text, which is no greater than that of a source
abbrev pub length_of : List ℕ → Option ℕ
length_of word =
    if are_digits word && nat_le (decimal_value word) most_source_bytes then Some (decimal_value word) else None

-- ---- lines

-- what the words NAME and LENGTH say
abbrev pub named : Option (List ℕ × List ℕ) → Option (List ℕ × ℕ)
named None = None
named (Some words) = if is_name words.0 then option_map (λ count. (words.0, count)) (length_of words.1) else None

abbrev pub replaced : Option (List ℕ × List ℕ) → Option (List ℕ × ℕ)
replaced None = None
replaced (Some words) = if bytes_eq words.0 (codes "replace") then named (cut 32 words.1) else None

-- the name and the length of the text, where the line is that of a `replace`
abbrev pub replace_of : List ℕ → Option (List ℕ × ℕ)
replace_of line = replaced (cut 32 line)

-- ---- commands

-- what bytes begin with: a command, and what follows it; no command, whatever follows; or no whole command yet
pub data First : Type 0 where
  begins : Command → (rest : List ℕ) → First
  broken : First
  lacks : First

-- this command, where byte 10 follows
abbrev pub with_line_end : Command → List ℕ → First
with_line_end command [] = lacks
with_line_end command (b ∷ rest) = if b == 10 then begins command rest else broken

-- a `replace` of this name, with a text of this length
abbrev pub with_text : Option (List ℕ × ℕ) → List ℕ → First
with_text None rest = broken
with_text (Some said) rest = with_line_end (Replace said.0 (take said.1 rest)) (drop said.1 rest)

-- the command of this line, and of what follows the line
unfoldable pub with_line : (line rest : List ℕ) → First
with_line line rest =
    if bytes_eq line (codes "build") then begins Build rest
    else (if bytes_eq line (codes "end") then begins End rest else with_text (replace_of line) rest)

abbrev pub with_parts : Option (List ℕ × List ℕ) → (bytes : List ℕ) → First
with_parts None bytes = if nat_le (length bytes) most_line_bytes then lacks else broken
with_parts (Some parts) bytes = if nat_le (length parts.0) most_line_bytes then with_line parts.0 parts.1 else broken

unfoldable pub first : List ℕ → First
first bytes = with_parts (cut 10 bytes) bytes

-- ---- scripts

-- how a script ends: with `end`; with what is no command, or is one too many; or before a command is whole
pub data Ending : Type 0 where
  with_end : Ending
  with_broken : Ending
  with_lack : Ending

-- the commands before `end`, or before what is none
pub record Script : Type 0 where
  pub commands : List Command
  pub ending : Ending

abbrev pub stops : Ending → Script
stops ending = record { commands = []; ending = ending }

abbrev pub goes_on : Command → Script → Script
goes_on command script = record { commands = command ∷ script.commands; ending = script.ending }

abbrev pub script_by : (onward : List ℕ → Script) → First → Script
script_by onward (begins Build rest) = goes_on Build (onward rest)
script_by onward (begins (Replace name text) rest) = goes_on (Replace name text) (onward rest)
script_by onward (begins End rest) = stops with_end
script_by onward broken = stops with_broken
script_by onward lacks = stops with_lack

-- what bytes say where there may be this many commands
unfoldable pub script_within : (most : ℕ) → List ℕ → Script
script_within zero bytes = stops with_broken
script_within (suc most) bytes = script_by (script_within most) (first bytes)

abbrev pub script : List ℕ → Script
script bytes = script_within most_commands bytes

-- the number, from 1, of what is no command; none where the script ends with `end`
abbrev pub number_by : Ending → (commands : ℕ) → Option ℕ
number_by with_end commands = None
number_by with_broken commands = Some (suc commands)
number_by with_lack commands = Some (suc commands)

abbrev pub broken_number : Script → Option ℕ
broken_number script = number_by script.ending (length script.commands)
