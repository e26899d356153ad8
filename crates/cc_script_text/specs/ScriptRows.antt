-- Known scripts, and what they say.
use Rattle.std.specs.Prelude.{◌≡◌, ℕ, List, [], ◌∷◌, ◌++◌, Option, Some, codes, replicate}
use Rattle.cc_script_text.specs.Script.{Script, Ending, with_end, with_broken, with_lack, begins, broken, lacks, first, script_within, broken_number}
use Rattle.cc_script_text.specs.declared.command.Command.{Command}
use Rattle.cc_script_text.specs.declared.command.Command.TheVariants.{Build, Replace}

-- the commands of the bytes, of which there may be 4, and how they end
abbrev pub says : List Command → Ending → Script
says commands ending = record { commands = commands; ending = ending }

abbrev pub said_by : List ℕ → Script
said_by bytes = script_within 4 bytes

-- the number of what is none
abbrev pub number_in : List ℕ → Option ℕ
number_in bytes = broken_number (said_by bytes)

-- a `replace` with the words NAME and LENGTH, and what follows its line
abbrev pub replace : (name length rest : List ℕ) → List ℕ
replace name length rest = codes "replace " ++ (name ++ (32 ∷ (length ++ (10 ∷ rest))))

-- a `replace` of `f` with a text of two bytes
abbrev pub replace_f : Command
replace_f = Replace (codes "f") (codes "ab")

-- scripts that end with `end`, which is a command as others
pub record WholeRows : Type 0 where
  pub end : said_by (codes "end\n") ≡ says [] with_end
  pub build : said_by (codes "build\nend\n") ≡ says (Build ∷ []) with_end
  pub builds : said_by (codes "build\nbuild\nbuild\nend\n") ≡ says (Build ∷ Build ∷ Build ∷ []) with_end
  pub edit : said_by (codes "build\nreplace f 2\nab\nend\n") ≡ says (Build ∷ replace_f ∷ []) with_end
  pub empty_text : said_by (codes "replace q 0\n\nend\n") ≡ says (Replace (codes "q") [] ∷ []) with_end
  pub zeros : said_by (codes "replace f 0000002\nab\nend\n") ≡ says (replace_f ∷ []) with_end
  pub line_end_in_text : said_by (codes "replace f 4\nend\n\nend\n") ≡ says (Replace (codes "f") (codes "end\n") ∷ []) with_end
  pub command_in_text : said_by (codes "replace f 11\nbuild\nbuild\nend\n") ≡ says (Replace (codes "f") (codes "build\nbuild") ∷ []) with_end
  pub text_that_ends_as_one : said_by (codes "replace f 1\n\n\nend\n") ≡ says (Replace (codes "f") (codes "\n") ∷ []) with_end
  pub underscore : said_by (codes "replace _aZ9 0\n\nend\n") ≡ says (Replace (codes "_aZ9") [] ∷ []) with_end
  pub more_behind : said_by (codes "end\nnothing") ≡ says [] with_end
  pub whole_behind : said_by (codes "build\nend\nbuild\n") ≡ says (Build ∷ []) with_end

-- scripts that end before a command is whole
pub record CutRows : Type 0 where
  pub nothing : said_by [] ≡ says [] with_lack
  pub end : said_by (codes "end") ≡ says [] with_lack
  pub after_build : said_by (codes "build\n") ≡ says (Build ∷ []) with_lack
  pub build : said_by (codes "build\nbuild") ≡ says (Build ∷ []) with_lack
  pub after_replace : said_by (codes "build\nreplace f 2\nab\n") ≡ says (Build ∷ replace_f ∷ []) with_lack
  pub no_text : said_by (codes "build\nreplace f 2\n") ≡ says (Build ∷ []) with_lack
  pub empty_text : said_by (codes "build\nreplace f 0\n") ≡ says (Build ∷ []) with_lack
  pub short_text : said_by (codes "build\nreplace f 2\na") ≡ says (Build ∷ []) with_lack
  pub no_line_end : said_by (codes "build\nreplace f 2\nab") ≡ says (Build ∷ []) with_lack
  pub line_end_as_text : said_by (codes "build\nreplace f 3\nab\n") ≡ says (Build ∷ []) with_lack
  pub greatest : said_by (codes "build\nreplace f 1048576\nab\nend\n") ≡ says (Build ∷ []) with_lack
  pub no_command : said_by (codes "build\nnothing") ≡ says (Build ∷ []) with_lack
  pub number : number_in (codes "build\n") ≡ Some 2
  pub first_number : number_in [] ≡ Some 1

-- lines that are those of no command, where a line end follows
abbrev pub IsNone : List ℕ → Type 0
IsNone line = said_by (codes "build\n" ++ (line ++ codes "\n\nend\n")) ≡ says (Build ∷ []) with_broken

pub record LineRows : Type 0 where
  pub empty : IsNone []
  pub capitals : IsNone (codes "BUILD")
  pub capital : IsNone (codes "Build")
  pub blank_behind : IsNone (codes "build ")
  pub blank_in_front : IsNone (codes " build")
  pub carriage_return : IsNone (codes "build\r")
  pub return_after_end : IsNone (codes "end\r")
  pub zero_byte : IsNone (codes "build" ++ 0 ∷ [])
  pub letter_more : IsNone (codes "builds")
  pub blank_after_end : IsNone (codes "end ")
  pub high_byte : IsNone (255 ∷ [])
  pub two_words : IsNone (codes "end end")

-- the words of a `replace`
pub record WordRows : Type 0 where
  pub no_name : IsNone (codes "replace")
  pub no_length : IsNone (codes "replace main")
  pub empty_length : IsNone (codes "replace main ")
  pub empty_name : IsNone (codes "replace  0")
  pub word_more : IsNone (codes "replace main 0 0")
  pub two_blanks : IsNone (codes "replace  main 0")
  pub tab : IsNone (codes "replace\tmain 0")
  pub two_blanks_later : IsNone (codes "replace main  0")
  pub blank_behind : IsNone (codes "replace main 0 ")
  pub plus : IsNone (codes "replace main +0")
  pub minus : IsNone (codes "replace main -0")
  pub hexadecimal : IsNone (codes "replace main 0x0")
  pub letter : IsNone (codes "replace main 1e1")
  pub eight_digits : IsNone (codes "replace main 00000000")
  pub above : IsNone (codes "replace main 1048577")
  pub far_above : IsNone (codes "replace main 9999999")
  pub digit_first : IsNone (codes "replace 1a 0")
  pub dash : IsNone (codes "replace a-b 0")
  pub other_letters : IsNone (codes "replace m" ++ 195 ∷ 169 ∷ codes " 0")
  pub name_of_64 : IsNone (replace (replicate 64 97) (codes "0") [])
  pub name_of_63 : first (replace (replicate 63 97) (codes "0") (codes "\n")) ≡ begins (Replace (replicate 63 97) []) []

-- a text and the line end after it, and the limits of lines and commands
pub record LimitRows : Type 0 where
  pub short_text : said_by (codes "build\nreplace f 3\nab\nend\n") ≡ says (Build ∷ []) with_broken
  pub long_text : said_by (codes "build\nreplace f 1\nab\n") ≡ says (Build ∷ []) with_broken
  pub number : number_in (codes "build\nreplace f 1\nab\n") ≡ Some 2
  pub line_of_100 : first (replicate 100 120) ≡ lacks
  pub line_of_101 : first (replicate 101 120) ≡ broken
  pub whole_line_of_100 : first (replicate 100 120 ++ codes "\nend\n") ≡ broken
  pub whole_line_of_101 : first (replicate 101 120 ++ codes "\nend\n") ≡ broken
  pub last_is_end : said_by (codes "build\nbuild\nbuild\nend\n") ≡ says (Build ∷ Build ∷ Build ∷ []) with_end
  pub end_is_one_more : said_by (codes "build\nbuild\nbuild\nbuild\nend\n") ≡ says (Build ∷ Build ∷ Build ∷ Build ∷ []) with_broken
  pub one_more : said_by (codes "build\nbuild\nbuild\nbuild\nbuild\nend\n") ≡ says (Build ∷ Build ∷ Build ∷ Build ∷ []) with_broken
  pub number_of_one_more : number_in (codes "build\nbuild\nbuild\nbuild\n") ≡ Some 5

abbrev pub ScriptRows : Type 0
ScriptRows = WholeRows × CutRows × LineRows × WordRows × LimitRows
