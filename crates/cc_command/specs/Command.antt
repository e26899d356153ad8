-- The command line: a command, or none.
use Rattle.std.specs.Prelude.{ℕ, Bool, ◌*◌, ◌+◌, ◌-◌, ◌&&◌, List, [], ◌∷◌, Option, Some, None, codes, fold, length, nat_le, if◌then◌else◌, option_map}
use Rattle.std.specs.List.{list_all}
use Rattle.std.specs.Str.{bytes_eq}
use Rattle.base.specs.Limits.{most_workers, most_steps, most_generated_functions}
use Rattle.s_linear.specs.declared.frame.CodeForm.{CodeForm}
use Rattle.s_linear.specs.declared.frame.CodeForm.TheVariants.{Plain, Tight}
use Rattle.cc_command.specs.ParsedArguments.{Text}
use Rattle.cc_command.specs.Forms.{Form, OptionForm, Value, text, number, code, absent, command_among}

-- what the arguments ask for; names are the bytes of their text
pub data Command : Type 0 where
  -- say whether the source on the input is accepted
  accept : Command
  -- compile the source to the image under the recipe that a text gives, by so many workers, in a form of code, and report by the watcher of a name
  build : (source image recipe : Text) → (workers : ℕ) → (report : Option Text) → CodeForm → Command
  -- run the image of the name for at most this many instructions
  run : List ℕ → (steps : ℕ) → Command
  -- write the generated program of this many functions, whose draws begin with a number, to the file of this name
  generate : (start functions : ℕ) → List ℕ → Command
  -- say whether the log certifies the image as one of the source in a form of code
  check : (source log image : Text) → CodeForm → Command
  -- edit the source as the input says, function by function, and write each image that it asks for, under the recipe that a text gives, by so many workers, in a form of code
  session : (source image recipe : Text) → (workers : ℕ) → CodeForm → Command
  -- run the source itself, where a loop takes at most so many turns and calls nest at most so deep
  interpret : (source : Text) → (bound : ℕ) → Command

-- ---- numbers

abbrev pub is_digit : ℕ → Bool
is_digit b = nat_le 48 b && nat_le b 57

-- the value of decimal digits
abbrev pub digits_value : List ℕ → ℕ
digits_value digits = fold (λ n b. n * 10 + (b - 48)) 0 digits

-- 1 to 20 decimal digits
abbrev pub is_number : List ℕ → Bool
is_number a = nat_le 1 (length a) && (nat_le (length a) 20 && list_all is_digit a)

-- the number that the argument gives, where it is in this range
unfoldable pub number_in : (least most : ℕ) → List ℕ → Option ℕ
number_in least most a =
    if is_number a && (nat_le least (digits_value a) && nat_le (digits_value a) most) then Some (digits_value a) else None

-- ---- the commands

-- an argument whose value is a text, and one whose value is a number in a range
abbrev pub read_text : Text → Option Value
read_text a = Some (text a)

abbrev pub read_number : (least most : ℕ) → Text → Option Value
read_number least most a = option_map number (number_in least most a)

-- the recipe of a build that names none
abbrev pub default_recipe : List ℕ
default_recipe = codes "iln,fold,inv,cne,dne,ivt,psh,pll,url,fold,cne,inv,dne,dne"

-- the name of a report, or none where it is not given
abbrev pub report_of : Value → Option (Option Text)
report_of (text name) = Some (Some name)
report_of absent = Some None
report_of (number n) = None
report_of (code form) = None

-- the form of code of a name
abbrev pub code_named : Text → Option CodeForm
code_named a = if bytes_eq a (codes "tight") then Some Tight else (if bytes_eq a (codes "plain") then Some Plain else None)

abbrev pub read_code : Text → Option Value
read_code a = option_map code (code_named a)

-- `build IN OUT [--recipe LIST] [--workers N] [--report NAME] [--code FORM]`, LIST and NAME being any texts, N from 1 to the most workers, and 1 where it is
-- not given, and FORM `plain` or `tight`, and plain where it is not given
abbrev pub build_of : List Value → Option Command
build_of (text source ∷ text image ∷ text recipe ∷ number workers ∷ report ∷ code form ∷ []) =
    option_map (λ name. build source image recipe workers name form) (report_of report)
build_of _ = None

abbrev pub recipe_option : OptionForm
recipe_option = record { name = codes "recipe"; read = read_text; default = text default_recipe }

abbrev pub workers_option : OptionForm
workers_option = record { name = codes "workers"; read = read_number 1 most_workers; default = number 1 }

abbrev pub report_option : OptionForm
report_option = record { name = codes "report"; read = read_text; default = absent }

abbrev pub code_option : OptionForm
code_option = record { name = codes "code"; read = read_code; default = code Plain }

abbrev pub build_form : Form Command
build_form = record {
  name = codes "build";
  positionals = record { name = codes "IN"; read = read_text } ∷ record { name = codes "OUT"; read = read_text } ∷ [];
  options = recipe_option ∷ workers_option ∷ report_option ∷ code_option ∷ [];
  command = build_of;
}

-- `run IMG [--steps N]`, N from 1 to the most steps, and 10^9 where it is not given
abbrev pub run_of : List Value → Option Command
run_of (text image ∷ number steps ∷ []) = Some (run image steps)
run_of _ = None

abbrev pub steps_option : OptionForm
steps_option = record { name = codes "steps"; read = read_number 1 most_steps; default = number 1000000000 }

abbrev pub run_form : Form Command
run_form = record {
  name = codes "run";
  positionals = record { name = codes "IMG"; read = read_text } ∷ [];
  options = steps_option ∷ [];
  command = run_of;
}

-- `gen NUMBER COUNT OUT`
abbrev pub generate_of : List Value → Option Command
generate_of (number start ∷ number functions ∷ text out ∷ []) = Some (generate start functions out)
generate_of _ = None

abbrev pub generate_form : Form Command
generate_form = record {
  name = codes "gen";
  positionals =
      record { name = codes "NUMBER"; read = read_number 0 4294967295 }
      ∷ record { name = codes "COUNT"; read = read_number 1 most_generated_functions }
      ∷ record { name = codes "OUT"; read = read_text }
      ∷ [];
  options = [];
  command = generate_of;
}

-- `check IN LOG IMG [--code FORM]`, FORM as of a build
abbrev pub check_of : List Value → Option Command
check_of (text source ∷ text log ∷ text image ∷ code form ∷ []) = Some (check source log image form)
check_of _ = None

abbrev pub check_form : Form Command
check_form = record {
  name = codes "check";
  positionals =
      record { name = codes "IN"; read = read_text }
      ∷ record { name = codes "LOG"; read = read_text }
      ∷ record { name = codes "IMG"; read = read_text }
      ∷ [];
  options = code_option ∷ [];
  command = check_of;
}

-- `session IN OUT [--recipe LIST] [--workers N] [--code FORM]`, LIST, N and FORM as of a build
abbrev pub session_of : List Value → Option Command
session_of (text source ∷ text image ∷ text recipe ∷ number workers ∷ code form ∷ []) = Some (session source image recipe workers form)
session_of _ = None

abbrev pub session_form : Form Command
session_form = record {
  name = codes "session";
  positionals = record { name = codes "IN"; read = read_text } ∷ record { name = codes "OUT"; read = read_text } ∷ [];
  options = recipe_option ∷ workers_option ∷ code_option ∷ [];
  command = session_of;
}

-- `interp IN [--bound N]`, N from 1 to 1,000,000, and 1,000,000 where it is not given
abbrev pub interpret_of : List Value → Option Command
interpret_of (text source ∷ number bound ∷ []) = Some (interpret source bound)
interpret_of _ = None

abbrev pub bound_option : OptionForm
bound_option = record { name = codes "bound"; read = read_number 1 1000000; default = number 1000000 }

abbrev pub interp_form : Form Command
interp_form = record {
  name = codes "interp";
  positionals = record { name = codes "IN"; read = read_text } ∷ [];
  options = bound_option ∷ [];
  command = interpret_of;
}

abbrev pub forms : List (Form Command)
forms = build_form ∷ run_form ∷ generate_form ∷ check_form ∷ session_form ∷ interp_form ∷ []

-- The command of all arguments, the program's name first. No arguments at all are read as the name alone.
abbrev pub command_of : List Text → Option Command
command_of [] = Some accept
command_of (program ∷ []) = Some accept
command_of (program ∷ name ∷ arguments) = command_among forms (program ∷ name ∷ arguments)
