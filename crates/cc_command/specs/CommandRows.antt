-- Lists of arguments with their commands.
use Rattle.std.specs.Prelude.{◌≡◌, ℕ, List, [], ◌∷◌, Option, Some, None, codes}
use Rattle.s_linear.specs.declared.frame.CodeForm.TheVariants.{Plain, Tight}
use Rattle.cc_command.specs.Command.{Command, accept, build as build_by, default_recipe, run, generate, check, session, interpret, command_of}

-- the command of the arguments after the program's name
abbrev pub command_after_name : List (List ℕ) → Option Command
command_after_name arguments = command_of (codes "rvcc" ∷ arguments)

-- a build by one worker, without a report
abbrev pub build : List ℕ → List ℕ → (recipe : List ℕ) → Command
build source image recipe = build_by source image recipe 1 None Plain

-- how many arguments there are, and what an argument looks like
pub record BuildRows : Type 0 where
  pub two_names : command_after_name (codes "build" ∷ codes "a" ∷ codes "b" ∷ []) ≡ Some (build (codes "a") (codes "b") default_recipe)
  pub empty_name : command_after_name (codes "build" ∷ [] ∷ codes "b" ∷ []) ≡ Some (build [] (codes "b") default_recipe)
  pub lone_hyphen : command_after_name (codes "build" ∷ codes "-" ∷ codes "b" ∷ []) ≡ Some (build (codes "-") (codes "b") default_recipe)
  pub hyphens_first : command_after_name (codes "build" ∷ codes "--" ∷ codes "-a" ∷ codes "--" ∷ []) ≡ Some (build (codes "-a") (codes "--") default_recipe)
  pub hyphens_between : command_after_name (codes "build" ∷ codes "a" ∷ codes "--" ∷ codes "--b" ∷ []) ≡ Some (build (codes "a") (codes "--b") default_recipe)
  pub one_name : command_after_name (codes "build" ∷ codes "a" ∷ []) ≡ None
  pub three_names : command_after_name (codes "build" ∷ codes "a" ∷ codes "b" ∷ codes "c" ∷ []) ≡ None
  pub no_name : command_after_name (codes "build" ∷ []) ≡ None
  pub unknown_option : command_after_name (codes "build" ∷ codes "a" ∷ codes "b" ∷ codes "--work" ∷ codes "2" ∷ []) ≡ None
  pub unknown_letter : command_after_name (codes "build" ∷ codes "-o" ∷ codes "a" ∷ codes "b" ∷ []) ≡ None

-- the recipe of `build`
pub record RecipeRows : Type 0 where
  pub equals_sign : command_after_name (codes "build" ∷ codes "a" ∷ codes "b" ∷ codes "--recipe=fold" ∷ []) ≡ Some (build (codes "a") (codes "b") (codes "fold"))
  pub next_argument : command_after_name (codes "build" ∷ codes "a" ∷ codes "b" ∷ codes "--recipe" ∷ codes "fold,fold2" ∷ []) ≡ Some (build (codes "a") (codes "b") (codes "fold,fold2"))
  pub in_front : command_after_name (codes "build" ∷ codes "--recipe" ∷ codes "fold" ∷ codes "a" ∷ codes "b" ∷ []) ≡ Some (build (codes "a") (codes "b") (codes "fold"))
  pub empty_text : command_after_name (codes "build" ∷ codes "a" ∷ codes "b" ∷ codes "--recipe=" ∷ []) ≡ Some (build (codes "a") (codes "b") [])
  pub no_value : command_after_name (codes "build" ∷ codes "a" ∷ codes "b" ∷ codes "--recipe" ∷ []) ≡ None
  pub hyphens_for_value : command_after_name (codes "build" ∷ codes "a" ∷ codes "b" ∷ codes "--recipe" ∷ codes "--" ∷ []) ≡ None
  pub twice : command_after_name (codes "build" ∷ codes "a" ∷ codes "b" ∷ codes "--recipe=fold" ∷ codes "--recipe=fold" ∷ []) ≡ None
  pub after_hyphens : command_after_name (codes "build" ∷ codes "a" ∷ codes "--" ∷ codes "b" ∷ codes "--recipe=fold" ∷ []) ≡ None
  pub cut_short : command_after_name (codes "build" ∷ codes "a" ∷ codes "b" ∷ codes "--recip" ∷ codes "fold" ∷ []) ≡ None
  pub with_help : command_after_name (codes "build" ∷ codes "a" ∷ codes "b" ∷ codes "--recipe" ∷ codes "fold" ∷ codes "--help" ∷ []) ≡ None

-- the number of workers of `build`
pub record WorkersRows : Type 0 where
  pub equals_sign : command_after_name (codes "build" ∷ codes "a" ∷ codes "b" ∷ codes "--recipe=fold" ∷ codes "--workers=3" ∷ []) ≡ Some (build_by (codes "a") (codes "b") (codes "fold") 3 None Plain)
  pub in_front : command_after_name (codes "build" ∷ codes "--workers" ∷ codes "02" ∷ codes "a" ∷ codes "b" ∷ codes "--recipe=fold" ∷ [])
      ≡ Some (build_by (codes "a") (codes "b") (codes "fold") 2 None Plain)
  pub greatest : command_after_name (codes "build" ∷ codes "a" ∷ codes "b" ∷ codes "--recipe=" ∷ codes "--workers" ∷ codes "64" ∷ []) ≡ Some (build_by (codes "a") (codes "b") [] 64 None Plain)
  pub greater : command_after_name (codes "build" ∷ codes "a" ∷ codes "b" ∷ codes "--workers" ∷ codes "65" ∷ []) ≡ None
  pub no_workers : command_after_name (codes "build" ∷ codes "a" ∷ codes "b" ∷ codes "--workers" ∷ codes "0" ∷ []) ≡ None
  pub empty : command_after_name (codes "build" ∷ codes "a" ∷ codes "b" ∷ codes "--workers=" ∷ []) ≡ None
  pub plus : command_after_name (codes "build" ∷ codes "a" ∷ codes "b" ∷ codes "--workers" ∷ codes "+4" ∷ []) ≡ None
  pub letter_last : command_after_name (codes "build" ∷ codes "a" ∷ codes "b" ∷ codes "--workers" ∷ codes "4x" ∷ []) ≡ None
  pub more_digits : command_after_name (codes "build" ∷ codes "a" ∷ codes "b" ∷ codes "--workers" ∷ codes "000000000000000000004" ∷ []) ≡ None
  pub twice : command_after_name (codes "build" ∷ codes "a" ∷ codes "b" ∷ codes "--workers=4" ∷ codes "--workers=4" ∷ []) ≡ None

-- the report of `build`
pub record ReportRows : Type 0 where
  pub next_argument : command_after_name (codes "build" ∷ codes "a" ∷ codes "b" ∷ codes "--recipe=fold" ∷ codes "--report" ∷ codes "count" ∷ [])
      ≡ Some (build_by (codes "a") (codes "b") (codes "fold") 1 (Some (codes "count")) Plain)
  pub in_front : command_after_name (codes "build" ∷ codes "--report=log" ∷ codes "a" ∷ codes "--workers=2" ∷ codes "b" ∷ codes "--recipe=" ∷ [])
      ≡ Some (build_by (codes "a") (codes "b") [] 2 (Some (codes "log")) Plain)
  pub any_text : command_after_name (codes "build" ∷ codes "a" ∷ codes "b" ∷ codes "--recipe=fold" ∷ codes "--report" ∷ codes "no name" ∷ [])
      ≡ Some (build_by (codes "a") (codes "b") (codes "fold") 1 (Some (codes "no name")) Plain)
  pub empty_text : command_after_name (codes "build" ∷ codes "a" ∷ codes "b" ∷ codes "--recipe=fold" ∷ codes "--report=" ∷ []) ≡ Some (build_by (codes "a") (codes "b") (codes "fold") 1 (Some []) Plain)
  pub no_value : command_after_name (codes "build" ∷ codes "a" ∷ codes "b" ∷ codes "--report" ∷ []) ≡ None
  pub option_for_value : command_after_name (codes "build" ∷ codes "a" ∷ codes "b" ∷ codes "--report" ∷ codes "--workers=2" ∷ []) ≡ None
  pub twice : command_after_name (codes "build" ∷ codes "a" ∷ codes "b" ∷ codes "--report=log" ∷ codes "--report=log" ∷ []) ≡ None
  pub before_the_command : command_after_name (codes "--report" ∷ codes "log" ∷ codes "build" ∷ codes "a" ∷ codes "b" ∷ []) ≡ None
  pub of_a_run : command_after_name (codes "run" ∷ codes "a" ∷ codes "--report" ∷ codes "log" ∷ []) ≡ None

-- no arguments, and arguments that are no command or ask for help or a version
pub record OtherRows : Type 0 where
  pub nothing : command_of [] ≡ Some accept
  pub name_alone : command_after_name [] ≡ Some accept
  pub hyphens_before : command_after_name (codes "--" ∷ codes "build" ∷ codes "a" ∷ codes "b" ∷ []) ≡ None
  pub another_case : command_after_name (codes "Build" ∷ codes "a" ∷ codes "b" ∷ []) ≡ None
  pub help_alone : command_after_name (codes "help" ∷ []) ≡ None
  pub help_on_build : command_after_name (codes "help" ∷ codes "build" ∷ []) ≡ None
  pub help_first : command_after_name (codes "--help" ∷ []) ≡ None
  pub help_last : command_after_name (codes "build" ∷ codes "a" ∷ codes "b" ∷ codes "-h" ∷ []) ≡ None
  pub version_first : command_after_name (codes "-V" ∷ []) ≡ None
  pub help_for_a_name : command_after_name (codes "build" ∷ codes "help" ∷ codes "b" ∷ []) ≡ None
  pub help_after_hyphens : command_after_name (codes "build" ∷ codes "a" ∷ codes "--" ∷ codes "--help" ∷ []) ≡ None
  pub help_for_a_value : command_after_name (codes "run" ∷ codes "a" ∷ codes "--steps" ∷ codes "-V" ∷ []) ≡ None
  pub help_and_value : command_after_name (codes "run" ∷ codes "a" ∷ codes "--help=x" ∷ []) ≡ None
  pub version_last : command_after_name (codes "build" ∷ codes "a" ∷ codes "b" ∷ codes "--version" ∷ []) ≡ None

-- the option of `run`
pub record RunRows : Type 0 where
  pub no_option : command_after_name (codes "run" ∷ codes "a" ∷ []) ≡ Some (run (codes "a") 1000000000)
  pub next_argument : command_after_name (codes "run" ∷ codes "a" ∷ codes "--steps" ∷ codes "23" ∷ []) ≡ Some (run (codes "a") 23)
  pub before_the_image : command_after_name (codes "run" ∷ codes "--steps" ∷ codes "023" ∷ codes "a" ∷ []) ≡ Some (run (codes "a") 23)
  pub equals_sign : command_after_name (codes "run" ∷ codes "a" ∷ codes "--steps=1" ∷ []) ≡ Some (run (codes "a") 1)
  pub greatest : command_after_name (codes "run" ∷ codes "a" ∷ codes "--steps" ∷ codes "1000000000000" ∷ []) ≡ Some (run (codes "a") 1000000000000)
  pub greater : command_after_name (codes "run" ∷ codes "a" ∷ codes "--steps" ∷ codes "1000000000001" ∷ []) ≡ None
  pub no_steps : command_after_name (codes "run" ∷ codes "a" ∷ codes "--steps" ∷ codes "0" ∷ []) ≡ None
  pub no_value : command_after_name (codes "run" ∷ codes "a" ∷ codes "--steps" ∷ []) ≡ None
  pub empty_value : command_after_name (codes "run" ∷ codes "a" ∷ codes "--steps=" ∷ []) ≡ None
  pub hyphens_for_value : command_after_name (codes "run" ∷ codes "a" ∷ codes "--steps" ∷ codes "--" ∷ []) ≡ None
  pub option_for_value : command_after_name (codes "run" ∷ codes "a" ∷ codes "--steps" ∷ codes "-5" ∷ []) ≡ None
  pub twice : command_after_name (codes "run" ∷ codes "a" ∷ codes "--steps" ∷ codes "5" ∷ codes "--steps" ∷ codes "5" ∷ []) ≡ None
  pub cut_short : command_after_name (codes "run" ∷ codes "a" ∷ codes "--step" ∷ codes "5" ∷ []) ≡ None
  pub two_images : command_after_name (codes "run" ∷ codes "a" ∷ codes "b" ∷ []) ≡ None
  pub no_image : command_after_name (codes "run" ∷ []) ≡ None

-- the numbers of `gen`
pub record GenRows : Type 0 where
  pub least : command_after_name (codes "gen" ∷ codes "0" ∷ codes "1" ∷ codes "x" ∷ []) ≡ Some (generate 0 1 (codes "x"))
  pub greatest : command_after_name (codes "gen" ∷ codes "4294967295" ∷ codes "511" ∷ codes "x" ∷ []) ≡ Some (generate 4294967295 511 (codes "x"))
  pub twenty_digits : command_after_name (codes "gen" ∷ codes "00000000000000000012" ∷ codes "03" ∷ codes "x" ∷ []) ≡ Some (generate 12 3 (codes "x"))
  pub more_digits : command_after_name (codes "gen" ∷ codes "000000000000000000012" ∷ codes "3" ∷ codes "x" ∷ []) ≡ None
  pub great_number : command_after_name (codes "gen" ∷ codes "4294967296" ∷ codes "1" ∷ codes "x" ∷ []) ≡ None
  pub great_count : command_after_name (codes "gen" ∷ codes "1" ∷ codes "512" ∷ codes "x" ∷ []) ≡ None
  pub no_functions : command_after_name (codes "gen" ∷ codes "1" ∷ codes "0" ∷ codes "x" ∷ []) ≡ None
  pub plus : command_after_name (codes "gen" ∷ codes "+1" ∷ codes "1" ∷ codes "x" ∷ []) ≡ None
  pub minus : command_after_name (codes "gen" ∷ codes "--" ∷ codes "-1" ∷ codes "1" ∷ codes "x" ∷ []) ≡ None
  pub blank : command_after_name (codes "gen" ∷ codes " 1" ∷ codes "1" ∷ codes "x" ∷ []) ≡ None
  pub empty : command_after_name (codes "gen" ∷ [] ∷ codes "1" ∷ codes "x" ∷ []) ≡ None
  pub two_arguments : command_after_name (codes "gen" ∷ codes "1" ∷ codes "1" ∷ []) ≡ None
  pub four_arguments : command_after_name (codes "gen" ∷ codes "1" ∷ codes "1" ∷ codes "x" ∷ codes "y" ∷ []) ≡ None

-- the names of `check`
pub record CheckRows : Type 0 where
  pub three_names : command_after_name (codes "check" ∷ codes "a" ∷ codes "b" ∷ codes "c" ∷ []) ≡ Some (check (codes "a") (codes "b") (codes "c") Plain)
  pub one_name_thrice : command_after_name (codes "check" ∷ codes "a" ∷ codes "a" ∷ codes "a" ∷ []) ≡ Some (check (codes "a") (codes "a") (codes "a") Plain)
  pub empty_names : command_after_name (codes "check" ∷ [] ∷ codes "-" ∷ [] ∷ []) ≡ Some (check [] (codes "-") [] Plain)
  pub hyphens_first : command_after_name (codes "check" ∷ codes "--" ∷ codes "-a" ∷ codes "--" ∷ codes "--workers" ∷ []) ≡ Some (check (codes "-a") (codes "--") (codes "--workers") Plain)
  pub two_names : command_after_name (codes "check" ∷ codes "a" ∷ codes "b" ∷ []) ≡ None
  pub four_names : command_after_name (codes "check" ∷ codes "a" ∷ codes "b" ∷ codes "c" ∷ codes "d" ∷ []) ≡ None
  pub no_name : command_after_name (codes "check" ∷ []) ≡ None
  pub workers : command_after_name (codes "check" ∷ codes "a" ∷ codes "b" ∷ codes "c" ∷ codes "--workers" ∷ codes "2" ∷ []) ≡ None
  pub recipe : command_after_name (codes "check" ∷ codes "a" ∷ codes "b" ∷ codes "c" ∷ codes "--recipe=fold" ∷ []) ≡ None
  pub help_for_a_name : command_after_name (codes "check" ∷ codes "a" ∷ codes "b" ∷ codes "help" ∷ []) ≡ None
  pub another_case : command_after_name (codes "Check" ∷ codes "a" ∷ codes "b" ∷ codes "c" ∷ []) ≡ None

-- the names and options of `session`
pub record SessionRows : Type 0 where
  pub two_names : command_after_name (codes "session" ∷ codes "a" ∷ codes "b" ∷ []) ≡ Some (session (codes "a") (codes "b") default_recipe 1 Plain)
  pub both_options : command_after_name (codes "session" ∷ codes "--workers=4" ∷ codes "a" ∷ codes "--recipe" ∷ codes "fold" ∷ codes "b" ∷ [])
      ≡ Some (session (codes "a") (codes "b") (codes "fold") 4 Plain)
  pub greatest : command_after_name (codes "session" ∷ codes "a" ∷ codes "b" ∷ codes "--recipe=" ∷ codes "--workers" ∷ codes "64" ∷ []) ≡ Some (session (codes "a") (codes "b") [] 64 Plain)
  pub greater : command_after_name (codes "session" ∷ codes "a" ∷ codes "b" ∷ codes "--workers" ∷ codes "65" ∷ []) ≡ None
  pub no_workers : command_after_name (codes "session" ∷ codes "a" ∷ codes "b" ∷ codes "--workers=0" ∷ []) ≡ None
  pub report : command_after_name (codes "session" ∷ codes "a" ∷ codes "b" ∷ codes "--report" ∷ codes "log" ∷ []) ≡ None
  pub one_name : command_after_name (codes "session" ∷ codes "a" ∷ []) ≡ None
  pub three_names : command_after_name (codes "session" ∷ codes "a" ∷ codes "b" ∷ codes "c" ∷ []) ≡ None

-- the bound of `interp`
pub record BoundRows : Type 0 where
  pub name : command_after_name (codes "interp" ∷ codes "a" ∷ []) ≡ Some (interpret (codes "a") 1000000)
  pub least : command_after_name (codes "interp" ∷ codes "a" ∷ codes "--bound" ∷ codes "1" ∷ []) ≡ Some (interpret (codes "a") 1)
  pub zeros : command_after_name (codes "interp" ∷ codes "--bound=007" ∷ codes "a" ∷ []) ≡ Some (interpret (codes "a") 7)
  pub greatest : command_after_name (codes "interp" ∷ codes "a" ∷ codes "--bound" ∷ codes "1000000" ∷ []) ≡ Some (interpret (codes "a") 1000000)
  pub greater : command_after_name (codes "interp" ∷ codes "a" ∷ codes "--bound" ∷ codes "1000001" ∷ []) ≡ None
  pub no_turn : command_after_name (codes "interp" ∷ codes "a" ∷ codes "--bound" ∷ codes "0" ∷ []) ≡ None
  pub no_value : command_after_name (codes "interp" ∷ codes "a" ∷ codes "--bound" ∷ []) ≡ None
  pub twice : command_after_name (codes "interp" ∷ codes "a" ∷ codes "--bound=3" ∷ codes "--bound=3" ∷ []) ≡ None
  pub no_name : command_after_name (codes "interp" ∷ []) ≡ None
  pub two_names : command_after_name (codes "interp" ∷ codes "a" ∷ codes "b" ∷ []) ≡ None
  pub steps : command_after_name (codes "interp" ∷ codes "a" ∷ codes "--steps=3" ∷ []) ≡ None

-- the form of the code of `build`, `check` and `session`
pub record CodeRows : Type 0 where
  pub plain : command_after_name (codes "build" ∷ codes "a" ∷ codes "b" ∷ codes "--recipe=fold" ∷ codes "--code=plain" ∷ []) ≡ Some (build (codes "a") (codes "b") (codes "fold"))
  pub tight : command_after_name (codes "build" ∷ codes "--code" ∷ codes "tight" ∷ codes "a" ∷ codes "b" ∷ codes "--recipe=fold" ∷ [])
      ≡ Some (build_by (codes "a") (codes "b") (codes "fold") 1 None Tight)
  pub of_a_check : command_after_name (codes "check" ∷ codes "a" ∷ codes "b" ∷ codes "c" ∷ codes "--code=tight" ∷ []) ≡ Some (check (codes "a") (codes "b") (codes "c") Tight)
  pub of_a_session : command_after_name (codes "session" ∷ codes "a" ∷ codes "b" ∷ codes "--recipe=fold" ∷ codes "--code=tight" ∷ [])
      ≡ Some (session (codes "a") (codes "b") (codes "fold") 1 Tight)
  pub another_case : command_after_name (codes "build" ∷ codes "a" ∷ codes "b" ∷ codes "--code=Tight" ∷ []) ≡ None
  pub more_letters : command_after_name (codes "build" ∷ codes "a" ∷ codes "b" ∷ codes "--code=plainer" ∷ []) ≡ None
  pub empty_text : command_after_name (codes "build" ∷ codes "a" ∷ codes "b" ∷ codes "--code=" ∷ []) ≡ None
  pub no_value : command_after_name (codes "build" ∷ codes "a" ∷ codes "b" ∷ codes "--code" ∷ []) ≡ None
  pub twice : command_after_name (codes "build" ∷ codes "a" ∷ codes "b" ∷ codes "--code=tight" ∷ codes "--code=tight" ∷ []) ≡ None
  pub of_a_run : command_after_name (codes "run" ∷ codes "a" ∷ codes "--code=tight" ∷ []) ≡ None

abbrev pub CommandRows : Type 0
CommandRows = BuildRows × RecipeRows × WorkersRows × ReportRows × CodeRows × RunRows × OtherRows × GenRows × CheckRows × SessionRows × BoundRows
