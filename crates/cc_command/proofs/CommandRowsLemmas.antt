-- Each list of arguments is read as its row says.
use Rattle.std.proofs.Common.{refl}
use Rattle.cc_command.specs.Command.{number_in}
use Rattle.cc_command.specs.CommandRows.{BuildRows, RecipeRows, WorkersRows, ReportRows, CodeRows, RunRows, OtherRows, GenRows, CheckRows, SessionRows, BoundRows}

pub build_rows : BuildRows
unfolding number_in
build_rows = record {
  two_names = refl;
  empty_name = refl;
  lone_hyphen = refl;
  hyphens_first = refl;
  hyphens_between = refl;
  one_name = refl;
  three_names = refl;
  no_name = refl;
  unknown_option = refl;
  unknown_letter = refl;
}

pub recipe_rows : RecipeRows
recipe_rows = record {
  equals_sign = refl;
  next_argument = refl;
  in_front = refl;
  empty_text = refl;
  no_value = refl;
  hyphens_for_value = refl;
  twice = refl;
  after_hyphens = refl;
  cut_short = refl;
  with_help = refl;
}

pub workers_rows : WorkersRows
unfolding number_in
workers_rows = record {
  equals_sign = refl;
  in_front = refl;
  greatest = refl;
  greater = refl;
  no_workers = refl;
  empty = refl;
  plus = refl;
  letter_last = refl;
  more_digits = refl;
  twice = refl;
}

pub report_rows : ReportRows
unfolding number_in
report_rows = record {
  next_argument = refl;
  in_front = refl;
  any_text = refl;
  empty_text = refl;
  no_value = refl;
  option_for_value = refl;
  twice = refl;
  before_the_command = refl;
  of_a_run = refl;
}

pub code_rows : CodeRows
unfolding number_in
code_rows = record {
  plain = refl;
  tight = refl;
  of_a_check = refl;
  of_a_session = refl;
  another_case = refl;
  more_letters = refl;
  empty_text = refl;
  no_value = refl;
  twice = refl;
  of_a_run = refl;
}

pub other_rows : OtherRows
unfolding number_in
other_rows = record {
  nothing = refl;
  name_alone = refl;
  hyphens_before = refl;
  another_case = refl;
  help_alone = refl;
  help_on_build = refl;
  help_first = refl;
  help_last = refl;
  version_first = refl;
  help_for_a_name = refl;
  help_after_hyphens = refl;
  help_for_a_value = refl;
  help_and_value = refl;
  version_last = refl;
}

pub gen_rows : GenRows
unfolding number_in
gen_rows = record {
  least = refl;
  greatest = refl;
  twenty_digits = refl;
  more_digits = refl;
  great_number = refl;
  great_count = refl;
  no_functions = refl;
  plus = refl;
  minus = refl;
  blank = refl;
  empty = refl;
  two_arguments = refl;
  four_arguments = refl;
}

pub run_rows : RunRows
unfolding number_in
run_rows = record {
  no_option = refl;
  next_argument = refl;
  before_the_image = refl;
  equals_sign = refl;
  greatest = refl;
  greater = refl;
  no_steps = refl;
  no_value = refl;
  empty_value = refl;
  hyphens_for_value = refl;
  option_for_value = refl;
  twice = refl;
  cut_short = refl;
  two_images = refl;
  no_image = refl;
}

pub check_rows : CheckRows
check_rows = record {
  three_names = refl;
  one_name_thrice = refl;
  empty_names = refl;
  hyphens_first = refl;
  two_names = refl;
  four_names = refl;
  no_name = refl;
  workers = refl;
  recipe = refl;
  help_for_a_name = refl;
  another_case = refl;
}

pub session_rows : SessionRows
unfolding number_in
session_rows = record {
  two_names = refl;
  both_options = refl;
  greatest = refl;
  greater = refl;
  no_workers = refl;
  report = refl;
  one_name = refl;
  three_names = refl;
}

pub bound_rows : BoundRows
unfolding number_in
bound_rows = record {
  name = refl;
  least = refl;
  zeros = refl;
  greatest = refl;
  greater = refl;
  no_turn = refl;
  no_value = refl;
  twice = refl;
  no_name = refl;
  two_names = refl;
  steps = refl;
}
