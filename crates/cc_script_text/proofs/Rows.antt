-- Known scripts say what their rows have.
use Rattle.std.proofs.Common.{refl}
use Rattle.cc_script_text.specs.Script.{with_line, first, script_within}
use Rattle.cc_script_text.specs.ScriptRows.{WholeRows, CutRows, LineRows, WordRows, LimitRows, ScriptRows}

whole_rows : WholeRows
unfolding with_line first script_within
whole_rows = record {
  end = refl;
  build = refl;
  builds = refl;
  edit = refl;
  empty_text = refl;
  zeros = refl;
  line_end_in_text = refl;
  command_in_text = refl;
  text_that_ends_as_one = refl;
  underscore = refl;
  more_behind = refl;
  whole_behind = refl;
}

cut_rows : CutRows
unfolding with_line first script_within
cut_rows = record {
  nothing = refl;
  end = refl;
  after_build = refl;
  build = refl;
  after_replace = refl;
  no_text = refl;
  empty_text = refl;
  short_text = refl;
  no_line_end = refl;
  line_end_as_text = refl;
  greatest = refl;
  no_command = refl;
  number = refl;
  first_number = refl;
}

line_rows : LineRows
unfolding with_line first script_within
line_rows = record {
  empty = refl;
  capitals = refl;
  capital = refl;
  blank_behind = refl;
  blank_in_front = refl;
  carriage_return = refl;
  return_after_end = refl;
  zero_byte = refl;
  letter_more = refl;
  blank_after_end = refl;
  high_byte = refl;
  two_words = refl;
}

word_rows : WordRows
unfolding with_line first script_within
word_rows = record {
  no_name = refl;
  no_length = refl;
  empty_length = refl;
  empty_name = refl;
  word_more = refl;
  two_blanks = refl;
  tab = refl;
  two_blanks_later = refl;
  blank_behind = refl;
  plus = refl;
  minus = refl;
  hexadecimal = refl;
  letter = refl;
  eight_digits = refl;
  above = refl;
  far_above = refl;
  digit_first = refl;
  dash = refl;
  other_letters = refl;
  name_of_64 = refl;
  name_of_63 = refl;
}

limit_rows : LimitRows
unfolding with_line first script_within
limit_rows = record {
  short_text = refl;
  long_text = refl;
  number = refl;
  line_of_100 = refl;
  line_of_101 = refl;
  whole_line_of_100 = refl;
  whole_line_of_101 = refl;
  last_is_end = refl;
  end_is_one_more = refl;
  one_more = refl;
  number_of_one_more = refl;
}

pub script_rows : ScriptRows
script_rows = (whole_rows, cut_rows, line_rows, word_rows, limit_rows)
