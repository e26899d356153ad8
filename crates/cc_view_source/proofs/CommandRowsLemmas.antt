-- Each list of arguments is read as its row says.
use Rattle.std.proofs.Common.{refl}
use Rattle.cc_command.specs.Command.{number_in}
use Rattle.cc_view_source.specs.CommandRows.{GraphRows, OtherRows}

pub graph_rows : GraphRows
unfolding number_in
graph_rows = record {
  name_alone = refl;
  all_options = refl;
  no_step = refl;
  after_alone = refl;
  great_after = refl;
  unknown_form = refl;
  no_name = refl;
  two_names = refl;
}

pub other_rows : OtherRows
other_rows = record {
  steps_alone = refl;
  steps_recipe = refl;
  steps_after = refl;
  listing_alone = refl;
  listing_recipe = refl;
  explain_alone = refl;
  explain_recipe = refl;
  nothing = refl;
  another_command = refl;
  help = refl;
}
