-- The forms of the commands meet what the laws of all forms ask.
use Rattle.std.proofs.Common.{◌≡◌, true, refl}
use Rattle.std.specs.List.{list_all}
use Rattle.clap.specs.Words.{is_simple, is_simple_and_free}
use Rattle.clap.proofs.OnLiterals.{clap_on_literals}
use Rattle.cc_command.proofs.lemmas.AppReads.{is_sound}
use Rattle.cc_view_source.specs.Arguments.{view_app}
use Rattle.cc_view_source.specs.Command.{forms}

pub sound : list_all is_sound forms ≡ true
sound = refl

pub simple : is_simple view_app ≡ true
unfolding clap_on_literals view_app
simple = refl

pub free : is_simple_and_free view_app ≡ true
unfolding clap_on_literals view_app
free = refl
