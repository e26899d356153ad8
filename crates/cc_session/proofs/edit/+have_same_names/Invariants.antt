-- The functions so far have the names that they had.
use Rattle.std.proofs.Common.{length}
use Rattle.cc_session.proofs.edit.+have_same_names.Given as goal

abbrev pub decreases-have_same_names : goal.decreases-have_same_names
decreases-have_same_names l = length l.functions.now
