-- None of the functions so far has the name.
use Rattle.std.proofs.Common.{◌≡◌, drop}
use Rattle.cc_session.specs.Edits.{extent_of}
use Rattle.cc_session.proofs.edit.extent_of.Given as goal

abbrev pub invariant-loop-function : goal.invariant-loop-function
invariant-loop-function l = extent_of (drop l.function-index l.functions) l.name ≡ extent_of l.functions l.name
