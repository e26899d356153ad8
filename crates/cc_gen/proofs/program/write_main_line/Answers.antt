use Rattle.std.proofs.Common.{append_assoc}
use Rattle.cc_gen.specs.Generated.{main_line}
use Rattle.cc_gen.proofs.PrefixLemmas.{same-ok, same-err}
use Rattle.cc_gen.proofs.program.write_main_line.Goals as goal

pub returns-clause-ok : goal.returns-clause-ok
unfolding main_line
returns-clause-ok g c = same-ok _ _ _ _ _ c.write_pieces.ensures.ok (simp append_assoc)

pub returns-clause-err : goal.returns-clause-err
unfolding main_line
returns-clause-err g c = same-err _ _ _ _ _ c.write_pieces.ensures.err (simp append_assoc)
