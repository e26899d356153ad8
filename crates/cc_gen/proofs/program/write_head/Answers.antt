use Rattle.std.proofs.Common.{append_assoc}
use Rattle.cc_gen.specs.Generated.{function_head}
use Rattle.cc_gen.proofs.PrefixLemmas.{same-ok, same-err}
use Rattle.cc_gen.proofs.program.write_head.Goals as goal

pub returns-clause-ok : goal.returns-clause-ok
unfolding function_head
returns-clause-ok g c =
    let sign = c.sign_of.ensures in
    same-ok _ _ _ _ _ c.write_pieces.ensures.ok (simp (append_assoc, sign))

pub returns-clause-err : goal.returns-clause-err
unfolding function_head
returns-clause-err g c =
    let sign = c.sign_of.ensures in
    same-err _ _ _ _ _ c.write_pieces.ensures.err (simp (append_assoc, sign))
