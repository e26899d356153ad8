use Rattle.std.proofs.Common.{rules}
use Rattle.cc_io.proofs.FileMapLemmas.{append-ok, append-err}
use Rattle.cc_io.proofs.file_map.append.Goals as goal

pub returns-in-Some-clause-ok : goal.returns-in-Some-clause-ok
returns-in-Some-clause-ok c =
    append-ok c.extend_from_slice.result c.args.name.now c.args.files.now (c.get_mut.follows.lender c.extend_from_slice.new.self) c.in-Some.held.now c.extend_from_slice.new.self c.args.piece.now
    (search rules) c.extend_from_slice.ensures.items ((c.get_mut.follows.holds c.extend_from_slice.new.self).3 (search rules))

pub returns-in-Some-clause-err : goal.returns-in-Some-clause-err
returns-in-Some-clause-err c =
    append-err c.extend_from_slice.result c.args.name.now c.args.files.now (c.get_mut.follows.lender c.extend_from_slice.new.self) c.in-Some.held.now c.extend_from_slice.new.self c.args.piece.now
    (search rules) c.extend_from_slice.ensures.items ((c.get_mut.follows.holds c.extend_from_slice.new.self).3 (search rules))
