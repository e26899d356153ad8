use Rattle.std.proofs.Common.{rules, Ok, ◌∙◌}
use Rattle.cc_io.proofs.UnknownLemmas.{on_err-always}
use Rattle.cc_io.proofs.lemmas.Created.{Lent, saved-ok, saved-err}
use Rattle.cc_io.proofs.created.save.Goals as goal
use Rattle.cc_io.proofs.created.save.Goals.{After-write_all}

lent : (g : _) (c : After-write_all g)
    → Lent c.args.name.now (g.F.Files.known c.args.files.now) (g.F.Files.known c.new.result.files.now) (g.F.Files.known c.write_all.new.sink.files.now) (g.F.Files.writing c.new.result.files.now)
    (g.F.Files.writing c.write_all.new.sink.files.now)
lent g c =
    let kept = c.write_all.ensures.rest in
    record {
      named = search rules;
      same = λ i. (kept i).writing;
      created = search rules;
      others = λ i. (kept i).others;
    }

pub returns-in_err-write_all-clause-err : goal.returns-in_err-write_all-clause-err
returns-in_err-write_all-clause-err g c =
    let ended = c.from_residual-in_err-write_all.result in
    saved-err ended g.F.Files.known _ _ _ _ _ _ _ _ (lent g (goal.at.returns-in_err-write_all-clause-err g c).After-write_all)
    (on_err-always ended c.in_err-write_all.ensures.err) (search rules)

pub returns-clause-ok : goal.returns-clause-ok
returns-clause-ok g c =
    c.make_executable.ensures.known
    ∙ saved-ok {E = Unit {0}} (Ok tt) g.F.Files.known _ _ _ _ _ _ _ _ (lent g (goal.at.returns-clause-ok g c).After-write_all) c.in_ok-write_all.ensures.ok (search rules)
