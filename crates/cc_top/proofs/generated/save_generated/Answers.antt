use Rattle.std.proofs.Common.{rules}
use Rattle.cc_io.proofs.lemmas.Created.{Lent, saved-ok}
use Rattle.cc_top.proofs.GenerateLemmas.{saved-prefix}
use Rattle.cc_top.proofs.generated.save_generated.Goals as goal
use Rattle.cc_top.proofs.generated.save_generated.Goals.{After-generate}

lent : (g : _) (c : After-generate g)
    → Lent c.args.name.now (g.F.Files.known c.args.files.now) (g.F.Files.known c.new.result.files.now) (g.F.Files.known c.generate.new.out.files.now) (g.F.Files.writing c.new.result.files.now)
    (g.F.Files.writing c.generate.new.out.files.now)
lent g c =
    let kept = c.generate.ensures.rest in
    record {
      named = search rules;
      same = λ i. (kept i).writing;
      created = search rules;
      others = λ i. (kept i).others;
    }

pub returns-clause-ok : goal.returns-clause-ok
returns-clause-ok g c =
    saved-ok c.generate.result g.F.Files.known _ _ _ _ _ _ _ _ (lent g (goal.at.returns-clause-ok g c).After-generate) c.generate.ensures.ok (search rules)

pub returns-clause-err : goal.returns-clause-err
returns-clause-err g c =
    saved-prefix c.generate.result g.F.Files.known _ _ _ _ _ _ _ _ (lent g (goal.at.returns-clause-err g c).After-generate) c.generate.ensures.err (search rules)
