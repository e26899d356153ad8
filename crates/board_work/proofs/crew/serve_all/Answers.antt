use Rattle.std.proofs.Common.{rules, sym, subst}
use Rattle.board_lock.specs.Locks.{lock_of}
use Rattle.board_work.specs.Workers.{MayWork}
use Rattle.board_work.proofs.crew.serve_all.Goals as goal

pub for_each_mut-requires-clause-accepts : goal.for_each_mut-requires-clause-accepts
for_each_mut-requires-clause-accepts g c κs within = λ i p inside is.
    (subst (MayWork (lock_of c.args.shared.now) c.args.work.now i) (sym is) (c.requires.may i p.now inside), search rules)
