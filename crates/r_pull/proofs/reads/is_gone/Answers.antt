use Rattle.r_pull.proofs.Entries.{gone_from}
use Rattle.r_pull.proofs.reads.is_gone.Goals as goal

pub returns-in-Arg : goal.returns-in-Arg
returns-in-Arg c = gone_from c.args.id c.args.entries.now c.in-Arg.index c.argument_goes.result c.args.origin c.in-Arg.is c.argument_goes.ensures
