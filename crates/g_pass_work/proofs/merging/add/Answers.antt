use Rattle.std.specs.Arc.{arc_value}
use Rattle.g_pass_work.proofs.Beside.{one-added, none-added}
use Rattle.g_pass_work.proofs.merging.add.Goals as goal

pub returns-in_ok-push-in-Some : goal.returns-in_ok-push-in-Some
returns-in_ok-push-in-Some g c =
    one-added arc_value c.args.from.now c.args.all.now.items c.args.index c.push.new.self.items c.in-Some.answer.now c.in_ok-try_clone-in-Some.field-0 c.in-Some.ensures.lookup.1
    c.in-Some.ensures.lookup.3.0 c.in_ok-try_clone-in-Some.ensures c.in_ok-push-in-Some.ensures.items

pub returns-in-None : goal.returns-in-None
returns-in-None g c = none-added arc_value c.args.from.now c.args.all.now.items c.args.index c.in-None.ensures.lookup.3
