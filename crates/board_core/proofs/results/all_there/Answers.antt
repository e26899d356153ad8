use Rattle.std.specs.Arc.{arc_value}
use Rattle.board_core.proofs.AllResults.{one-more, none-more}
use Rattle.board_core.proofs.results.all_there.Goals as goal

pub loop-one-preserved-in-Continue-branch-2 : goal.loop-one-preserved-in-Continue-branch-2
loop-one-preserved-in-Continue-branch-2 g c =
    one-more arc_value c.loop-one.all.items c.push.new.self.items c.loop-one.yielded c.in-Some.one c.in-Some-one.made c.loop-one.invariant c.in-Some-one.is
    c.in_ok-push-in-Some-one.ensures.items

pub loop-one-preserved : goal.loop-one-preserved
loop-one-preserved g c = none-more arc_value c.loop-one.all.items c.loop-one.yielded c.in-Some.one c.loop-one.invariant c.in-None-one.is
