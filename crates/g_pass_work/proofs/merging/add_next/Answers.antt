use Rattle.std.proofs.Common.{map, sym, ◌∙◌}
use Rattle.std.specs.Arc.{arc_value}
use Rattle.g_pass_work.proofs.Beside.{one-taken, one-kept}
use Rattle.g_pass_work.proofs.merging.add_next.Goals as goal

pub returns-then-is_stale-clause-rest : goal.returns-then-is_stale-clause-rest
returns-then-is_stale-clause-rest g c js =
    one-taken c.args.stale.now (map arc_value c.args.kept.now) (map arc_value c.args.given.now) (map arc_value c.args.all.now.items) (map arc_value c.add.new.all.items) c.args.function js
    c.args.taken (sym c.is_stale.ensures ∙ c.if-is_stale.true) c.in_ok-add.ensures

pub returns-clause-rest : goal.returns-clause-rest
returns-clause-rest g c js =
    one-kept c.args.stale.now (map arc_value c.args.kept.now) (map arc_value c.args.given.now) (map arc_value c.args.all.now.items) (map arc_value c.add-2.new.all.items) c.args.function js
    c.args.taken (sym c.is_stale.ensures ∙ c.if-is_stale.false) c.in_ok-add-2.ensures
